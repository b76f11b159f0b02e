pub mod Numbers
pub mod Rows
pub mod Turn
pub mod Alike
pub mod Telling
pub mod Law
pub mod Turns
pub mod Worked
