pub mod Pens
pub mod Law
pub mod Facts
