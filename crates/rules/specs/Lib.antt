pub mod State
pub mod Calls
pub mod Checks
pub mod Effects
pub mod Numbers
pub mod Slips
