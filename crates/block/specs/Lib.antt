pub mod Order
pub mod Refusals
pub mod Meaning
pub mod Steps
