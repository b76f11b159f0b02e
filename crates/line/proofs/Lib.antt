pub mod Resting
pub mod Parts
