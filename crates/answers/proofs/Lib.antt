mod Chains
mod Valueless
mod TextParts
pub mod Bounds
pub mod Refused
