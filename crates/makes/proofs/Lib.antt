pub mod Rows
pub mod Joined
