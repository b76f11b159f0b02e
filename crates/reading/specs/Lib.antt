pub mod Written
pub mod Outcomes
pub mod Places
pub mod Grammar
pub mod Law
pub mod Readers
pub mod Headings
pub mod Lines
