pub mod Rows
pub mod Panes
pub mod Interlocked
pub mod Letters
pub mod Telephone
pub mod Piles
pub mod Faults
pub mod Cases
