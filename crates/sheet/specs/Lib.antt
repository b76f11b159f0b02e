pub mod Played
pub mod Sheets
