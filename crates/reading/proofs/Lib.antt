mod Lawful
mod Fields
mod Figures
mod CallLines
pub mod ReadingLaw
mod MoreDigits
mod Strides
mod CallLetters
mod WholeLines
pub mod HeadingLaw
pub mod Cutting
