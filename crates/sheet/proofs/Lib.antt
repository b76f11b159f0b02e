mod Playing
mod Lengths
mod Beginning
mod Answering
pub mod Printing
