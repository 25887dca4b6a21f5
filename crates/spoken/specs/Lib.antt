pub mod Commands
pub mod Digits
pub mod Mistakes
pub mod Telling
pub mod Words
