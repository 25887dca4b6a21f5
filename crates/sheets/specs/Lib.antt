pub mod Wants
pub mod Sections
pub mod Lists
pub mod Sheets
pub mod Reading
