pub mod Turns
pub mod Marking
pub mod Lists
pub mod Filled
pub mod Unused
