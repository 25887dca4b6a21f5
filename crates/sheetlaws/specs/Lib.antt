pub mod Routes
pub mod Sections
pub mod Elements
pub mod Ends
pub mod Requests
pub mod Needed
pub mod Starts
pub mod Lists
