pub mod Situations
pub mod Orders
pub mod Answers
pub mod Acts
pub mod Texts
pub mod Questions
pub mod Performing
