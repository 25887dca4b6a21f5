pub mod Performing
pub mod Protection
pub mod Runs
pub mod Shields
pub mod Texts
