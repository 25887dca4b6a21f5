pub mod Walks
pub mod Exactly
