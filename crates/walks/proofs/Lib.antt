mod Pigeon
pub mod Net
mod Chain
pub mod Told
pub mod Found
pub mod Used
pub mod Legs
pub mod Flanks
pub mod Tables
pub mod Exactly
pub mod Ascending
