pub mod Following
pub mod Places
pub mod Paths
pub mod Overlaps
pub mod Sound
pub mod Exactly
