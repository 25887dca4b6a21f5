pub mod Bytes
pub mod Picture
pub mod Sized
