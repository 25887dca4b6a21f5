pub mod Equipment
pub mod Sized
