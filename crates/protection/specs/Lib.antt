pub mod Shields
