pub mod Readiness
pub mod Settling
