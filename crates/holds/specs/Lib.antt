pub mod Positions
pub mod RouteSets
pub mod Holds
pub mod States
pub mod Interlockings
pub mod Aspects
pub mod Granting
pub mod Refusing
