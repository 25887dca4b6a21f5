pub mod Lawful
pub mod SheetLaw
pub mod Settled
pub mod Ready
pub mod Beside
