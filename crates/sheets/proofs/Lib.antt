mod Filling
mod NumbersTurn
mod SheetsTurn
pub mod SomeNumber
pub mod Unneeded
