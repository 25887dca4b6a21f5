mod FirstTurn
mod FieldsExact
mod JoinsExact
pub mod OneWay
mod Drawn
pub mod PlansExact
pub mod FaultsExact
