pub mod EveryList
pub mod EveryTurn
pub mod JoinPorts
pub mod KindTests
pub mod Values
