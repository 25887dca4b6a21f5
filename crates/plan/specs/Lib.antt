pub mod ElementTests
pub mod RequestTests
pub mod Checks
pub mod Plans
pub mod Flanks
pub mod Sound
pub mod Faults
