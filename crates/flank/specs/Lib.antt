pub mod Signals
pub mod Used
pub mod Meetings
pub mod Search
pub mod Flanks
pub mod Protection
pub mod Fillings
