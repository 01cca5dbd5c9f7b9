pub mod Limits
pub mod Lines
pub mod Pairs
pub mod Ring
pub mod Rounds
pub mod Stations
pub mod Turns
