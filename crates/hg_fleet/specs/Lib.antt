pub mod Pairs
pub mod Pulls
