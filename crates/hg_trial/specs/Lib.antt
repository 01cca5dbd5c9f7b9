pub mod Differences
pub mod Moved
pub mod Refusals
pub mod Trials
