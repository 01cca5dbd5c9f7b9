pub mod Relevant
pub mod Search
