pub mod Limits
pub mod Reading
pub mod Parts
pub mod Refusals
pub mod Answer
pub mod Memory
pub mod Names
