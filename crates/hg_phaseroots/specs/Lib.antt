pub mod Refusals
pub mod Lines
pub mod Reading
pub mod Spelling
pub mod Writing
