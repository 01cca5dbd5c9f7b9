pub mod Limits
pub mod Rules
