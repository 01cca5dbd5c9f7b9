pub mod ByLine
pub mod Inputs
pub mod Limits
pub mod Printing
pub mod Scripts
pub mod Stops
