pub mod Expectations
pub mod Filled
pub mod Fronts
