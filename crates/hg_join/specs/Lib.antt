pub mod Order
pub mod Lows
pub mod LowLaws
pub mod Pairs
pub mod Absorbed
