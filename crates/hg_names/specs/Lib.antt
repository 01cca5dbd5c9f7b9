pub mod Names
pub mod Labels
