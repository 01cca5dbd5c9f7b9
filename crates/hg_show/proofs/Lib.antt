pub mod InputLemmas
pub mod PrintLemmas
