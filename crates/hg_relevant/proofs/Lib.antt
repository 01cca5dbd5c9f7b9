pub mod SearchLemmas
pub mod RelevantLemmas
