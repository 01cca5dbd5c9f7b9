pub mod FilledLemmas
pub mod LineLemmas
