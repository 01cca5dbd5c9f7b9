mod DifferenceLemmas
mod MovedLemmas
pub mod TrialLemmas
