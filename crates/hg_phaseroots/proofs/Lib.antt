pub mod DigitLemmas
pub mod LineLemmas
pub mod ReadLemmas
pub mod WriteLemmas
pub mod SpellingLemmas
