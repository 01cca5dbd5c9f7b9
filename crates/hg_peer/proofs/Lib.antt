pub mod PeerLemmas
mod ReadLemmas
pub mod TakeLemmas
pub mod AgreeLemmas
pub mod SecretLemmas
pub mod SmallestLemmas
pub mod FormulaLemmas
pub mod TakenLemmas
pub mod MarkedLemmas
mod SharingLemmas
mod WorldLemmas
