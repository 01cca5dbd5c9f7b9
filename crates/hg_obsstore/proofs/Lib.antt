pub mod PlaceLemmas
pub mod IndexLemmas
pub mod StoreLemmas
pub mod ForgetLemmas
pub mod GrowthLemmas
pub mod FormatLemmas
mod EntryLemmas
mod DigestLemmas
