pub mod BeforeLemmas
pub mod CauseLemmas
pub mod BlockLemmas
pub mod DividerLemmas
pub mod NameLemmas
pub mod FateLemmas
pub mod ReasonLemmas
