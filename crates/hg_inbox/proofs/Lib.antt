pub mod MoveLemmas
pub mod OnceLemmas
pub mod RestLemmas
pub mod ThreadLemmas
