pub mod KeyLemmas
pub mod CallerLemmas
