pub mod PairLemmas
pub mod PullLemmas
