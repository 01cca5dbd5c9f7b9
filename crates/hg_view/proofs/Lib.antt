pub mod LawLemmas
pub mod ViewLemmas
pub mod PinLemmas
pub mod ShareLemmas
mod ShownLemmas
mod StatusLemmas
mod HiddenLemmas
mod KeptLemmas
mod UpheldLemmas
mod ReleasedLemmas
mod FlagLemmas
mod ChangeLemmas
mod DescentLemmas
mod HeadLemmas
mod ViewHeadLemmas
mod AboveLemmas
pub mod CommonLemmas
