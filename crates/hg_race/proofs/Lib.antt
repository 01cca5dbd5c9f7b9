mod PrintLemmas
mod RingLemmas
pub mod RoundLemmas
pub mod SendLemmas
pub mod TurnLemmas
