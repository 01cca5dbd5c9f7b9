pub mod AfterLemmas
pub mod CallLemmas
pub mod LookLemmas
pub mod OfferLemmas
pub mod PassLemmas
pub mod StepLemmas
pub mod WaitLemmas
