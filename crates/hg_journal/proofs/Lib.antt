pub mod Prefixes
pub mod EntryLemmas
pub mod CellLemmas
pub mod StepLemmas
