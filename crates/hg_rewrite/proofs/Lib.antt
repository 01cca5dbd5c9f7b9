pub mod ListLemmas
pub mod ReadingLemmas
pub mod RowLemmas
mod FirstLemmas
pub mod LineLemmas
pub mod EntryLemmas
pub mod ChainLemmas
pub mod MarkLemmas
pub mod PartLemmas
pub mod TableLemmas
pub mod MemoryLemmas
pub mod DecideLemmas
pub mod OrphanLemmas
