pub mod DrawingLemmas
pub mod EntryLemmas
pub mod GraphLemmas
pub mod JsonLemmas
pub mod KindLemmas
pub mod NamedLemmas
pub mod TextLemmas
pub mod TitleLemmas
