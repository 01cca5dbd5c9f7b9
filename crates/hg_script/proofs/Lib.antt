pub mod ByLineLemmas
pub mod EndingLemmas
pub mod InputLemmas
pub mod ScriptLemmas
