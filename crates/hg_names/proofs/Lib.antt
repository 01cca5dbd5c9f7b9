pub mod NameLemmas
mod DigitLemmas
