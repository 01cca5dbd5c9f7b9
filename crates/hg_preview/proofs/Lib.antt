mod ComparingLemmas
mod ComparisonLemmas
mod LineLemmas
mod MessageLemmas
