-- What is above some places of a graph and under others.
use Rattle.std.specs.Prelude.{ℕ, List, Contains}
use Rattle.hg_changeset.specs.Contents.{Contents}
use Rattle.hg_graph.specs.Places.{IsAncestorPlace}

-- one of the places, or an ancestor's of one
abbrev pub IsUnderOne : List Contents → List ℕ → ℕ → Type 0
IsUnderOne cs places k = (j : ℕ) × Contains places j × IsAncestorPlace cs k j

-- under one of the first and under none of the others
abbrev pub IsAbove : List Contents → List ℕ → List ℕ → ℕ → Type 0
IsAbove cs heads common k = IsUnderOne cs heads k × ¬ (IsUnderOne cs common k)
