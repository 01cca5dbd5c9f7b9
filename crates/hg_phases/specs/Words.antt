-- The words for phases.
use Rattle.std.specs.Prelude.{ℕ, List, codes}
use Rattle.hg_phases.specs.declared.phase.Phase.{Phase}
use Rattle.hg_phases.specs.declared.phase.Phase.TheVariants.{Public, Draft, Secret}

abbrev pub phase_word : Phase → List ℕ
phase_word Public = codes "public"
phase_word Draft = codes "draft"
phase_word Secret = codes "secret"
