use Rattle.std.proofs.Common.{◌≡◌, ◌↔◌, false, ℕ, List, Vec, Global, sym, subst, subst₂}
use Rattle.hg_succ.specs.Rows.{rows_of}
use Rattle.hg_succ.specs.Holders.{HaveWords, IsWithinNone}
use Rattle.hg_succ.proofs.holders.Holders.is_within_another.Goals as goal

pub is_within_another-requires-clause-words : goal.is_within_another-requires-clause-words
is_within_another-requires-clause-words c =
    subst₂ (λ (rs bs : List (Vec ℕ Global)). HaveWords (rows_of rs) (rows_of bs)) (sym c.deref.ensures.value)
    (sym c.deref-2.ensures.value) c.requires.words

pub returns : goal.returns
returns c = subst
    (λ (rs : List (Vec ℕ Global)). c.is_within_another.result ≡ false ↔ IsWithinNone (rows_of rs) c.args.place)
    c.deref.ensures.value c.is_within_another.ensures
