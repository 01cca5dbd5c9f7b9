use Rattle.std.proofs.Common.{[], ◌∙◌, inl, inr, refl, sym, true≢false}
use Rattle.std.proofs.KnownBytes.{Appends-nil}
use Rattle.std.proofs.lemmas.Result.{on_ok_weaker}
use Rattle.hgfleet.proofs.fates.write_fate_in.Goals as goal

pub returns-then-knows : goal.returns-then-knows
returns-then-knows g c =
    on_ok_weaker c.write_fate.result (λ d. (d.0, inl (c.knows.ensures.0 c.if-knows.true, d.1), d.2))
    c.write_fate.ensures

pub returns-else-knows : goal.returns-else-knows
returns-else-knows g c = (
  [],
  inr (λ known. absurd (true≢false (sym (c.knows.ensures.1 known) ∙ c.if-knows.false)), refl),
  Appends-nil _,
)
