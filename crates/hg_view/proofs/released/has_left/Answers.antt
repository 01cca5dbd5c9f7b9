use Rattle.std.proofs.Common.{◌-◌, true≢false, inl, inr, get_or, sym, subst, ◌∙◌, arith}
use Rattle.std.proofs.lemmas.Bool.{cases_order}
use Rattle.std.proofs.lemmas.Option.{get_or_from_slice_get, slice_get_within}
use Rattle.hg_changeset.proofs.ListLemmas.{place_from_Contains}
use Rattle.hg_view.specs.Released.{IsLeftAt}
use Rattle.hg_view.proofs.released.has_left.Goals as goal

pub loop-index-preserved : goal.loop-index-preserved
loop-index-preserved c i from l left = elim (cases_order i (c.loop-index.index - 1)) [
  | inl e ↦ true≢false (sym (c.is_left_at.ensures.1
      (subst (λ k. IsLeftAt c.args.graph.now c.args.upheld.now.keys c.args.gone.now.keys
      (get_or c.args.places.now k 0)) e left)) ∙ c.if-is_left_at.false)
  | inr apart ↦ elim apart [
    | inl less ↦ omega (arith, from, less)
    | inr more ↦ c.loop-index.invariant i (omega (arith, more)) l left
  ]
]

pub returns : goal.returns
returns c =
    let places = c.args.places.now in
    let left = IsLeftAt c.args.graph.now c.args.upheld.now.keys c.args.gone.now.keys in (
      λ t. absurd (true≢false (sym t)),
      λ h.
          let i = place_from_Contains places h.1.0 h.1.1 in
          absurd (c.loop-index.invariant i.0 (omega arith) (slice_get_within places i.0 h.1.0 i.1)
          (subst left (sym (get_or_from_slice_get places i.0 h.1.0 0 i.1)) (h.0, h.1.2, h.2))),
    )
