use Rattle.std.proofs.Common.{◌≡◌, ◌⊎◌, ◌+◌, inl, inr, take, get_or, Contains, sym, subst, ◌∙◌}
use Rattle.std.proofs.lemmas.List.{take_all}
use Rattle.std.proofs.lemmas.List.Elements.{Contains-get_or}
use Rattle.std.proofs.lemmas.Option.{slice_get_within}
use Rattle.hg_changeset.proofs.ListLemmas.{Contains-none}
use Rattle.hg_graph.proofs.WalkLemmas.{taken_one}
use Rattle.hg_phases.specs.RootPlaces.{IsPlaceOrChild}
use Rattle.hg_phases.proofs.RootPlaceLemmas.{recomputed-less, recomputed-then}
use Rattle.hg_phases.proofs.root_places.recompute_family.Goals as goal

pub loop-child-init : goal.loop-child-init
loop-child-init c =
    recomputed-less _ _ _ _ _ _ c.recompute.ensures (λ p r. elim r [ inl e ↦ e | inr h ↦ absurd (Contains-none _ h) ])

pub recompute-requires-in-loop-child-clause-seats : goal.recompute-requires-in-loop-child-clause-seats
recompute-requires-in-loop-child-clause-seats c = c.loop-child.invariant.len ∙ c.requires.seats

pub recompute-requires-in-loop-child-clause-within : goal.recompute-requires-in-loop-child-clause-within
recompute-requires-in-loop-child-clause-within c =
    let items = c.children-child-items.result.now in
    let child = get_or items c.loop-child.child-index 0 in
    let parent = (c.children-child-items.ensures.exact child).0
    (Contains-get_or items c.loop-child.child-index 0 c.loop-child-test.true) in
    slice_get_within c.args.graph.now child parent.0 parent.2

pub loop-child-preserved : goal.loop-child-preserved
loop-child-preserved c =
    recomputed-then _ _ _ _ _ _ _ _ c.loop-child.invariant c.recompute-in-loop-child.ensures (λ p r. elim r [
      | inl e ↦ inl (inl e)
      | inr h ↦ elim ((taken_one _ _ _ _ c.loop-child-test.true).0 h) [ inl old ↦ inl (inr old) | inr e ↦ inr e ]
    ])

pub returns : goal.returns
returns c =
    let items = c.children-child-items.result.now in
    let i = c.loop-child.child-index in
    let all : take i items ≡ items = take_all i items c.loop-child-test.false in
    recomputed-less _ _ _ _ _ _ c.loop-child.invariant (λ p r. elim r [
      | inl e ↦ inl e
      | inr parent ↦ inr (subst (λ xs. Contains xs p) (sym all) ((c.children-child-items.ensures.exact p).1 parent))
    ])
