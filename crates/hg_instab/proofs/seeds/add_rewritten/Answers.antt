use Rattle.std.proofs.Common.{◌≡◌, ℕ, List, take, get_or, slice_get, Some, None, ◌++◌, ◌∷◌, [], inl, inr, Contains, sym}
use Rattle.std.proofs.Common.{subst}
use Rattle.std.proofs.Common.{ap, ◌∙◌}
use Rattle.std.specs.Option.{option_copied}
use Rattle.std.proofs.lemmas.List.{get_or_default, take_all}
use Rattle.hg_changeset.proofs.ListLemmas.{Contains-pushed}
use Rattle.hg_instab.specs.Walk.{IsOfOneAt}
use Rattle.hg_instab.proofs.WalkLemmas.{of-more}
use Rattle.hg_instab.proofs.RegionLemmas.{of-missing}
use Rattle.hg_instab.proofs.seeds.add_rewritten.Goals as goal
use Rattle.hg_instab.proofs.seeds.add_rewritten.Goals.{in-Some+in_ok-push-in-Some, in-None}

pub loop-place-preserved : goal.loop-place-preserved
loop-place-preserved c n =
    let ms = c.args.store.now in
    let places = c.args.places.now in
    let i = c.loop-place.place-index in
    let k = get_or places i 0 in
    let is = get_or_default places i k 0 c.loop-place-test.true in
    elim c.match-get.branch [
      | in-Some+in_ok-push-in-Some w ↦
          let m = w.in-Some.marker.now in
          let at : slice_get ms k ≡ Some m = sym c.get.ensures ∙ ap option_copied w.in-Some.is in
          let more = of-more (λ m x. m.predecessor ≡ x) ms places i k m c.loop-place-test.true is at n in
          let added = Contains-pushed c.loop-place.found.items w.predecessor.result n in
          let grown : c.match-get.found.items ≡ c.loop-place.found.items ++ w.predecessor.result ∷ [] =
          ap (λ v. v.items) w.found-is ∙ w.in_ok-push-in-Some.ensures.items in
          let before = c.loop-place.invariant n in (
            λ h. elim (added.0 (subst (λ ns. Contains ns n) grown h)) [
              | inl old ↦ elim (before.0 old) [ inl first ↦ inl first | inr rewritten ↦ inr (more.1 (inl rewritten)) ]
              | inr e ↦ inr (more.1 (inr (sym w.predecessor.ensures.predecessor ∙ e)))
            ],
            λ h. subst (λ ns. Contains ns n) (sym grown) (added.1 (elim h [
              | inl first ↦ inl (before.1 (inl first))
              | inr rewritten ↦ elim (more.0 rewritten) [
                | inl old ↦ inl (before.1 (inr old))
                | inr e ↦ inr (w.predecessor.ensures.predecessor ∙ e)
              ]
            ])),
          )
      | in-None w ↦
          let at : slice_get ms k ≡ None = sym c.get.ensures ∙ ap option_copied w.in-None.is in
          let same = of-missing (λ m x. m.predecessor ≡ x) ms places i k c.loop-place-test.true is at n in
          let kept : c.match-get.found.items ≡ c.loop-place.found.items = ap (λ v. v.items) w.found-is in
          let before = c.loop-place.invariant n in (
            λ h. elim (before.0 (subst (λ ns. Contains ns n) kept h)) [
              | inl old ↦ inl old
              | inr new ↦ inr (same.1 new)
            ],
            λ h. subst (λ ns. Contains ns n) (sym kept)
                (before.1 (elim h [ inl old ↦ inl old | inr new ↦ inr (same.0 new) ])),
          )
    ]

pub returns : goal.returns
returns c n =
    let all : take c.loop-place.place-index c.args.places.now ≡ c.args.places.now =
    take_all c.loop-place.place-index c.args.places.now c.loop-place-test.false in
    let is = c.loop-place.invariant n in (
      λ h. elim (is.0 h) [
        | inl old ↦ inl old
        | inr new ↦ inr (subst (λ (ps : List ℕ). IsOfOneAt (λ m x. m.predecessor ≡ x) c.args.store.now ps n) all new)
      ],
      λ h. is.1 (elim h [
        | inl old ↦ inl old
        | inr new ↦ inr (subst (λ (ps : List ℕ). IsOfOneAt (λ m x. m.predecessor ≡ x) c.args.store.now ps n)
            (sym all) new)
      ]),
    )
