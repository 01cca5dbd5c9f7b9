use Rattle.std.proofs.Common.{◌≡◌, ◌∙◌, [], sym, ap, subst, refl, List, ℕ, length, slice_get, Some, Contains, drop}
use Rattle.std.proofs.lemmas.Option.{slice_get_read}
use Rattle.std.proofs.lemmas.List.Elements.{Contains-push}
use Rattle.hg_obsstore.specs.Index.{places_of}
use Rattle.hg_obsstore.specs.Digests.{scanned}
use Rattle.hg_obsstore.specs.declared.index.Role.TheVariants.{Predecessor}
use Rattle.hg_obsstore.proofs.store.look_up.Goals as goal

pub returns-clause-held : goal.returns-clause-held
returns-clause-held c =
    let ms = c.args.markers.now in
    let m = c.args.marker.now in
    let is : c.as_predecessor-places.result.now ≡ places_of Predecessor c.args.index.now m.predecessor =
    c.as_predecessor-places.ensures ∙ c.mentions.ensures.predecessor
    ∙ ap (places_of Predecessor c.args.index.now) c.predecessor.ensures.predecessor in (
      c.hold.ensures.sound,
      (λ there.
          let at : slice_get ms there.0 ≡ Some m = slice_get_read ms (length ms) there.0 m refl there.1 (sym there.2) in
          c.hold.ensures.complete there.0 at
          (subst (λ (ps : List ℕ). Contains ps there.0) (sym is)
          (((c.requires.indexed.predecessor m.predecessor).exact there.0).1 (m, at, Contains-push [] m.predecessor)))
          (λ d. c.requires.digested m there.0 at (subst (λ (ps : List ℕ). Contains (drop scanned ps) there.0) is d))),
    )
