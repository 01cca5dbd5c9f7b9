use Rattle.std.proofs.Common.{◌≤◌, [], sym, subst, List, ℕ, Contains, drop}
use Rattle.std.proofs.lemmas.List.Elements.{Contains-push}
use Rattle.hg_obsstore.specs.Digests.{scanned}
use Rattle.hg_obsstore.proofs.DigestLemmas.{beyond_last}
use Rattle.hg_obsstore.proofs.store.add_marker.Goals as goal

pub returns-in-Ok-clause-digest : goal.returns-in-Ok-clause-digest
returns-in-Ok-clause-digest c = λ d.
    let node = c.args.marker.now.predecessor in
    let here = c.in-Ok.ensures.ok.predecessor.here node (Contains-push [] node) in
    c.in_ok-add.ensures.ok (subst (λ n. scanned ≤ n) (sym c.requires.before)
    (beyond_last _ c.args.place (subst (λ (ps : List ℕ). Contains (drop scanned ps) c.args.place) here d)))

pub returns-in-Err-clause-kept : goal.returns-in-Err-clause-kept
returns-in-Err-clause-kept c = λ n i other there.
    c.remove.ensures.kept n i other (c.in_ok-add.ensures.kept n i other there)
