use Rattle.std.proofs.Common.{◌≡◌, ◌↔◌, ℕ, List, Contains, sym, ap, subst, ◌∙◌}
use Rattle.hg_changeset.specs.declared.node.Node.{Node}
use Rattle.hg_marker.specs.Fields.{Fields}
use Rattle.hg_replica.specs.Change.{ChangeValue}
use Rattle.hg_instab.specs.Region.{IsStart}
use Rattle.hg_instab.specs.Walk.{Adds}
use Rattle.hg_instab.proofs.RegionLemmas.{starts-are}
use Rattle.hg_instab.proofs.WalkLemmas.{adds-same}
use Rattle.hg_instab.proofs.near.region_starts.Goals as goal

pub returns : goal.returns
returns c =
    let s = c.args.replica.now in
    let change = c.args.change.now in
    let near = c.args.near.now.keys in
    let xs = c.with_keys-starts.result.keys in
    let ys = c.add_rewritten.new.starts.keys in
    let starts = c.add_all.new.seen.keys in
    let markers : c.deref.result.now ≡ change.markers =
    c.deref.ensures ∙ ap (λ (v : ChangeValue). v.markers) c.change.view_is in
    let added : c.deref-2.result.now ≡ change.added =
    c.deref-2.ensures ∙ ap (λ (v : ChangeValue). v.added) c.change.view_is in
    let inside : (n : Node) → (Contains change.added n × Contains near n) ↔ Contains c.deref-3.result.now n =
    λ n. (
      λ h. subst (λ (ns : List Node). Contains ns n) (sym c.deref-3.ensures.value)
          ((c.in_ok-added.ensures n).1 (subst (λ (ns : List Node). Contains ns n) (sym added) h.0, h.1)),
      λ h.
          let x = (c.in_ok-added.ensures n).0 (subst (λ (ns : List Node). Contains ns n) c.deref-3.ensures.value h) in
          (subst (λ (ns : List Node). Contains ns n) added x.0, x.1),
    ) in
    starts-are s.markers change near xs ys starts c.with_keys-starts.ensures
    (subst (λ (ms : List Fields). Adds (IsStart ms near change.markers) xs ys) c.store.ensures
    (subst (λ (ps : List ℕ). Adds (IsStart c.store.result.now near ps) xs ys) markers c.in_ok-add_rewritten.ensures))
    (adds-same (Contains c.deref-3.result.now) (λ n. Contains change.added n × Contains near n) ys starts inside
    c.in_ok-add_all.ensures)
