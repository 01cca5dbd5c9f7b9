use Rattle.std.proofs.Common.{◌≡◌, Bool, true, false, true≢false, not, IsTrue, ◌↔◌, List}
use Rattle.std.proofs.Common.{Result, refl, sym, ap, subst, ◌∙◌}
use Rattle.std.specs.Bool.{OnFalse}
use Rattle.std.proofs.lemmas.Map.Views.{btree_set_contains_iff}
use Rattle.hg_changeset.specs.declared.node.Node.{Node}
use Rattle.hg_changeset.specs.Contents.{Contents}
use Rattle.hg_changeset.proofs.NodeLemmas.{node_cmp_total, node_cmp_exact}
use Rattle.hg_graph.specs.Graph.{Holds}
use Rattle.hg_graph.proofs.WalkLemmas.{inserted}
use Rattle.hg_history.proofs.ContentLemmas.{content-node, node_in_content}
use Rattle.hg_replica.specs.Content.{content_of}
use Rattle.hg_view.specs.declared.refusal.PinRefusal.{PinRefusal}
use Rattle.hg_view.specs.Pins.{PinAnswer}
use Rattle.hg_view.proofs.pins.Pins.pin.Goals as goal
use Rattle.hg_view.proofs.pins.Pins.pin.Goals.{in-Ok, in-Err}

-- what was there wasn't added
stays : (added has : Bool) (P : Type 0) → added ≡ not has → has ≡ true → OnFalse added P → P
stays false has P e there p = p
stays true has P e there p = absurd (true≢false (e ∙ ap not there))

pub returns-then-not-contains : goal.returns-then-not-contains
returns-then-not-contains c =
    let s = c.args.replica.now in
    let told = subst (λ (cs : List Contents). IsTrue c.contains.result ↔ Holds cs c.args.node) c.graph.ensures.graph
    c.contains.ensures in (
      refl,
      λ held. true≢false
          (sym (told.1 (node_in_content s.history c.graph.ensures.valid.graph c.args.node held))
          ∙ c.if-not-contains.true),
      refl,
    )

pub returns : goal.returns
returns c =
    let s = c.args.replica.now in
    let node = c.args.node in
    let set = c.self.inside.nodes in
    let new = c.insert.new.self in
    let told = subst (λ (cs : List Contents). IsTrue c.contains.result ↔ Holds cs node) c.graph.ensures.graph
    c.contains.ensures in
    let held = content-node s.history c.graph.ensures.valid.graph node (told.0 c.if-not-contains.false) in
    let has = btree_set_contains_iff node_cmp_total node_cmp_exact set node in
    subst (λ (ns : List Node). PinAnswer (content_of s) ns node c.match-insert.result new.keys) c.self.view_is
    (elim c.match-insert.branch [
      | in-Ok w ↦
          subst (λ (r : Result (Unit {0}) PinRefusal). PinAnswer (content_of s) set.keys node r new.keys)
          (sym w.result-is) (
            held,
            inserted node_cmp_total node_cmp_exact set new node w.in-Ok.ensures.updates,
            λ there. stays w.in-Ok.field-0 _ _ w.in-Ok.ensures.added (has.1 there) w.in-Ok.ensures.unchanged,
          )
      | in-Err w ↦
          subst (λ (r : Result (Unit {0}) PinRefusal). PinAnswer (content_of s) set.keys node r new.keys)
          (sym w.result-is)
          (held, λ there. true≢false (sym (has.1 there) ∙ w.in-Err.ensures.absent), w.in-Err.ensures.err)
    ])
