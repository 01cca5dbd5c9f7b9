use Rattle.std.proofs.Common.{◌≡◌, true≢false, Contains, ◌++◌, List, Ok, Err, refl, sym, subst, ◌∙◌}
use Rattle.std.proofs.lemmas.Result.{err_from_is_err_and}
use Rattle.hg_changeset.specs.Contents.{Contents}
use Rattle.hg_graph.specs.Graph.{Holds}
use Rattle.hg_changeset.specs.declared.node.Node.{Node}
use Rattle.hg_phases.specs.State.{changesets}
use Rattle.hg_replica.specs.State.{ReplicaState, IsValid}
use Rattle.hg_history.proofs.ContentLemmas.{content-node, node_in_content}
use Rattle.hg_replica.specs.Content.{content_of}
use Rattle.hg_view.specs.declared.refusal.PinRefusal.TheVariants.{Unknown, NoMemory}
use Rattle.hg_view.specs.Kept.{KeptValue}
use Rattle.hg_view.specs.Pins.{PinAnswer}
use Rattle.hg_view.specs.Upheld.{AreUpheld}
use Rattle.hg_view.proofs.UpheldLemmas.{pinned-again, pinned-more, upheld-same, taken-back, unpinned-same}
use Rattle.hg_view.proofs.kept.Kept.pin.Goals as goal

pub returns-then-is_pinned-clause-answer : goal.returns-then-is_pinned-clause-answer
returns-then-is_pinned-clause-answer c =
    let node = c.args.node in
    let there = c.is_pinned.ensures.0 c.if-is_pinned.true in
    subst (λ (k : KeptValue). PinAnswer (content_of k.replica) k.pins node (Ok tt) k.pins) c.self.view_is
    (pinned-again (content_of c.self.inside.replica) _ _ (c.self.invariant.2.pinned node there) there)

pub returns-then-not-contains-clause-answer : goal.returns-then-not-contains-clause-answer
returns-then-not-contains-clause-answer c =
    let node = c.args.node in
    subst (λ (k : KeptValue). PinAnswer (content_of k.replica) k.pins node (Err (Unknown node)) k.pins) c.self.view_is (
      refl,
      λ held. true≢false (sym (c.contains.ensures.1 (subst (λ (cs : List Contents). Holds cs node)
          (sym c.graph.ensures.graph) (node_in_content _ c.graph.ensures.valid.graph _ held)))
          ∙ c.if-not-contains.true),
      refl,
    )

-- want of memory
refused : (s : ReplicaState) (v : IsValid s) (pins : List Node) (node : Node)
    → Holds (changesets s.history) node → ¬ (Contains pins node)
    → PinAnswer (content_of s) pins node (Err NoMemory) pins
refused s v pins node held new = (content-node s.history v.graph node held, new, refl)

pub returns-in_err-found-clause-answer : goal.returns-in_err-found-clause-answer
returns-in_err-found-clause-answer c =
    let node = c.args.node in
    let s = c.self.inside.replica in
    let pins = c.self.inside.pins in
    let p = err_from_is_err_and c.from_residual.result c.from_residual.ensures.1 in
    rw (p.1, p.2) (subst (λ (k : KeptValue). PinAnswer (content_of k.replica) k.pins node (Err NoMemory) k.pins)
    c.self.view_is (refused s c.graph.ensures.valid pins node
    (subst (λ (cs : List Contents). Holds cs node) c.graph.ensures.graph
    (c.contains.ensures.0 c.if-not-contains.false))
    (λ there. true≢false (sym (c.is_pinned.ensures.1 there) ∙ c.if-is_pinned.false))))

pub invariant_of-self : goal.invariant_of-self
invariant_of-self c = (
  c.self.invariant.0,
  c.self.invariant.1,
  upheld-same (content_of c.self.inside.replica) c.self.inside.pins c.self.inside.upheld.keys c.put_in.new.upheld.keys
      c.in_err-put_in.ensures.err c.self.invariant.2,
  c.self.invariant.3,
)

pub returns-in_err-put_in-clause-answer : goal.returns-in_err-put_in-clause-answer
returns-in_err-put_in-clause-answer c =
    let node = c.args.node in
    let s = c.self.inside.replica in
    let pins = c.self.inside.pins in
    let p = err_from_is_err_and c.from_residual-in_err-put_in.result c.from_residual-in_err-put_in.ensures.1 in
    rw (p.1, p.2) (subst (λ (k : KeptValue). PinAnswer (content_of k.replica) k.pins node (Err NoMemory) pins)
    c.self.view_is (refused s c.graph.ensures.valid pins node
    (subst (λ (cs : List Contents). Holds cs node) c.graph.ensures.graph
    (c.contains.ensures.0 c.if-not-contains.false))
    (λ there. true≢false (sym (c.is_pinned.ensures.1 there) ∙ c.if-is_pinned.false))))

pub invariant_of-self-in-Ok : goal.invariant_of-self-in-Ok
invariant_of-self-in-Ok c =
    let f = content_of c.self.inside.replica in
    let pins = c.self.inside.pins in
    let more = c.pin.new.self in
    let answer : PinAnswer f pins c.args.node (Ok tt) more =
    subst (λ r. PinAnswer f pins c.args.node r more) c.in-Ok.is c.pin.ensures in (
      c.self.invariant.0,
      c.self.invariant.1,
      upheld-same _ _ _ _ c.in_ok-put_in.ensures.ok
          (c.in_ok-found.ensures.upheld pins more c.self.invariant.2 (pinned-more f _ _ _ answer) answer.0),
      c.self.invariant.3,
    )

pub returns-in-Ok-clause-answer : goal.returns-in-Ok-clause-answer
returns-in-Ok-clause-answer c =
    subst (λ (k : KeptValue). PinAnswer (content_of k.replica) k.pins c.args.node (Ok tt) c.pin.new.self)
    c.self.view_is c.in-Ok.ensures

pub invariant_of-self-in-Err : goal.invariant_of-self-in-Err
invariant_of-self-in-Err c =
    let f = content_of c.self.inside.replica in
    let pins = c.self.inside.pins in
    let same : c.pin.new.self ≡ pins = unpinned-same f _ _ _ _
    (subst (λ r. PinAnswer f pins c.args.node r c.pin.new.self) c.in-Err.is c.pin.ensures) in (
      c.self.invariant.0,
      c.self.invariant.1,
      subst (λ (ns : List Node). AreUpheld f ns c.take_out.new.upheld.keys) (sym same)
          (upheld-same _ _ _ _ (taken-back _ _ _
          _ c.in_ok-found.ensures.disjoint c.in_ok-put_in.ensures.ok c.take_out.ensures) c.self.invariant.2),
      c.self.invariant.3,
    )
