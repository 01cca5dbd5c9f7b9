use Rattle.std.proofs.Common.{inl, inr, [], subst}
use Rattle.std.proofs.lemmas.List.{take_all}
use Rattle.hg_changeset.specs.declared.node.Node.{Node}
use Rattle.hg_changeset.proofs.ListLemmas.{Contains-none}
use Rattle.hg_replica.specs.Content.{content_of}
use Rattle.hg_instab.specs.Quick.{IsInNoSet}
use Rattle.hg_instab.specs.Quick.{IsStable, AreUnchanged}
use Rattle.hg_instab.proofs.AmongLemmas.{also-taken}
use Rattle.hg_instab.proofs.quick.are_unchanged.Goals as goal

pub loop-node-init : goal.loop-node-init
loop-node-init c = λ n h. absurd (Contains-none n h)

pub loop-node-preserved : goal.loop-node-preserved
loop-node-preserved c =
    let first : Node = record { 0 = [] } in
    let also = also-taken c.args.lowered.now c.loop-node.node-index first c.loop-node-test.true in
    λ n h. elim ((also n).0 h) [
      | inl old ↦ c.loop-node.invariant n old
      | inr e ↦ subst (λ x. IsStable (content_of c.args.replica.now) c.args.sets.now x × IsInNoSet c.args.sets.now x) e
          (c.is_unchanged.ensures c.if-not-is_unchanged.false)
    ]

pub returns : goal.returns
returns c _ = subst (AreUnchanged (content_of c.args.replica.now) c.args.sets.now)
    (take_all c.loop-node.node-index c.args.lowered.now c.loop-node-test.false) c.loop-node.invariant
