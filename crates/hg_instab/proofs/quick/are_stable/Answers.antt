use Rattle.std.proofs.Common.{inl, inr, [], subst}
use Rattle.std.proofs.lemmas.List.{take_all}
use Rattle.hg_changeset.specs.declared.node.Node.{Node}
use Rattle.hg_changeset.proofs.ListLemmas.{Contains-none}
use Rattle.hg_replica.specs.Content.{content_of}
use Rattle.hg_instab.specs.Quick.{IsStable, IsAway, AreStable}
use Rattle.hg_instab.proofs.AmongLemmas.{also-taken}
use Rattle.hg_instab.proofs.quick.are_stable.Goals as goal

pub loop-index-init : goal.loop-index-init
loop-index-init c = λ n h. absurd (Contains-none n h)

pub loop-index-preserved : goal.loop-index-preserved
loop-index-preserved c =
    let first : Node = record { 0 = [] } in
    let also = also-taken c.args.added.now c.loop-index.index first c.loop-index-test.true in
    λ n h. elim ((also n).0 h) [
      | inl old ↦ c.loop-index.invariant n old
      | inr e ↦ subst (λ x. IsStable (content_of c.args.replica.now) c.args.sets.now x × IsAway c.args.sets.now x) e
          (c.is_stable_and_away.ensures c.if-not-is_stable_and_away.false)
    ]

pub returns : goal.returns
returns c _ = subst (AreStable (content_of c.args.replica.now) c.args.sets.now)
    (take_all c.loop-index.index c.args.added.now c.loop-index-test.false) c.loop-index.invariant
