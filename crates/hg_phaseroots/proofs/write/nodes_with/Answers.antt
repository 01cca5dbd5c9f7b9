use Rattle.std.proofs.Common.{rules, take, ◌≡◌, Contains, sym, subst, ◌∙◌}
use Rattle.std.proofs.lemmas.List.{take_all}
use denote.Enum.Bare.{same_true, same_false}
use Rattle.hg_phases.specs.contracts.phase.Phase.{the_type}
use Rattle.hg_phaseroots.proofs.WriteLemmas.{listed_more, listed_other}
use Rattle.hg_phaseroots.proofs.write.nodes_with.Goals as goal
use Rattle.hg_phaseroots.proofs.write.nodes_with.Goals.{then-eq+in_ok-insert, else-eq}

pub loop-its-preserved : goal.loop-its-preserved
loop-its-preserved c =
    elim c.if-eq.branch [
      | then-eq+in_ok-insert w ↦
          listed_more c.args.listed.now c.args.phase c.loop-its.its-index _ c.loop-its-test.true c.loop-its.nodes.keys
          c.loop-its.invariant
          (same_true the_type (search rules) _ _ (sym c.eq.ensures ∙ w.if-eq.true)) c.if-eq.nodes.keys
          (rw w.nodes-is w.in_ok-insert.ensures.keys)
      | else-eq w ↦
          rw w.nodes-is (listed_other c.args.listed.now c.args.phase c.loop-its.its-index _ c.loop-its-test.true
          c.loop-its.nodes.keys c.loop-its.invariant
          (same_false the_type _ _ (sym c.eq.ensures ∙ w.if-eq.false)))
    ]

pub returns : goal.returns
returns c =
    let all : take c.loop-its.its-index c.args.listed.now ≡ c.args.listed.now = take_all c.loop-its.its-index
    c.args.listed.now c.loop-its-test.false in
    λ n. (
      λ h. subst (λ rs. Contains rs (c.args.phase, n)) all ((c.loop-its.invariant n).0 h),
      λ h. (c.loop-its.invariant n).1 (subst (λ rs. Contains rs (c.args.phase, n)) (sym all) h),
    )
