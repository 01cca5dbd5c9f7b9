use Rattle.std.proofs.Common.{inl, inr, ◌≡◌, ◌==◌, false, List, Contains, take, true, Vec, Global, arith, sym}
use Rattle.std.proofs.Common.{subst, ◌∙◌}
use Rattle.std.proofs.lemmas.List.{take_all}
use Rattle.std.proofs.lemmas.List.Elements.{Contains-push_cases}
use Rattle.hg_changeset.specs.declared.node.Node.{Node}
use Rattle.hg_succ.specs.Answer.{sets_of}
use Rattle.hg_succ.specs.Unions.{is_largest}
use Rattle.hg_succ.proofs.SetLemmas.{filter_all, none_longer, sets_more}
use Rattle.hg_succ.proofs.unions.are_as_long.Goals as goal

pub loop-set-preserved : goal.loop-set-preserved
loop-set-preserved c set h =
    let sets = c.args.sets.now in
    let v = c.set-item.result in
    let split = sets_more sets c.loop-set.set-index v c.loop-set-test.true c.set-item.is in
    elim (Contains-push_cases (sets_of (take c.loop-set.set-index sets)) v.items set
    (subst (λ (zs : List (List Node)). Contains zs set) split h)) [
      | inl before ↦ c.loop-set.invariant set before
      | inr last ↦ subst (λ (s : List Node). is_largest (sets_of sets) s ≡ true) last
          (none_longer (sets_of sets) c.args.longest v.items c.requires
          (omega (arith, c.if-len-longest.false, c.len.ensures, v.ok.0))
          (subst (λ n. (n == 0) ≡ false) v.ok.0 (sym c.is_empty.ensures ∙ c.if-is_empty.false)))
    ]

pub returns : goal.returns
returns c t = filter_all (is_largest (sets_of c.args.sets.now)) (sets_of c.args.sets.now)
    (subst (λ (xs : List (Vec Node Global)). (set : List Node) → Contains (sets_of xs) set
    → is_largest (sets_of c.args.sets.now) set ≡ true)
    (take_all c.loop-set.set-index c.args.sets.now c.loop-set-test.false) c.loop-set.invariant)
