use Rattle.std.proofs.Common.{◌≡◌, ◌≤◌, List, length, take, Contains, arith, ap, subst, ◌∙◌, Vec, Global, inl, inr}
use Rattle.std.proofs.lemmas.List.{take_all}
use Rattle.std.proofs.lemmas.List.Elements.{Contains-push_cases}
use Rattle.hg_changeset.specs.declared.node.Node.{Node}
use Rattle.hg_succ.specs.Answer.{sets_of}
use Rattle.hg_succ.proofs.SetLemmas.{sets_more}
use Rattle.hg_succ.proofs.unions.longest.Goals as goal
use Rattle.hg_succ.proofs.unions.longest.Goals.{then-len-longest, else-len-longest}

pub loop-set-preserved : goal.loop-set-preserved
loop-set-preserved c set h =
    let v = c.set-item.result in
    let split = sets_more c.args.sets.now c.loop-set.set-index v c.loop-set-test.true c.set-item.is in
    let long : c.len.result ≡ length v.items = c.len.ensures ∙ v.ok.0 in
    let or = Contains-push_cases (sets_of (take c.loop-set.set-index c.args.sets.now)) v.items set
    (subst (λ (zs : List (List Node)). Contains zs set) split h) in
    elim c.if-len-longest.branch [
      | then-len-longest w ↦ elim or [
        | inl before ↦
            (let b = c.loop-set.invariant set before in
            omega (arith, b, w.longest-is, w.if-len-longest.true, w.len-longest.ensures, v.ok.0, long))
        | inr last ↦ omega (arith, ap length last, w.longest-is, w.len-longest.ensures, v.ok.0, long)
      ]
      | else-len-longest w ↦ elim or [
        | inl before ↦ (let b = c.loop-set.invariant set before in omega (arith, b, w.longest-is))
        | inr last ↦ omega (arith, ap length last, w.longest-is, w.if-len-longest.false, long)
      ]
    ]

pub returns : goal.returns
returns c = subst (λ (xs : List (Vec Node Global)). (set : List Node) → Contains (sets_of xs) set
    → length set ≤ c.loop-set.longest) (take_all c.loop-set.set-index c.args.sets.now c.loop-set-test.false)
    c.loop-set.invariant
