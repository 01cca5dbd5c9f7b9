use Rattle.std.proofs.Common.{◌≡◌, ◌+◌, [], inl, inr, slice_get, Some, get_or, true≢false, sym, subst, ◌∙◌, arith}
use Rattle.std.proofs.Common.{below_more, Contains}
use Rattle.std.proofs.lemmas.Option.{slice_get-get_or, same_Some, slice_get_within}
use Rattle.hg_changeset.specs.declared.node.Node.{Node}
use Rattle.hg_changeset.proofs.ListLemmas.{take-drop_rest}
use Rattle.hg_rewrite.proofs.RowLemmas.{IsTaken, none_existing, first_existing}
use Rattle.hg_rewrite.proofs.check.check_new.Goals as goal
use Rattle.hg_rewrite.proofs.check.check_new.Goals.{then-holds-via-then-holds, then-holds-via-else-holds+then-contains}

pub returns-then-holds : goal.returns-then-holds
returns-then-holds c =
    let s = c.args.replica.now.history in
    let ids = c.args.ids.now in
    let i = c.loop-i.i in
    let id : Node = get_or ids i (record { 0 = [] }) in
    let at : slice_get ids i ≡ Some id = slice_get-get_or ids i (record { 0 = [] }) (omega arith) in
    elim c.then-holds.branch [
      | then-holds-via-then-holds w ↦ first_existing s ids i id c.loop-i.invariant at
          (inl (c.holds.ensures.0 w.if-holds.true))
      | then-holds-via-else-holds+then-contains w ↦ first_existing s ids i id c.loop-i.invariant at
          (inr (subst (λ ns. Contains ns id) (take-drop_rest ids (i + 1)) (w.contains.ensures.0 w.if-contains.true)))
    ]

pub loop-i-preserved : goal.loop-i-preserved
loop-i-preserved c =
    let s = c.args.replica.now.history in
    let ids = c.args.ids.now in
    let i = c.loop-i.i in
    let id : Node = get_or ids i (record { 0 = [] }) in
    let at : slice_get ids i ≡ Some id = slice_get-get_or ids i (record { 0 = [] }) (omega arith) in
    below_more (λ k. (n : Node) → slice_get ids k ≡ Some n → ¬ (IsTaken s ids k n)) i c.loop-i.invariant
    (λ n at_n is. elim (subst (IsTaken s ids i) (same_Some n id (sym at_n ∙ at)) is) [
      | inl held ↦ true≢false (sym (c.holds.ensures.1 held) ∙ c.if-holds.false)
      | inr again ↦ true≢false
          (sym (c.contains.ensures.1 (subst (λ ns. Contains ns id) (sym (take-drop_rest ids (i + 1))) again))
          ∙ c.if-contains.false)
    ])

pub returns : goal.returns
returns c =
    let ids = c.args.ids.now in
    none_existing c.args.replica.now.history ids (λ k n at. c.loop-i.invariant k
    (omega (arith, slice_get_within ids k n at)) n at)
