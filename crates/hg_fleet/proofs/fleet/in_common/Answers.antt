use Rattle.std.proofs.Common.{Some, inl, inr, sym, ap, subst}
use Rattle.std.specs.BTreeMap.{Updates}
use Rattle.hg_fleet.specs.Pairs.{Pairs, pair_cmp}
use Rattle.hg_fleet.proofs.fleet.in_common.Goals as goal
use Rattle.hg_fleet.proofs.fleet.in_common.Goals.{then-ne+in_ok-insert, else-ne}

pub heads_in_common_compared-requires : goal.heads_in_common_compared-requires
heads_in_common_compared-requires c = c.noted-before.ensures c.args.asker.now c.args.other.now c.requires

pub returns-in_err-insert-clause-noted : goal.returns-in_err-insert-clause-noted
returns-in_err-insert-clause-noted c = inl c.in_err-insert.ensures.err

pub returns-clause-noted : goal.returns-clause-noted
returns-clause-noted c =
    let now = c.heads_in_common_compared.new.compared in
    elim c.if-ne.branch [
      | then-ne+in_ok-insert w ↦ inr (
        now,
        c.heads_in_common_compared.ensures.compared,
        subst (λ (m : Pairs). Updates pair_cmp c.args.pairs.now m c.args.pair (Some now)) (sym w.pairs-is)
            w.in_ok-insert.ensures.updates,
      )
      | else-ne w ↦ inl (ap (λ (m : Pairs). m.entries) w.pairs-is)
    ]
