use Rattle.std.proofs.lemmas.Result.{on_ok_weaker}
use Rattle.hg_why.proofs.FateLemmas.{fate-written}
use Rattle.hg_why.proofs.fate_line.write_fate.Goals as goal

pub returns : goal.returns
returns g c =
    let replica = c.replica-replica in
    on_ok_weaker c.write_line.result
    (λ written. fate-written c.args.kept.now.replica replica.result.now c.args.label.now c.args.name.now c.args.node
    c.in_ok-sets.sets _ _ _ _ _ replica.ensures.replica c.in_ok-sets.ensures c.new-line.ensures.items
    c.in_ok-push_heading.ensures c.in_ok-push_sets.ensures written) c.write_line.ensures.written
