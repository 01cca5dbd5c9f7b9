use Rattle.std.proofs.Common.{[], sym}
use Rattle.hg_live.proofs.AfterLemmas.{after_none, after_same}
use Rattle.hg_live.proofs.store.Published.new.Goals as goal

pub invariant_of-result : goal.invariant_of-result
invariant_of-result g c =
    let o = g.K.NodeName.opening in
    after_same o o c.args.peer [] c.args.front (after_none o) (sym c.requires.entries) (sym c.requires.state)
