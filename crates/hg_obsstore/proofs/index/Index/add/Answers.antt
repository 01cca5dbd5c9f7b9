use Rattle.std.proofs.Common.{◌≡◌}
use Rattle.hg_obsstore.specs.declared.index.Role.TheVariants.{Predecessor, Successor, Parent}
use Rattle.hg_obsstore.specs.Index.{places_of}
use Rattle.hg_obsstore.proofs.IndexLemmas.{each_role, pointwise}
use Rattle.hg_obsstore.proofs.index.Index.add.Goals as goal

pub returns-in-Err-clause-err : goal.returns-in-Err-clause-err
returns-in-Err-clause-err c =
    let old = c.args.self.now in
    each_role _ (pointwise _ _ (c.remove.ensures.predecessor.restores (places_of Predecessor old) c.requires.predecessor
    c.in-Err.ensures.err.predecessor)) (pointwise _ _
    (c.remove.ensures.successor.restores (places_of Successor old) c.requires.successor c.in-Err.ensures.err.successor))
    (pointwise _ _ (c.remove.ensures.child.restores (places_of Parent old) c.requires.child c.in-Err.ensures.err.child))
