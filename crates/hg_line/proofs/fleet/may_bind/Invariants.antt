use Rattle.std.proofs.Common.{◌≡◌}
use Rattle.std.specs.Iterator.Adapters.{zip_first, zip_second}
use Rattle.std.specs.Slice.Iter.{iter_rest}
use Rattle.hg_graph.specs.Graph.{nodes}
use Rattle.hg_line.specs.Commands.{texts}
use Rattle.hg_names.specs.Labels.{labelled}
use Rattle.hg_line.specs.Lines.{each_may_name}
use Rattle.hg_line.proofs.fleet.may_bind.Given as goal

-- it is for the pairs that are left as it is for all of them
abbrev pub invariant-loop-label : goal.invariant-loop-label
invariant-loop-label l =
    each_may_name (labelled l.names) (texts (iter_rest (zip_first l.label-iterator)))
    (nodes (iter_rest (zip_second l.label-iterator)))
    ≡ each_may_name (labelled l.names) (texts l.labels) (nodes l.changesets)
