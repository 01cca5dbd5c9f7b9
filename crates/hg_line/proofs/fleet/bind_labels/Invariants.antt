use Rattle.std.proofs.Common.{◌≡◌, ℕ, List, map}
use Rattle.std.specs.Iterator.Adapters.{zip_first, zip_second}
use Rattle.std.specs.Slice.Iter.{iter_rest}
use Rattle.hg_names.specs.Labels.{labelled}
use Rattle.hg_line.specs.Lines.{bound_to}
use Rattle.hg_line.proofs.fleet.bind_labels.Given as goal

-- with the pairs that are left, the names are what they are to be
abbrev pub invariant-loop-label : goal.invariant-loop-label
invariant-loop-label l = (name : List ℕ) →
    bound_to (labelled l.names) (map (λ w. w.now) (iter_rest (zip_first l.label-iterator)))
    (iter_rest (zip_second l.label-iterator)) name ≡ bound_to (labelled l.initial.names) (map (λ w. w.now) l.labels)
    l.nodes name
