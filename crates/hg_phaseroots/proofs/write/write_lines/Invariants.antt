use Rattle.std.proofs.Common.{◌≡◌, ◌++◌, map}
use Rattle.std.specs.List.{All}
use Rattle.hg_phaseroots.specs.Writing.{IsSpelled, text_of}
use Rattle.hg_phaseroots.proofs.write.write_lines.Given as goal

abbrev pub invariant-loop-node : goal.invariant-loop-node
invariant-loop-node l =
    (l.text.items ++ text_of (map (λ n. (l.fn.phase, n)) l.node-iterator) ≡ l.fn.text.items ++
    text_of (map (λ n. (l.fn.phase, n)) l.initial.node-iterator))
    × (All IsSpelled l.node-iterator → All IsSpelled l.initial.node-iterator)
