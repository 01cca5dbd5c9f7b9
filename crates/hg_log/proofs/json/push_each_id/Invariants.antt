use Rattle.std.proofs.Common.{false, take}
use Rattle.std.specs.Prelude.{codes}
use Rattle.hg_log.specs.Json.{AreDivided, id_text}
use Rattle.hg_log.proofs.json.push_each_id.Given as goal

abbrev pub invariant-loop-node : goal.invariant-loop-node
invariant-loop-node l =
    AreDivided false (codes ", ") id_text (take l.node-index l.nodes) l.initial.line.items l.line.items l.is_behind
