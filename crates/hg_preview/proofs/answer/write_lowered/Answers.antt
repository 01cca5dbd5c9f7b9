use Rattle.std.proofs.Common.{subst}
use Rattle.std.proofs.lemmas.Result.{on_ok_weaker}
use Rattle.hg_preview.specs.Lines.{AreLinesOf}
use Rattle.hg_preview.proofs.LineLemmas.{lines_of}
use Rattle.hg_preview.proofs.answer.write_lowered.Goals as goal

pub returns : goal.returns
returns g c =
    on_ok_weaker c.write_phases.result
    (λ w. (
      w.0,
      lines_of c.args.lowered.now c.in_ok-nodes.nodes.items c.put_in_order.new.nodes.items w.0
          c.in_ok-nodes.ensures.items
          c.put_in_order.ensures (subst (λ ns. AreLinesOf ns w.0) c.deref.ensures.value w.1),
      w.2,
    ))
    c.write_phases.ensures
