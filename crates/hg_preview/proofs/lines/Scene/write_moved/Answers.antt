use Rattle.std.proofs.Common.{◌++◌, refl, subst}
use Rattle.std.proofs.KnownBytes.{Appends-trans}
use Rattle.std.proofs.lemmas.Result.{on_ok_weaker}
use Rattle.hg_preview.specs.Lines.{AreLinesOf}
use Rattle.hg_preview.proofs.LineLemmas.{lines_of}
use Rattle.hg_preview.proofs.lines.Scene.write_moved.Goals as goal

pub returns : goal.returns
returns g c =
    let moved = c.args.moved.now in
    let came = c.in_ok-write_each.ensures in
    on_ok_weaker c.write_each-2.result
    (λ went. (
      came.0 ++ went.0,
      (
        came.0,
        went.0,
        lines_of moved.came.keys c.in_ok-came.came.items c.put_in_order.new.nodes.items came.0 c.in_ok-came.ensures
            c.put_in_order.ensures (subst (λ ns. AreLinesOf ns came.0) c.deref.ensures.value came.1),
        lines_of moved.went.keys c.in_ok-went.went.items c.put_in_order-2.new.nodes.items went.0 c.in_ok-went.ensures
            c.put_in_order-2.ensures (subst (λ ns. AreLinesOf ns went.0) c.deref-2.ensures.value went.1),
        refl,
      ),
      Appends-trans _ _ _ came.0 went.0 came.2 went.2,
    ))
    c.write_each-2.ensures
