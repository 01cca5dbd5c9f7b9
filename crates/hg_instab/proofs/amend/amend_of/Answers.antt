use Rattle.std.proofs.Common.{List, sym, subst}
use Rattle.std.proofs.lemmas.Option.{IfSome_then}
use Rattle.hg_marker.specs.Fields.{Fields}
use Rattle.hg_instab.specs.Amend.{IsRewrite, IsPlain}
use Rattle.hg_instab.proofs.amend.amend_of.Goals as goal

pub returns-in-Some : goal.returns-in-Some
returns-in-Some c =
    let t = c.args.replica.now in
    let change = c.args.change.now in
    let rewrite : IsRewrite t.markers change c.in-Some.amend =
    subst (λ (ms : List Fields). IsRewrite ms change c.in-Some.amend) c.store.ensures c.in-Some.ensures in
    IfSome_then c.if_plain.result c.if_plain.ensures (λ amend h. (
      subst (IsRewrite t.markers change) (sym h.0) rewrite,
      subst (IsPlain t c.args.near.now.keys) (sym h.0) h.1,
    ))
