use Rattle.std.proofs.Common.{List, ◌∙◌, ap, map, subst, sym}
use Rattle.std.specs.Borrow.{Bor}
use Rattle.hg_log.specs.Drawings.{Text}
use Rattle.hgfleet.specs.Commands.{AreShown}
use Rattle.hgfleet.proofs.CommandLemmas.{given_drawn}
use Rattle.hgfleet.proofs.commands.draw_nodes.Goals as goal

pub returns : goal.returns
returns g c =
    let d = c.in_ok-draw_named-2.ensures in
    let fleet = c.args.fleet.now in
    let nodes = c.args.nodes.now in
    let is_given = given_drawn fleet nodes (sym c.is_empty.ensures ∙ c.if-is_empty.false) in
    let lent = ap (λ (ns : List (Bor Text)). map (λ name. name.now) ns) c.deref-2.ensures.value in
    let names = lent ∙ c.in_ok-bytes_of.ensures ∙ is_given in (
      d.0,
      subst (λ (ns : List Text). AreShown fleet c.args.overview ns d.0) names d.1,
      d.2,
    )
