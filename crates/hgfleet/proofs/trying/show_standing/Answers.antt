use Rattle.std.proofs.Common.{List, ℕ, OnOk, subst, sym}
use Rattle.std.specs.Io.KnownBytes.{Appends}
use Rattle.hg_log.specs.Objects.{NodeState, named}
use Rattle.hg_why.specs.Blocks.{IsWhy}
use Rattle.hgfleet.specs.declared.try_arguments.Account.{Account}
use Rattle.hgfleet.specs.Trying.{IsShownOf}
use Rattle.hgfleet.proofs.trying.show_standing.Goals as goal

pub returns-in-Why : goal.returns-in-Why
returns-in-Why g c =
    let held = g.W.Write.contents c.args.writer.now in
    let holds = g.W.Write.contents c.draw-in-Why.new.writer in
    let drawn : OnOk c.draw-in-Why.result ((text : List ℕ)
    × IsWhy (named c.standing-node.result).0 (named c.standing-node.result).1 text × Appends held holds text) =
    c.draw-in-Why.ensures in
    let stands = subst (λ (n : NodeState). OnOk c.draw-in-Why.result ((text : List ℕ)
    × IsWhy n.0 n.1 text × Appends held holds text)) c.standing-node.ensures drawn in
    subst (λ (a : Account). OnOk c.draw-in-Why.result ((text : List ℕ)
    × IsShownOf a c.args.trial.now text × Appends held holds text)) (sym c.in-Why.is) stands
