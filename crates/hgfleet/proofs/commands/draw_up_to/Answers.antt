use Rattle.std.proofs.Common.{ℕ, IfErr, OnOk, Option, subst, sym}
use Rattle.hgfleet.specs.Commands.{DrawsUpTo, EndsUpTo}
use Rattle.hgfleet.proofs.commands.draw_up_to.Goals as goal

pub returns-in-Some-clause-drawn : goal.returns-in-Some-clause-drawn
returns-in-Some-clause-drawn g c =
    let known = g.R.Read.remaining c.args.reader.now in
    let held = g.W.Write.contents c.args.writer.now in
    let holds = g.W.Write.contents c.draw_front.new.writer in
    subst (λ (line : Option ℕ). OnOk c.draw_front.result (DrawsUpTo line c.args.nodes.now c.args.overview known held
    holds c.args.refusals.now.items c.draw_front.new.refusals.items)) (sym c.in-Some.is) c.draw_front.ensures.drawn

pub returns-in-Some-clause-failed : goal.returns-in-Some-clause-failed
returns-in-Some-clause-failed g c =
    let known = g.R.Read.remaining c.args.reader.now in
    let held = g.W.Write.contents c.args.writer.now in
    let holds = g.W.Write.contents c.draw_front.new.writer in
    subst (λ (line : Option ℕ). IfErr c.draw_front.result (EndsUpTo line c.args.nodes.now known held holds
    c.args.refusals.now.items c.draw_front.new.refusals.items)) (sym c.in-Some.is) c.draw_front.ensures.failed

pub returns-in-None-clause-drawn : goal.returns-in-None-clause-drawn
returns-in-None-clause-drawn g c =
    let known = g.R.Read.remaining c.args.reader.now in
    let held = g.W.Write.contents c.args.writer.now in
    let holds = g.W.Write.contents c.draw_script.new.writer in
    subst (λ (line : Option ℕ). OnOk c.draw_script.result (DrawsUpTo line c.args.nodes.now c.args.overview known held
    holds c.args.refusals.now.items c.draw_script.new.refusals.items)) (sym c.in-None.is) c.draw_script.ensures.drawn

pub returns-in-None-clause-failed : goal.returns-in-None-clause-failed
returns-in-None-clause-failed g c =
    let known = g.R.Read.remaining c.args.reader.now in
    let held = g.W.Write.contents c.args.writer.now in
    let holds = g.W.Write.contents c.draw_script.new.writer in
    subst (λ (line : Option ℕ). IfErr c.draw_script.result (EndsUpTo line c.args.nodes.now known held holds
    c.args.refusals.now.items c.draw_script.new.refusals.items)) (sym c.in-None.is) c.draw_script.ensures.failed
