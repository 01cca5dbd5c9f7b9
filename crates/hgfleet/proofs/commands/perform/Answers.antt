use Rattle.std.proofs.Common.{List, OnOk, String, subst, sym}
use Rattle.std.specs.declared.alloc.Global.{Global}
use Rattle.hg_why.specs.declared.remedy.Remedy.TheVariants.{ScriptLine}
use Rattle.hgfleet.specs.declared.arguments.Wanted.{Wanted}
use Rattle.hgfleet.specs.declared.drawing.Drawing.TheVariants.{Why}
use Rattle.hgfleet.specs.declared.commands.Overview.{Overview}
use Rattle.hgfleet.specs.declared.commands.Overview.TheVariants.{Each}
use Rattle.hgfleet.specs.Commands.{DrawsNodes, DrawsUpTo, DoesWanted, TellsFates}
use Rattle.hgfleet.proofs.commands.perform.Goals as goal

pub returns-in-Race-clause-done : goal.returns-in-Race-clause-done
returns-in-Race-clause-done g c =
    let known = g.R.Read.remaining c.args.reader.now in
    let held = g.W.Write.contents c.args.writer.now in
    let holds = g.W.Write.contents c.run_race.new.writer in
    let text = c.args.refusals.now.items in
    subst (λ (wanted : Wanted). DoesWanted wanted c.args.is_coloured known held holds text text) (sym c.in-Race.is)
    c.in_ok-run_race-in-Race.ensures.printed

pub returns-in-RunWithNotes-clause-done : goal.returns-in-RunWithNotes-clause-done
returns-in-RunWithNotes-clause-done g c =
    let known = g.R.Read.remaining c.args.reader.now in
    let held = g.W.Write.contents c.args.writer.now in
    let holds = g.W.Write.contents c.run_noted.new.writer in
    let text = c.args.refusals.now.items in
    subst (λ (wanted : Wanted). OnOk c.run_noted.result (DoesWanted wanted c.args.is_coloured known held holds text
    text))
    (sym c.in-RunWithNotes.is) c.run_noted.ensures.done

pub returns-in-Log-clause-done : goal.returns-in-Log-clause-done
returns-in-Log-clause-done g c =
    let known = g.R.Read.remaining c.args.reader.now in
    let held = g.W.Write.contents c.args.writer.now in
    let holds = g.W.Write.contents c.draw_up_to.new.writer in
    let before = c.args.refusals.now.items in
    let after = c.draw_up_to.new.refusals.items in
    let P : List (String Global) → Type 0 = λ nodes. OnOk c.draw_up_to.result
    (DrawsUpTo c.in-Log.line nodes c.overview_of-overview.result known held holds before after) in
    let Q : Overview → Type 0 = λ overview. OnOk c.draw_up_to.result
    (DrawsUpTo c.in-Log.line c.in-Log.nodes.items overview known held holds before after) in
    subst (λ (wanted : Wanted). OnOk c.draw_up_to.result (DoesWanted wanted c.args.is_coloured known held holds before
    after))
    (sym c.in-Log.is)
    (subst Q c.overview_of-overview.ensures (subst P c.deref.ensures.value c.draw_up_to.ensures.drawn))

pub returns-in-Why-clause-done : goal.returns-in-Why-clause-done
returns-in-Why-clause-done g c =
    let known = g.R.Read.remaining c.args.reader.now in
    let held = g.W.Write.contents c.args.writer.now in
    let holds = g.W.Write.contents c.draw_script.new.writer in
    let before = c.args.refusals.now.items in
    let after = c.draw_script.new.refusals.items in
    let P : List (String Global) → Type 0 = λ nodes. OnOk c.draw_script.result
    (DrawsNodes nodes (Each (Why ScriptLine)) known held holds before after) in
    subst (λ (wanted : Wanted). OnOk c.draw_script.result (DoesWanted wanted c.args.is_coloured known held holds before
    after))
    (sym c.in-Why.is) (subst P c.deref-in-Why.ensures.value c.draw_script.ensures.drawn)

pub returns-in-Fate-clause-done : goal.returns-in-Fate-clause-done
returns-in-Fate-clause-done g c =
    let known = g.R.Read.remaining c.args.reader.now in
    let held = g.W.Write.contents c.args.writer.now in
    let holds = g.W.Write.contents c.tell_fates.new.writer in
    let before = c.args.refusals.now.items in
    let after = c.tell_fates.new.refusals.items in
    let P : List (String Global) → Type 0 = λ labels. OnOk c.tell_fates.result
    (TellsFates labels known held holds before after) in
    subst (λ (wanted : Wanted). OnOk c.tell_fates.result (DoesWanted wanted c.args.is_coloured known held holds before
    after))
    (sym c.in-Fate.is) (subst P c.deref-in-Fate.ensures.value c.tell_fates.ensures.fates)
