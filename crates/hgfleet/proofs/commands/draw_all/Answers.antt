use Rattle.std.proofs.Common.{[], ◌++◌, ◌∙◌, ap, subst, sym}
use Rattle.std.proofs.KnownBytes.{Appends-trans, Appends-nil}
use Rattle.std.specs.Io.KnownBytes.{Appends}
use Rattle.hg_log.specs.Drawings.{Text}
use Rattle.hgfleet.specs.Commands.{IsDrawn}
use Rattle.hgfleet.specs.Drawings.{gap_behind}
use Rattle.hgfleet.proofs.CommandLemmas.{next_drawn, none_drawn}
use Rattle.hgfleet.proofs.commands.draw_all.Goals as goal

pub loop-name-preserved : goal.loop-name-preserved
loop-name-preserved g c =
    let before = c.loop-name.drawn.items in
    let gap = gap_behind c.args.drawing before in
    let first = c.draw_node.new.text.items in
    let held = g.W.Write.contents c.loop-name.writer in
    let mid = g.W.Write.contents c.write_drawn.new.writer in
    let holds = g.W.Write.contents c.write_drawn-in-loop-name.new.writer in
    let d = c.in_ok-draw_node.ensures in
    let same = d.2 ∙ ap (λ (xs : Text). xs ++ d.0) c.clear.ensures.items in
    let parted = subst (λ (text : Text). Appends held mid text)
    (c.gap_behind.ensures ∙ ap (gap_behind c.args.drawing) c.deref.ensures.value) c.in_ok-write_drawn.ensures in
    let drawn = subst (λ (text : Text). Appends mid holds text) c.deref-in-loop-name.ensures.value
    c.in_ok-write_drawn-2.ensures in
    λ rest all later grew. c.loop-name.invariant (gap ++ (first ++ rest)) all
    (next_drawn c.args.fleet.now c.args.drawing before first rest c.args.names.now c.loop-name.name-index _
    c.loop-name-test.true (subst (IsDrawn c.args.fleet.now c.args.drawing _) (sym same) d.1) later)
    (Appends-trans held mid all gap (first ++ rest) parted (Appends-trans mid holds all first rest drawn grew))

pub returns : goal.returns
returns g c =
    c.loop-name.invariant [] _
    (none_drawn c.args.fleet.now c.args.drawing c.loop-name.drawn.items c.args.names.now c.loop-name.name-index
    c.loop-name-test.false)
    (Appends-nil _)
