use Rattle.std.proofs.Common.{[], ◌++◌}
use Rattle.std.proofs.KnownBytes.{Appends-trans, Appends-nil}
use Rattle.std.specs.Borrow.{Bor}
use Rattle.hg_log.specs.Drawings.{Text}
use Rattle.hgfleet.specs.Commands.{IsFateAt}
use Rattle.hgfleet.proofs.CommandLemmas.{next_piece, no_piece}
use Rattle.hgfleet.proofs.fates.write_each_fate.Goals as goal

abbrev text_of : Bor Text → Text
text_of name = name.now

pub loop-name-preserved : goal.loop-name-preserved
loop-name-preserved g c =
    let d = c.in_ok-write_fate_at.ensures in
    λ rest holds later grew. c.loop-name.invariant (d.0 ++ rest) holds
    (next_piece text_of (IsFateAt c.args.fleet.now c.args.label.now c.args.node) c.args.names.now
    c.loop-name.name-index _ d.0 rest c.loop-name-test.true d.1 later) (Appends-trans _ _ _ d.0 rest d.2 grew)

pub returns : goal.returns
returns g c =
    c.loop-name.invariant [] _
    (no_piece text_of (IsFateAt c.args.fleet.now c.args.label.now c.args.node) c.args.names.now
    c.loop-name.name-index c.loop-name-test.false)
    (Appends-nil _)
