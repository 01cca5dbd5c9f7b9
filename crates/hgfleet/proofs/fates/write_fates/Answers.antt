use Rattle.std.proofs.Common.{[], ◌++◌, ◌∙◌, List, ap, map, string_bytes, subst}
use Rattle.std.proofs.KnownBytes.{Appends-trans, Appends-nil}
use Rattle.std.specs.Borrow.{Bor}
use Rattle.hg_log.specs.Drawings.{Text}
use Rattle.hg_line.specs.Lines.{node_names}
use Rattle.hgfleet.specs.Commands.{AreFatesAt}
use Rattle.hgfleet.proofs.CommandLemmas.{next_piece, no_piece}
use Rattle.hgfleet.proofs.fates.write_fates.Goals as goal

pub loop-label-preserved : goal.loop-label-preserved
loop-label-preserved g c =
    let d = c.in_ok-write_fates_of.ensures in
    let fleet = c.args.fleet.now in
    let lent = ap (λ (ns : List (Bor Text)). map (λ name. name.now) ns) c.deref.ensures.value in
    let names = lent ∙ c.in_ok-names.ensures in
    let label = c.as_bytes.ensures.value in
    let at_all = subst (λ (ns : List Text). AreFatesAt fleet ns c.as_bytes.result.now d.0) names d.1 in
    let here = subst (λ (l : Text). AreFatesAt fleet (node_names fleet) l d.0) (label ∙ ap string_bytes c.label-item.is)
    at_all in
    λ rest holds later grew. c.loop-label.invariant (d.0 ++ rest) holds
    (next_piece string_bytes (AreFatesAt fleet (node_names fleet)) c.args.labels.now c.loop-label.label-index _ d.0
    rest c.loop-label-test.true here later) (Appends-trans _ _ _ d.0 rest d.2 grew)

pub returns : goal.returns
returns g c =
    c.loop-label.invariant [] _
    (no_piece string_bytes (AreFatesAt c.args.fleet.now (node_names c.args.fleet.now)) c.args.labels.now
    c.loop-label.label-index c.loop-label-test.false)
    (Appends-nil _)
