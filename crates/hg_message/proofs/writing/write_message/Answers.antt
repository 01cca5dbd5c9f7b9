use Rattle.std.proofs.Common.{arith, ◌≡◌, sym, subst}
use Rattle.std.proofs.lemmas.Grind.{common_steps}
use Rattle.hg_message.specs.Value.{MessageValue}
use Rattle.hg_message.specs.Spelling.{IsMessageSpelling, message_spelling}
use Rattle.hg_message.proofs.WritingLemmas.{message_spells}
use Rattle.hg_message.proofs.writing.write_message.Goals as goal

pub returns-clause-spells : goal.returns-clause-spells
returns-clause-spells c =
    let m : MessageValue = record {
      scope = c.args.scope;
      changesets = c.args.changesets.now;
      bounds = c.args.bounds.now;
      markers = c.args.markers.now;
    } in
    let written : c.write_markers.new.out.items ≡ message_spelling m = grind (arith, common_steps) in
    subst (IsMessageSpelling m) (sym written)
    (message_spells m c.requires c.in_ok-write_records.ensures.changesets
    c.in_ok-write_bounds_and_len.ensures.nodes c.markers_len.ensures.spells)
