use Rattle.hg_log.specs.Objects.{WritesEntries, named}
use Rattle.hg_log.proofs.EntryLemmas.{AreEntriesAt}
use Rattle.hg_log.proofs.objects.draw_node.Given as goal

abbrev pub invariant-loop-place : goal.invariant-loop-place
invariant-loop-place g l =
    WritesEntries (AreEntriesAt (named l.node) l.shows_hidden l.place) l.initial.is_behind l.is_behind
    (g.W.Write.contents l.initial.writer) (g.W.Write.contents l.writer)
