use Rattle.std.proofs.Common.{List, ◌++◌, refl, subst}
use Rattle.std.proofs.KnownBytes.{Appends-trans}
use Rattle.hg_changeset.specs.declared.node.Node.{Node}
use Rattle.hg_changeset.specs.Contents.{Contents}
use Rattle.hg_marker.specs.Fields.{Fields}
use Rattle.hg_phases.specs.declared.phase.Phase.{Phase}
use Rattle.hg_show.specs.Printing.{AreLines, IsBoundText, IsChangesetText, IsMarkerText, heading_text, line_of}
use Rattle.hg_show.proofs.message.print_message.Goals as goal

pub returns-clause-printed : goal.returns-clause-printed
returns-clause-printed g c =
    let heading = line_of (heading_text c.args.message.now) in
    let first = c.in_ok-print_heading.ensures.printed in
    let cs = c.in_ok-print_changesets.ensures.printed in
    let bs = c.in_ok-print_bounds.ensures.printed in
    let ms = c.in_ok-print_markers.ensures.printed in (
      heading ++ (cs.0 ++ (bs.0 ++ ms.0)),
      record {
        changesets = cs.0;
        bounds = bs.0;
        markers = ms.0;
        of_changesets = subst (λ (xs : List Contents). AreLines IsChangesetText xs cs.0) c.changesets.ensures.changesets
            cs.1;
        of_bounds = subst (λ (xs : List (Node × Phase)). AreLines IsBoundText xs bs.0) c.bounds.ensures bs.1;
        of_markers = subst (λ (xs : List Fields). AreLines IsMarkerText xs ms.0) c.markers.ensures ms.1;
        all = refl;
      },
      Appends-trans _ _ _ heading (cs.0 ++ (bs.0 ++ ms.0)) first
          (Appends-trans _ _ _ cs.0 (bs.0 ++ ms.0) cs.2 (Appends-trans _ _ _ bs.0 ms.0 bs.2 ms.2)),
    )
