use Rattle.std.proofs.Common.{◌≡◌, ◌≤◌, length, sym, ◌∙◌, arith, subst, rules}
use Rattle.hg_marker.specs.Source.{source_texts}
use Rattle.hg_marker.specs.Metadata.{written}
use Rattle.hg_marker.specs.Grammar.{IsMarker}
use Rattle.hg_marker.specs.Limits.{metadata_limit}
use Rattle.hg_marker.proofs.FormLemmas.{writable_from}
use Rattle.hg_marker.proofs.ReadLemmas.{tested_is_clean}
use Rattle.hg_marker.proofs.marker.Marker.of_source.Goals as goal
use Rattle.hg_marker.proofs.marker.Marker.of_source.Goals.{else-room-via-then-room+else-written_len}
use Rattle.hg_marker.proofs.marker.Marker.of_source.Goals.{else-room-via-else-room}

pub to_metadata-requires : goal.to_metadata-requires
to_metadata-requires c =
    writable_from _ (sym c.has_bad_key.ensures ∙ c.if-has_bad_key.false)
    (sym c.has_bad_value.ensures ∙ c.if-has_bad_value.false)

pub invariant_of-result : goal.invariant_of-result
invariant_of-result c =
    let nodes : c.args.successors.now ≡ c.in_ok-successors.successors.items = sym c.in_ok-successors.ensures.ok in
    let texts : source_texts c.args.source ≡ c.in_ok-metadata.metadata = sym c.in_ok-metadata.ensures in
    let short : length (written (source_texts c.args.source)) ≤ metadata_limit =
    elim c.else-room.branch [
      | else-room-via-then-room+else-written_len w ↦ omega (arith, w.written_len.ensures, w.if-written_len.false)
      | else-room-via-else-room w ↦ omega (arith, c.len_bound-room.ensures, w.if-room.false)
    ] in
    let marker = subst IsMarker (λ i. record {
      predecessor = c.args.predecessor;
      successors = nodes i;
      flags = c.args.flags;
      metadata = texts i;
    }) (record {
      fits = record {
        predecessor = (search rules, c.holds.ensures.bytes);
        successors = c.has_null.ensures.nodes c.if-has_null.false;
        present = sym c.has_null.ensures.null ∙ c.if-has_null.false;
        few = omega (arith, c.if-successors-gt-SUCCESSOR_LIMIT.false);
        flags = c.ranges.flags.fits;
      };
      clean = tested_is_clean _ (sym c.has_bad_key.ensures ∙ c.if-has_bad_key.false)
          (sym c.has_bad_value.ensures ∙ c.if-has_bad_value.false);
      short = short;
    }) in
    (marker, c.names_parents.ensures)
