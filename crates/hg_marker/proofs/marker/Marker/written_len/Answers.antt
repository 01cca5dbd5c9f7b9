use Rattle.std.proofs.Common.{◌≡◌, ◌+◌, ◌*◌, length, ap, subst}
use Rattle.hg_marker.specs.Fields.{Fields}
use Rattle.hg_marker.specs.Grammar.{spelling}
use Rattle.hg_marker.proofs.WritingLemmas.{spelling_length}
use Rattle.hg_marker.proofs.marker.Marker.written_len.Goals as goal

pub returns-clause-len : goal.returns-clause-len
returns-clause-len c =
    let inside = c.self.inside in
    let m : Fields =
    record {
      predecessor = inside.predecessor;
      successors = inside.successors.items;
      flags =
          inside.flags;
      metadata = inside.metadata;
    } in
    subst (λ (x : Fields). 26 + 20 * length c.as_slice.result.now + length c.as_bytes.result.now ≡ length (spelling x))
    c.self.view_is
    (spelling_length m (length c.as_slice.result.now) (length c.as_bytes.result.now) c.self.invariant.0
    (ap length c.as_slice.ensures) (ap length c.as_bytes.ensures))
