use Rattle.std.proofs.Common.{◌++◌, length, ap, ◌∙◌, arith}
use Rattle.std.proofs.lemmas.List.{length-append}
use Rattle.hg_marker.specs.Grammar.{ids}
use Rattle.hg_marker.specs.Metadata.{written}
use Rattle.hg_marker.proofs.format.push_marker.Goals as goal

pub unwrap-requires-5 : goal.unwrap-requires-5
unwrap-requires-5 c =
    let m = c.args.marker.now in
    c.extend_from_slice-2.ensures.succeeds (omega (
      arith,
      c.requires.room,
      ap length (c.as_bytes-2.ensures ∙ ap written c.meta-2.ensures),
      length-append m.predecessor.0 (ids m.successors),
      length-append (m.predecessor.0 ++ ids m.successors) (written m.metadata),
      c.push.ensures.capacity,
      c.write_number.ensures.capacity,
      c.push-2.ensures.capacity,
      c.extend_from_slice.ensures.capacity,
      c.push_ids.ensures.capacity,
      rw c.unwrap.ensures at c.push.ensures.len,
      c.push.new.self.ok.0,
      ap length (rw c.unwrap-2.ensures at c.write_number.ensures.ok) ∙ length-append c.push.new.self.items _,
      c.write_number.new.out.ok.0,
      rw c.unwrap-3.ensures at c.push-2.ensures.len,
      rw c.unwrap-4.ensures at c.extend_from_slice.ensures.len,
      ap (λ node. length node.0) c.predecessor-predecessor.ensures.predecessor,
      c.extend_from_slice.new.self.ok.0,
      ap length c.push_ids.ensures.written ∙ length-append c.extend_from_slice.new.self.items _,
      ap (λ nodes. length (ids nodes)) c.successors-2.ensures,
      c.push_ids.new.out.ok.0,
    ))
