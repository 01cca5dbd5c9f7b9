use Rattle.std.proofs.Common.{ap, ◌∙◌, arith}
use Rattle.std.specs.Int.{w32, w64}
use Rattle.std.specs.FinMap.{put}
use Rattle.hex.specs.Hex.{encode_lower}
use Rattle.hg_marker.specs.Texts.{bytes_cmp}
use Rattle.std.proofs.lemmas.Int.{to_z-of_z}
use Rattle.hg_rewrite.proofs.EntryLemmas.{extra_put, noted_entry, same_bytes}
use Rattle.hg_rewrite.proofs.changesets.with_extra.Goals as goal

pub returns : goal.returns
returns c =
    let e = c.args.entry.now in
    let old = c.entry.inside in
    noted_entry e c.args.key.now c.args.node _ _ _ _ _
    (c.in_ok-from_slice-3.ensures.items ∙ c.deref.ensures.value ∙ ap (λ v. v.user) c.entry.view_is)
    (to_z-of_z w64 c.date-secs.result.0 (record { sfits = omega (arith, c.date-secs.type_inv.1) })
    ∙ ap (λ p. p.0) c.date-secs.ensures)
    (to_z-of_z w32 c.date-secs.result.1 (record { sfits = omega (arith, c.date-secs.type_inv.1) })
    ∙ ap (λ p. p.1) c.date-secs.ensures)
    (extra_put old.extra.entries c.in_ok-extra.extra.entries c.insert.new.self.entries c.in_ok-from_slice.field-0
    c.in_ok-from_slice-2.field-0 c.args.key.now _
    (same_bytes old.extra.entries c.in_ok-extra.extra.entries c.in_ok-extra.ensures.cases)
    c.in_ok-insert.ensures.entries
    c.in_ok-from_slice.ensures.items
    (c.in_ok-from_slice-2.ensures.items ∙ c.to_hex.ensures.digits)
    ∙ ap (λ v. put bytes_cmp c.args.key.now (encode_lower c.args.node.0) v.extra) c.entry.view_is)
    (c.in_ok-from_slice-4.ensures.items ∙ c.deref-2.ensures.value ∙ ap (λ v. v.desc) c.entry.view_is)
