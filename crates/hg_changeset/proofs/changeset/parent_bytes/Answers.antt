use Rattle.std.proofs.Common.{◌≡◌, ◌++◌, ℕ, List, length, drop, refl, ap, ◌∙◌, arith}
use Rattle.std.proofs.lemmas.List.{append-nil, take_at, drop_at, drop_all}
use borrow.Rule.Slice.PartMut.{put_mid}
use Rattle.hg_changeset.proofs.changeset.parent_bytes.Goals as goal

-- writing the second half of what the first half began
halves : (xs ys zs : List ℕ) → length xs ≡ 20 → length zs ≡ 20 → put_mid 20 20 (xs ++ zs) ys ≡ xs ++ ys
halves xs ys zs first second =
    ap (λ front. front ++ (ys ++ drop 20 (drop 20 (xs ++ zs)))) (take_at xs zs 20 first)
    ∙ ap (λ rest. xs ++ (ys ++ rest)) (ap (drop 20) (drop_at xs zs 20 first) ∙ drop_all 20 zs (omega arith))
    ∙ ap (λ back. xs ++ back) (append-nil ys)

pub returns : goal.returns
returns c =
    rw (
      halves c.copy_from_slice.new.self c.copy_from_slice-2.new.self _ c.copy_from_slice.ensures.len refl,
      c.copy_from_slice.ensures.after,
      c.copy_from_slice-2.ensures.after,
      ap (λ pair. pair.0) c.in_order.ensures,
      ap (λ pair. pair.1) c.in_order.ensures,
    )
