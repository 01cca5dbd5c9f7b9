use Rattle.std.proofs.Common.{◌≡◌, ◌∷◌, [], List, length, get_or, sym, refl, ◌∙◌, arith}
use Rattle.std.specs.Cmp.{unsigned_Decides}
use Rattle.hg_changeset.specs.declared.node.Node.{Node}
use Rattle.hg_succ.proofs.families.has_one_successor.Goals as goal

one_element : {X : Type 0} (xs : List X) (d : X) → length xs ≡ 1 → xs ≡ get_or xs 0 d ∷ []
one_element [] d h = absurd (omega (arith, h))
one_element (x ∷ []) d h = refl
one_element (x ∷ y ∷ xs) d h = absurd (omega (arith, h))

pub returns : goal.returns
returns c one =
    let places = c.args.places.now in
    let successors = c.successors_at.result.now in
    let x : Node = get_or successors 0 (record { 0 = [] }) in
    let is : successors ≡ x ∷ [] = one_element successors (record { 0 = [] })
    ((unsigned_Decides (length successors) 1).0 one) in
    (x, (get_or places 0 0, one_element places 0 c.if-places-ne1.false, sym c.successors_at.ensures ∙ is))
