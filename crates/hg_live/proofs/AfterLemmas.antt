-- Entries taken in one after the other.
use Rattle.std.proofs.Common.{◌≡◌, ℕ, ◌+◌, List, [], ◌∷◌, ◌++◌, length, Ok, refl, sym, subst, ap, arith, length-append}
use Rattle.hg_replica.specs.State.{ReplicaState}
use Rattle.hg_replica.specs.Least.{PartValue, IsLeastOneByOne}
use Rattle.hg_replica.specs.Change.{ChangeValue}
use Rattle.hg_replica.specs.Answer.{AbsorbAnswer}
use Rattle.hg_view.specs.Kept.{KeptValue}
use Rattle.hg_peer.specs.declared.mark.Mark.{Mark as MarkValue}
use Rattle.hg_peer.specs.declared.mark.Mark.TheVariants.{Pin, Unpin}
use Rattle.hg_peer.specs.Marks.{Marks}
use Rattle.hg_live.specs.declared.entry.Entry.{Entry}
use Rattle.hg_live.specs.declared.entry.Entry.TheVariants.{Part, Mark}
use Rattle.hg_live.specs.After.{IsNext, IsAfter, parts_among}

pub after_none : (s : KeptValue) → IsAfter s [] s
unfolding IsAfter
after_none s = refl

-- one entry more
pub after_next : (s u t : KeptValue) (es : List Entry) (e : Entry) → IsAfter s es u → IsNext u e t →
    IsAfter s (es ++ e ∷ []) t
unfolding IsAfter
after_next s u t [] e h n = (t, subst (λ (v : KeptValue). IsNext v e t) h n, refl)
after_next s u t (d ∷ es) e h n = (h.0, h.1, after_next h.0 u t es e h.2 n)

-- a list that grew by it leads there
pub after_grown : (s u t : KeptValue) (es grown : List Entry) (e : Entry) → IsAfter s es u → IsNext u e t →
    grown ≡ es ++ e ∷ [] → IsAfter s grown t
after_grown s u t es grown e h n is = subst (λ (l : List Entry). IsAfter s l t) (sym is) (after_next s u t es e h n)

-- and has one entry more
pub counted_grown : (count more : ℕ) (es grown : List Entry) (e : Entry) → more ≡ count + 1 → count ≡ length es →
    grown ≡ es ++ e ∷ [] → more ≡ length grown
counted_grown count more es grown e one counted is =
    omega (arith, one, counted, ap length is, length-append es (e ∷ []))

-- a state to which these entries lead is so by equal ones
pub after_same : (s t u : KeptValue) (es ds : List Entry) → IsAfter s es t → es ≡ ds → t ≡ u → IsAfter s ds u
after_same s t u es ds h e f = subst (λ (l : List Entry). IsAfter s l u) e (subst (IsAfter s es) f h)

-- a part that was absorbed comes next
pub absorbed_next : (s t : KeptValue) (k : PartValue) (change : ChangeValue) →
    AbsorbAnswer s.replica k (Ok change) t.replica → t.pins ≡ s.pins → IsNext s (Part k) t
unfolding AbsorbAnswer
absorbed_next s t k change a pins = ((change, a), pins)

-- a mark leaves the replica
pub mark_stays : (s t : KeptValue) (m : MarkValue) → Marks s m t → t.replica ≡ s.replica
mark_stays s t (Pin n) h = h.0
mark_stays s t (Unpin n) h = h.0

-- what the parts among the entries lead to is the least state, part after part
pub after_least : (s t : KeptValue) (es : List Entry) → IsAfter s es t →
    IsLeastOneByOne s.replica (parts_among es) t.replica
unfolding IsAfter
after_least s t [] h = ap (λ (k : KeptValue). k.replica) h
after_least s t (Part k ∷ es) h = (h.0.replica, h.1.0.1.least, after_least h.0 t es h.2)
after_least s t (Mark m ∷ es) h =
    subst (λ (r : ReplicaState). IsLeastOneByOne r (parts_among es) t.replica) (mark_stays s h.0 m h.1)
    (after_least h.0 t es h.2)
