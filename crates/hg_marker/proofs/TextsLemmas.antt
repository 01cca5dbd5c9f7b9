-- The entries of a BTreeMap of byte strings, as a finite map.
use Rattle.std.proofs.Common.{◌≡◌, ℕ, Bool, true, false, List, [], ◌∷◌, map, refl, sym, ap, ◌∙◌, T, length}
use Rattle.std.specs.declared.cmp.Ordering.{Ordering}
use Rattle.std.specs.declared.cmp.Ordering.TheVariants.{Less, Equal, Greater}
use Rattle.std.specs.declared.vec.Vec.{Vec}
use Rattle.std.specs.declared.alloc.Global.{Global}
use Rattle.std.specs.BTreeMap.{insert_entry}
use Rattle.std.specs.Ordering.{match_ordering}
use Rattle.std.specs.FinMap.Entries.{by_order}
use Rattle.std.specs.FinMap.{put, is_sorted, from_sorted, insert, entries, entries-insert}
use Rattle.std.specs.FinMap.{entries-from_sorted, same_entries_map, empty, empty_of_len, len-entries}
use Rattle.std.specs.FinMap.Entries.{is_sorted-put}
use Rattle.std.proofs.lemmas.Cmp.{nat_list_cmp_total}
use Rattle.hg_marker.specs.Texts.{bytes_cmp, entry_bytes}

abbrev pub vec_cmp : Vec ℕ Global → Vec ℕ Global → Ordering
vec_cmp a b = bytes_cmp a.items b.items

pub to_true : (b : Bool) → T b → b ≡ true
to_true true h = refl
to_true false h = absurd h

pub from_true : (b : Bool) → b ≡ true → T b
from_true true h = tt
from_true false h = absurd cc

put_bytes : (es : List (Vec ℕ Global × Vec ℕ Global)) (k v : Vec ℕ Global)
    → entry_bytes (insert_entry vec_cmp es k v) ≡ put bytes_cmp k.items v.items (entry_bytes es)
put_bytes [] k v = refl
put_bytes (e ∷ es) k v =
    elim (bytes_cmp k.items e.0.items) as
    (λ r. map (λ (e : Vec ℕ Global × Vec ℕ Global). (e.0.items, e.1.items))
    (match_ordering r ((k, v) ∷ e ∷ es) ((e.0, v) ∷ es) (e ∷ insert_entry vec_cmp es k v))
    ≡ by_order r ((k.items, v.items) ∷ (e.0.items, e.1.items) ∷ entry_bytes es)
    ((e.0.items, v.items) ∷ entry_bytes es)
    ((e.0.items, e.1.items) ∷ put bytes_cmp k.items v.items (entry_bytes es))) [
      | Less ↦ refl
      | Equal ↦ refl
      | Greater ↦ ap (λ (r : List (List ℕ × List ℕ)). (e.0.items, e.1.items) ∷ r) (put_bytes es k v)
    ]

pub stays_sorted : (es fs : List (Vec ℕ Global × Vec ℕ Global)) (k v : Vec ℕ Global) → fs ≡ insert_entry vec_cmp es k v
    → is_sorted bytes_cmp (entry_bytes es) ≡ true → is_sorted bytes_cmp (entry_bytes fs) ≡ true
stays_sorted es fs k v e h =
    rw (e, put_bytes es k v)
    (to_true _ (is_sorted-put bytes_cmp nat_list_cmp_total k.items v.items (entry_bytes es) (from_true _ h)))

pub inserted : (es fs : List (Vec ℕ Global × Vec ℕ Global)) (k v : Vec ℕ Global) → fs ≡ insert_entry vec_cmp es k v
    → is_sorted bytes_cmp (entry_bytes es) ≡ true
    → from_sorted {R = bytes_cmp} (entry_bytes fs) ≡ insert (from_sorted {R = bytes_cmp} (entry_bytes es)) k.items
    v.items
inserted es fs k v e h =
    same_entries_map _ _ (entries-from_sorted bytes_cmp (entry_bytes fs) (from_true _ (stays_sorted es fs k v e h))
    ∙ ap entry_bytes e ∙ put_bytes es k v
    ∙ sym (entries-insert nat_list_cmp_total (from_sorted {R = bytes_cmp} (entry_bytes es)) k.items v.items
    ∙ ap (put bytes_cmp k.items v.items) (entries-from_sorted bytes_cmp (entry_bytes es) (from_true _ h))))

pub from_none : from_sorted {R = bytes_cmp} [] ≡ empty {K = List ℕ} {X = List ℕ} {R = bytes_cmp}
from_none = empty_of_len _ (len-entries _ ∙ ap length (entries-from_sorted bytes_cmp [] tt))

-- the entries of the texts that a map stands for
pub entries_of : (es : List (Vec ℕ Global × Vec ℕ Global)) → is_sorted bytes_cmp (entry_bytes es) ≡ true
    → entries (from_sorted {R = bytes_cmp} (entry_bytes es)) ≡ entry_bytes es
entries_of es h = entries-from_sorted bytes_cmp (entry_bytes es) (from_true _ h)
