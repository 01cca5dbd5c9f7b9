-- An entry with one extra more.
use Rattle.std.proofs.Common.{◌≡◌, ℕ, ℤ, true, false, List, [], ◌∷◌, length, map, Option, Some, inl, inr}
use Rattle.std.proofs.Common.{refl, sym, ap, subst, ◌∙◌, arith}
use Rattle.std.specs.Prelude.{◌==◌}
use Rattle.std.proofs.lemmas.Bool.{false≢true}
use Rattle.std.proofs.lemmas.Bool.Decides.{nat_tests}
use Rattle.std.specs.List.{AllZip, each_same}
use Rattle.std.specs.Vec.{vec_len}
use Rattle.std.specs.declared.cmp.Ordering.TheVariants.{Less, Equal, Greater}
use Rattle.std.specs.declared.vec.Vec.{Vec}
use Rattle.std.specs.declared.alloc.Global.{Global}
use Rattle.std.specs.BTreeMap.{insert_entry}
use Rattle.std.specs.Ordering.{match_ordering}
use Rattle.std.specs.FinMap.{put}
use Rattle.std.specs.FinMap.Entries.{by_order}
use Rattle.hex.specs.Hex.{encode_lower}
use Rattle.hg_changeset.specs.declared.node.Node.{Node}
use Rattle.hg_changeset.specs.EntryValue.{EntryValue, extra_bytes}
use Rattle.hg_changeset.specs.declared.entry.EntryError.{EntryError}
use Rattle.hg_changeset.specs.Noted.{also_noting, noting}
use Rattle.hg_changeset.specs.EntryAnswer.{is_bad_key}
use Rattle.hg_changeset.proofs.NotedLemmas.{fault_kept, fault_of_noted}
use Rattle.hg_marker.specs.Texts.{bytes_cmp}
use Rattle.hg_marker.proofs.TextsLemmas.{vec_cmp}
use Rattle.hg_rewrite.specs.declared.refusal.Refusal.{Refusal}
use Rattle.hg_rewrite.specs.declared.refusal.Refusal.TheVariants.{Fault}
use Rattle.hg_rewrite.specs.declared.refusal.Cause.TheVariants.{Entry}
use Rattle.hg_rewrite.specs.Parts.{with_extra}
use Rattle.hg_rewrite.specs.Refusals.{Row, Applies, NoneApplies, IsFirstRefusal, entry_refused}

put-extra : (es : List (Vec ℕ Global × Vec ℕ Global)) (k v : Vec ℕ Global)
    → extra_bytes (insert_entry vec_cmp es k v) ≡ put bytes_cmp k.items v.items (extra_bytes es)
put-extra [] k v = refl
put-extra (e ∷ es) k v =
    elim (bytes_cmp k.items e.0.items) as (λ r. map (λ (e : Vec ℕ Global × Vec ℕ Global). (e.0.items, e.1.items))
    (match_ordering r ((k, v) ∷ e ∷ es) ((e.0, v) ∷ es) (e ∷ insert_entry vec_cmp es k v)) ≡ by_order r
    ((k.items, v.items) ∷ (e.0.items, e.1.items) ∷ extra_bytes es) ((e.0.items, v.items) ∷ extra_bytes es)
    ((e.0.items, e.1.items) ∷ put bytes_cmp k.items v.items (extra_bytes es))) [
      | Less ↦ refl
      | Equal ↦ refl
      | Greater ↦ ap (λ (r : List (List ℕ × List ℕ)). (e.0.items, e.1.items) ∷ r) (put-extra es k v)
    ]

-- the extras, copied, with one put among them
abbrev pub IsCopy : Vec ℕ Global → Vec ℕ Global → Type 0
IsCopy x y = AllZip (λ a b. b ≡ a) x.items y.items × (vec_len y ≡ vec_len x)

-- copies of extras hold the same bytes
pub same_bytes : (es fs : List (Vec ℕ Global × Vec ℕ Global)) → AllZip (λ p q. IsCopy p.0 q.0 × IsCopy p.1 q.1) es fs
    → extra_bytes fs ≡ extra_bytes es
same_bytes [] [] h = refl
same_bytes [] (f ∷ fs) h = absurd h
same_bytes (e ∷ es) [] h = absurd h
same_bytes (e ∷ es) (f ∷ fs) h =
    let key : f.0.items ≡ e.0.items = each_same e.0.items f.0.items h.0.0.0 in
    let value : f.1.items ≡ e.1.items = each_same e.1.items f.1.items h.0.1.0 in
    λ i. (key i, value i) ∷ same_bytes es fs h.1 i

pub extra_put : (es copies fs : List (Vec ℕ Global × Vec ℕ Global)) (k v : Vec ℕ Global) (key value : List ℕ)
    → extra_bytes copies ≡ extra_bytes es → fs ≡ insert_entry vec_cmp copies k v → k.items ≡ key → v.items ≡ value
    → extra_bytes fs ≡ put bytes_cmp key value (extra_bytes es)
extra_put es copies fs k v key value same is key_is value_is =
    ap extra_bytes is ∙ put-extra copies k v ∙ (λ i. put bytes_cmp (key_is i) (value_is i) (same i))

pub noted_entry : (e : EntryValue) (key : List ℕ) (node : Node) (user : List ℕ) (secs offset : ℤ)
    (extra : List (List ℕ × List ℕ)) (desc : List ℕ) → user ≡ e.user → secs ≡ e.secs → offset ≡ e.offset
    → extra ≡ put bytes_cmp key (encode_lower node.0) e.extra → desc ≡ e.desc
    → record { user = user; secs = secs; offset = offset; extra = extra; desc = desc } ≡ with_extra key node e
noted_entry e key node user secs offset extra desc a b c d f i =
    record { user = a i; secs = b i; offset = c i; extra = d i; desc = f i }

-- without other extras it is the sole one
pub noted_alone : (key value : List ℕ) (e : EntryValue) → e.extra ≡ []
    → noting key value e ≡ also_noting key value e
noted_alone key value e none =
    ap (λ (extra : List (List ℕ × List ℕ)). record e { extra = put bytes_cmp key value extra }) (sym none)

pub none_counted : (xs : List (List ℕ × List ℕ)) → (length xs == 0) ≡ true → xs ≡ []
none_counted [] h = refl
none_counted (x ∷ xs) h =
    let some : (length (x ∷ xs) == 0) ≡ false = grind (arith, nat_tests) in
    absurd (false≢true (sym some ∙ h))

-- ---- what is noted among the extras mends no fault of the entry

-- an entry that is refused without what is noted is refused with it
pub refused_noted : (key : List ℕ) (node : Node) (e : EntryValue) (r : Refusal)
    → IsFirstRefusal (entry_refused e ∷ []) r → IsFirstRefusal (entry_refused (with_extra key node e) ∷ []) r
refused_noted key node e r (inl h) = inl (h.0, fault_kept key (encode_lower node.0) e h.0 h.1, h.2)
refused_noted key node e r (inr h) = absurd h.1

-- one that isn't refused with it isn't without
pub fine_unnoted : (key value : List ℕ) (e : EntryValue) → ¬ (Applies (entry_refused (also_noting key value e)))
    → ¬ (Applies (entry_refused e))
fine_unnoted key value e fine a = fine (a.0, (a.1.0, fault_kept key value e a.1.0 a.1.1, a.1.2))

-- ---- a source that is noted among the extras makes no fault either

-- the row of an entry with this fault
abbrev row_of : Option EntryError → Row
row_of fault r = (f : EntryError) × (fault ≡ Some f) × (r ≡ Fault (Entry f))

pub fine_noted : (key : List ℕ) → is_bad_key key ≡ false → (node : Node) (e : EntryValue)
    → NoneApplies (entry_refused e ∷ []) → NoneApplies (entry_refused (with_extra key node e) ∷ [])
fine_noted key good node e none =
    subst (λ (o : Option EntryError). NoneApplies (row_of o ∷ []))
    (sym (fault_of_noted key (encode_lower node.0) e good)) none
