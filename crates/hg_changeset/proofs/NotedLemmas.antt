-- An entry with one extra more: what is noted mends no fault of the entry, and makes none where its key is a good one.
use Rattle.std.proofs.Common.{◌≡◌, Bool, true, false, List, [], ◌∷◌, ℕ, Option, Some, None, refl, sym, ap, ◌∙◌}
use Rattle.std.specs.Prelude.{◌||◌, if◌then◌else◌}
use Rattle.std.proofs.lemmas.Bool.{false≢true, or_right}
use Rattle.std.proofs.lemmas.Option.{none-some}
use Rattle.std.specs.List.{list_any}
use Rattle.std.specs.Option.{option_or}
use Rattle.std.specs.Ordering.{nat_cmp}
use Rattle.std.specs.Cmp.Lexicographic.{slice_cmp}
use Rattle.std.specs.declared.cmp.Ordering.TheVariants.{Less, Equal, Greater}
use Rattle.std.specs.FinMap.{put, slice_cmp-IsAntisymmetric, nat_cmp-IsAntisymmetric}
use Rattle.std.specs.FinMap.Entries.{by_order}
use Rattle.hg_changeset.specs.declared.entry.EntryError.{EntryError}
use Rattle.hg_changeset.specs.declared.entry.EntryError.TheVariants.{BadExtraKey}
use Rattle.hg_changeset.specs.EntryValue.{EntryValue}
use Rattle.hg_changeset.specs.EntryText.{trimmed_user}
use Rattle.hg_changeset.specs.EntryAnswer.{is_bad_key, user_fault, entry_fault}
use Rattle.hg_changeset.specs.Noted.{also_noting}

abbrev bad : List ℕ × List ℕ → Bool
bad x = is_bad_key x.0

or_more : (b c d : Bool) → (c ≡ true → d ≡ true) → (b || c) ≡ true → (b || d) ≡ true
or_more true c d more h = refl
or_more false c d more h = more h

module _ (key value : List ℕ) where
  bad_kept : (es : List (List ℕ × List ℕ)) → list_any bad es ≡ true
      → list_any bad (put (slice_cmp nat_cmp) key value es) ≡ true
  bad_kept [] h = absurd (false≢true h)
  bad_kept (e ∷ es) h =
      elim (slice_cmp nat_cmp key e.0) as (λ r. list_any bad (by_order r ((key, value) ∷ e ∷ es) ((e.0, value) ∷ es)
      (e ∷ put (slice_cmp nat_cmp) key value es)) ≡ true) [
        | Less ↦ or_right (is_bad_key key) (list_any bad (e ∷ es)) h
        | Equal ↦ h
        | Greater ↦ or_more (is_bad_key e.0) (list_any bad es) (list_any bad (put (slice_cmp nat_cmp) key value es))
            (bad_kept es) h
      ]

  bad_of_put : is_bad_key key ≡ false → (es : List (List ℕ × List ℕ))
      → list_any bad (put (slice_cmp nat_cmp) key value es) ≡ list_any bad es
  bad_of_put good [] = rw good refl
  bad_of_put good (e ∷ es) =
      elim (slice_cmp nat_cmp key e.0) as (λ r. list_any bad (by_order r ((key, value) ∷ e ∷ es) ((e.0, value) ∷ es)
      (e ∷ put (slice_cmp nat_cmp) key value es)) ≡ list_any bad (e ∷ es)) [
        | Less ↦ rw good refl
        | Equal ↦ refl
        | Greater ↦ ap (λ (b : Bool). is_bad_key e.0 || b) (bad_of_put good es)
      ]

  bad_put : is_bad_key key ≡ true → (es : List (List ℕ × List ℕ))
      → list_any bad (put (slice_cmp nat_cmp) key value es) ≡ true
  bad_put is_bad [] = rw is_bad refl
  bad_put is_bad (e ∷ es) =
      elim (slice_cmp nat_cmp key e.0) as (λ r. slice_cmp nat_cmp key e.0 ≡ r → list_any bad (by_order r
      ((key, value) ∷ e ∷ es) ((e.0, value) ∷ es) (e ∷ put (slice_cmp nat_cmp) key value es)) ≡ true) [
        | Less ↦ λ l. rw is_bad refl
        | Equal ↦ λ q.
            let same : key ≡ e.0 = slice_cmp-IsAntisymmetric nat_cmp-IsAntisymmetric key e.0 q in
            rw (sym (ap is_bad_key same) ∙ is_bad) refl
        | Greater ↦ λ g. or_right (is_bad_key e.0) (list_any bad (put (slice_cmp nat_cmp) key value es))
            (bad_put is_bad es)
      ] refl

fault_of_either : (user : Option EntryError) (b c : Bool) (f : EntryError) → (b ≡ true → c ≡ true)
    → option_or user (if b then Some BadExtraKey else None) ≡ Some f
    → option_or user (if c then Some BadExtraKey else None) ≡ Some f
fault_of_either (Some u) b c f more h = h
fault_of_either None true c f more h = ap (λ (t : Bool). if t then Some BadExtraKey else None) (more refl) ∙ h
fault_of_either None false c f more h = absurd (none-some f h)

no_user_fault : (user : Option EntryError) (b c : Bool) → option_or user (if b then Some BadExtraKey else None) ≡ None
    → c ≡ true → option_or user (if c then Some BadExtraKey else None) ≡ Some BadExtraKey
no_user_fault (Some u) b c h is_bad = absurd (none-some u (sym h))
no_user_fault None b c h is_bad = ap (λ (t : Bool). if t then Some BadExtraKey else None) is_bad

module _ (key value : List ℕ) (e : EntryValue) where
  pub fault_kept : (f : EntryError) → entry_fault e ≡ Some f → entry_fault (also_noting key value e) ≡ Some f
  fault_kept f h =
      fault_of_either (user_fault (trimmed_user e.user)) (list_any bad e.extra)
      (list_any bad (put (slice_cmp nat_cmp) key value e.extra)) f (bad_kept key value e.extra) h

  pub fault_of_noted : is_bad_key key ≡ false → entry_fault (also_noting key value e) ≡ entry_fault e
  fault_of_noted good =
      ap (λ (b : Bool). option_or (user_fault (trimmed_user e.user)) (if b then Some BadExtraKey else None))
      (bad_of_put key value good e.extra)

  pub fault_of_key : entry_fault e ≡ None → is_bad_key key ≡ true
      → entry_fault (also_noting key value e) ≡ Some BadExtraKey
  fault_of_key fine is_bad =
      no_user_fault (user_fault (trimmed_user e.user)) (list_any bad e.extra)
      (list_any bad (put (slice_cmp nat_cmp) key value e.extra)) fine (bad_put key value is_bad e.extra)
