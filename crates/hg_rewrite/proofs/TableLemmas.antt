-- What each row of the table tells: one refusal at most, which isn't want of memory.
use Rattle.std.proofs.Common.{◌≡◌, inl, inr, List, [], ◌∷◌, ◌++◌, map, Option, Some, sym, ap, ◌∙◌}
use Rattle.std.proofs.lemmas.Option.{same_Some}
use Rattle.hg_changeset.specs.declared.node.Node.{Node}
use Rattle.hg_changeset.specs.EntryValue.{EntryValue}
use Rattle.hg_changeset.specs.EntryText.{trimmed_user}
use Rattle.hg_changeset.specs.EntryAnswer.{entry_fault, user_fault}
use Rattle.hg_changeset.specs.Changeset.{changeset_fault}
use Rattle.hg_phases.specs.State.{State}
use Rattle.hg_marker.specs.Fields.{Fields}
use Rattle.hg_replica.specs.State.{ReplicaState}
use Rattle.hg_rewrite.specs.declared.op.Op.{Op}
use Rattle.hg_rewrite.specs.declared.refusal.Refusal.{Refusal}
use Rattle.hg_rewrite.specs.declared.refusal.Refusal.TheVariants.{Unknown, Hidden, Public, AlreadyObsolete, NotLinear}
use Rattle.hg_rewrite.specs.declared.refusal.Refusal.TheVariants.{Count, Raise, Fault, Exists, NoMemory}
use Rattle.hg_rewrite.specs.declared.refusal.Cause.{Cause}
use Rattle.hg_rewrite.specs.declared.refusal.Cause.TheVariants.{Entry, Changeset, Marker}
use Rattle.hg_rewrite.specs.Parts.{NewChangeset, entries, new_changesets, new_ids, markers, rewritten}
use Rattle.hg_rewrite.specs.Refusals.{Row, NoneApplies, IsFirstRefusal, where_so, unknown, unknown_parent}
use Rattle.hg_rewrite.specs.Refusals.{unknown_nodes}
use Rattle.hg_rewrite.specs.Refusals.{targets, new_parents, hidden, hidden_parents, is_public, public_nodes}
use Rattle.hg_rewrite.specs.Refusals.{is_obsolete}
use Rattle.hg_rewrite.specs.Refusals.{obsolete_nodes, not_linear, wrong_count, raise, entry_refused, changeset_refused}
use Rattle.hg_rewrite.specs.Refusals.{user_refused, marker_refused, users, bad_users, not_written, unwritten}
use Rattle.hg_rewrite.specs.Refusals.{not_marked}
use Rattle.hg_rewrite.specs.Refusals.{existing, existing_ids, refusals}

-- the row tells one refusal at most, and never want of memory
pub record IsTelling (row : Row) : Type 0 where
  pub one : (r other : Refusal) → row r → row other → r ≡ other
  pub fault : row NoMemory → ⊥

abbrev pub AreTelling : List Row → Type 0
AreTelling [] = Unit {0}
AreTelling (row ∷ rows) = IsTelling row × AreTelling rows

-- ---- what follows for the first refusal

pub first_is_one : (rows : List Row) (r other : Refusal) → AreTelling rows → IsFirstRefusal rows r
    → IsFirstRefusal rows other → r ≡ other
first_is_one [] r other t h k = absurd h
first_is_one (row ∷ rows) r other t (inl h) (inl k) = t.0.one r other h k
first_is_one (row ∷ rows) r other t (inl h) (inr k) = absurd (k.0 (r, h))
first_is_one (row ∷ rows) r other t (inr h) (inl k) = absurd (h.0 (other, k))
first_is_one (row ∷ rows) r other t (inr h) (inr k) = first_is_one rows r other t.1 h.1 k.1

pub none_refused : (rows : List Row) (r : Refusal) → NoneApplies rows → IsFirstRefusal rows r → ⊥
none_refused [] r none h = h
none_refused (row ∷ rows) r none (inl h) = none.0 (r, h)
none_refused (row ∷ rows) r none (inr h) = none_refused rows r none.1 h.1

pub no_memory : (rows : List Row) → AreTelling rows → IsFirstRefusal rows NoMemory → ⊥
no_memory [] t h = h
no_memory (row ∷ rows) t (inl h) = t.0.fault h
no_memory (row ∷ rows) t (inr h) = no_memory rows t.1 h.1

-- ---- rows of the table

where_so_tells : (P : Type 0) (refusal : Refusal) → (NoMemory ≡ refusal → ⊥) → IsTelling (where_so P refusal)
where_so_tells P refusal not = record { one = λ r other h k. h.1 ∙ sym k.1; fault = λ h. not h.1 }

fault_tells : {F : Type 0} (told : Option F) (cause : F → Cause)
    → IsTelling (λ r. (f : F) × (told ≡ Some f) × (r ≡ Fault (cause f)))
fault_tells told cause = record {
  one = λ r other h k. h.2 ∙ ap (λ f. Fault (cause f)) (same_Some h.0 k.0 (sym h.1 ∙ k.1)) ∙ sym k.2;
  fault = λ h. let e = h.2 in cc;
}

marker_tells : (m : Fields) → IsTelling (marker_refused m)
marker_tells m = record {
  one = λ r other h k. let a = h.1 in let b = k.1 in let e : h.0 ≡ k.0 = cc in h.2 ∙ ap (λ f. Fault (Marker f)) e
      ∙ sym k.2;
  fault = λ h. let e = h.2 in cc;
}

mapped : {X : Type 0} (row : X → Row) → ((x : X) → IsTelling (row x)) → (xs : List X) → AreTelling (map row xs)
mapped row each [] = tt
mapped row each (x ∷ xs) = (each x, mapped row each xs)

both : (xs ys : List Row) → AreTelling xs → AreTelling ys → AreTelling (xs ++ ys)
both [] ys t u = u
both (x ∷ xs) ys t u = (t.0, both xs ys t.1 u)

existing_tells : (s : State) (ns : List Node) → AreTelling (existing s ns)
existing_tells s [] = tt
existing_tells s (n ∷ ns) = (where_so_tells _ (Exists n) (λ e. cc), existing_tells s ns)

pub entries_tell : (es : List EntryValue) → AreTelling (map entry_refused es)
entries_tell es = mapped entry_refused (λ e. fault_tells (entry_fault e) Entry) es

pub written_tell : (es : List EntryValue) (new : List NewChangeset) → AreTelling (unwritten es new)
written_tell es new =
    both (map entry_refused es) (map changeset_refused new) (entries_tell es)
    (mapped changeset_refused (λ n. fault_tells (changeset_fault n.p n.q n.text) Changeset) new)

pub users_tell : (op : Op) → AreTelling (bad_users op)
users_tell op = mapped user_refused (λ user. fault_tells (user_fault (trimmed_user user)) Entry) (users op)

module _ (s : ReplicaState) (op : Op) where
  pub unknown_tells : AreTelling (unknown_nodes s op)
  unknown_tells =
      both (map (unknown s.history) (targets op)) (map (unknown_parent s.history) (new_parents op))
      (mapped (unknown s.history) (λ n. where_so_tells _ (Unknown n) (λ e. cc)) (targets op))
      (mapped (unknown_parent s.history) (λ n. where_so_tells _ (Unknown n) (λ e. cc)) (new_parents op))

  hidden_tells : (pins : List Node) → AreTelling (hidden_parents s pins op)
  hidden_tells pins = mapped (hidden s pins) (λ n. where_so_tells _ (Hidden n) (λ e. cc)) (new_parents op)

  pub public_tells : AreTelling (public_nodes s op)
  public_tells = mapped (is_public s.history) (λ n. where_so_tells _ (Public n) (λ e. cc)) (rewritten op)

  pub obsolete_tells : AreTelling (obsolete_nodes s op)
  obsolete_tells = mapped (is_obsolete s) (λ n. where_so_tells _ (AlreadyObsolete n) (λ e. cc)) (rewritten op)

  not_linear_tells : AreTelling (not_linear s op)
  not_linear_tells = (where_so_tells _ NotLinear (λ e. cc), tt)

  pub count_tells : AreTelling (wrong_count op)
  count_tells = (where_so_tells _ Count (λ e. cc), tt)

  pub raise_tells : AreTelling (raise s op)
  raise_tells = (where_so_tells _ Raise (λ e. cc), tt)

  unwritten_tells : AreTelling (not_written s op)
  unwritten_tells = written_tell (entries op) (new_changesets s.history op)

  unmarked_tells : AreTelling (not_marked s op)
  unmarked_tells =
      both (bad_users op) (map marker_refused (markers s.history op))
      (users_tell op)
      (mapped marker_refused marker_tells (markers s.history op))

  existing_ids_tells : AreTelling (existing_ids s op)
  existing_ids_tells = existing_tells s.history (new_ids s.history op)

  pub table_tells : (pins : List Node) → AreTelling (refusals s pins op)
  unfolding refusals
  table_tells pins =
      both (unknown_nodes s op) _ unknown_tells
      (both (hidden_parents s pins op) _ (hidden_tells pins)
      (both (public_nodes s op) _ public_tells
      (both (obsolete_nodes s op) _ obsolete_tells (
        not_linear_tells.0,
        (
          count_tells.0,
          (
            raise_tells.0,
            both (not_written s op) _ unwritten_tells (both (not_marked s op)
                (existing_ids s op) unmarked_tells existing_ids_tells),
          ),
        ),
      ))))
