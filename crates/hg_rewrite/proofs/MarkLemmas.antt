-- What the making of a marker tells.
use Rattle.std.proofs.Common.{◌≡◌, Bool, true, false, List, [], ◌∷◌, ℕ, Result, Ok, Err, inl, inr, refl, subst, sym}
use Rattle.std.proofs.Common.{◌<◌, ◌+◌, zero, suc, map, take, get_or, arith}
use Rattle.std.specs.Prelude.{nat_lt, length}
use Rattle.std.specs.List.{list_any}
use Rattle.std.specs.Bool.{if◌then◌else◌}
use Rattle.std.specs.FinMap.{entries}
use Rattle.hg_changeset.specs.Node.{node_eq, null_node}
use Rattle.hg_marker.specs.declared.error.MarkerError.{MarkerError}
use Rattle.hg_marker.specs.declared.error.MarkerError.TheVariants.{SelfSuccessor, NullSuccessor, BadKey, BadValue}
use Rattle.hg_marker.specs.declared.error.MarkerError.TheVariants.{TooManySuccessors, MetaTooLong}
use Rattle.hg_marker.specs.Metadata.{written}
use Rattle.hg_marker.specs.Limits.{metadata_limit, successor_limit}
use Rattle.hg_marker.specs.Fields.{Fields}
use Rattle.hg_marker.specs.Making.{marker_of, has_bad_key, has_bad_value}
use Rattle.hg_marker.specs.Reading.{Fails, IsRead}
use Rattle.hg_marker.specs.Texts.{Texts}
use Rattle.hg_marker.specs.declared.error.ReadError.{ReadError}
use Rattle.hg_marker.specs.declared.error.ReadError.TheVariants as marking
use Rattle.hg_changeset.specs.declared.node.Node.{Node}
use Rattle.hg_rewrite.specs.declared.refusal.Refusal.TheVariants.{Fault, NoMemory}
use Rattle.hg_rewrite.specs.declared.refusal.Cause.TheVariants.{Marker}
use Rattle.hg_rewrite.specs.Answer.{IsRefusal, mark_refusal}
use Rattle.hg_rewrite.specs.Parts.{marker}
use Rattle.hg_rewrite.proofs.RowLemmas.{none_more, first_next, none_mapped, first_mapped}
use Rattle.hg_rewrite.specs.Refusals.{Row, Applies, NoneApplies, marker_refused}

-- a marker that is made is the one of its fields
past : (b : Bool) (e : MarkerError) (n : Fields) (rest : Result Fields MarkerError)
    → (if b then Err e else rest) ≡ Ok n → rest ≡ Ok n
past true e n rest h = absurd (cc)
past false e n rest h = h

same_ok : (m n : Fields) → ◌≡◌ {A = Result Fields MarkerError} (Ok m) (Ok n) → n ≡ m
same_ok m n e = cc

pub made_is : (m n : Fields) → marker_of m ≡ Ok n → n ≡ m
made_is m n h =
    let past_self = past (list_any (node_eq m.predecessor) m.successors) SelfSuccessor n _ h in
    let past_null = past (list_any (node_eq null_node) m.successors) NullSuccessor n _ past_self in
    let past_keys = past (has_bad_key (entries m.metadata)) BadKey n _ past_null in
    let past_values = past (has_bad_value (entries m.metadata)) BadValue n _ past_keys in
    let past_count = past (nat_lt successor_limit (length m.successors)) TooManySuccessors n _ past_values in
    same_ok m n (past (nat_lt metadata_limit (length (written m.metadata))) MetaTooLong n (Ok m) past_count)

-- and isn't refused, nor is one for which memory is wanting
pub unrefused : (m : Fields) → IsRead (marker_of m) → ¬ (Applies (marker_refused m))
unrefused m read r = subst IsRead r.1.1 read

pub made_unrefused : (m n : Fields) → marker_of m ≡ Ok n → ¬ (Applies (marker_refused m))
made_unrefused m n h = unrefused m (subst IsRead (sym h) tt)

-- where some are looked at, the first is
pub first_alone : {X : Type 0} (f : X → Row) (xs : List X) (k : ℕ) → 0 < k → NoneApplies (map f (take k xs))
    → NoneApplies (map f (take 1 xs))
first_alone f [] k some h = tt
first_alone f (x ∷ xs) zero some h = absurd (omega (arith, some))
first_alone f (x ∷ xs) (suc k) some h = (h.0, tt)

-- one marker more is asked for
module _ (texts : Texts) (ids ns : List Node) (i : ℕ) (lt : i < length ns)
    (none : NoneApplies (map (λ n. marker_refused (marker texts ids n)) (take i ns))) where
  abbrev next : Fields
  next = marker texts ids (get_or ns i (record { 0 = [] }))

  pub mark_refused : (e : ReadError MarkerError) → Fails e (marker_of next)
      → IsRefusal (map marker_refused (map (marker texts ids) ns)) (mark_refusal e)
  mark_refused (marking.Fault f) told =
      inr (first_mapped marker_refused (marker texts ids) ns (Fault (Marker f))
      (first_next (λ n. marker_refused (marker texts ids n)) ns i (record { 0 = [] }) (Fault (Marker f)) lt none
      (f, told, refl)))
  mark_refused marking.NoMemory read = inl refl

  -- memory is wanting only where the first one isn't refused
  pub mark_wanting : (e : ReadError MarkerError) → Fails e (marker_of next) → mark_refusal e ≡ NoMemory
      → NoneApplies (map marker_refused (map (marker texts ids) (take 1 ns)))
  mark_wanting (marking.Fault f) told is = absurd cc
  mark_wanting marking.NoMemory read is =
      none_mapped marker_refused (marker texts ids) (take 1 ns)
      (first_alone (λ n. marker_refused (marker texts ids n)) ns (i + 1) (omega arith)
      (none_more (λ n. marker_refused (marker texts ids n)) ns i (record { 0 = [] }) lt none (unrefused next read)))
