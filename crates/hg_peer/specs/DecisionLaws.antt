-- The laws of what a peer decides.
use Rattle.std.specs.Prelude.{◌≡◌, Option, List, [], ◌∷◌, refl}
use Rattle.std.specs.Option.{option_map_or}
use Rattle.std.proofs.Common.{sym, ap, ◌∙◌, inl, inr}
use Rattle.hg_join.specs.Order.{IsDue}
use Rattle.hg_changeset.specs.declared.node.Node.{Node}
use Rattle.hg_changeset.specs.Node.{null_node}
use Rattle.hg_phases.specs.declared.phase.Phase.TheVariants.{Public}
use Rattle.hg_phases.specs.State.{State, Held}
use Rattle.hg_phases.specs.Content.{content_of as history_content}
use Rattle.hg_replica.specs.State.{ReplicaState, IsValid}
use Rattle.hg_replica.specs.Least.{PartValue}
use Rattle.hg_replica.specs.Content.{Content, content_of, IsValidContent}
use Rattle.hg_view.specs.Kept.{KeptValue}
use Rattle.hg_rewrite.specs.declared.op.Op.{Op}
use Rattle.hg_rewrite.specs.declared.op.Op.TheVariants.{Commit, Amend, Split, Fold, Prune, Relocate, Advance}
use Rattle.hg_rewrite.specs.declared.refusal.Refusal.{Refusal}
use Rattle.hg_rewrite.specs.Reading.{phase_in, parents_in}
use Rattle.hg_rewrite.specs.Parts.{parents_of_first, base, new_ids, last, bounds, metadata, part_of}
use Rattle.hg_rewrite.specs.Refusals.{Row, Applies, NoneApplies, IsFirstRefusal, refusals}
use Rattle.hg_rewrite.proofs.TableLemmas.{none_refused}
use Rattle.hg_peer.specs.declared.refusal.PeerRefusal.{PeerRefusal}
use Rattle.hg_peer.specs.declared.refusal.PeerRefusal.TheVariants.{Rewrite, Offer, Message, View, NoMemory}
use Rattle.hg_peer.specs.Marks.{own}
use Rattle.hg_peer.specs.Peers.{Decides, IsAgainstOperation, IsMemory}

-- ---- a part and a refusal exclude each other, and one of them is due

pub decided_not_refused : (s : KeptValue) (op : Op) (p : PartValue) (refusal : PeerRefusal) →
    IsValidContent (content_of s.replica) → Decides s op p → IsAgainstOperation s op refusal → ⊥
decided_not_refused s op p (Rewrite refusal) v h k = none_refused (refusals s.replica s.pins op) refusal h.1 k
decided_not_refused s op p (Offer refusal) v h k = k
decided_not_refused s op p (Message fault) v h k = k
decided_not_refused s op p (View refusal) v h k = k
decided_not_refused s op p NoMemory v h k = k

pub memory_not_against_operation : (s : KeptValue) (op : Op) (refusal : PeerRefusal) → IsMemory refusal →
    IsAgainstOperation s op refusal → ⊥
memory_not_against_operation s op (Rewrite refusal) h k = cc
memory_not_against_operation s op (Offer refusal) h k = k
memory_not_against_operation s op (Message fault) h k = k
memory_not_against_operation s op (View refusal) h k = k
memory_not_against_operation s op NoMemory h k = k

-- no row applies or one is the first
rows_due : (rows : List Row) → (NoneApplies rows → ⊥) → ((r : Refusal) → IsFirstRefusal rows r → ⊥) → ⊥
rows_due [] f g = f tt
rows_due (row ∷ rows) f g =
    let not : ¬ (Applies row) = λ a. g a.0 (inl a.1) in
    rows_due rows (λ none. f (not, none)) (λ r h. g r (inr (not, h)))

pub operation_due : (s : KeptValue) (op : Op) → IsValid s.replica → IsDue (Decides s op) (IsAgainstOperation s op)
operation_due s op v f g =
    rows_due (refusals s.replica s.pins op) (λ none. f (part_of s.replica op) (v, none, refl))
    (λ r h. g (Rewrite r) h)

-- ---- what is read of states with one content is one

module _ (s t : State) (e : history_content s ≡ history_content t) where
  phase_same : (n : Node) → phase_in s n ≡ phase_in t n
  unfolding phase_in
  phase_same n = ap (λ (f : Node → Option Held). option_map_or (λ (h : Held). h.phase) (f n) Public) e

  parents_same : (n : Node) → parents_in s n ≡ parents_in t n
  unfolding parents_in
  parents_same n =
      ap (λ (f : Node → Option Held). option_map_or (λ (h : Held). (h.changeset.first, h.changeset.second)) (f n)
      (null_node, null_node)) e

  first_same : (ns : List Node) → parents_of_first s ns ≡ parents_of_first t ns
  first_same [] = refl
  first_same (n ∷ ns) = parents_same n

  base_same : (op : Op) → base s op ≡ base t op
  base_same (Commit p q entry secret) = refl
  base_same (Amend node entry) = parents_same node
  base_same (Split node es) = parents_same node
  base_same (Fold nodes entry) = first_same nodes.items
  base_same (Prune node user secs offset) = refl
  base_same (Relocate node p q entry) = refl
  base_same (Advance node phase) = refl

  ids_same : (op : Op) → new_ids s op ≡ new_ids t op
  ids_same op = rw (base_same op) refl

  bounds_same : (op : Op) → bounds s op ≡ bounds t op
  bounds_same (Commit p q entry secret) = rw (ids_same (Commit p q entry secret), phase_same p, phase_same q) refl
  bounds_same (Amend node entry) = rw (ids_same (Amend node entry), phase_same node) refl
  bounds_same (Split node es) = rw (ids_same (Split node es), phase_same node) refl
  bounds_same (Fold nodes entry) = rw (ids_same (Fold nodes entry), phase_same (last nodes.items)) refl
  bounds_same (Prune node user secs offset) = refl
  bounds_same (Relocate node p q entry) =
      rw (ids_same (Relocate node p q entry), phase_same node, phase_same p, phase_same q) refl
  bounds_same (Advance node phase) = refl

  metadata_same : (op : Op) → metadata s op ≡ metadata t op
  metadata_same (Commit p q entry secret) = refl
  metadata_same (Amend node entry) = refl
  metadata_same (Split node es) = refl
  metadata_same (Fold nodes entry) = refl
  metadata_same (Prune node user secs offset) = rw (parents_same node) refl
  metadata_same (Relocate node p q entry) = refl
  metadata_same (Advance node phase) = refl

part_same : (s t : ReplicaState) → history_content s.history ≡ history_content t.history → (op : Op) →
    part_of s op ≡ part_of t op
unfolding part_of
part_same s t e op =
    rw (
      base_same s.history t.history e op,
      bounds_same s.history t.history e op,
      metadata_same s.history t.history e op,
    ) refl

-- the part follows the content alone, and the pins only tell whether there is one
pub decided_once : (s t : KeptValue) (op : Op) (p q : PartValue) → IsValidContent (content_of s.replica) →
    content_of s.replica ≡ content_of t.replica → own s ≡ own t → Decides s op p → Decides t op q → p ≡ q
decided_once s t op p q v e same h k =
    h.2 ∙ part_same s.replica t.replica (ap (λ (f : Content). f.0) e) op ∙ sym k.2
