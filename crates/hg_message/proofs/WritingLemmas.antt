-- What is written of a message spells it.
use Rattle.std.proofs.Common.{◌≡◌, ℕ, ◌+◌, ◌<◌, List, [], ◌∷◌, ◌++◌, length, take, get_or, refl, sym, ap, ◌∙◌, inl, inr}
use Rattle.std.proofs.lemmas.List.{take_more, flat_map_more}
use Rattle.std.proofs.lemmas.List.Elements.{All-push, All-from_recursion, recursion_from_All}
use Rattle.std.specs.List.{flat_map, AllByRecursion}
use Rattle.hg_changeset.specs.Node.{null_node}
use Rattle.hg_changeset.specs.Contents.{Contents}
use Rattle.hg_changeset.specs.Changeset.{IsChangeset, IsNormal, changeset_of}
use Rattle.hg_changeset.proofs.NodeLemmas.{node_itself, node_apart, node_cases, same_not_less}
use Rattle.hg_marker.specs.Fields.{Fields}
use Rattle.hg_marker.specs.Grammar.{IsMarker, IsSpelling, spelling}
use Rattle.hg_marker.proofs.MarkerLemmas.{is_spelling}
use Rattle.hg_obsstore.specs.Spelling.{IsStoreSpelling, store_spelling}
use Rattle.hg_obsstore.proofs.FormatLemmas.{written_spells}
use Rattle.hg_message.specs.Value.{MessageValue, IsMessage}
use Rattle.hg_message.specs.Spelling.{InOrder, HasNode, IsRecord, IsBound, IsWritable, IsMessageSpelling}
use Rattle.hg_message.specs.Spelling.{head_spelling, record_spelling, bound_layout, message_spelling}

-- parents in normal form stay as they are
pub normal_again : (c : Contents) → IsNormal c.first c.second → c ≡ changeset_of c.first c.second c.text
normal_again c (inl e) = rw (node_itself c.second null_node e) refl
normal_again c (inr there) = elim (node_cases c.second null_node) [
  | inl e ↦ rw (node_itself c.second null_node e) refl
  | inr ne ↦ rw (node_apart c.second null_node ne, node_apart c.first null_node there.0, there.1) refl
]

-- and differ, or are both absent
pub normal_differ : (c : Contents) → IsNormal c.first c.second → c.first ≡ c.second → c.first ≡ null_node
normal_differ c (inl e) same = same ∙ e
normal_differ c (inr there) same = absurd (same_not_less c.first c.second same there.1)

record_spells : (c : Contents) → IsChangeset c → IsRecord c (record_spelling c)
record_spells c h = record {
  p = c.first;
  q = c.second;
  text = c.text;
  ids = (h.node, h.first, h.second);
  short = h.within;
  parents = normal_differ c h.normal;
  present = h.not_null;
  changeset = normal_again c h.normal;
  layout = refl;
}

each_spells : {A : Type 0} (S : A → List _ → Type 0) (f : A → List _) (P : A → Type 0) → ((x : A) → P x → S x (f x))
    → (xs : List A) → AllByRecursion P xs → InOrder S xs (flat_map f xs)
each_spells S f P one [] h = refl
each_spells S f P one (x ∷ xs) h = (f x, flat_map f xs, one x h.0, each_spells S f P one xs h.1, refl)

-- what is written spells the message
pub message_spells : (m : MessageValue) → IsMessage m → AllByRecursion IsChangeset m.changesets
    → AllByRecursion HasNode m.bounds → IsStoreSpelling m.markers (store_spelling m.markers)
    → IsMessageSpelling m (message_spelling m)
message_spells m few changesets bounds markers = record {
  head = head_spelling m.scope;
  records = flat_map record_spelling m.changesets;
  entries = flat_map bound_layout m.bounds;
  store = store_spelling m.markers;
  counts = (few.changesets, few.bounds, few.store);
  scope = inr refl;
  changesets = each_spells IsRecord record_spelling IsChangeset record_spells m.changesets changesets;
  bounds = each_spells IsBound bound_layout HasNode (λ bound id. (id.is_node, refl)) m.bounds bounds;
  markers = markers;
  layout = refl;
}

each_marker : (ms : List Fields) → AllByRecursion IsMarker ms → AllByRecursion (λ m. IsSpelling m (spelling m)) ms
each_marker [] h = tt
each_marker (m ∷ ms) h = (is_spelling m h.0, each_marker ms h.1)

pub writable_spells : (m : MessageValue) → IsWritable m → IsMessageSpelling m (message_spelling m)
writable_spells m h = message_spells m h.message h.changesets h.bounds
    (written_spells m.markers (each_marker m.markers h.markers))

-- ---- a loop that writes the bounds, one after the other

pub writes_on : {A : Type 0} (f : A → List ℕ) (xs : List A) (i : ℕ) (d : A) (before out next : List ℕ) → i < length xs
    → out ≡ before ++ flat_map f (take i xs) → next ≡ out ++ f (get_or xs i d)
    → next ≡ before ++ flat_map f (take (i + 1) xs)
writes_on f xs i d before out next lt so_far e =
    e ∙ ap (λ (bytes : List ℕ). bytes ++ f (get_or xs i d)) so_far
    ∙ flat_map_more f before (take i xs) (get_or xs i d) ∙ ap (λ (ys : List _). before ++ flat_map f ys)
    (sym (take_more xs i d lt))

pub AllByRecursion-push : {A : Type 0} (P : A → Type 0) (xs : List A) (x : A) → AllByRecursion P xs → P x
    → AllByRecursion P (xs ++ x ∷ [])
AllByRecursion-push P xs x each one = recursion_from_All P (xs ++ x ∷ [])
    (All-push P xs x (All-from_recursion P xs each) one)

pub each_goes_on : {A : Type 0} (P : A → Type 0) (xs : List A) (i : ℕ) (d : A) → i < length xs
    → AllByRecursion P (take i xs) → P (get_or xs i d) → AllByRecursion P (take (i + 1) xs)
each_goes_on P xs i d lt so_far one = rw (take_more xs i d lt)
    (AllByRecursion-push P (take i xs) (get_or xs i d) so_far one)
