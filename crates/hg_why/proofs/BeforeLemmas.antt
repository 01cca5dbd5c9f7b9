-- The walk back over markers.
use Rattle.std.proofs.Common.{◌≡◌, ℕ, ◌+◌, ◌<◌, ◌≤◌, List, [], length, take, get_or, Contains}
use Rattle.std.proofs.Common.{◌↔◌, inl, inr, refl, sym, subst, ◌∙◌, arith, map}
use Rattle.std.specs.List.{IsDistinct}
use Rattle.std.proofs.lemmas.List.{take_all, length-map}
use Rattle.std.proofs.lemmas.List.Elements.{Contains-get_or}
use Rattle.std.proofs.lemmas.Map.Made.{length-le_from_is_member}
use Rattle.std.proofs.lemmas.Map.Views.{Contains-from_any, list_any-from_Contains}
use Rattle.std.proofs.lemmas.Option.{same_Some}
use Rattle.hg_changeset.specs.declared.node.Node.{Node}
use Rattle.hg_changeset.specs.Node.{node_eq}
use Rattle.hg_changeset.proofs.ListLemmas.{Contains-map, Contains-none, Contains-taken}
use Rattle.hg_changeset.proofs.NodeLemmas.{same_node, node_eq_laws}
use Rattle.hg_graph.proofs.GraphLemmas.{Contains-from_place, place_from_Contains}
use Rattle.hg_marker.specs.Fields.{Fields}
use Rattle.hg_obsstore.specs.Markers.{ArePlaces}
use Rattle.hg_replica.specs.State.{ReplicaState}
use Rattle.hg_replica.specs.Content.{Content, content_of}
use Rattle.hg_replica.specs.Evolution.{Precedes}
use Rattle.hg_replica.specs.Evolution.Precedes.{step, further}
use Rattle.hg_replica.proofs.MarkerLemmas.{holds-from, in_from_holds}
use Rattle.hg_instab.specs.Walk.{Adds, IsOfOneAt}
use Rattle.hg_instab.proofs.PrecedeLemmas.{precedes-predecessor}
use Rattle.hg_instab.proofs.WalkLemmas.{front-kept}
use Rattle.hg_why.specs.declared.before.Steps.{Steps}
use Rattle.hg_why.specs.Before.{IsBack, IsOver, LeadsBackTo}

-- ---- one step back

pub back-all : (steps : Steps) (ms : List Fields) (places : List ℕ) (n p : Node)
    → ArePlaces (λ m. Contains m.successors n) ms places
    → IsBack steps ms n p ↔ IsOfOneAt (LeadsBackTo steps) ms places p
back-all steps ms places n p are = (
  λ h. let k = place_from_Contains ms h.0 h.1 in (k.0, (are.exact k.0).1 (h.0, k.1, h.2), h.0, k.1, h.3),
  λ h.
      let m = (are.exact h.0).0 h.1 in
      let same : m.0 ≡ h.2 = same_Some m.0 h.2 (sym m.1 ∙ h.3) in
      (h.2, Contains-from_place ms h.0 h.2 h.3, subst (λ x. Contains x.successors n) same m.2, h.4),
)

-- ---- the walk

precedes-trans : (f : Content) (Kind : Fields → Type 0) (p q n : Node) → Precedes f Kind p q → Precedes f Kind q n
    → Precedes f Kind p n
precedes-trans f Kind p q n far (step {m = m} held kind at is) =
    further held kind at (subst (Precedes f Kind p) (sym is) far)
precedes-trans f Kind p q n far (further {m = m} held kind at r) =
    further held kind at (precedes-trans f Kind p q m.predecessor far r)

-- how far the walk has come from n: from the first i of those that were found, all that a step back leads to was found
pub record IsWalkedBack (s : ReplicaState) (steps : Steps) (n : Node) (found : List Node) (i : ℕ) : Type 0 where
  pub sound : (p : Node) → Contains found p → Precedes (content_of s) (IsOver steps) p n
  pub begun : (p : Node) → IsBack steps s.markers n p → Contains found p
  pub closed : (q p : Node) → Contains (take i found) q → IsBack steps s.markers q p → Contains found p

module _ (s : ReplicaState) (steps : Steps) (n : Node) where
  back-precedes : (q p : Node) → IsBack steps s.markers q p → Precedes (content_of s) (IsOver steps) p q
  back-precedes q p back = step (holds-from s.markers back.0 back.1) back.3.0 back.2 back.3.1

  pub back-start : (old found : List Node) → old ≡ [] → Adds (IsBack steps s.markers n) old found
      → IsWalkedBack s steps n found 0
  back-start old found is a = record {
    sound = λ p h. elim ((a.members p).0 h) [
      | inl before ↦ absurd (Contains-none p (subst (λ xs. Contains xs p) is before))
      | inr back ↦ back-precedes n p back
    ];
    begun = λ p back. (a.members p).1 (inr back);
    closed = λ q p h back. absurd (Contains-none q h);
  }

  pub back-step : (found new : List Node) (i : ℕ) (x : Node) → i < length found → get_or found i x ≡ x
      → IsWalkedBack s steps n found i → Adds (IsBack steps s.markers x) found new
      → IsWalkedBack s steps n new (i + 1)
  back-step found new i x l at w a = record {
    sound = λ p h. elim ((a.members p).0 h) [
      | inl old ↦ w.sound p old
      | inr back ↦ precedes-trans (content_of s) (IsOver steps) p x n (back-precedes x p back)
          (w.sound x (subst (Contains found) at (Contains-get_or found i x l)))
    ];
    begun = λ p back. (a.members p).1 (inl (w.begun p back));
    closed = λ q p h back.
        let before : Contains (take (i + 1) found) q = subst (λ zs. Contains zs q)
        (front-kept found new (i + 1) a.kept (omega (arith, l))) h in
        (a.members p).1 (elim ((Contains-taken found i x q l at).0 before) [
          | inl old ↦ inl (w.closed q p old back)
          | inr e ↦ inr (subst (λ y. IsBack steps s.markers y p) (sym e) back)
        ]);
  }

  -- all that was found is the predecessor of a marker, so the walk ends
  pub back-within : (found : List Node) (i : ℕ) → IsWalkedBack s steps n found i → IsDistinct node_eq found
      → length found ≤ length s.markers
  back-within found i w distinct =
      let rewritten : List Node = map (λ (m : Fields). m.predecessor) s.markers in
      let few : length found ≤ length rewritten = length-le_from_is_member node_eq_laws found rewritten distinct
      (λ q e. list_any-from_Contains node_eq_laws q rewritten (named q (Contains-from_any same_node q found e))) in
      omega (arith, few, length-map s.markers (λ (m : Fields). m.predecessor))
    where
      named : (p : Node) → Contains found p → Contains (map (λ (m : Fields). m.predecessor) s.markers) p
      named p h =
          let m = precedes-predecessor (content_of s) (IsOver steps) p n (w.sound p h) in
          subst (Contains (map (λ (x : Fields). x.predecessor) s.markers)) m.2
          (Contains-map (λ (x : Fields). x.predecessor) s.markers m.0 (in_from_holds s.markers m.0 m.1))

  module _ (found : List Node) (i : ℕ) (w : IsWalkedBack s steps n found i) (ended : length found ≤ i) where
    closed-all : (q p : Node) → Contains found q → IsBack steps s.markers q p → Contains found p
    closed-all q p h back = w.closed q p (subst (λ zs. Contains zs q) (sym (take_all i found ended)) h) back

    from : (p q : Node) → Contains found q → Precedes (content_of s) (IsOver steps) p q → Contains found p
    from p q h (step {m = m} held kind at is) =
        closed-all q p h (m, in_from_holds s.markers m held, at, (kind, is))
    from p q h (further {m = m} held kind at r) =
        from p m.predecessor (closed-all q m.predecessor h (m, in_from_holds s.markers m held, at, (kind, refl))) r

    complete : (p : Node) → Precedes (content_of s) (IsOver steps) p n → Contains found p
    complete p (step {m = m} held kind at is) = w.begun p (m, in_from_holds s.markers m held, at, (kind, is))
    complete p (further {m = m} held kind at r) =
        from p m.predecessor (w.begun m.predecessor (m, in_from_holds s.markers m held, at, (kind, refl))) r

    pub back-end : (p : Node) → Contains found p ↔ Precedes (content_of s) (IsOver steps) p n
    back-end p = (w.sound p, complete p)
