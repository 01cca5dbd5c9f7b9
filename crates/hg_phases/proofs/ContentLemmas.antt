-- What doesn't depend on the order in which a state keeps its changesets.
use Rattle.std.proofs.Common.{◌≡◌, Bool, true, false, cond, List, [], ◌∷◌, Option, Some, None, find, Contains, inl, inr}
use Rattle.std.proofs.Common.{refl, sym, ap, subst, ◌∙◌, arith, true≢false}
use Rattle.std.proofs.lemmas.List.Elements.{Contains-append_right, Contains-append_cases}
use Rattle.std.proofs.lemmas.Option.{none-some, same_Some}
use Rattle.hg_changeset.specs.declared.node.Node.{Node}
use Rattle.hg_changeset.specs.Node.{node_eq}
use Rattle.hg_changeset.specs.Contents.{Contents}
use Rattle.hg_changeset.specs.Changeset.{node_of}
use Rattle.hg_changeset.proofs.NodeLemmas.{same_node, node_eq_laws}
use Rattle.hg_changeset.proofs.ListLemmas.{Contains-one}
use Rattle.hg_graph.specs.Graph.{IsGraph}
use Rattle.hg_phases.specs.declared.phase.Phase.{Phase}
use Rattle.hg_phases.specs.State.{State, Held, changesets}
use Rattle.hg_phases.specs.Order.{Below, IsSameState}
use Rattle.hg_phases.specs.Content.{content_of}
use Rattle.hg_phases.specs.Least.{PartValue, IsCandidate, IsLeast}
use Rattle.hg_phases.proofs.LeastLemmas.{same_held}
use Rattle.hg_phases.proofs.FormLemmas.{same_phase, changeset_above, least-along}

abbrev is_node : Node → Held → Bool
is_node n h = node_eq n (node_of h.changeset)

found_from : (n : Node) (hs : List Held) (h : Held) → find (is_node n) hs ≡ Some h
    → Contains hs h × (node_of h.changeset ≡ n)
found_from n [] h e = absurd (none-some h e)
found_from n (x ∷ hs) h e = by (is_node n x) refl (found_from n hs h)
  where
    by : (b : Bool) → is_node n x ≡ b → (find (is_node n) hs ≡ Some h → Contains hs h × (node_of h.changeset ≡ n))
        → Contains (x ∷ hs) h × (node_of h.changeset ≡ n)
    by true b_is later =
        let x_is : x ≡ h = same_Some x h (sym (λ t. cond (b_is t) (Some x) (find (is_node n) hs)) ∙ e) in (
          (0, omega arith, x_is),
          ap (λ y. node_of y.changeset) (sym x_is)
              ∙ sym (same_node n (node_of x.changeset) b_is),
        )
    by false b_is later =
        let r = later (sym (λ t. cond (b_is t) (Some x) (find (is_node n) hs)) ∙ e) in
        (Contains-append_right (x ∷ []) hs h r.0, r.1)

found_some : (n : Node) (hs : List Held) (h : Held) → Contains hs h → node_of h.changeset ≡ n
    → (g : Held) × (find (is_node n) hs ≡ Some g)
found_some n [] h at e = absurd (omega (arith, at.1))
found_some n (x ∷ hs) h at e = by (is_node n x) refl (found_some n hs h)
  where
    by : (b : Bool) → is_node n x ≡ b
        → (Contains hs h → node_of h.changeset ≡ n → (g : Held) × (find (is_node n) hs ≡ Some g))
        → (g : Held) × (find (is_node n) (x ∷ hs) ≡ Some g)
    by true b_is later = (x, λ t. cond (b_is t) (Some x) (find (is_node n) hs))
    by false b_is later = elim (Contains-append_cases (x ∷ []) hs h at) [
      | inl here ↦
          let x_is = Contains-one x h here in
          let n_is : n ≡ node_of x.changeset = sym e ∙ ap (λ y. node_of y.changeset) (sym x_is) in
          absurd (true≢false (sym (subst (λ m. node_eq n m ≡ true) n_is (node_eq_laws.refl n)) ∙ b_is))
      | inr rest ↦ let g = later rest e in (g.0, (λ t. cond (b_is t) (Some x) (find (is_node n) hs)) ∙ g.1)
    ]

-- what the content gives is held, and what is held it gives
pub held_in_content : (s : State) (n : Node) (h : Held) → content_of s n ≡ Some h
    → Contains s.held h × (node_of h.changeset ≡ n)
held_in_content s n h e = found_from n s.held h e

pub content-held : (s : State) → IsGraph (changesets s) → (n : Node) (h : Held) → Contains s.held h
    → node_of h.changeset ≡ n → content_of s n ≡ Some h
content-held s graph n h at e =
    let g = found_some n s.held h at e in
    let f = found_from n s.held g.0 g.1 in
    g.1 ∙ ap (λ x. Some x) (same_held s graph h g.0 at f.0 (e ∙ sym f.1))

-- below both ways, each holds what the other holds
pub held_moves : (s t : State) → IsGraph (changesets s) → IsSameState s t → (h : Held) → Contains s.held h
    → Contains t.held h
held_moves s t graph same h at = let g = same_phase t s graph (same.1, same.0) h at in subst (Contains t.held) g.2 g.1

module _ (s t : State) (s_graph : IsGraph (changesets s)) (t_graph : IsGraph (changesets t)) where
  pub content-same : IsSameState s t → content_of s ≡ content_of t
  content-same same = λ i n. at n (content_of s n) refl (content_of t n) refl i
    where
      at : (n : Node) (a : Option Held) → content_of s n ≡ a → (b : Option Held) → content_of t n ≡ b
          → content_of s n ≡ content_of t n
      at n None a_is None b_is = a_is ∙ sym b_is
      at n None a_is (Some g) b_is =
          let f = held_in_content t n g b_is in
          absurd (none-some g
          (sym a_is ∙ content-held s s_graph n g (held_moves t s t_graph (same.1, same.0) g f.0) f.1))
      at n (Some h) a_is b b_is =
          let f = held_in_content s n h a_is in
          a_is ∙ sym (content-held t t_graph n h (held_moves s t s_graph same h f.0) f.1)

  below_from_content : content_of s ≡ content_of t → Below s t
  below_from_content e h at =
      let n = node_of h.changeset in
      let f = held_in_content t n h ((λ i. sym e i n) ∙ content-held s s_graph n h at refl) in
      (h, f.0, refl, omega arith)

pub same_from_content : (s t : State) → IsGraph (changesets s) → IsGraph (changesets t) → content_of s ≡ content_of t
    → IsSameState s t
same_from_content s t s_graph t_graph e =
    (below_from_content s t s_graph t_graph e, below_from_content t s t_graph s_graph (sym e))

-- the least state doesn't depend on the order in which its parts or the state below it are kept
pub least-unordered : (s t u v : State) (ks : List PartValue) → IsGraph (changesets s) → IsGraph (changesets t)
    → IsGraph (changesets v) → IsSameState s t → IsSameState u v → IsLeast s ks u → IsLeast t ks v
least-unordered s t u v ks s_graph t_graph v_graph same_below same_above l =
    least-along t ks v u v_graph from_t same_above
  where
    move : (w : State) (c : Contents) (k : Phase) → IsCandidate s ks w c k → IsCandidate t ks w c k
    move w c k (inl top) = inl top
    move w c k (inr (inl old)) = inr (inl (old.0, held_moves s t s_graph same_below old.0 old.1, old.2, old.3))
    move w c k (inr (inr b)) = inr (inr b)

    back : (w : State) (c : Contents) (k : Phase) → IsCandidate t ks w c k → IsCandidate s ks w c k
    back w c k (inl top) = inl top
    back w c k (inr (inl old)) =
        inr (inl (old.0, held_moves t s t_graph (same_below.1, same_below.0) old.0 old.1, old.2, old.3))
    back w c k (inr (inr b)) = inr (inr b)

    from_t : IsLeast t ks u
    from_t = record {
      graph = l.graph;
      union = λ c. (
        λ at. elim ((l.union c).0 at) [ inl x ↦ inl (changeset_above s t same_below.0 c x) | inr p ↦ inr p ],
        λ h. elim h [
          | inl x ↦ (l.union c).1 (inl (changeset_above t s same_below.1 c x))
          | inr p ↦ (l.union c).1 (inr p)
        ],
      );
      bounded = l.bounded;
      phases = λ g
          at. (
            move u g.changeset g.phase (l.phases g at).0,
            λ j candidate. (l.phases g at).1 j (back u g.changeset j candidate),
          );
    }
