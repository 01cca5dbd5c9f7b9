-- Tables after a change at one node.
use Rattle.std.proofs.Common.{◌≡◌, ◌≢◌, ◌∷◌, [], ◌∙◌, ⊎_elim, sym, ap, subst, ℕ, List}
use Rattle.std.proofs.Common.{Option, None, Some, refl, slice_get, zero, suc, false, Contains, arith, ◌↔◌}
use Rattle.std.proofs.Common.{is_some}
use Rattle.std.specs.Prelude.{IsSome, position}
use Rattle.std.specs.Option.{option_map}
use Rattle.std.specs.List.{IsDistinct}
use Rattle.std.specs.Map.{keys_of, values_of}
use Rattle.std.proofs.lemmas.Bool.{false≢true}
use Rattle.std.proofs.lemmas.Map.Views.{Contains-keys_from_lookup, IsSome-lookup_from_Contains}
use Rattle.indexmap.specs.IndexMap.{IndexMap, IsUnique, Updates, keys, values, with_value_at}
use Rattle.indexmap.proofs.CallerLemmas.{updates-with_value_at, keys-with_value_at}
use Rattle.std.proofs.lemmas.Option.{same_Some, none-some, slice_get-map}
use Rattle.hg_changeset.specs.declared.node.Node.{Node}
use Rattle.hg_changeset.proofs.NodeLemmas.{node_apart, node_cases, node_eq_laws, same_node}
use Rattle.hg_node_set.proofs.KeyLemmas.{held_at}
use Rattle.hg_changeset.specs.Node.{node_eq}
use Rattle.hg_obsstore.specs.declared.index.Role.{Role}
use Rattle.hg_obsstore.specs.declared.index.Roles.{Roles}
use Rattle.hg_obsstore.specs.Entries.{Table, ChangesPlaces, ChangesRole, SameRoles, ArePlaced, HasPlace, IsPlaced}
use Rattle.hg_obsstore.specs.Entries.{known}
use Rattle.hg_obsstore.specs.Entries.{found_as, listed_as, places_at}
use Rattle.hg_obsstore.specs.Index.{with_last}
use Rattle.hg_obsstore.proofs.PlaceLemmas.{with_last_below}

-- the entry at a place, by its node and by what is known of it
pub entry_at : (es : List (Node × Roles)) (i : ℕ) (k : Node) (v : Roles) → slice_get (keys_of es) i ≡ Some k
    → slice_get (values_of es) i ≡ Some v → slice_get es i ≡ Some (k, v)
entry_at [] i k v h g = absurd (none-some k h)
entry_at (e ∷ es) zero k v h g = λ j. Some (same_Some e.0 k h j, same_Some e.1 v g j)
entry_at (e ∷ es) (suc i) k v h g = entry_at es i k v h g

-- one node has w, and each other has what it had
pub record Sets (old new : Table) (node : Node) (w : Option Roles) : Type 0 where
  pub here : known new node ≡ w
  pub others : (q : Node) → node_eq node q ≡ false → known new q ≡ known old q

module _ (old new : Table) (node : Node) (w : Option Roles) (sets : Sets old new node w) where
  off : (q : Node) → q ≢ node → known new q ≡ known old q
  off q other = sets.others q (node_apart node q (λ e. other (sym e)))

  found_else : (role : Role) (q : Node) → q ≢ node → places_at new role q ≡ places_at old role q
  found_else role q other = ap (found_as role) (off q other)

  pub found_same : (role : Role) → found_as role w ≡ places_at old role node → places_at new role ≡ places_at old role
  found_same role same i q = ⊎_elim
      (λ (e : q ≡ node). rw e (ap (found_as role) sets.here ∙ same))
      (λ (other : q ≢ node). found_else role q other)
      (node_cases q node) i

  pub found_changed : (role : Role) (places : List ℕ) → found_as role w ≡ places
      → ((other : Role) → other ≢ role → found_as other w ≡ places_at old other node)
      → ChangesPlaces (places_at old) (places_at new) role node places
  found_changed role places is asides = record {
    here = ap (found_as role) sets.here ∙ is;
    others = found_else role;
    aside = λ other apart. found_same other (asides other apart);
  }

  pub placed : ArePlaced old → ((roles : Roles) → w ≡ Some roles → HasPlace roles) → ArePlaced new
  placed before now n roles at = ⊎_elim
      (λ (e : n ≡ node). now roles (sym sets.here ∙ ap (known new) (sym e) ∙ at))
      (λ (other : n ≢ node). before n roles (sym (off n other) ∙ at))
      (node_cases n node)

-- what has the places that it had has a place
pub place_kept : (old new : Roles) → SameRoles old new → HasPlace old → HasPlace new
place_kept old new same h = (h.0, h.1, subst (λ ps. Contains ps h.1) (sym (same h.0)) h.2)

-- what a node's entry becomes is told by what it was
pub changes : (old new : Table) (node : Node) (stood v : Roles) (w : Option Roles) → known old node ≡ Some stood
    → Sets old new node w → ((role : Role) → found_as role w ≡ listed_as role v) → (f : List ℕ → List ℕ) (role : Role)
    → ChangesRole role (f (listed_as role stood)) stood v → (t : Table) → old ≡ t
    → ChangesPlaces (places_at t) (places_at new) role node (f (places_at t role node))
changes old new node stood v w was set is f role change t e =
    subst (λ (t : Table). ChangesPlaces (places_at t) (places_at new) role node (f (places_at t role node))) e
    (found_changed old new node w set role (f (places_at old role node))
    (is role ∙ change.here ∙ ap (λ (o : Option Roles). f (found_as role o)) (sym was))
    (λ other apart. is other ∙ change.others other apart ∙ ap (found_as other) (sym was)))

-- and where there was none, it has the one place
pub starts : (old new : Table) (node : Node) (one : Roles) (place : ℕ) (role : Role) → known old node ≡ None
    → Sets old new node (Some one) → listed_as role one ≡ place ∷ []
    → ((other : Role) → other ≢ role → listed_as other one ≡ []) → (t : Table) → old ≡ t
    → ChangesPlaces (places_at t) (places_at new) role node (with_last (places_at t role node) place)
starts old new node one place role was set here others t e =
    subst (λ (t : Table). ChangesPlaces (places_at t) (places_at new) role node
    (with_last (places_at t role node) place)) e
    (found_changed old new node (Some one) set role (with_last (places_at old role node) place)
    (here ∙ sym (ap (λ (o : Option Roles). with_last (found_as role o) place) was
    ∙ with_last_below [] place (λ i h. absurd (omega (arith, h.1)))))
    (λ other apart. others other apart ∙ ap (found_as other) (sym was)))

-- nothing is known of a node that isn't found
pub unknown : (o : Option Roles) → false ≡ is_some o → o ≡ None
unknown None e = refl
unknown (Some roles) e = absurd (false≢true e)

-- a list that isn't empty has a first place
pub first_place : (xs : List ℕ) → (xs ≡ [] → ⊥) → (place : ℕ) × Contains xs place
first_place [] some = absurd (some refl)
first_place (x ∷ xs) some = (x, (0, omega arith, refl))

-- exactly the nodes of the entries have places, where each entry has one
pub named_placed : (t : Table) → ArePlaced t → (n : Node) → Contains (keys_of t.entries) n ↔ IsPlaced t n
named_placed t all n = (λ h. there (known t n) refl (IsSome-lookup_from_Contains node_eq_laws n t.entries h), back)
  where
    there : (o : Option Roles) → known t n ≡ o → IsSome o → IsPlaced t n
    there None e some = absurd (false≢true some)
    there (Some roles) e some = let p = all n roles e in
        (p.0, p.1, subst (λ (o : Option Roles). Contains (found_as p.0 o) p.1) (sym e) p.2)

    found : (o : Option Roles) (role : Role) (place : ℕ) → Contains (found_as role o) place → IsSome o
    found None role place h = absurd (omega (arith, h.1))
    found (Some roles) role place h = refl

    back : IsPlaced t n → Contains (keys_of t.entries) n
    back p = Contains-keys_from_lookup same_node n t.entries (found (known t n) p.0 p.1 p.2)

module _ {H : Type 0} (m : IndexMap Node Roles H) where
  -- a map that is updated at a node
  pub sets : (n : IndexMap Node Roles H) (node : Node) (w : Option Roles) → Updates node_eq m n node w
      → Sets (record { entries = m.entries }) (record { entries = n.entries }) node w
  sets n node w u = record { here = u.1; others = u.2 }

  module _ (number : ℕ) (node : Node) (unique : IsUnique node_eq m) (v : Roles) where
    pub unique_at : IsUnique node_eq (with_value_at m number v)
    unique_at = subst (IsDistinct node_eq) (sym (keys-with_value_at m number v)) unique

    module _ (at : position (node_eq node) (keys m) ≡ Some number) (stood : Roles)
        (there : slice_get (values m) number ≡ Some stood) where
      -- a map that is written at the number of a node
      pub sets_at : Sets (record { entries = m.entries }) (record { entries = (with_value_at m number v).entries })
          node (Some v)
      sets_at = sets (with_value_at m number v) node (Some v)
          (updates-with_value_at m number v node_eq_laws unique node stood
          (entry_at m.entries number node stood (held_at (keys m) node number at) there))

      -- and then loses what stands there
      removed : (n : IndexMap Node Roles H) → ((p : Node × Roles)
          → slice_get (with_value_at m number v).entries number ≡ Some p
          → Updates node_eq (with_value_at m number v) n p.0 None)
          → Updates node_eq (with_value_at m number v) n node None
      removed n u = by (slice_get (with_value_at m number v).entries number) refl
        where
          key : (o : Option (Node × Roles)) → slice_get (with_value_at m number v).entries number ≡ o
              → option_map (λ (e : Node × Roles). e.0) o ≡ Some node
          key o e = ap (option_map (λ (e : Node × Roles). e.0)) (sym e)
              ∙ sym (slice_get-map (λ (e : Node × Roles). e.0) (with_value_at m number v).entries number)
              ∙ ap (λ ks. slice_get ks number) (keys-with_value_at m number v) ∙ held_at (keys m) node number at

          by : (o : Option (Node × Roles)) → slice_get (with_value_at m number v).entries number ≡ o
              → Updates node_eq (with_value_at m number v) n node None
          by None e = absurd (none-some node (key None e))
          by (Some p) e = subst (λ k. Updates node_eq (with_value_at m number v) n k None)
              (same_Some p.0 node (key (Some p) e)) (u p e)

      pub sets_none : (n : IndexMap Node Roles H) → ((p : Node × Roles)
          → slice_get (with_value_at m number v).entries number ≡ Some p
          → Updates node_eq (with_value_at m number v) n p.0 None)
          → Sets (record { entries = m.entries }) (record { entries = n.entries }) node None
      sets_none n u = let gone = removed n u in
          record { here = gone.1; others = λ q other. gone.2 q other ∙ sets_at.others q other }

-- the entries of a map that was written at a node
module _ {H : Type 0} (m n : IndexMap Node Roles H) (node : Node) (v : Roles) (u : Updates node_eq m n node (Some v))
    (es : List (Node × Roles)) (is : es ≡ n.entries) where
  pub sets_written : Sets (record { entries = m.entries }) (record { entries = es }) node (Some v)
  sets_written =
      let old : Table = record { entries = m.entries } in
      subst (λ (ds : List (Node × Roles)). Sets old (record { entries = ds }) node (Some v)) (sym is)
      (sets m n node (Some v) u)

  pub written : IsUnique node_eq n → ArePlaced (record { entries = m.entries }) → HasPlace v
      → IsDistinct node_eq (keys_of es) × ArePlaced (record { entries = es })
  written unique before has = (
    subst (λ (ds : List (Node × Roles)). IsDistinct node_eq (keys_of ds)) (sym is) unique,
    placed (record { entries = m.entries }) (record { entries = es }) node (Some v) sets_written before
        (λ roles e. subst HasPlace (same_Some v roles e) has),
  )
