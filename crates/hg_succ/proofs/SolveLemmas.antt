-- The sets of a node from those of its successors.
use Rattle.std.proofs.Common.{max, zero-add, ◌*◌, ◌-◌, ◌≡◌, ℕ, ◌<◌, ◌≤◌, List, [], ◌∷◌, ◌++◌, length, map, sum}
use Rattle.std.proofs.Common.{Contains}
use Rattle.std.proofs.Common.{Vec, Global, ◌⊎◌, ◌↔◌, inl, inr, refl, sym, ap, subst, ◌∙◌, arith, Option, Some, None}
use Rattle.std.specs.List.{AllZip, flat_map}
use Rattle.std.specs.List.Sorted.{IsStrictlySortedBy}
use Rattle.std.specs.Cmp.Lexicographic.{lists_total}
use Rattle.std.proofs.Math.Nat.{mul-one}
use Rattle.std.proofs.lemmas.List.{append-nil, length-map}
use Rattle.std.proofs.lemmas.List.Kept.{AllPairs-from_increasing}
use Rattle.std.proofs.lemmas.Option.{none-some, same_Some}
use Rattle.hg_changeset.specs.declared.node.Node.{Node}
use Rattle.hg_changeset.specs.Node.{node_cmp}
use Rattle.hg_changeset.proofs.NodeLemmas.{node_cmp_total}
use Rattle.hg_changeset.proofs.ListLemmas.{Contains-cons_cases, Contains-later, Contains-first, Contains-none}
use Rattle.hg_changeset.proofs.ListLemmas.{Contains-one}
use Rattle.hg_graph.proofs.GraphLemmas.{Contains-from_place, place_from_Contains}
use Rattle.hg_marker.specs.Fields.{Fields}
use Rattle.hg_obsstore.specs.Markers.{ArePlaces, AreDifferent}
use Rattle.hg_history.specs.Content.{IsHeld}
use Rattle.hg_replica.specs.State.{ReplicaState}
use Rattle.hg_replica.specs.Content.{Content, content_of}
use Rattle.hg_replica.specs.Evolution.{IsMarker, IsPredecessor}
use Rattle.hg_replica.proofs.MarkerLemmas.{holds-from, in_from_holds}
use Rattle.std.specs.Option.{option_map}
use Rattle.hg_succ.specs.declared.families.Solved.{Solved}
use Rattle.hg_succ.specs.declared.families.Solved.TheVariants.{Family, Counted, Overfull}
use Rattle.hg_succ.specs.declared.families.Table.{Table}
use Rattle.hg_succ.specs.Rows.{At}
use Rattle.hg_succ.specs.Successors.{IsRewrittenTo, IsOnCycle, IsPick, IsPickOfEach, IsOverfull, IsFamily, AreWithin}
use Rattle.hg_succ.specs.Successors.{HasCount, HasCounts, AreMarkersOf, HasSeveral, ways}
use Rattle.hg_succ.specs.Successors.IsPick.{on_cycle, itself, unknown, rewritten}
use Rattle.hg_succ.specs.Successors.IsPickOfEach.{no_places, next_place}
use Rattle.hg_succ.specs.Successors.IsOverfull.{passed_on, too_many}
use Rattle.hg_succ.specs.Answer.{sets_of}
use Rattle.hg_succ.specs.Numbered.{successors_at, IsRow}
use Rattle.hg_succ.specs.Cover.{Known, IsCover, IsSolved, IsTable, IsSeveral, HasEntry, known_by, answer, answer_at}
use Rattle.hg_succ.specs.Cover.{entry, families, family_in, count_in, count_of, IsNotCounted, sets_at, NoneOverfull}
use Rattle.hg_succ.specs.Cover.{SomeOverfull}
use Rattle.hg_succ.specs.Cover.Known.{are_sets, counted, overfull}
use Rattle.hg_succ.specs.Unions.{choices, choices_on, counts, AreLargest, IsChoice}
use Rattle.hg_succ.specs.Factors.{many_at, few_at, ways_at, IsInLimit, IsOnlySuccessor, AllWays}
use Rattle.hg_succ.specs.Factors.{empties_at}
use Rattle.hg_succ.specs.Plan.{IsApart, AreStrangers}
use Rattle.hg_succ.proofs.NumberLemmas.{successors_there, rewritten_places}
use Rattle.hg_succ.proofs.SortedLemmas.{same_members}
use Rattle.hg_succ.proofs.MarkerLists.{there, place_of_one, one_at_place, different_there, sum_among}
use Rattle.hg_succ.proofs.LookupLemmas.{look_at}
use Rattle.hg_succ.proofs.ApartLemmas.{pairs_from_all}
use Rattle.hg_succ.proofs.CountLemmas.{largest_unions, unions_and_empties}
use Rattle.hg_succ.proofs.TableLemmas.{entry_solved, entry_known, known_several}
use Rattle.hg_succ.proofs.SetLemmas.{flat_contains, contains_flat, choices_have}
use Rattle.hg_succ.proofs.FamilyLemmas.{family_from_cover, pick_on_cycle, not_overfull, pick_free_held}
use Rattle.hg_succ.proofs.FamilyLemmas.{pick_free_unknown, pick_of_one, AreUnions, cover_from_unions}
use Rattle.hg_succ.specs.Limits.{union_limit}

-- a node has one family, so one count
one_count : (s : Content) (n : Node) (a b : ℕ) → HasCount s n a → HasCount s n b → a ≡ b
one_count s n a b h g =
    let same = same_members (lists_total node_cmp_total) h.0 g.0 h.1.ascending g.1.ascending
    (λ z i. (g.1.exact z).1 ((h.1.exact z).0 i)) (λ z i. (h.1.exact z).1 ((g.1.exact z).0 i)) in
    sym h.2 ∙ ap length same ∙ g.2

one_counts : (s : Content) (ns : List Node) (ks bs : List ℕ) → AllZip (HasCount s) ns ks → AllZip (HasCount s) ns bs
    → ks ≡ bs
one_counts s [] [] [] h g = refl
one_counts s [] [] (b ∷ bs) h g = absurd g
one_counts s [] (a ∷ ks) bs h g = absurd h
one_counts s (n ∷ ns) [] bs h g = absurd h
one_counts s (n ∷ ns) (a ∷ ks) [] h g = absurd g
one_counts s (n ∷ ns) (a ∷ ks) (b ∷ bs) h g = (λ k. one_count s n a b h.0 g.0 k ∷ ks)
    ∙ ap (λ (cs : List ℕ). b ∷ cs) (one_counts s ns ks bs h.1 g.1)

all_counts : (s : Content) (ms : List Fields) (ks bs : List (List ℕ)) → AllZip (HasCounts s) ms ks
    → AllZip (HasCounts s) ms bs → ks ≡ bs
all_counts s [] [] [] h g = refl
all_counts s [] [] (b ∷ bs) h g = absurd g
all_counts s [] (a ∷ ks) bs h g = absurd h
all_counts s (m ∷ ms) [] bs h g = absurd h
all_counts s (m ∷ ms) (a ∷ ks) [] h g = absurd g
all_counts s (m ∷ ms) (a ∷ ks) (b ∷ bs) h g = (λ k. one_counts s m.successors a b h.0 g.0 k ∷ ks)
    ∙ ap (λ (cs : List (List ℕ)). b ∷ cs) (all_counts s ms ks bs h.1 g.1)

-- whether an answer is that a node is overfull
is_over : (o : Option Known) → (o ≡ Some overfull) ⊎ (¬ (o ≡ Some overfull))
is_over None = inr (λ e. none-some overfull e)
is_over (Some overfull) = inl refl
is_over (Some (are_sets f)) = inr (λ e. (let g = same_Some (are_sets f) overfull e in cc))
is_over (Some (counted k)) = inr (λ e. (let g = same_Some (counted k) overfull e in cc))

over_or_not : (t : Table) (ns : List Node) → SomeOverfull t ns ⊎ NoneOverfull t ns
over_or_not t [] = inr (λ x h e. Contains-none x h)
over_or_not t (n ∷ ns) = elim (is_over (entry t n)) [
  | inl over ↦ inl (n, Contains-first n ns, over)
  | inr fine ↦ elim (over_or_not t ns) [
    | inl over ↦ inl (over.0, Contains-later n ns over.0 over.1, over.2)
    | inr none ↦
        inr (λ x h. elim (Contains-cons_cases n ns x h)
        [ inl same ↦ subst (λ z. entry t z ≡ Some overfull → ⊥) same fine | inr later ↦ none x later ])
  ]
]

over_at_or_not : (t : Table) (markers : List Fields) (ps : List ℕ)
    → ((p : ℕ) × Contains ps p × SomeOverfull t (successors_at markers p))
    ⊎ ((p : ℕ) → Contains ps p → NoneOverfull t (successors_at markers p))
over_at_or_not t markers [] = inr (λ p h. absurd (Contains-none p h))
over_at_or_not t markers (q ∷ ps) = elim (over_or_not t (successors_at markers q)) [
  | inl over ↦ inl (q, Contains-first q ps, over)
  | inr fine ↦ elim (over_at_or_not t markers ps) [
    | inl over ↦ inl (over.0, Contains-later q ps over.0 over.1, over.2)
    | inr none ↦
        inr (λ p h. elim (Contains-cons_cases q ps p h)
        [ inl same ↦ subst (λ z. NoneOverfull t (successors_at markers z)) same fine | inr later ↦ none p later ])
  ]
]

-- the sets of a node of which this is known, also where only their number is
abbrev pub sets_known : (f : Content) (n : Node) (o : Option Known) → ((k : Known) → o ≡ Some k → IsSolved f n k)
    → List (List Node)
sets_known f n None so = []
sets_known f n (Some (are_sets family)) so = family
sets_known f n (Some (counted count)) so = (so (counted count) refl).0.0
sets_known f n (Some overfull) so = []

length_known : (f : Content) (n : Node) (o : Option Known) (so : (k : Known) → o ≡ Some k → IsSolved f n k)
    → length (sets_known f n o so) ≡ count_in o
length_known f n None so = refl
length_known f n (Some (are_sets family)) so = refl
length_known f n (Some (counted count)) so = (so (counted count) refl).0.2
length_known f n (Some overfull) so = refl

cover_known : (f : Content) (n : Node) (o : Option Known) (so : (k : Known) → o ≡ Some k → IsSolved f n k)
    → (k : Known) × (o ≡ Some k) → (¬ (o ≡ Some overfull)) → IsCover f n (sets_known f n o so) × (¬ IsOverfull f n)
cover_known f n None so e fine = absurd (none-some e.0 e.1)
cover_known f n (Some (are_sets family)) so e fine = so (are_sets family) refl
cover_known f n (Some (counted count)) so e fine = (let w = so (counted count) refl in (w.0.1, w.1))
cover_known f n (Some overfull) so e fine = absurd (fine refl)

kept_known : (f : Content) (n : Node) (o : Option Known) (so : (k : Known) → o ≡ Some k → IsSolved f n k)
    → ((count : ℕ) → ¬ (o ≡ Some (counted count))) → family_in o ≡ sets_known f n o so
kept_known f n None so kept = refl
kept_known f n (Some (are_sets family)) so kept = refl
kept_known f n (Some (counted count)) so kept = absurd (kept count refl)
kept_known f n (Some overfull) so kept = refl

-- what is kept is known by its sets
kept_entry : (families : List (Vec (Vec Node Global) Global)) (o : Option Solved)
    → ((count : ℕ) → ¬ (o ≡ Some (Counted count))) → (count : ℕ)
    → ¬ (option_map (known_by families) o ≡ Some (counted count))
kept_entry families None kept count e = none-some (counted count) e
kept_entry families (Some (Family place)) kept count e =
    (let g = same_Some (are_sets (sets_at families place)) (counted count) e in cc)
kept_entry families (Some (Counted other)) kept count e = kept other refl
kept_entry families (Some Overfull) kept count e = (let g = same_Some overfull (counted count) e in cc)

-- the sets of a node, by a table
abbrev pub sets_of_node : (f : Content) (t : Table) → IsTable f t → Node → List (List Node)
sets_of_node f t so x = sets_known f x (entry t x) (entry_solved f t so x)

-- the unions of the markers at places, where each node has such sets
abbrev pub unions_of : (Node → List (List Node)) → List Fields → List ℕ → List (List Node)
unions_of sets markers places = flat_map (λ p. choices_on (map sets (successors_at markers p)) ([] ∷ [])) places

flat_same : {X Y : Type 0} (f g : X → List Y) (xs : List X) → ((x : X) → Contains xs x → f x ≡ g x)
    → flat_map f xs ≡ flat_map g xs
flat_same f g [] same = refl
flat_same f g (x ∷ xs) same = λ i. same x (Contains-first x xs) i
    ++ flat_same f g xs (λ y h. same y (Contains-later x xs y h)) i

map_same : {X Y : Type 0} (f g : X → Y) (xs : List X) → ((x : X) → Contains xs x → f x ≡ g x) → map f xs ≡ map g xs
map_same f g [] same = refl
map_same f g (x ∷ xs) same = λ i. same x (Contains-first x xs) i
    ∷ map_same f g xs (λ y h. same y (Contains-later x xs y h)) i

-- the ways of a marker, by a table
abbrev ways_of : Table → Fields → ℕ
ways_of t m = ways (counts t m.successors)

same_ways : (t : Table) (markers : List Fields) (ps : List ℕ) (ms : List Fields) → AllZip (At markers) ps ms
    → ways_at t markers ps ≡ map (ways_of t) ms
same_ways t markers [] [] z = refl
same_ways t markers [] (x ∷ ms) z = absurd z
same_ways t markers (p ∷ ps) [] z = absurd z
same_ways t markers (p ∷ ps) (x ∷ ms) z =
    (λ k. ways (counts t (successors_there markers p x z.0 k)) ∷ ways_at t markers ps)
    ∙ ap (λ (ws : List ℕ). ways_of t x ∷ ws) (same_ways t markers ps ms z.1)

map_ways : (t : Table) (ms : List Fields) → map ways (map (λ m. counts t m.successors) ms) ≡ map (ways_of t) ms
map_ways t [] = refl
map_ways t (m ∷ ms) = ap (λ (ws : List ℕ). ways_of t m ∷ ws) (map_ways t ms)

module _ (s : ReplicaState) (t : Table) (so : IsTable (content_of s) t) (n : Node)
    (off : ¬ (IsOnCycle (content_of s) n)) (below : (y : Node) → IsRewrittenTo (content_of s) n y → HasEntry t y)
    (different : AreDifferent s.markers) (places : List ℕ)
    (are : ArePlaces (λ m. m.predecessor ≡ n) s.markers places) where
  step_at : (p : ℕ) (x : Node) → Contains places p → Contains (successors_at s.markers p) x
      → IsRewrittenTo (content_of s) n x
  step_at p x h g = (rewritten_places s places n are x).0 (p, h, g)

  over_passes : (p : ℕ) × Contains places p × SomeOverfull t (successors_at s.markers p) → IsOverfull (content_of s) n
  over_passes h = passed_on off (step_at h.0 h.2.0 h.1 h.2.1) (entry_solved (content_of s) t so h.2.0 overfull h.2.2)

  -- the markers of n, in the order of their places
  own : (ms : List Fields) × AllZip (At s.markers) places ms
  own = there s.markers places (λ p h. let w = (are.exact p).0 h in (w.0, w.1))

  own_are : AreMarkersOf (content_of s) n own.0
  own_are = record {
    different = different_there s.markers different places own.0 (AllPairs-from_increasing places are.ascending) own.1;
    exact = λ m. (
      λ h.
          let p = place_of_one s.markers places own.0 m own.1 h in
          let w = (are.exact p.0).0 p.1 in (
            holds-from s.markers m (Contains-from_place s.markers p.0 m p.2),
            subst (λ (k : Fields). k.predecessor ≡ n) (same_Some w.0 m (sym w.1 ∙ p.2)) w.2,
          ),
      λ h.
          let at = place_from_Contains s.markers m (in_from_holds s.markers m h.0) in
          let k = one_at_place s.markers places own.0 at.0 own.1 ((are.exact at.0).1 (m, at.1, h.1)) in
          subst (Contains own.0) (same_Some k.0 m (sym k.2 ∙ at.1)) k.1,
    );
  }

  module _ (none : (p : ℕ) → Contains places p → NoneOverfull t (successors_at s.markers p)) where
    known : (p : ℕ) (x : Node) → Contains places p → Contains (successors_at s.markers p) x
        → IsCover (content_of s) x (sets_of_node (content_of s) t so x) × ¬ (IsOverfull (content_of s) x)
    known p x h g = cover_known (content_of s) x (entry t x) (entry_solved (content_of s) t so x)
        (entry_known t x (below x (step_at p x h g))) (none p h x g)

    known_successor : (m : Fields) → IsMarker (content_of s) m → m.predecessor ≡ n → (x : Node)
        → Contains m.successors x → IsCover (content_of s) x (sets_of_node (content_of s) t so x)
    known_successor m held at x g =
        let place = place_from_Contains s.markers m (in_from_holds s.markers m held) in
        (known place.0 x ((are.exact place.0).1 (m, place.1, at))
        (subst (λ (ns : List Node). Contains ns x) (sym (successors_there s.markers place.0 m place.1)) g)).0

    count_each : (ns : List Node)
        → ((x : Node) → Contains ns x → IsCover (content_of s) x (sets_of_node (content_of s) t so x))
        → AllZip (HasCount (content_of s)) ns (counts t ns)
    count_each [] h = tt
    count_each (x ∷ ns) h = (
      (
        sets_of_node (content_of s) t so x,
        family_from_cover (content_of s) x (sets_of_node (content_of s) t so x) (h x (Contains-first x ns)),
        length_known (content_of s) x (entry t x) (entry_solved (content_of s) t so x),
      ),
      count_each ns (λ y g. h y (Contains-later x ns y g)),
    )

    counts_all : (ms : List Fields) → ((m : Fields) → Contains ms m → IsMarker (content_of s) m × (m.predecessor ≡ n))
        → AllZip (HasCounts (content_of s)) ms (map (λ m. counts t m.successors) ms)
    counts_all [] h = tt
    counts_all (m ∷ ms) h = (
      (let w = h m (Contains-first m ms) in count_each m.successors (known_successor m w.0 w.1)),
      counts_all ms (λ k g. h k (Contains-later m ms k g)),
    )

    over_many : union_limit < sum (ways_at t s.markers places) → IsOverfull (content_of s) n
    over_many l = too_many own.0 (map (λ m. counts t m.successors) own.0) off own_are
        (counts_all own.0 (λ m h. (own_are.exact m).0 h))
        (subst (λ (ws : List ℕ). union_limit < sum ws)
        (same_ways t s.markers places own.0 own.1 ∙ sym (map_ways t own.0)) l)

    not_over : sum (ways_at t s.markers places) ≤ union_limit → IsOverfull (content_of s) n → ⊥
    not_over l (passed_on off' to over) =
        let at = (rewritten_places s places n are _).1 to in
        (known at.0 _ at.1 at.2).1 over
    not_over l (too_many ms counts' off' are' zip many) =
        let cs = all_counts (content_of s) ms counts' (map (λ m. counts t m.successors) ms) zip
        (counts_all ms (λ m h. (are'.exact m).0 h)) in
        let e : sum (map ways counts') ≡ sum (map (ways_of t) ms) = ap (λ (ds : List (List ℕ)). sum (map ways ds)) cs
        ∙ ap sum (map_ways t ms) in
        let among = sum_among (ways_of t) ms own.0 are'.different (λ m h. (own_are.exact m).1 ((are'.exact m).0 h)) in
        let all : sum (ways_at t s.markers places) ≡ sum (map (ways_of t) own.0) =
        ap sum (same_ways t s.markers places own.0 own.1) in
        omega (arith, l, many, e, among, all)

    unions_are : AreUnions (content_of s) n (sets_of_node (content_of s) t so)
        (unions_of (sets_of_node (content_of s) t so) s.markers places)
    unions_are = record {
      sound = λ u h.
          let f = flat_contains
          (λ p. choices_on (map (sets_of_node (content_of s) t so) (successors_at s.markers p)) ([] ∷ [])) places u h in
          let w = (are.exact f.0).0 f.1 in
          let c = (choices_have (map (sets_of_node (content_of s) t so) (successors_at s.markers f.0))
          ([] ∷ []) u).0 f.2 in
          let first : c.0 ≡ [] = sym (Contains-one [] c.0 c.2) in
          let u_is : u ≡ c.1 = c.4 ∙ ap (λ (a : List Node). a ++ c.1) first in (
            w.0,
            holds-from s.markers w.0 (Contains-from_place s.markers f.0 w.0 w.1),
            w.2,
            subst (λ (ns : List Node). IsChoice (map (sets_of_node (content_of s) t so) ns) u)
                (successors_there s.markers f.0 w.0 w.1)
                (subst (IsChoice (map (sets_of_node (content_of s) t so) (successors_at s.markers f.0)))
                (sym u_is) c.3),
          );
      complete = λ m u held at choice.
          let place = place_from_Contains s.markers m (in_from_holds s.markers m held) in
          let there' = (are.exact place.0).1 (m, place.1, at) in
          let choice' : IsChoice (map (sets_of_node (content_of s) t so) (successors_at s.markers place.0)) u =
          subst (λ (ns : List Node). IsChoice (map (sets_of_node (content_of s) t so) ns) u)
          (sym (successors_there s.markers place.0 m place.1)) choice in
          contains_flat (λ p. choices_on (map (sets_of_node (content_of s) t so) (successors_at s.markers p)) ([] ∷ []))
          places place.0 u there'
          ((choices_have (map (sets_of_node (content_of s) t so) (successors_at s.markers place.0)) ([] ∷ []) u).1
          ([], u, Contains-first [] [], choice', refl));
    }

    solved_cover : IsPredecessor (content_of s) n → (family : List (List Node))
        → AreLargest (unions_of (sets_of_node (content_of s) t so) s.markers places) family
        → IsCover (content_of s) n family
    solved_cover is family largest = cover_from_unions (content_of s) n (sets_of_node (content_of s) t so)
        (unions_of (sets_of_node (content_of s) t so) s.markers places) family off is known_successor unions_are largest

  -- where too much is to be done the node is overfull
  pub solved_over : many_at t s.markers places → IsOverfull (content_of s) n
  solved_over h = elim (over_at_or_not t s.markers places) [
    | inl over ↦ over_passes over
    | inr none ↦ elim h [
      | inl over ↦ over_passes over
      | inr many ↦ over_many none many
    ]
  ]

  -- the unions that are formed are those of the sets, where the successors' families are kept
  same_unions : ((x : Node) → IsRewrittenTo (content_of s) n x → IsNotCounted t x)
      → flat_map (λ p. choices t (successors_at s.markers p)) places
      ≡ unions_of (sets_of_node (content_of s) t so) s.markers places
  same_unions kept = flat_same (λ p. choices t (successors_at s.markers p))
      (λ p. choices_on (map (sets_of_node (content_of s) t so) (successors_at s.markers p)) ([] ∷ [])) places
      (λ p h. ap (λ fs. choices_on fs ([] ∷ []))
      (map_same (families t) (sets_of_node (content_of s) t so) (successors_at s.markers p) (λ x g.
      kept_known (content_of s) x (entry t x) (entry_solved (content_of s) t so x)
      (kept_entry t.families.items (answer t x) (kept x (step_at p x h g))))))

  -- and otherwise its sets are the largest of the unions
  pub solved_few : few_at t s.markers places → ((x : Node) → IsRewrittenTo (content_of s) n x → IsNotCounted t x)
      → IsPredecessor (content_of s) n → (family : List (List Node))
      → AreLargest (flat_map (λ p. choices t (successors_at s.markers p)) places) family
      → IsCover (content_of s) n family × ¬ (IsOverfull (content_of s) n)
  solved_few few kept is family largest = (
    solved_cover few.0 is family (subst (λ found. AreLargest found family) (same_unions kept) largest),
    not_over few.0 few.1,
  )

  -- where the successors have nothing in common, it has a set for each union that isn't empty
  pub solved_apart : (w : ℕ) → AllWays t s.markers places w → IsApart s n → IsPredecessor (content_of s) n
      → IsSolved (content_of s) n (counted (w - empties_at t s.markers places))
  solved_apart w all apart is =
      let few = all.few in
      let sets = sets_of_node (content_of s) t so in
      let counted' = λ (x : Node). length_known (content_of s) x (entry t x) (entry_solved (content_of s) t so x) in
      let covers = λ (p : ℕ) (x : Node) (h : Contains places p) (g : Contains (successors_at s.markers p) x).
      (known few.0 p x h g).0 in
      let pairs = pairs_from_all (AreStrangers (content_of s)) (flat_map (successors_at s.markers) places)
      (apart places are) in
      let r = largest_unions (content_of s) t s.markers sets counted' places covers pairs in
      let l = unions_and_empties (content_of s) t s.markers sets counted' places in
      let e : length r.0 ≡ w - empties_at t s.markers places = omega (arith, r.2, l, all.ways) in
      ((r.0, solved_cover few.0 is r.0 r.1, e), not_over few.0 few.1)

  -- ---- one marker with one successor

  module _ (x : Node) (only : IsOnlySuccessor s.markers places x) where
    one_successor : (m : Fields) → IsMarker (content_of s) m → m.predecessor ≡ n → m.successors ≡ x ∷ []
    one_successor m held at =
        let place = place_from_Contains s.markers m (in_from_holds s.markers m held) in
        let here : only.0 ≡ place.0 = Contains-one only.0 place.0
        (subst (λ (ps : List ℕ). Contains ps place.0) only.1 ((are.exact place.0).1 (m, place.1, at))) in
        sym (successors_there s.markers place.0 m place.1) ∙ ap (successors_at s.markers) (sym here) ∙ only.2

    only_marker : (m : Fields) × IsMarker (content_of s) m × (m.predecessor ≡ n)
    only_marker =
        let w = (are.exact only.0).0
        (subst (λ (ps : List ℕ). Contains ps only.0) (sym only.1) (Contains-first only.0 [])) in
        (w.0, holds-from s.markers w.0 (Contains-from_place s.markers only.0 w.0 w.1), w.2)

    pub only_step : IsRewrittenTo (content_of s) n x
    only_step = let m = only_marker in (
      m.0,
      m.1,
      m.2,
      subst (λ (ns : List Node). Contains ns x) (sym (one_successor m.0 m.1 m.2))
          (Contains-first x []),
    )

    pick_up : (p : List Node) → IsPick (content_of s) x p → IsPick (content_of s) n p
    pick_up p pick =
        let m = only_marker in
        let each : IsPickOfEach (content_of s) (x ∷ []) (p ++ []) = next_place pick no_places in
        subst (IsPick (content_of s) n) (append-nil p)
        (rewritten m.0 m.1 m.2 off
        (subst (λ (ns : List Node). IsPickOfEach (content_of s) ns (p ++ []))
        (sym (one_successor m.0 m.1 m.2)) each))

    pick_down : (p : List Node) → IsPick (content_of s) n p → IsPick (content_of s) x p
    pick_down p (on_cycle on) = absurd (off on)
    pick_down p (itself free held) = absurd (free only_marker)
    pick_down p (unknown free missing) = absurd (free only_marker)
    pick_down p (rewritten m held at off' picks) =
        pick_of_one (content_of s) x m.successors p (one_successor m held at) picks

    shared_cover : (family : List (List Node)) → IsCover (content_of s) x family → IsCover (content_of s) n family
    shared_cover family c = record {
      ascending = c.ascending;
      each_ascending = c.each_ascending;
      some = c.some;
      one = (c.one.0, pick_up c.one.0 c.one.1);
      picks = λ set h. let p = c.picks set h in (p.0, pick_up p.0 p.1, p.2, p.3);
      apart = c.apart;
      covers = λ p pick. c.covers p (pick_down p pick);
    }

    few_only : (k : Known) → entry t x ≡ Some k → ¬ (k ≡ overfull) → count_of k ≤ union_limit
        → few_at t s.markers places
    few_only k is fine le =
        let told : ways_at t s.markers places ≡ (max (count_of k) 1 * 1) ∷ [] =
        ap (ways_at t s.markers) only.1
        ∙ ap (λ (ns : List Node). ways (counts t ns) ∷ []) only.2
        ∙ ap (λ (o : Option Known). (max (count_in o) 1 * 1) ∷ []) is in
        let one : sum ((max (count_of k) 1 * 1) ∷ []) ≡ max (count_of k) 1 = zero-add (max (count_of k) 1 * 1)
        ∙ mul-one (max (count_of k) 1) in (
          λ p h y g over.
              let here : only.0 ≡ p = Contains-one only.0 p (subst (λ (ps : List ℕ). Contains ps p) only.1 h) in
              let same : x ≡ y =
              Contains-one x y
              (subst (λ (ns : List Node). Contains ns y) (ap (successors_at s.markers) (sym here) ∙ only.2) g) in
              fine (same_Some k overfull (sym is ∙ ap (entry t) same ∙ over)),
          (let e = ap sum told in omega (arith, e, one, le)),
        )

    -- what is known of the successor is so of the node
    pub solved_shared : (k : Known) → entry t x ≡ Some k → IsInLimit k → IsSolved (content_of s) n k
    solved_shared (are_sets family) is le =
        let few = few_only (are_sets family) is (λ e. cc) le in
        (shared_cover family (entry_solved (content_of s) t so x (are_sets family) is).0, not_over few.0 few.1)
    solved_shared (counted count) is le =
        let few = few_only (counted count) is (λ e. cc) le in
        let w = entry_solved (content_of s) t so x (counted count) is in
        ((w.0.0, shared_cover w.0.0 w.0.1, w.0.2), not_over few.0 few.1)
    solved_shared overfull is le =
        let m = only_marker in
        passed_on off (
          m.0,
          m.1,
          m.2,
          subst (λ (ns : List Node). Contains ns x) (sym (one_successor m.0 m.1 m.2))
              (Contains-first x []),
        ) (entry_solved (content_of s) t so x overfull is)

    -- the number in the row is that of the successor
    pub shared_answer : (row : List ℕ) (number : ℕ) (solved : Solved) → IsRow (content_of s) t.nodes.keys n row
        → Contains row number → answer_at t.answers.items number ≡ Some solved → answer t x ≡ Some solved
    shared_answer row number solved is at told =
        let y = is.listed number at in
        let m = y.1 in
        let same : x ≡ y.0 =
        Contains-one x y.0 (subst (λ (ns : List Node). Contains ns y.0) (one_successor m.0 m.1 m.2) m.3) in
        look_at t.nodes.keys t.answers.items number x so.once (subst (At t.nodes.keys number) (sym same) y.2) ∙ told

-- a node on a cycle has none
pub solved_cycle : (s : Content) (n : Node) → IsOnCycle s n → IsCover s n [] × (¬ (IsOverfull s n))
unfolding IsStrictlySortedBy
solved_cycle s n on = (
  record {
    ascending = tt;
    each_ascending = λ set h. absurd (Contains-none set h);
    some = λ set h. absurd (Contains-none set h);
    one = ([], on_cycle on);
    picks = λ set h. absurd (Contains-none set h);
    apart = λ a b h g w. absurd (Contains-none a h);
    covers = λ p pick. inl (pick_on_cycle s n p on pick);
  },
  not_overfull s n on,
)

-- a node without markers isn't overfull
free_not_over : (s : Content) (n : Node) → ¬ (IsPredecessor s n) → IsOverfull s n → ⊥
free_not_over s n free (passed_on off to over) = free (to.0, to.1, to.2)
free_not_over s n free (too_many [] [] off are zip many) = omega (arith, many)
free_not_over s n free (too_many [] (c ∷ cs) off are zip many) = absurd zip
free_not_over s n free (too_many (m ∷ ms) counts' off are zip many) =
    (let w = (are.exact m).0 (Contains-first m ms) in free (m, w.0, w.1))

pub solved_held : (s : Content) (n : Node) → (¬ IsPredecessor s n) → IsHeld s.0 n
    → IsCover s n ((n ∷ []) ∷ []) × (¬ (IsOverfull s n))
unfolding IsStrictlySortedBy
solved_held s n free held =
    let only = λ (set : List Node) (h : Contains ((n ∷ []) ∷ []) set).
    (let r : (n ∷ []) ≡ set = Contains-one (n ∷ []) set h in r) in (
      record {
        ascending = (tt, tt);
        each_ascending = λ set h. subst (IsStrictlySortedBy node_cmp) (only set h) (tt, tt);
        some = λ set h e. (let f = ap length (only set h ∙ e) in omega (arith, f));
        one = (n ∷ [], itself free held);
        picks = λ set h. (
          n ∷ [],
          itself free held,
          subst (λ (zs : List Node). AreWithin zs (n ∷ [])) (only set h)
              (λ x g. g),
          subst (AreWithin (n ∷ [])) (only set h) (λ x g. g),
        );
        apart = λ a b h g w. sym (only a h) ∙ only b g;
        covers = λ p pick. inr (
          n ∷ [],
          Contains-first (n ∷ []) [],
          subst (λ (zs : List Node). AreWithin zs (n ∷ []))
              (sym (pick_free_held s n p free held pick)) (λ x g. g),
        );
      },
      free_not_over s n free,
    )

pub solved_unheld : (s : Content) (n : Node) → (¬ IsPredecessor s n) → (¬ (IsHeld s.0 n))
    → IsCover s n [] × (¬ (IsOverfull s n))
unfolding IsStrictlySortedBy
solved_unheld s n free missing = (
  record {
    ascending = tt;
    each_ascending = λ set h. absurd (Contains-none set h);
    some = λ set h. absurd (Contains-none set h);
    one = ([], unknown free missing);
    picks = λ set h. absurd (Contains-none set h);
    apart = λ a b h g w. absurd (Contains-none a h);
    covers = λ p pick. inl (pick_free_unknown s n p free missing pick);
  },
  free_not_over s n free,
)

-- what a table knows of a node that is done tells whether it has several sets
pub entry_several : (s : Content) (t : Table) → IsTable s t → (n : Node) → HasEntry t n → IsSeveral (entry t n)
    ↔ HasSeveral s n
entry_several s t so n has =
    subst (λ (o : Option Solved). IsSeveral (option_map (known_by t.families.items) o) ↔ HasSeveral s n) (sym has.1)
    (known_several s n (known_by t.families.items has.0) (so.right n has.0 has.1).1)

-- the sets that are told
pub told_family : (s : Content) (n : Node) (family sets : List (List Node)) → IsSolved s n (are_sets family)
    → sets ≡ family → IsFamily s n sets × ¬ (IsOverfull s n)
told_family s n family sets so is = (subst (IsFamily s n) (sym is) (family_from_cover s n family so.0), so.1)

pub length_sets : (family : Vec (Vec Node Global) Global) → family.len ≡ length (sets_of family.items)
length_sets family = family.ok.0 ∙ sym (length-map family.items (λ (set : Vec Node Global). set.items))

-- whether a node has markers, by their places
pub rewritten_somewhere : (s : ReplicaState) (n : Node) (places : List ℕ)
    → ArePlaces (λ m. m.predecessor ≡ n) s.markers places → (length places ≡ 0 → ⊥) → IsPredecessor (content_of s) n
rewritten_somewhere s n [] are some = absurd (some refl)
rewritten_somewhere s n (p ∷ ps) are some =
    (let w = (are.exact p).0 (Contains-first p ps) in
    (w.0, holds-from s.markers w.0 (Contains-from_place s.markers p w.0 w.1), w.2))

pub rewritten_nowhere : (s : ReplicaState) (n : Node) (places : List ℕ)
    → ArePlaces (λ m. m.predecessor ≡ n) s.markers places → length places ≡ 0 → IsPredecessor (content_of s) n → ⊥
rewritten_nowhere s n [] are none h = (let at = place_from_Contains s.markers h.0 (in_from_holds s.markers h.0 h.1) in
    Contains-none at.0 ((are.exact at.0).1 (h.0, at.1, h.2)))
rewritten_nowhere s n (p ∷ ps) are none h = omega (arith, none)
