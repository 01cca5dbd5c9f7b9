-- A part by the table is admitted where it was decided.
use Rattle.std.proofs.Common.{◌≡◌, ◌≢◌, ℕ, zero, suc, ◌⊎◌, inl, inr, Bool, true, false, List, [], ◌∷◌, ◌++◌, Some, None}
use Rattle.std.proofs.Common.{Option, Contains, map, take, length, ◌-◌, slice_get, refl, sym, ap, subst, ◌∙◌, arith}
use Rattle.std.proofs.Common.{option_map, option_to_list}
use Rattle.std.specs.Bool.{if◌then◌else◌}
use Rattle.std.specs.Ordering.{is_gt}
use Rattle.std.proofs.lemmas.Option.{none-some, same_Some}
use Rattle.hg_changeset.specs.declared.node.Node.{Node}
use Rattle.hg_changeset.specs.Node.{node_eq, node_cmp, null_node}
use Rattle.hg_changeset.specs.Contents.{Contents, contents}
use Rattle.hg_changeset.specs.Changeset.{node_of, changeset_of}
use Rattle.hg_changeset.specs.EntryText.{entry_text}
use Rattle.hg_changeset.proofs.ListLemmas.{Contains-first, Contains-later, Contains-one, Contains-none}
use Rattle.hg_changeset.proofs.ListLemmas.{Contains-cons_cases, Contains-map}
use Rattle.hg_graph.specs.Graph.{nodes, IsParent}
use Rattle.hg_graph.proofs.GraphLemmas.{Contains-from_place, place_from_Contains, Holds-changeset, Holds-from}
use Rattle.hg_phases.specs.declared.phase.Phase.{Phase}
use Rattle.hg_phases.specs.State.{State, Holds, IsValid, changesets}
use Rattle.hg_phases.proofs.LeastLemmas.{Holds-taken}
use Rattle.hg_marker.specs.Fields.{Fields}
use Rattle.hg_replica.specs.State.{ReplicaState}
use Rattle.hg_replica.specs.Least.{IsAdmitted}
use Rattle.hg_rewrite.specs.declared.op.Op.{Op}
use Rattle.hg_rewrite.specs.declared.op.Op.TheVariants.{Commit, Amend, Split, Fold, Prune, Relocate, Advance}
use Rattle.hg_rewrite.specs.declared.refusal.Refusal.TheVariants.{Unknown, Exists}
use Rattle.hg_rewrite.specs.Reading.{parents_in}
use Rattle.hg_rewrite.specs.Parts.{contents_of, chain, entries, parents_of_first, base, made, new_ids, on_last, last}
use Rattle.hg_rewrite.specs.Parts.{bounds, markers, part_of}
use Rattle.hg_rewrite.specs.Refusals.{Applies, NoneApplies, unknown, unknown_parent, unknown_nodes, existing}
use Rattle.hg_rewrite.specs.Refusals.{existing_ids}
use Rattle.hg_rewrite.proofs.ReadingLemmas.{held_or_not, parents_in-held}

-- a parent of the changeset that is made is one of the two that are named
either : (b c d : Bool) (p q : Node) (text : List ℕ) (n : Node)
    → IsParent (if b then contents p q text else if c then contents q p text
    else contents (if d then q else p) (if d then p else q) text) n → (n ≡ p) ⊎ (n ≡ q)
either true c d p q text n h = elim h.1 [ inl e ↦ inl (sym e) | inr e ↦ inr (sym e) ]
either false true d p q text n h = elim h.1 [ inl e ↦ inr (sym e) | inr e ↦ inl (sym e) ]
either false false true p q text n h = elim h.1 [ inl e ↦ inr (sym e) | inr e ↦ inl (sym e) ]
either false false false p q text n h = elim h.1 [ inl e ↦ inl (sym e) | inr e ↦ inr (sym e) ]

parent_of_made : (p q : Node) (text : List ℕ) (n : Node) → IsParent (changeset_of p q text) n → (n ≡ p) ⊎ (n ≡ q)
parent_of_made p q text n h = either (node_eq q null_node) (node_eq p null_node) (is_gt (node_cmp p q)) p q text n h

-- the parents of the first are known
abbrev AreKnown : (Node → Type 0) → Node × Node → Type 0
AreKnown K on = (m : Node) → m ≢ null_node → (m ≡ on.0) ⊎ (m ≡ on.1) → K m

-- each parent is known, or made earlier
chain_parents : (K : Node → Type 0) (on : Node × Node) (texts : List (List ℕ)) → AreKnown K on
    → (i : ℕ) (c : Contents) → slice_get (map contents_of (chain on texts)) i ≡ Some c → (m : Node) → IsParent c m
    → K m ⊎ Contains (nodes (take i (map contents_of (chain on texts)))) m
unfolding chain
chain_parents K on [] known i c at m h = absurd (none-some c at)
chain_parents K on (text ∷ texts) known zero c at m h =
    inl (known m h.0 (parent_of_made on.0 on.1 text m (subst (λ x. IsParent x m) (sym (same_Some _ c at)) h)))
chain_parents K on (text ∷ texts) known (suc i) c at m h =
    let id : Node = node_of (changeset_of on.0 on.1 text) in
    let ids : List Node = nodes (take i (map contents_of (chain (id, null_node) texts))) in
    let known_then : AreKnown (λ n. K n ⊎ (n ≡ id)) (id, null_node) =
    λ n some which. elim which [ inl e ↦ inr e | inr e ↦ absurd (some e) ] in
    elim (chain_parents (λ n. K n ⊎ (n ≡ id)) (id, null_node) texts known_then i c at m h) [
      | inl k ↦ elim k [
        | inl held ↦ inl held
        | inr e ↦
            inr (subst (Contains (id ∷ ids)) (sym e) (Contains-first id ids))
      ]
      | inr earlier ↦ inr (Contains-later id ids m earlier)
    ]

-- what is new isn't held
fresh : (s : State) (cs : List Contents) (c : Contents) → NoneApplies (existing s (nodes cs)) → Contains cs c
    → ¬ (Holds s (node_of c))
fresh s [] c none at held = Contains-none c at
fresh s (d ∷ cs) c none at held = elim (Contains-cons_cases d cs c at) [
  | inl e ↦ none.0 (Exists (node_of d), (inl (subst (λ x. Holds s (node_of x)) (sym e) held), refl))
  | inr later ↦ fresh s cs c none.1 later held
]

-- no two new ones have one id
apart : (s : State) (cs : List Contents) (c d : Contents) → NoneApplies (existing s (nodes cs)) → Contains cs c
    → Contains cs d → node_of c ≡ node_of d → c ≡ d
apart s [] c d none at other same = absurd (Contains-none c at)
apart s (x ∷ cs) c d none at other same =
    elim (Contains-cons_cases x cs c at) [
      | inl e ↦ elim (Contains-cons_cases x cs d other) [
        | inl f ↦ sym e ∙ f
        | inr later ↦ absurd
            (none.0 (
              Exists (node_of x),
              (
                inr (subst (Contains (nodes cs)) (sym (ap node_of e ∙ same)) (Contains-map node_of cs d later)),
                refl,
              ),
            ))
      ]
      | inr early ↦ elim (Contains-cons_cases x cs d other) [
        | inl f ↦ absurd (none.0 (
          Exists (node_of x),
          (
            inr (subst (Contains (nodes cs)) (same ∙ sym (ap node_of f)) (Contains-map node_of cs c early)),
            refl,
          ),
        ))
        | inr later ↦ apart s cs c d none.1 early later same
      ]
    ]

bound_on_last : (ns : List Node) (k : Phase) (o : Option Node) → slice_get ns (length ns - 1) ≡ o → (b : Node × Phase)
    → Contains (option_to_list (option_map (λ n. (n, k)) o)) b → Contains ns b.0
bound_on_last ns k None e b h = absurd (Contains-none b h)
bound_on_last ns k (Some n) e b h = subst (Contains ns) (ap (λ (x : Node × Phase). x.0) (Contains-one (n, k) b h))
    (Contains-from_place ns (length ns - 1) n e)

on_last_in : (ns : List Node) (k : Phase) (b : Node × Phase) → Contains (on_last ns k) b → Contains ns b.0
on_last_in ns k b h = bound_on_last ns k (slice_get ns (length ns - 1)) refl b h

module _ (s : State) (valid : IsValid s) where
  pub known_target : (n : Node) → ¬ (Applies (unknown s n)) → Holds s n
  known_target n not = elim (held_or_not s valid n) [
    | inl held ↦ held
    | inr missing ↦
        absurd (not (Unknown n, (missing, refl)))
  ]

  known_parent : (n : Node) → ¬ (Applies (unknown_parent s n)) → n ≢ null_node → Holds s n
  known_parent n not some = elim (held_or_not s valid n) [
    | inl held ↦ held
    | inr missing ↦
        absurd (not (Unknown n, ((some, missing), refl)))
  ]

  -- the parents of what is held are held
  held_parents : (n : Node) → Holds s n → AreKnown (Holds s) (parents_in s n)
  held_parents n held m some which =
      let c = Holds-changeset (changesets s) n held in
      let at = place_from_Contains (changesets s) c.0 c.1 in
      let is = parents_in-held s valid n c.0 c.1 c.2 in
      let parent : IsParent c.0 m = (
        some,
        elim which [
          | inl e ↦ inl (sym (e ∙ ap (λ (x : Node × Node). x.0) is))
          | inr e ↦
              inr (sym (e ∙ ap (λ (x : Node × Node). x.1) is))
        ],
      ) in
      Holds-taken (changesets s) at.0 m (valid.graph.parents_first at.0 c.0 at.1 m parent)

  named_parents : (p q : Node) → ¬ (Applies (unknown_parent s p)) → ¬ (Applies (unknown_parent s q))
      → AreKnown (Holds s) (p, q)
  named_parents p q p_known q_known m some which = elim which [
    | inl e ↦ subst (Holds s) (sym e) (known_parent p p_known (λ null. some (e ∙ null)))
    | inr e ↦ subst (Holds s) (sym e) (known_parent q q_known (λ null. some (e ∙ null)))
  ]

  no_parents : AreKnown (Holds s) (null_node, null_node)
  no_parents m some which = elim which [ inl e ↦ absurd (some e) | inr e ↦ absurd (some e) ]

  line_parents : (ns : List Node) → NoneApplies (map (unknown s) ns ++ []) → AreKnown (Holds s) (parents_of_first s ns)
  line_parents [] none = no_parents
  line_parents (n ∷ ns) none = held_parents n (known_target n none.0)

module _ (s : ReplicaState) (valid : IsValid s.history) where
  known_base : (op : Op) → NoneApplies (unknown_nodes s op) → AreKnown (Holds s.history) (base s.history op)
  known_base (Commit p q entry secret) none = named_parents s.history valid p q none.0 none.1.0
  known_base (Amend node entry) none = held_parents s.history valid node (known_target s.history valid node none.0)
  known_base (Split node es) none = held_parents s.history valid node (known_target s.history valid node none.0)
  known_base (Fold nodes entry) none = line_parents s.history valid nodes.items none
  known_base (Prune node user secs offset) none = no_parents s.history valid
  known_base (Relocate node p q entry) none = named_parents s.history valid p q none.1.0 none.1.1.0
  known_base (Advance node phase) none = no_parents s.history valid

  bounds_known : (op : Op) → NoneApplies (unknown_nodes s op) → (b : Node × Phase) → Contains (bounds s.history op) b
      → Holds s.history b.0 ⊎ Contains (new_ids s.history op) b.0
  bounds_known (Commit p q entry secret) none b h = inr (on_last_in _ _ b h)
  bounds_known (Amend node entry) none b h = inr (on_last_in _ _ b h)
  bounds_known (Split node es) none b h = inr (on_last_in _ _ b h)
  bounds_known (Fold nodes entry) none b h = inr (on_last_in _ _ b h)
  bounds_known (Prune node user secs offset) none b h = absurd (Contains-none b h)
  bounds_known (Relocate node p q entry) none b h = inr (on_last_in _ _ b h)
  bounds_known (Advance node phase) none b h =
      inl (subst (Holds s.history) (ap (λ (x : Node × Phase). x.0) (Contains-one (node, phase) b h))
      (known_target s.history valid node none.0))

  pub admitted : (op : Op) → NoneApplies (unknown_nodes s op) → NoneApplies (existing_ids s op)
      → IsAdmitted s (part_of s op)
  unfolding part_of
  admitted op known new = record {
    parents = λ i c at m h. chain_parents (Holds s.history) (base s.history op) (map entry_text (entries op))
        (known_base op known) i c at m h;
    bounds = λ b h. bounds_known op known b h;
    apart = λ c d at other same. elim other [
      | inl held ↦ absurd (fresh s.history (made s.history op) c new at
          (subst (Holds s.history) (sym same) (Holds-from (changesets s.history) d held)))
      | inr inside ↦ apart s.history (made s.history op) c d new at inside same
    ];
  }

-- the last of the nodes, by its place
pub last_at : (ns : List Node) (n : Node) → Some n ≡ slice_get ns (length ns - 1) → n ≡ last ns
last_at [] n h = absurd (none-some n (sym h))
last_at (m ∷ []) n h = same_Some n m h
last_at (k ∷ m ∷ ns) n h =
    let e : length (k ∷ m ∷ ns) - 1 ≡ suc (length (m ∷ ns) - 1) = omega arith in
    last_at (m ∷ ns) n (h ∙ ap (slice_get (k ∷ m ∷ ns)) e)

-- a part that has what the table says is the part by the table
pub part_is : (s : ReplicaState) (op : Op) (cs : List Contents) (bs : List (Node × Phase)) (ms : List Fields)
    → cs ≡ made s.history op → bs ≡ bounds s.history op → ms ≡ markers s.history op
    → record { history = record { changesets = cs; bounds = bs }; markers = ms } ≡ part_of s op
unfolding part_of
part_is s op cs bs ms a b c i = record { history = record { changesets = a i; bounds = b i }; markers = c i }
