-- Each part is admitted, or has a first fault.
use Rattle.std.proofs.Common.{◌≡◌, ◌≢◌, ℕ, zero, suc, ◌<◌, ◌≤◌, Bool, true, false, List, [], ◌∷◌, ◌++◌, length, take}
use Rattle.std.proofs.Common.{slice_get, Some, Contains, ◌⊎◌, inl, inr, refl, sym, ap, subst, ◌∙◌, arith}
use Rattle.std.specs.List.{list_any}
use Rattle.std.proofs.lemmas.Bool.{cases_eq, cases_order}
use Rattle.std.proofs.lemmas.List.Elements.{Contains-append_left, Contains-append_right, Contains-append_cases}
use Rattle.std.proofs.lemmas.Map.Views.{list_any-from_Contains, Contains-from_any}
use Rattle.std.proofs.lemmas.Option.{same_Some, slice_get_within}
use Rattle.hg_changeset.specs.declared.node.Node.{Node}
use Rattle.hg_changeset.specs.Node.{node_eq, null_node}
use Rattle.hg_changeset.specs.Contents.{Contents}
use Rattle.hg_changeset.specs.Changeset.{node_of}
use Rattle.hg_changeset.proofs.NodeLemmas.{same_node, node_eq_laws, node_cases}
use Rattle.hg_changeset.proofs.ListLemmas.{slice_get-take, Contains-one, slice_get_some}
use Rattle.hg_graph.specs.Graph.{nodes, Holds, HoldsParents}
use Rattle.hg_graph.specs.Answers.{IsFirstMissing, Collides}
use Rattle.hg_graph.proofs.GraphLemmas.{Contains-from_place, place_from_Contains, Holds-from, Holds-changeset}
use Rattle.hg_phases.specs.declared.phase.Phase.{Phase}
use Rattle.hg_phases.specs.State.{State, changesets}
use Rattle.hg_phases.specs.Least.{PartValue, IsAdmitted}
use Rattle.hg_history.specs.declared.fault.Fault.{Fault}
use Rattle.hg_history.specs.declared.fault.Fault.TheVariants.{UnknownParent, Collision, UnknownBound, NullBound}
use Rattle.hg_history.specs.Answer.{IsFineUpTo, AreHeldUpTo, IsFirstUnheld, IsFirstFault}

-- ---- what can be decided

same_text_or_not : (xs ys : List ℕ) → (xs ≡ ys) ⊎ (xs ≢ ys)
same_text_or_not xs ys = elim (node_cases (record { 0 = xs }) (record { 0 = ys })) [
  | inl e ↦ inl (ap (λ n. n.0) e)
  | inr ne ↦ inr (λ e. ne (λ i. record { 0 = e i }))
]

pub same_contents_or_not : (c d : Contents) → (c ≡ d) ⊎ (c ≢ d)
same_contents_or_not c d = elim (node_cases c.first d.first) [
  | inr ne ↦ inr (λ e. ne (ap (λ x. x.first) e))
  | inl first ↦ elim (node_cases c.second d.second) [
    | inr ne ↦ inr (λ e. ne (ap (λ x. x.second) e))
    | inl second ↦ elim (same_text_or_not c.text d.text) [
      | inr ne ↦ inr (λ e. ne (ap (λ x. x.text) e))
      | inl text ↦ inl (λ i. record { first = first i; second = second i; text = text i })
    ]
  ]
]

pub held_or_not : (cs : List Contents) (n : Node) → Holds cs n ⊎ ¬ (Holds cs n)
held_or_not cs n = by (list_any (node_eq n) (nodes cs)) refl
  where
    by : (b : Bool) → list_any (node_eq n) (nodes cs) ≡ b → Holds cs n ⊎ ¬ (Holds cs n)
    by true e = inl (Contains-from_any same_node n (nodes cs) e)
    by false e = inr (λ h. let is = list_any-from_Contains node_eq_laws n (nodes cs) h in cc (is, e))

collides_or_not : (cs : List Contents) (c : Contents) → Collides cs c ⊎ ¬ (Collides cs c)
collides_or_not cs c = elim (held_or_not cs (node_of c)) [
  | inr out ↦ inr (λ h. out (subst (Holds cs) h.2 (Holds-from cs h.0 h.1)))
  | inl _ ↦ by cs
]
  where
    by : (ds : List Contents) → Collides ds c ⊎ ¬ (Collides ds c)
    by [] = inr (λ h. absurd (omega (arith, h.1.1)))
    by (d ∷ ds) = elim (by ds) [
      | inl h ↦ inl (h.0, Contains-append_right (d ∷ []) ds h.0 h.1, h.2, h.3)
      | inr none ↦ elim (node_cases (node_of d) (node_of c)) [
        | inr other ↦ inr (λ h. elim (Contains-append_cases (d ∷ []) ds h.0 h.1) [
          | inl x ↦ other (ap node_of (Contains-one d h.0 x) ∙ h.2)
          | inr x ↦ none (h.0, x, h.2, h.3)
        ])
        | inl same ↦ elim (same_contents_or_not d c) [
          | inr differ ↦ inl (d, (0, omega arith, refl), same, differ)
          | inl is ↦ inr (λ h. elim (Contains-append_cases (d ∷ []) ds h.0 h.1) [
            | inl x ↦ h.3 (sym (Contains-one d h.0 x) ∙ is)
            | inr x ↦ none (h.0, x, h.2, h.3)
          ])
        ]
      ]
    ]

-- a parent that is absent or held, or one that is missing
there_or_not : (cs : List Contents) (p : Node) → ((p ≡ null_node) ⊎ Holds cs p) ⊎ ((p ≢ null_node) × ¬ (Holds cs p))
there_or_not cs p = elim (node_cases p null_node) [
  | inl e ↦ inl (inl e)
  | inr ne ↦ elim (held_or_not cs p) [ inl h ↦ inl (inr h) | inr out ↦ inr (ne, out) ]
]

missing_or_not : (cs : List Contents) (c : Contents) → ((p : Node) × IsFirstMissing cs c p) ⊎ HoldsParents cs c
missing_or_not cs c = elim (there_or_not cs c.first) [
  | inr out ↦ inl (c.first, ((out.0, inl refl), out.1, λ ne. absurd (ne refl)))
  | inl first ↦ elim (there_or_not cs c.second) [
    | inr out ↦ inl
        (c.second, ((out.0, inr refl), out.1, λ ne there. elim first [ inl e ↦ absurd (there e) | inr h ↦ h ]))
    | inl second ↦ inr
        (λ p is. elim is.1 [ inl e ↦ held p is.0 c.first first e | inr e ↦ held p is.0 c.second second e ])
  ]
]
  where
    held : (p : Node) → p ≢ null_node → (q : Node) → (q ≡ null_node) ⊎ Holds cs q → q ≡ p → Holds cs p
    held p ne q (inl e) is = absurd (ne (sym is ∙ e))
    held p ne q (inr h) is = subst (Holds cs) is h

-- ---- going through a part

module _ (held part : List Contents) where
  -- one more changeset is fine
  fine-more : (i : ℕ) (c : Contents) → slice_get part i ≡ Some c → IsFineUpTo held part i
      → HoldsParents (held ++ take i part) c × ¬ (Collides (held ++ take i part) c) → IsFineUpTo held part (suc i)
  fine-more i c at before here j d l at_d = elim (cases_eq j i) [
    | inr ne ↦ let less : j < i = omega arith in before j d less at_d
    | inl e ↦
        let d_is : d ≡ c = same_Some d c (sym at_d ∙ ap (slice_get part) e ∙ at) in
        subst (λ y. HoldsParents (held ++ take y part) d × ¬ (Collides (held ++ take y part) d)) (sym e)
        (subst (λ x. HoldsParents (held ++ take i part) x × ¬ (Collides (held ++ take i part) x)) (sym d_is) here)
  ]

  -- the changesets are fine, or one of them is the first that isn't
  changesets_tried : (i : ℕ) → i ≤ length part → IsFineUpTo held part i
      ⊎ ((f : Fault)
      × ((bounds : List (Node × Phase)) → IsFirstFault held (record { changesets = part; bounds = bounds }) f))
  changesets_tried zero le = inl (λ j c l. absurd (omega arith))
  changesets_tried (suc i) le = elim (changesets_tried i (omega arith)) [
    | inr fault ↦ inr fault
    | inl fine ↦
        let within : i < length part = omega arith in
        let c = slice_get_some part i within in
        elim (missing_or_not (held ++ take i part) c.0) [
          | inl p ↦ inr (UnknownParent p.0, λ bounds. (i, c.0, c.1, fine, p.1))
          | inr parents ↦ elim (collides_or_not (held ++ take i part) c.0) [
            | inl h ↦ inr (Collision (node_of c.0), λ bounds. (i, c.0, c.1, fine, parents, h, refl))
            | inr apart ↦ inl (fine-more i c.0 c.1 fine (parents, apart))
          ]
        ]
  ]

-- the bounds' nodes are held, or one of them is the first that isn't
bounds_tried : (cs : List Contents) (bounds : List (Node × Phase)) (i : ℕ) → i ≤ length bounds → AreHeldUpTo cs bounds i
    ⊎ ((n : Node) × IsFirstUnheld cs bounds n)
bounds_tried cs bounds zero le = inl (λ j b l. absurd (omega arith))
bounds_tried cs bounds (suc i) le = elim (bounds_tried cs bounds i (omega arith)) [
  | inr fault ↦ inr fault
  | inl before ↦
      let within : i < length bounds = omega arith in
      let b = slice_get_some bounds i within in
      elim (held_or_not cs b.0.0) [
        | inr out ↦ inr (b.0.0, record { place = i; bound = b.0; at = b.1; before = before; node = refl; unheld = out })
        | inl h ↦ inl (λ j d l at_d. elim (cases_eq j i) [
          | inr ne ↦ let less : j < i = omega arith in before j d less at_d
          | inl e ↦ subst (λ x. Holds cs x.0) (same_Some b.0 d (sym b.1 ∙ ap (slice_get bounds) (sym e) ∙ at_d)) h
        ])
      ]
]

-- ---- a part without a fault

-- a node of these changesets, or of those
pub among : (cs ds : List Contents) (n : Node) → Holds (cs ++ ds) n → Holds cs n ⊎ Contains (nodes ds) n
among cs ds n h =
    let c = Holds-changeset (cs ++ ds) n h in
    elim (Contains-append_cases cs ds c.0 c.1) [
      | inl x ↦ inl (subst (Holds cs) c.2 (Holds-from cs c.0 x))
      | inr x ↦ inr (subst (Holds ds) c.2 (Holds-from ds c.0 x))
    ]

module _ (s : State) (k : PartValue) (fine : IsFineUpTo (changesets s) k.changesets (length k.changesets)) where
  -- where one of two changesets comes first, or is held, the other doesn't collide with it
  apart_at : (i : ℕ) (c d : Contents) → slice_get k.changesets i ≡ Some c
      → Contains (changesets s ++ take i k.changesets) d → node_of d ≡ node_of c → d ≡ c
  apart_at i c d at in_front e = elim (same_contents_or_not d c) [
    | inl is ↦ is
    | inr differ ↦ absurd ((fine i c (slice_get_within k.changesets i c at) at).1 (d, in_front, e, differ))
  ]

  in_front : (i j : ℕ) (c : Contents) → j < i → slice_get k.changesets j ≡ Some c
      → Contains (changesets s ++ take i k.changesets) c
  in_front i j c l at =
      Contains-append_right (changesets s) (take i k.changesets) c
      (Contains-from_place (take i k.changesets) j c (slice_get-take k.changesets i j c l at))

  pub fine-admitted : AreHeldUpTo (changesets s ++ k.changesets) k.bounds (length k.bounds) → IsAdmitted s k
  fine-admitted there = record {
    parents = λ i c at p is. among (changesets s) (take i k.changesets) p
        ((fine i c (slice_get_within k.changesets i c at) at).0 p is);
    bounds = λ b at. let p = place_from_Contains k.bounds b at in
        among (changesets s) k.changesets b.0 (there p.0 b (slice_get_within k.bounds p.0 b p.1) p.1);
    apart = λ c d at_c at_d e.
        let p = place_from_Contains k.changesets c at_c in
        elim at_d [
          | inl x ↦ sym (apart_at p.0 c d p.1 (Contains-append_left (changesets s) (take p.0 k.changesets) d x) (sym e))
          | inr x ↦
              let q = place_from_Contains k.changesets d x in
              elim (cases_order p.0 q.0) [
                | inl same ↦ same_Some c d (sym p.1 ∙ ap (slice_get k.changesets) same ∙ q.1)
                | inr o ↦ elim o [
                  | inl before ↦ apart_at q.0 d c q.1 (in_front q.0 p.0 c before p.1) e
                  | inr after ↦ sym (apart_at p.0 c d p.1 (in_front p.0 q.0 d after q.1) (sym e))
                ]
              ]
        ];
  }

-- a part is admitted, or something is first wrong with it
pub admitted_or_fault : (s : State) (k : PartValue) → IsAdmitted s k ⊎ ((f : Fault) × IsFirstFault (changesets s) k f)
admitted_or_fault s k = elim (changesets_tried (changesets s) k.changesets (length k.changesets) (omega arith)) [
  | inr fault ↦ inr (fault.0, fault.1 k.bounds)
  | inl fine ↦ elim (bounds_tried (changesets s ++ k.changesets) k.bounds (length k.bounds) (omega arith)) [
    | inl there ↦ inl (fine-admitted s k fine there)
    | inr out ↦ elim (node_cases out.0 null_node) [
      | inr ne ↦ inr (UnknownBound out.0, (fine, out.1, ne))
      | inl null ↦ inr (NullBound, (fine, subst (IsFirstUnheld (changesets s ++ k.changesets) k.bounds) null out.1))
    ]
  ]
]
