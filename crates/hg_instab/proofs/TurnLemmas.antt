-- What comes to a set and goes from it.
use Rattle.std.proofs.Common.{◌≡◌, ◌≢◌, false, true≢false, cond, ◌↔◌, ◌⊎◌, inl, inr, List, []}
use Rattle.std.proofs.Common.{Contains, sym, ap, subst, ◌∙◌}
use Rattle.std.specs.BTreeMap.{is_at}
use Rattle.std.specs.BTreeSet.{BTreeSet, Updates, contains}
use Rattle.std.specs.Cmp.{Equal-is}
use Rattle.std.specs.List.Sorted.{IsStrictlySortedBy}
use Rattle.std.proofs.lemmas.Bool.{cases_Bool, not-true}
use Rattle.std.specs.Prelude.{Bool, true, not}
use Rattle.std.specs.Bool.{OnFalse}
use Rattle.hg_graph.proofs.WalkLemmas.{inserted}
use Rattle.std.proofs.lemmas.Map.Views.{btree_set_contains_iff}
use Rattle.hg_changeset.specs.declared.node.Node.{Node}
use Rattle.hg_changeset.specs.Node.{node_cmp}
use Rattle.hg_changeset.proofs.ListLemmas.{Contains-none}
use Rattle.hg_changeset.proofs.NodeLemmas.{node_cmp_total, node_cmp_exact}
use Rattle.hg_obsstore.proofs.IndexLemmas.{among_or_not}
use Rattle.hg_succ.proofs.SortedLemmas.{same_members}
use Rattle.hg_instab.specs.Changed.{IsNow}
use Rattle.hg_instab.specs.declared.turn.Turn.{Turn}
use Rattle.hg_instab.specs.Turns.{IsTurn, IsThen, IsGrowth, IsStage, HasCome, HasPut}

-- a node less
pub node-removed : (s t : BTreeSet Node) (k : Node) → Updates node_cmp s t k false → (n : Node)
    → Contains t.keys n ↔ (Contains s.keys n × (n ≢ k))
node-removed s t k up n =
    let before = btree_set_contains_iff node_cmp_total node_cmp_exact s n in
    let after = btree_set_contains_iff node_cmp_total node_cmp_exact t n in (
      λ h. (
        elim (cases_Bool (is_at (node_cmp k) n)) [
          | inl e ↦ absurd (true≢false
              (sym (after.1 h) ∙ up.0 n ∙ ap (λ b. cond b false (contains node_cmp s n)) e))
          | inr ne ↦ before.0 (sym (up.2 n ne) ∙ after.1 h)
        ],
        λ same. true≢false (sym (after.1 h) ∙ ap (contains node_cmp t) same ∙ up.1),
      ),
      λ h. elim (cases_Bool (is_at (node_cmp k) n)) [
        | inl e ↦ absurd (h.1 (sym (node_cmp_exact k n ((Equal-is (node_cmp k n)).0 e))))
        | inr ne ↦ after.0 (up.2 n ne ∙ before.1 h.0)
      ],
    )

module _ (set nodes now so : List Node) (turn : Turn)
    (come : (n : Node) → Contains turn.come.items n ↔ (Contains now n × ¬ (Contains set n)))
    (is_so : (n : Node) → Contains so n ↔ Contains now n)
    (gone : (n : Node) → Contains turn.gone.items n ↔ (Contains nodes n × (Contains set n × ¬ (Contains so n)))) where
  pub turn-made : IsTurn set turn
  turn-made = record { come = λ n h. ((come n).0 h).1; gone = λ n h. ((gone n).0 h).1.0 }

  pub turn-then : (n : Node) → IsThen set turn n ↔ (Contains now n ⊎ (Contains set n × ¬ (Contains nodes n)))
  turn-then n = (
    λ h. elim h [
      | inl c ↦ inl ((come n).0 c).0
      | inr stays ↦ elim (among_or_not nodes n) [
        | inl asked ↦ elim (among_or_not now n) [
          | inl those ↦ inl those
          | inr not ↦ absurd (stays.1 ((gone n).1 (asked, (stays.0, λ x. not ((is_so n).0 x)))))
        ]
        | inr other ↦ inr (stays.0, other)
      ]
    ],
    λ h. elim h [
      | inl those ↦ elim (among_or_not set n) [
        | inl there ↦ inr (there, λ g. ((gone n).0 g).1.1 ((is_so n).1 those))
        | inr not ↦ inl ((come n).1 (those, not))
      ]
      | inr stays ↦ inr (stays.0, λ g. stays.1 ((gone n).0 g).0)
    ],
  )

-- those that turn change sides
module _ (set turned : List Node) (turn : Turn)
    (come : (n : Node) → Contains turn.come.items n ↔ (Contains turned n × ¬ (Contains set n)))
    (gone : (n : Node) → Contains turn.gone.items n ↔ (Contains turned n × Contains set n)) where
  pub sides-made : IsTurn set turn
  sides-made = record { come = λ n h. ((come n).0 h).1; gone = λ n h. ((gone n).0 h).1 }

  pub sides-then : (n : Node) → IsThen set turn n ↔ IsNow set turned n
  sides-then n = (
    λ h. elim h [
      | inl c ↦ let x = (come n).0 c in inr (x.1, x.0)
      | inr stays ↦ inl (stays.0, λ t. stays.1 ((gone n).1 (t, stays.0)))
    ],
    λ h. elim h [
      | inl stays ↦ inr (stays.0, λ g. stays.1 ((gone n).0 g).0)
      | inr new ↦ inl ((come n).1 (new.1, new.0))
    ],
  )

-- what neither comes nor goes is as it was
pub others-then : (set : List Node) (turn : Turn) (n : Node) → ¬ (Contains turn.come.items n)
    → ¬ (Contains turn.gone.items n) → IsThen set turn n ↔ Contains set n
others-then set turn n come gone =
    (λ h. elim h [ inl c ↦ absurd (come c) | inr stays ↦ stays.0 ], λ h. inr (h, gone))

-- what comes wasn't there, and nothing goes
pub grown : (set nodes : List Node) (turn : Turn) → turn.gone.items ≡ []
    → ((n : Node) → Contains turn.come.items n ↔ (Contains nodes n × ¬ (Contains set n)))
    → IsGrowth set turn (Contains nodes)
grown set nodes turn none come n =
    let stays : Contains set n → IsThen set turn n =
    λ there. inr (there, λ gone. Contains-none n (subst (λ ns. Contains ns n) none gone)) in (
      λ h. elim h [ inl c ↦ inr ((come n).0 c).0 | inr was ↦ inl was.0 ],
      λ h. elim h [
        | inl there ↦ stays there
        | inr those ↦ elim (among_or_not set n)
            [ inl there ↦ stays there | inr out ↦ inl ((come n).1 (those, out)) ]
      ],
    )

-- the same of an equal set, to which an equal list of nodes comes
pub grown-to : (xs set ys nodes : List Node) (turn : Turn) → xs ≡ set → ys ≡ nodes → IsGrowth xs turn (Contains ys)
    → IsGrowth set turn (Contains nodes)
grown-to xs set ys nodes turn same all grows =
    subst (λ zs. IsGrowth set turn (Contains zs)) all (subst (λ zs. IsGrowth zs turn (Contains ys)) same grows)

-- what came is taken out again
pub given_back : (turn : Turn) (before now after : List Node) → IsTurn before turn
    → IsStage turn.come.items before now → IsStrictlySortedBy node_cmp now → IsStrictlySortedBy node_cmp after
    → ((n : Node) → Contains after n ↔ (Contains now n × ¬ (Contains turn.come.items n))) → after ≡ before
given_back turn before now after is stage up still members = same_members node_cmp_total after before still
    (stage.ordered up)
    (λ n h. let x = (members n).0 h in elim (stage.from n x.0) [ inl old ↦ old | inr c ↦ absurd (x.1 c) ])
    (λ n h. (members n).1 (stage.kept n h, λ c. is.come n c h))

-- what goes is taken out
pub gone-then : (turn : Turn) (before now after : List Node) → IsTurn before turn
    → IsStage turn.come.items before now → HasCome turn now
    → ((n : Node) → Contains after n ↔ (Contains now n × ¬ (Contains turn.gone.items n))) → (n : Node)
    → Contains after n ↔ IsThen before turn n
gone-then turn before now after is stage all members n = (
  λ h. let x = (members n).0 h in elim (stage.from n x.0) [ inl old ↦ inr (old, x.1) | inr c ↦ inl c ],
  λ h. (members n).1 (elim h [
    | inl c ↦ (all n c, λ g. is.come n c (is.gone n g))
    | inr stays ↦ (stage.kept n stays.0, stays.1)
  ]),
)

-- asked again of some nodes, where of the others it is as before
pub asked-then : (set nodes now : List Node) (turn : Turn) (Was Is : Node → Type 0)
    → ((n : Node) → IsThen set turn n ↔ (Contains now n ⊎ (Contains set n × ¬ (Contains nodes n))))
    → ((n : Node) → Contains now n ↔ (Contains nodes n × Is n)) → ((n : Node) → Contains set n ↔ Was n)
    → ((n : Node) → ¬ (Contains nodes n) → Is n ↔ Was n) → (n : Node) → IsThen set turn n ↔ Is n
asked-then set nodes now turn Was Is told is was others n = (
  λ h. elim ((told n).0 h) [
    | inl those ↦ ((is n).0 those).1
    | inr stays ↦ (others n stays.1).1 ((was n).0 stays.0)
  ],
  λ h. (told n).1 (elim (among_or_not nodes n) [
    | inl asked ↦ inl ((is n).1 (asked, h))
    | inr other ↦ inr ((was n).1 ((others n other).0 h), other)
  ]),
)

-- ---- one node that is put, and taken back

pub put-in : (s t : BTreeSet Node) (node : Node) (came : Bool) → IsStrictlySortedBy node_cmp s.keys
    → came ≡ not (contains node_cmp s node) → Updates node_cmp s t node true → OnFalse came (t.keys ≡ s.keys)
    → HasPut node came s.keys t.keys
put-in s t node came up is updates same = record {
  ordered = up;
  then = λ n.
      let added = inserted node_cmp_total node_cmp_exact s t node updates n in (
        λ h. elim (added.0 h) [ inl old ↦ inl old | inr e ↦ inr (sym e) ],
        λ h. added.1 (elim h [ inl old ↦ inl old | inr e ↦ inr (sym e) ]),
      );
  new = λ it h. true≢false (sym ((btree_set_contains_iff node_cmp_total node_cmp_exact s node).1 h)
      ∙ not-true _ (sym is ∙ it));
  old = λ not_it. subst (λ b. OnFalse b (t.keys ≡ s.keys)) not_it same;
}

pub taken_back : (before now after : List Node) (node : Node) (came : Bool) → HasPut node came before now
    → came ≡ true → IsStrictlySortedBy node_cmp after
    → ((n : Node) → Contains after n ↔ (Contains now n × (n ≢ node))) → after ≡ before
taken_back before now after node came put it still members = same_members node_cmp_total after before still put.ordered
    (λ n h. let x = (members n).0 h in elim ((put.then n).0 x.0) [ inl old ↦ old | inr e ↦ absurd (x.1 e) ])
    (λ n h. (members n).1 ((put.then n).1 (inl h), λ e. put.new it (subst (Contains before) e h)))
