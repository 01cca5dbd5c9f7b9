-- It isn't that there is no offer.
use Rattle.std.proofs.Common.{◌≡◌, List, [], ◌∷◌, ◌++◌, Contains, ◌↔◌, ◌⊎◌, inl, inr, refl, sym, subst, ◌∙◌}
use Rattle.std.specs.List.{AllByRecursion}
use Rattle.std.specs.List.Sorted.{IsStrictlySortedBy}
use Rattle.std.specs.declared.cmp.Ordering.{Ordering}
use Rattle.std.specs.declared.cmp.Ordering.TheVariants.{Less, Equal, Greater}
use Rattle.std.proofs.lemmas.List.Elements.{All-contains, All-from_recursion}
use Rattle.hg_changeset.specs.declared.node.Node.{Node}
use Rattle.hg_changeset.specs.Node.{node_cmp}
use Rattle.hg_changeset.proofs.NodeLemmas.{node_cmp_total, node_cmp_exact, greater_is_less}
use Rattle.hg_changeset.proofs.ListLemmas.{Contains-none, Contains-first, Contains-later, Contains-one}
use Rattle.hg_changeset.proofs.ListLemmas.{Contains-cons_cases}
use Rattle.hg_graph.specs.Graph.{nodes}
use Rattle.hg_phases.specs.declared.phase.Phase.TheVariants.{Public, Draft}
use Rattle.hg_phases.specs.State.{changesets}
use Rattle.hg_history.specs.Content.{IsHeld}
use Rattle.hg_history.proofs.ContentLemmas.{node_in_content}
use Rattle.hg_replica.specs.State.{ReplicaState, IsValid}
use Rattle.hg_replica.specs.Content.{content_of}
use Rattle.hg_message.specs.Value.{MessageValue}
use Rattle.hg_message.specs.declared.scope.Scope.{Scope}
use Rattle.hg_message.specs.Offer.{IsNamed, IsNamedMarker, IsOutgoing, IsOneWith, IsHead, AreHeads, bounds_in}
use Rattle.hg_message.specs.Offer.{IsOfferOf}
use Rattle.hg_message.proofs.ThoseLemmas.{those-member, those-exist}
use Rattle.hg_message.proofs.OfferLemmas.{is-offer}

-- ---- ascending lists

pub all_by_members : {X : Type 0} (P : X → Type 0) (xs : List X) → ((x : X) → Contains xs x → P x) → AllByRecursion P xs
all_by_members P [] each = tt
all_by_members P (x ∷ xs) each = (
  each x (Contains-first x xs),
  all_by_members P xs (λ n at. each n (Contains-later x xs n at)),
)

-- the nodes ascending, with one more
record Put (k : Node) (xs : List Node) : Type 0 where
  list : List Node
  ascending : IsStrictlySortedBy node_cmp list
  members : (n : Node) → Contains list n ↔ ((k ≡ n) ⊎ Contains xs n)

put : (k : Node) (xs : List Node) → IsStrictlySortedBy node_cmp xs → Put k xs
unfolding IsStrictlySortedBy
put k [] up = record {
  list = k ∷ [];
  ascending = (tt, tt);
  members = λ n. (
    λ h. inl (Contains-one k n h),
    λ h. elim h [
      | inl e ↦ subst (Contains (k ∷ [])) e (Contains-first k [])
      | inr at ↦
          absurd (Contains-none n at)
    ],
  );
}
put k (x ∷ xs) up = by (node_cmp k x) refl (put k xs up.1)
  where
    above : (n : Node) → Contains xs n → node_cmp x n ≡ Less
    above n at = All-contains (λ y. node_cmp x y ≡ Less) xs n (All-from_recursion (λ y. node_cmp x y ≡ Less) xs up.0) at

    by : (o : Ordering) → node_cmp k x ≡ o → Put k xs → Put k (x ∷ xs)
    by Less e rest = record {
      list = k ∷ (x ∷ xs);
      ascending = (
        (
          e,
          all_by_members (λ n. node_cmp k n ≡ Less) xs
              (λ n at. node_cmp_total.trans k x n e (above n at)),
        ),
        up,
      );
      members = λ n. (
        Contains-cons_cases k (x ∷ xs) n,
        λ h. elim h [
          | inl is ↦ subst (Contains (k ∷ (x ∷ xs))) is (Contains-first k (x ∷ xs))
          | inr at ↦
              Contains-later k (x ∷ xs) n at
        ],
      );
    }
    by Equal e rest = record {
      list = x ∷ xs;
      ascending = up;
      members = λ n. (
        λ h. inr h,
        λ h. elim h [
          | inl is ↦ subst (Contains (x ∷ xs)) (sym (node_cmp_exact k x e) ∙ is)
              (Contains-first x xs)
          | inr at ↦ at
        ],
      );
    }
    by Greater e rest = record {
      list = x ∷ rest.list;
      ascending = (
        all_by_members (λ n. node_cmp x n ≡ Less) rest.list
            (λ n at. elim ((rest.members n).0 at) [
              | inl is ↦ subst (λ y. node_cmp x y ≡ Less) is
                  (greater_is_less k x e)
              | inr there ↦ above n there
            ]),
        rest.ascending,
      );
      members = λ n. (
        λ h. elim (Contains-cons_cases x rest.list n h) [
          | inl is ↦ inr (subst (Contains (x ∷ xs)) is (Contains-first x xs))
          | inr at ↦ elim ((rest.members n).0 at) [ inl is ↦ inl is | inr there ↦ inr (Contains-later x xs n there) ]
        ],
        λ h. elim h [
          | inl is ↦ Contains-later x rest.list n ((rest.members n).1 (inl is))
          | inr at ↦ elim (Contains-cons_cases x xs n at) [
            | inl is ↦ subst (Contains (x ∷ rest.list)) is (Contains-first x rest.list)
            | inr there ↦ Contains-later x rest.list n ((rest.members n).1 (inr there))
          ]
        ],
      );
    }

record Ascending (xs : List Node) : Type 0 where
  list : List Node
  ascending : IsStrictlySortedBy node_cmp list
  members : (n : Node) → Contains list n ↔ Contains xs n

ascending_of : (xs : List Node) → Ascending xs
unfolding IsStrictlySortedBy
ascending_of [] = record { list = []; ascending = tt; members = λ n. (λ h. h, λ h. h) }
ascending_of (x ∷ xs) =
    let rest = ascending_of xs in
    let one = put x rest.list rest.ascending in
    record {
      list = one.list;
      ascending = one.ascending;
      members = λ n. (
        λ h. elim ((one.members n).0 h) [
          | inl is ↦ subst (Contains (x ∷ xs)) is (Contains-first x xs)
          | inr at ↦
              Contains-later x xs n ((rest.members n).0 at)
        ],
        λ h. (one.members n).1
            (elim (Contains-cons_cases x xs n h) [ inl is ↦ inl is | inr at ↦ inr ((rest.members n).1 at) ]),
      );
    }

-- ---- heads

heads-exist : (s : ReplicaState) → IsValid s → (P : Node → Type 0) → ((n : Node) → P n → IsHeld (content_of s).0 n)
    → ((heads : List Node) → AreHeads (content_of s) P heads → ⊥) → ⊥
heads-exist s valid P held none =
    let ns = nodes (changesets s.history) in
    those-exist (IsHead (content_of s) P) ns (λ found are.
    let up = ascending_of found in
    none up.list (record {
      exact = λ n.
          let told = those-member (IsHead (content_of s) P) ns found are n in (
            λ h. (told.0 ((up.members n).0 h)).1,
            λ h. (up.members n).1 (told.1 (node_in_content s.history valid.graph n (held n h.0), h)),
          );
      ascending = up.ascending;
    }))

pub offer-exists : (s : ReplicaState) (pins common : List Node) (scope : Scope) → IsValid s
    → ((m : MessageValue) → IsOfferOf s pins common scope m → ⊥) → ⊥
offer-exists s pins common scope valid none =
    let f = content_of s in
    let P = IsNamed f pins scope in
    those-exist (IsOutgoing f P common) (changesets s.history) (λ cs out.
    those-exist (IsNamedMarker f pins scope) s.markers (λ ms named.
    heads-exist s valid (IsOneWith f P Public) (λ n h. (h.1.0, h.1.1)) (λ public public_heads.
    heads-exist s valid (IsOneWith f P Draft) (λ n h. (h.1.0, h.1.1)) (λ draft draft_heads.
    let bounds = bounds_in Public public ++ bounds_in Draft draft in
    none (record { scope = scope; changesets = cs; bounds = bounds; markers = ms }) (
      is-offer s valid pins common scope cs bounds ms out
          (record {
            public = public;
            draft = draft;
            public_heads = public_heads;
            draft_heads = draft_heads;
            both = refl;
          }) named,
      refl,
    )))))
