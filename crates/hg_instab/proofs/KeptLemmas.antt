-- What a change turns in each kept set is what the set of the content after it is to have.
use Rattle.std.proofs.Common.{◌≡◌, ◌↔◌, ◌⊎◌, ◌++◌, inl, inr, List, Contains, sym, subst}
use Rattle.std.proofs.lemmas.List.Elements.{Contains-append_left, Contains-append_right, Contains-append_cases}
use Rattle.hg_changeset.specs.declared.node.Node.{Node}
use Rattle.hg_obsstore.proofs.IndexLemmas.{among_or_not}
use Rattle.hg_replica.specs.State.{ReplicaState, IsValid}
use Rattle.hg_replica.specs.Change.{ChangeValue}
use Rattle.hg_replica.specs.Content.{Content, content_of}
use Rattle.hg_replica.specs.Evolution.{IsObsolete, IsCurrent, IsSuspended, IsExtinct}
use Rattle.hg_instab.specs.Changed.{Follows, IsChangedTo, IsNow}
use Rattle.hg_instab.specs.declared.turn.Turn.{Turn}
use Rattle.hg_instab.specs.Instabilities.{IsContentDivergent, InstabilitySets, AreInstabilities}
use Rattle.hg_instab.specs.Near.{AreNearForks}
use Rattle.hg_instab.specs.Turns.{IsThen, AreThen, LeadTo}
use Rattle.hg_instab.specs.declared.turns.Turns.{Turns}
use Rattle.hg_instab.proofs.FollowsLemmas.{follows}
use Rattle.hg_instab.proofs.SetLemmas.{along}
use Rattle.hg_instab.proofs.SuspendedLemmas.{suspended-by_extinct}
use Rattle.hg_instab.proofs.TurnLemmas.{asked-then}

-- a change is one of contents
pub changed-follows : (s t : ReplicaState) (change : ChangeValue) → IsValid t → IsChangedTo s change t
    → Follows (content_of s) (content_of t) change t.markers
changed-follows s t change v is = follows s t change is.valid v is.above is.told

-- it is known whether it is in the set now
pub now-or : (set turned : List Node) (n : Node) → IsNow set turned n ⊎ (¬ (IsNow set turned n))
now-or set turned n = elim (among_or_not set n) [
  | inl there ↦ elim (among_or_not turned n) [
    | inl t ↦ inr (λ h. elim h [ inl a ↦ a.1 t | inr b ↦ b.0 there ])
    | inr none ↦ inl (inl (there, none))
  ]
  | inr out ↦ elim (among_or_not turned n) [
    | inl t ↦ inl (inr (out, t))
    | inr none ↦ inr (λ h. elim h [ inl a ↦ out a.0 | inr b ↦ none b.1 ])
  ]
]

-- one of two tests that say the same is known
told-by : {A B : Type 0} → A ⊎ (¬ A) → A ↔ B → B ⊎ (¬ B)
told-by d same = elim d [ inl a ↦ inl (same.0 a) | inr not ↦ inr (λ b. not (same.1 b)) ]

-- what is suspended, by sets that have exactly what is extinct
pub suspended-told : (s : ReplicaState) → IsValid s → (Is : Node → Type 0) → ((n : Node) → Is n ⊎ (¬ (Is n)))
    → ((n : Node) → Is n ↔ IsExtinct (content_of s) n) → (n : Node)
    → IsSuspended (content_of s) n ↔ (IsObsolete (content_of s) n × ¬ (Is n))
suspended-told s v Is told is n =
    let by = suspended-by_extinct s v (λ c. told-by (told c) (is c)) n in (
      λ h. let x = by.0 h in (x.0, λ e. x.1 ((is n).0 e)),
      λ h. by.1 (h.0, λ e. h.1 ((is n).1 e)),
    )

-- near forks are told by what holds just where they are
pub near-same : (f : Content) (P Q : Node → Type 0) → ((n : Node) → Q n ↔ P n) → AreNearForks f P → AreNearForks f Q
near-same f P Q same near = record {
  forks = λ n fork. (same n).1 (near.forks n fork);
  closed = λ m a b held named beside so. (same b).1 (near.closed m a b held named beside ((same a).0 so));
}

pub both-same : {A B C : Type 0} → B ↔ C → (A × B) ↔ (A × C)
both-same same = (λ h. (h.0, same.0 h.1), λ h. (h.0, same.1 h.1))

-- what is told with something that is so
pub so-there : {A B C : Type 0} → B → A ↔ (B × C) → A ↔ C
so-there b told = (λ a. (told.0 a).1, λ c. told.1 (b, c))

-- ---- asked again

-- asked again of two lists of nodes, where of the others it is as before
pub asked-both : (now_set set firsts seconds nodes now : List Node) (turn : Turn) (Was Is : Node → Type 0)
    → now_set ≡ set → nodes ≡ firsts ++ seconds
    → ((n : Node) → IsThen now_set turn n ↔ (Contains now n ⊎ (Contains now_set n × ¬ (Contains nodes n))))
    → ((n : Node) → Contains now n ↔ (Contains nodes n × Is n)) → ((n : Node) → Contains set n ↔ Was n)
    → ((n : Node) → ¬ (Contains firsts n) → ¬ (Contains seconds n) → Is n ↔ Was n) → (n : Node)
    → IsThen set turn n ↔ Is n
asked-both now_set set firsts seconds nodes now turn Was Is same all told is was others n =
    subst (λ ns. IsThen ns turn n ↔ Is n) same
    (asked-then now_set nodes now turn Was Is told is
    (λ m. subst (λ ns. Contains ns m ↔ Was m) (sym same) (was m))
    (λ m not. others m
    (λ h. not (subst (λ ns. Contains ns m) (sym all) (Contains-append_left firsts seconds m h)))
    (λ h. not (subst (λ ns. Contains ns m) (sym all) (Contains-append_right firsts seconds m h))))
    n)

-- what was asked of one list was asked of an equal one
pub asked-of : (Is : Node → Type 0) (asked nodes now : List Node) → asked ≡ nodes
    → ((n : Node) → Contains now n ↔ (Contains asked n × Is n)) → (n : Node)
    → Contains now n ↔ (Contains nodes n × Is n)
asked-of Is asked nodes now same is n = subst (λ ns. Contains now n ↔ (Contains ns n × Is n)) same (is n)

-- where something holds of those of the seeds alone that were chosen, they stand for all of them
pub chosen-of : (Is Chosen : Node → Type 0) (front seeds chosen now : List Node)
    → ((n : Node) → Contains chosen n ↔ (Contains seeds n × Chosen n)) → ((n : Node) → Is n → Chosen n)
    → ((n : Node) → Contains now n ↔ (Contains (front ++ chosen) n × Is n)) → (n : Node)
    → Contains now n ↔ (Contains (front ++ seeds) n × Is n)
chosen-of Is Chosen front seeds chosen now is within told n = (
  λ h.
      let those = (told n).0 h in (
        elim (Contains-append_cases front chosen n those.0) [
          | inl a ↦ Contains-append_left front seeds n a
          | inr b ↦ Contains-append_right front seeds n ((is n).0 b).0
        ],
        those.1,
      ),
  λ h. (told n).1 (
    elim (Contains-append_cases front seeds n h.0) [
      | inl a ↦ Contains-append_left front chosen n a
      | inr b ↦ Contains-append_right front chosen n ((is n).1 (b, within n h.1))
    ],
    h.1,
  ),
)

-- in the region it was found, and outside it was so and is current
pub divergent-is : (f g : Content) (region found set : List Node)
    → ((n : Node) → Contains region n → Contains found n ↔ IsContentDivergent g n)
    → ((n : Node) → ¬ (Contains region n) → IsContentDivergent g n ↔ (IsContentDivergent f n × IsCurrent g n))
    → ((n : Node) → Contains set n ↔ IsContentDivergent f n) → (n : Node)
    → ((Contains region n × Contains found n) ⊎ (¬ (Contains region n) × (Contains set n × IsCurrent g n)))
    ↔ IsContentDivergent g n
divergent-is f g region found set inside outside was n = (
  λ h. elim h [
    | inl in_it ↦ (inside n in_it.0).0 in_it.1
    | inr out ↦ (outside n out.0).1 ((was n).0 out.1.0, out.1.1)
  ],
  λ h. elim (among_or_not region n) [
    | inl in_it ↦ inl (in_it, (inside n in_it).1 h)
    | inr out ↦ let x = (outside n out).0 h in inr (out, ((was n).1 x.0, x.1))
  ],
)

-- ---- all sets

-- what is so of a set is so of an equal one
pub set-along : (xs ys : List Node) (P : Node → Type 0) → xs ≡ ys → ((n : Node) → Contains ys n ↔ P n) → (n : Node)
    → Contains xs n ↔ P n
set-along xs ys P same is n = subst (λ zs. Contains zs n ↔ P n) (sym same) (is n)

pub then-along : (xs ys : List Node) (turn : Turn) (P : Node → Type 0) → xs ≡ ys → ((n : Node) → IsThen xs turn n ↔ P n)
    → (n : Node) → IsThen ys turn n ↔ P n
then-along xs ys turn P same is n = subst (λ zs. IsThen zs turn n ↔ P n) same (is n)

pub flip : {A B : Type 0} → A ↔ B → B ↔ A
flip h = (h.1, h.0)

-- each set is what its turn leaves, and that is what it is to have
pub kept-then : (g : Content) (before after : InstabilitySets) (turns : Turns) → AreThen before turns after
    → LeadTo g before turns → AreInstabilities g after
kept-then g before after turns then told = record {
  obsolete = λ n. along (then.obsolete n) (told.obsolete n);
  orphan = λ n. along (then.orphan n) (told.orphan n);
  suspended = λ n. along (then.suspended n) (told.suspended n);
  extinct = λ n. along (then.extinct n) (told.extinct n);
  phase_divergent = λ n. along (then.phase_divergent n) (told.phase_divergent n);
  content_divergent = λ n. along (then.content_divergent n) (told.content_divergent n);
  after_public = λ n. along (then.after_public n) (told.after_public n);
  near_forks = near-same g (IsThen before.near_forks turns.near_forks) (Contains after.near_forks) then.near_forks
      told.near_forks;
}
