-- All markers taken to be new, where none were there before.
use Rattle.std.proofs.Common.{◌≡◌, ◌↔◌, true≢false, inl, inr, List, [], Contains, refl, sym, subst}
use Rattle.hg_changeset.specs.declared.node.Node.{Node}
use Rattle.hg_changeset.proofs.ListLemmas.{Contains-none, Contains-from_place}
use Rattle.hg_marker.specs.Fields.{Fields}
use Rattle.hg_history.specs.ContentLaws.{below-same}
use Rattle.hg_replica.specs.State.{ReplicaState}
use Rattle.hg_replica.specs.Change.{ChangeValue}
use Rattle.hg_replica.specs.Content.{content_of}
use Rattle.hg_replica.specs.Evolution.{Precedes}
use Rattle.hg_replica.specs.Evolution.Precedes.{step, further}
use Rattle.hg_replica.proofs.MarkerLemmas.{holds-from, in_from_holds}
use Rattle.hg_instab.specs.Changed.{IsFresh, Follows}
use Rattle.hg_instab.specs.Near.{IsAfterPublic, IsForked, AreNearForks, IsRegion}

-- the same history, without a marker
abbrev pub unmarked : ReplicaState → ReplicaState
unmarked t = record { history = t.history; markers = [] }

pub first-follows : (t : ReplicaState) (change : ChangeValue)
    → ((m : Fields) → Contains t.markers m → IsFresh t.markers change m)
    → Follows (content_of (unmarked t)) (content_of t) change t.markers
first-follows t change fresh = record {
  same = λ n not. refl;
  held = λ n held. inl held;
  above = λ n. below-same ((content_of t).0 n);
  markers = λ m. (
    λ h. inr (fresh m (in_from_holds t.markers m h)),
    λ h. elim h [
      | inl old ↦ absurd (true≢false (sym old))
      | inr new ↦ holds-from t.markers m (Contains-from_place t.markers new.0 m new.2)
    ],
  );
}

-- without a marker nothing precedes anything
none-precedes : (t : ReplicaState) (Kind : Fields → Type 0) (p n : Node)
    → Precedes (content_of (unmarked t)) Kind p n → ⊥
none-precedes t Kind p n (step held kind at is) = true≢false (sym held)
none-precedes t Kind p n (further held kind at r) = true≢false (sym held)

pub none-after : (t : ReplicaState) (empty : List Node) → empty ≡ [] → (n : Node)
    → Contains empty n ↔ IsAfterPublic (content_of (unmarked t)) n
none-after t empty is n = (
  λ h. absurd (Contains-none n (subst (λ ns. Contains ns n) is h)),
  λ h. absurd (none-precedes t _ h.0 n h.2),
)

-- a region of all markers holds the forks
pub region-first : (t : ReplicaState) (change : ChangeValue) (near region : List Node)
    → IsRegion (content_of t) change t.markers near region
    → ((m : Fields) → Contains t.markers m → IsFresh t.markers change m) → AreNearForks (content_of t) (Contains region)
region-first t change near region is fresh = record {
  forks = λ n fork.
      let a = fork.0 in
      subst (Contains region) fork.5 (is.forked a (fresh a (in_from_holds t.markers a fork.3))
      (subst (IsForked (content_of t)) (sym fork.5) fork));
  closed = is.closed;
}
