-- Worlds that can't be told apart by what their nodes and messages say and by what is the nodes' own.
use Rattle.std.specs.Prelude.{◌≡◌, ℕ, Some, List, [], ◌∷◌, length, slice_get}
use Rattle.hg_join.specs.declared.state.JoinState.{Ghosts as StateWords}
use Rattle.hg_join.specs.declared.actor.Actor.{Ghosts as ActorWords}
use Rattle.hg_join.specs.Order.{SaySame}
use Rattle.hg_world.specs.Runs.{Snapshot}

module _ {S O A M R P C F : Type 0} (J : StateWords S P C F) (W : ActorWords S O A M R P C F) where
  -- the nodes at each place have one content
  abbrev pub HaveSameContents : Snapshot S → Snapshot S → Type 0
  HaveSameContents v w =
      (length v.nodes ≡ length w.nodes)
      × ((place : ℕ) (a b : S) → slice_get v.nodes place ≡ Some a → slice_get w.nodes place ≡ Some b →
      J.content a ≡ J.content b)

  -- what is their own is the same for the nodes at each place
  abbrev pub HaveSameOwn : Snapshot S → Snapshot S → Type 0
  HaveSameOwn v w =
      (place : ℕ) (a b : S) → slice_get v.nodes place ≡ Some a → slice_get w.nodes place ≡ Some b →
      W.owned a ≡ W.owned b

  -- the messages with each number say the same, though each may be spelled in its own way
  abbrev pub HaveSameMessages : Snapshot S → Snapshot S → Type 0
  HaveSameMessages v w =
      (length v.messages ≡ length w.messages)
      × ((number : ℕ) (bytes others : List ℕ) (p q : P) → slice_get v.messages number ≡ Some bytes →
      slice_get w.messages number ≡ Some others → W.Spells bytes p → W.Spells others q →
      SaySame J.IsValid J.Covers (J.part_content p) (J.part_content q))

  -- the worlds can't be told apart by what their nodes and messages say and by what is the nodes' own
  abbrev pub AreAlike : Snapshot S → Snapshot S → Type 0
  AreAlike v w = HaveSameContents v w × HaveSameOwn v w × HaveSameMessages v w

  -- as many parts, and each says the same as the other in its place
  abbrev pub SayAlike : List J.PartContent → List J.PartContent → Type 0
  SayAlike [] [] = Unit {0}
  SayAlike [] (q ∷ qs) = ⊥
  SayAlike (p ∷ ps) [] = ⊥
  SayAlike (p ∷ ps) (q ∷ qs) = SaySame J.IsValid J.Covers p q × SayAlike ps qs
