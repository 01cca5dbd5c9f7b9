-- A whole discovery, round by round.
use Rattle.std.proofs.Common.{◌≡◌, Bool, List, [], ◌∷◌, ◌++◌, refl, subst}
use Rattle.hg_changeset.specs.declared.node.Node.{Node}
use Rattle.hg_replica.specs.State.{ReplicaState}
use Rattle.hg_replica.specs.Content.{content_of}
use Rattle.hg_view.specs.Pins.{IsServedUnder}
use Rattle.hg_discovery.specs.Search.{Search, nodes_of}
use Rattle.hg_discovery.specs.Answers.{IsRound}
use Rattle.hg_discovery.specs.Start.{IsStart}
use Rattle.hg_discovery.specs.Rounds.{AreAnswers, AreAnsweredRounds, undecided}
use Rattle.hg_discovery.specs.Between.{IsDiscovery}

-- one round more
AreAnsweredRounds-push : (P : Node → Type 0) (s m t : Search) (rounds : List (List Bool)) (answers : List Bool)
    → AreAnsweredRounds P s rounds m → IsRound m answers t → AreAnswers P (nodes_of m.asked) answers
    → AreAnsweredRounds P s (rounds ++ answers ∷ []) t
AreAnsweredRounds-push P s m t [] answers before round are = (
  t,
  subst (λ a. IsRound a answers t) before round,
  subst (λ (a : Search). AreAnswers P (nodes_of a.asked) answers) before are,
  refl,
)
AreAnsweredRounds-push P s m t (first ∷ rounds) answers before round are =
    (before.0, before.1, before.2, AreAnsweredRounds-push P before.0 m t rounds answers before.3 round are)

-- what a discovery has come to, in which each answer says whether P holds
pub record IsAskedSoFar (P : Node → Type 0) (ours : ReplicaState) (now : Search) : Type 0 where
  pub start : Search
  pub rounds : List (List Bool)
  pub starts : IsStart ours.history start
  pub answered : AreAnsweredRounds P start rounds now

pub IsAskedSoFar-start : (P : Node → Type 0) (ours : ReplicaState) (start : Search) → IsStart ours.history start
    → IsAskedSoFar P ours start
IsAskedSoFar-start P ours start is = record { start = start; rounds = []; starts = is; answered = refl }

pub IsAskedSoFar-round : (P : Node → Type 0) (ours : ReplicaState) (now next : Search) (answers : List Bool)
    → IsAskedSoFar P ours now → IsRound now answers next → AreAnswers P (nodes_of now.asked) answers
    → IsAskedSoFar P ours next
IsAskedSoFar-round P ours now next answers before round are = record {
  start = before.start;
  rounds = before.rounds ++ answers ∷ [];
  starts = before.starts;
  answered = AreAnsweredRounds-push P before.start now next before.rounds answers before.answered round are;
}

-- once nothing is undecided it is a whole one
pub IsAskedSoFar-done : (ours theirs : ReplicaState) (pins : List Node) (end : Search)
    → IsAskedSoFar (IsServedUnder (content_of theirs) pins) ours end → undecided end.decided ≡ 0
    → IsDiscovery ours theirs pins end
IsAskedSoFar-done ours theirs pins end so_far done = record {
  start = so_far.start;
  rounds = so_far.rounds;
  starts = so_far.starts;
  answered = so_far.answered;
  done = done;
}
