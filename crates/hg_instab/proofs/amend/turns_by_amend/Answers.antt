use Rattle.std.proofs.Common.{◌≡◌, ◌↔◌, ◌⊎◌, List, Contains, subst}
use Rattle.hg_changeset.specs.declared.node.Node.{Node}
use Rattle.hg_replica.specs.Content.{content_of}
use Rattle.hg_instab.specs.Instabilities.{IsContentDivergent}
use Rattle.hg_instab.specs.Turns.{IsTurn, IsThen}
use Rattle.hg_instab.proofs.AmendLemmas.{divergent-amended, near-plain}
use Rattle.hg_instab.proofs.KeptLemmas.{near-same, set-along, then-along}
use Rattle.hg_instab.proofs.SetLemmas.{along}
use Rattle.hg_instab.proofs.amend.turns_by_amend.Goals as goal

pub returns-clause-turns : goal.returns-clause-turns
returns-clause-turns c = (
  subst (λ (xs : List Node). IsTurn xs c.in_ok-content_divergent.content_divergent) c.content_divergent.ensures
      c.in_ok-content_divergent.ensures.turn,
  subst (λ (xs : List Node). IsTurn xs c.in_ok-near_forks.near_forks) c.near_forks.ensures
      c.in_ok-near_forks.ensures.turn,
)

pub returns-clause-told : goal.returns-clause-told
returns-clause-told c s change valid is plain at =
    let t = c.args.replica.now in
    let f = content_of s in
    let g = content_of t in
    let amend = c.args.amend in
    let set = c.args.sets.now.content_divergent in
    let near = c.args.sets.now.near_forks in
    let keys = c.content_divergent.result.now.keys in
    let content = c.in_ok-content_divergent.content_divergent in
    let forks = c.in_ok-near_forks.near_forks in
    let was = set-along keys set (IsContentDivergent f) c.content_divergent.ensures at.content_divergent in
    record {
      content_divergent = then-along keys set content (IsContentDivergent g) c.content_divergent.ensures
          (λ n. along (c.in_ok-content_divergent.ensures.told n)
          (divergent-amended s t change near amend valid is plain keys was n));
      near_forks = near-same g (λ n. Contains near n ⊎ (n ≡ amend.to)) (IsThen near forks)
          (λ n. subst (λ (xs : List Node). IsThen xs forks n ↔ (Contains xs n ⊎ (n ≡ amend.to))) c.near_forks.ensures
          (c.in_ok-near_forks.ensures.told n)) (near-plain s t change near amend valid is plain at.near_forks);
    }
