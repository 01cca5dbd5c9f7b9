use Rattle.std.proofs.Common.{◌⊎◌, List, Contains, subst}
use Rattle.hg_changeset.specs.declared.node.Node.{Node}
use Rattle.hg_replica.specs.Content.{content_of}
use Rattle.hg_instab.specs.Near.{IsRegion}
use Rattle.hg_instab.specs.Turns.{IsTurn, IsThen}
use Rattle.hg_instab.proofs.ChangedLemmas.{current-untouched}
use Rattle.hg_instab.proofs.KeptLemmas.{changed-follows, near-same}
use Rattle.hg_instab.proofs.NearLemmas.{near-after, outside-divergent}
use Rattle.hg_instab.proofs.TurnLemmas.{grown-to}
use Rattle.hg_instab.proofs.turns.turns_by_region.Goals as goal

pub returns-clause-turns : goal.returns-clause-turns
returns-clause-turns c = (
  c.in_ok-content_divergent.ensures.turn,
  subst (λ (xs : List Node). IsTurn xs c.in_ok-near_forks.near_forks) c.near_forks-2.ensures
      c.in_ok-near_forks.ensures.turn,
)

pub returns-clause-told : goal.returns-clause-told
returns-clause-told c s valid is seeded at =
    let change = c.args.change.now in
    let t = c.args.replica.now in
    let f = content_of s in
    let g = content_of t in
    let sets = c.args.sets.now in
    let follows = changed-follows s t change valid is in
    let region = c.in_ok-region.region.keys in
    let near : IsRegion g change t.markers sets.near_forks region =
    subst (λ (xs : List Node). IsRegion g change t.markers xs region) c.near_forks.ensures c.in_ok-region.ensures in
    record {
      content_divergent = c.in_ok-content_divergent.ensures.told f near.closed
          (outside-divergent f g change t.markers sets.near_forks region follows at.near_forks near)
          (λ n not. current-untouched f g change t.markers follows n (λ h. not (seeded n h)))
          at.content_divergent;
      near_forks = near-same g (λ n. Contains sets.near_forks n ⊎ Contains region n)
          (IsThen sets.near_forks c.in_ok-near_forks.near_forks)
          (grown-to c.near_forks-2.result.now.keys sets.near_forks c.as_slice.result.now region
          c.in_ok-near_forks.near_forks c.near_forks-2.ensures c.as_slice.ensures.keys c.in_ok-near_forks.ensures.then)
          (near-after f g change t.markers sets.near_forks region follows at.near_forks near);
    }
