use Rattle.std.proofs.Common.{◌≡◌, ◌↔◌, ◌⊎◌, ℕ, List, Contains, sym, subst, ◌∙◌}
use Rattle.hg_changeset.specs.declared.node.Node.{Node}
use Rattle.hg_graph.specs.Places.{IsPlaceOfOne}
use Rattle.hg_phases.specs.State.{changesets}
use Rattle.hg_obsstore.proofs.IndexLemmas.{among_or_not}
use Rattle.hg_replica.specs.Content.{content_of}
use Rattle.hg_replica.specs.Evolution.{IsObsolete, IsOrphan, IsExtinct, IsSuspended, IsCurrent}
use Rattle.hg_instab.specs.Changed.{IsNow, IsSeed}
use Rattle.hg_instab.specs.Near.{IsAfterPublic}
use Rattle.hg_instab.specs.Turns.{IsTurn, IsThen}
use Rattle.hg_instab.proofs.ChangedLemmas.{obsolete-untouched, current-untouched}
use Rattle.hg_instab.proofs.KeptLemmas.{changed-follows, now-or, suspended-told, both-same, set-along}
use Rattle.hg_instab.proofs.KeptLemmas.{then-along, flip}
use Rattle.hg_instab.proofs.SetLemmas.{along}
use Rattle.hg_instab.proofs.TurnLemmas.{asked-then, grown-to}
use Rattle.hg_instab.proofs.WaitingLemmas.{placed-along, placed-in}
use Rattle.hg_instab.proofs.turns.Turns.asked.Goals as goal

pub orphan_turn-requires : goal.orphan_turn-requires
orphan_turn-requires c = placed-in c.graph.result.now (changesets c.args.replica.now.history) c.graph.ensures.graph
    c.as_slice-seeds.result.now c.in_ok-places.places.items c.deref-3.result.now c.deref-3.ensures.value
    c.in_ok-places.ensures.answer

pub turned_extinct-requires : goal.turned_extinct-requires
turned_extinct-requires c = placed-in c.graph.result.now (changesets c.args.replica.now.history) c.graph.ensures.graph
    c.as_slice-seeds.result.now c.in_ok-places.places.items c.deref.result.now c.deref.ensures.value
    c.in_ok-places.ensures.answer

pub suspended_turn-requires : goal.suspended_turn-requires
suspended_turn-requires c n = subst (λ (xs : List Node). Contains xs n
    ↔ (Contains c.as_slice-seeds.result.now n × IsObsolete (content_of c.args.replica.now) n))
    (sym c.deref-2.ensures.value) (c.in_ok-now.ensures n)

pub returns-clause-turns : goal.returns-clause-turns
returns-clause-turns c = record {
  obsolete = subst (λ (xs : List Node). IsTurn xs c.in_ok-obsolete.obsolete) c.obsolete.ensures
      c.in_ok-obsolete.ensures.turn;
  orphan = subst (λ (xs : List Node). IsTurn xs c.in_ok-orphan.orphan) c.orphan.ensures c.in_ok-orphan.ensures.turn;
  suspended = c.in_ok-suspended.ensures.turn;
  extinct = subst (λ (xs : List Node). IsTurn xs c.in_ok-extinct.extinct) c.extinct-2.ensures
      c.in_ok-extinct.ensures.turn;
  phase_divergent = c.in_ok-phase_divergent.ensures.turn;
  content_divergent = c.in_ok-content_divergent.ensures.turns.0;
  after_public = subst (λ (xs : List Node). IsTurn xs c.in_ok-growing.field-0) c.after_public-2.ensures
      c.in_ok-growing.ensures.turn;
  near_forks = c.in_ok-content_divergent.ensures.turns.1;
}

pub returns-clause-told : goal.returns-clause-told
returns-clause-told c s is at =
    let valid = c.is_valid.ensures in
    let t = c.args.replica.now in
    let f = content_of s in
    let g = content_of t in
    let change = c.args.change.now in
    let sets = c.args.sets.now in
    let follows = changed-follows s t change valid is in
    let held = c.in_ok-held.held.keys in
    let met = c.in_ok-met.met.keys in
    let seeds = c.as_slice-seeds.result.now in
    let seeded : (n : Node) → IsSeed t.markers change n → Contains seeds n =
    λ n h. subst (λ (xs : List Node). Contains xs n) (sym c.as_slice-seeds.ensures.value)
    ((c.in_ok-touched.ensures n).1 h) in
    let placed : (places : List ℕ) → places ≡ c.in_ok-places.places.items → (k : ℕ)
    → Contains places k ↔ IsPlaceOfOne (changesets t.history) seeds k =
    λ places same. placed-along c.graph.result.now (changesets t.history) c.graph.ensures.graph seeds
    c.in_ok-places.places.items places same c.in_ok-places.ensures.answer in
    let after : (n : Node) → IsAfterPublic g n ↔ (Contains sets.after_public n ⊎ Contains met n) =
    λ n. subst (λ (xs : List Node). IsAfterPublic g n ↔ (Contains xs n ⊎ Contains met n)) c.after_public.ensures
    (c.in_ok-met.ensures s is.valid follows
    (set-along c.after_public.result.now.keys sets.after_public (IsAfterPublic f) c.after_public.ensures
    at.after_public) n) in
    let obsolete-as : (n : Node) → ¬ (Contains seeds n) → IsObsolete g n ↔ IsObsolete f n =
    λ n not. obsolete-untouched f g change t.markers follows n (λ h. not (seeded n h)) in
    let current-as : (n : Node) → ¬ (Contains seeds n) → IsCurrent g n ↔ IsCurrent f n =
    λ n not. current-untouched f g change t.markers follows n (λ h. not (seeded n h)) in
    let obsolete : (n : Node) → IsThen sets.obsolete c.in_ok-obsolete.obsolete n ↔ IsObsolete g n =
    then-along c.obsolete.result.now.keys sets.obsolete c.in_ok-obsolete.obsolete (IsObsolete g) c.obsolete.ensures
    (asked-then c.obsolete.result.now.keys seeds c.in_ok-now.now.items c.in_ok-obsolete.obsolete (IsObsolete f)
    (IsObsolete g) c.in_ok-obsolete.ensures.then c.in_ok-now.ensures
    (set-along c.obsolete.result.now.keys sets.obsolete (IsObsolete f) c.obsolete.ensures at.obsolete) obsolete-as) in
    let orphan : (n : Node) → IsThen sets.orphan c.in_ok-orphan.orphan n ↔ IsOrphan g n =
    then-along c.orphan.result.now.keys sets.orphan c.in_ok-orphan.orphan (IsOrphan g) c.orphan.ensures
    (c.in_ok-orphan.ensures.told s change sets.obsolete is.valid follows
    (λ n k seed there. (placed c.deref-3.result.now c.deref-3.ensures.value k).1 (n, seeded n seed, there)) at.obsolete
    obsolete
    (set-along c.orphan.result.now.keys sets.orphan (IsOrphan f) c.orphan.ensures at.orphan)) in
    let extinct_now : (n : Node) → IsNow sets.extinct held n ↔ IsExtinct g n =
    λ n. subst (λ (xs : List Node). IsNow xs held n ↔ IsExtinct g n) c.extinct.ensures
    (c.in_ok-held.ensures s change is.valid follows
    (λ n k seed there. (placed c.deref.result.now c.deref.ensures.value k).1 (n, seeded n seed, there))
    (set-along c.extinct.result.now.keys sets.extinct (IsExtinct f) c.extinct.ensures at.extinct) n) in
    let extinct : (n : Node) → IsThen sets.extinct c.in_ok-extinct.extinct n ↔ IsExtinct g n =
    λ n. along (subst (λ (xs : List Node). IsThen xs c.in_ok-extinct.extinct n ↔ IsNow xs held n) c.extinct-2.ensures
    (c.in_ok-extinct.ensures.then n)) (extinct_now n) in
    let suspended : (n : Node) → IsThen sets.suspended c.in_ok-suspended.suspended n ↔ IsSuspended g n =
    λ n. along (c.in_ok-suspended.ensures.told f obsolete-as
    (λ m. along (at.suspended m)
    (suspended-told s is.valid (Contains sets.extinct) (among_or_not sets.extinct) at.extinct m)) n)
    (flip (suspended-told t valid (IsNow sets.extinct held) (now-or sets.extinct held) extinct_now n)) in
    let divergence = c.in_ok-content_divergent.ensures.told s valid is seeded at in
    record {
      obsolete = obsolete;
      orphan = orphan;
      suspended = suspended;
      extinct = extinct;
      phase_divergent = λ n. along (c.in_ok-phase_divergent.ensures.told f current-as
          (λ m. along (at.phase_divergent m) (both-same (flip (at.after_public m)))) n)
          (both-same (flip (after n)));
      content_divergent = divergence.content_divergent;
      after_public = λ n. along
          (grown-to c.after_public-2.result.now.keys sets.after_public c.deref-4.result.now met c.in_ok-growing.field-0
          c.after_public-2.ensures (c.deref-4.ensures.value ∙ c.in_ok-new.ensures) c.in_ok-growing.ensures.then n)
          (flip (after n));
      near_forks = divergence.near_forks;
    }
