use Rattle.std.proofs.Common.{◌≡◌, ◌↔◌, ℕ, arith, length, Contains, subst}
use Rattle.hg_phases.specs.State.{changesets}
use Rattle.hg_discovery.specs.declared.finding.Finding.TheVariants.{Undecided}
use Rattle.hg_discovery.specs.declared.finding.PlacedNode.{PlacedNode}
use Rattle.hg_discovery.specs.Start.{IsShared}
use Rattle.hg_discovery.specs.Under.{IsShapeOf}
use Rattle.hg_discovery.specs.Search.{Is}
use Rattle.hg_discovery.proofs.StartLemmas.{shared_within}
use Rattle.hg_discovery.proofs.BaselineLemmas.{baseline_from}
use Rattle.hg_discovery.proofs.start.baseline_of.Goals as goal

pub undecided-requires : goal.undecided-requires
undecided-requires c x h =
    let s = c.args.replica.now.history in
    let ps = c.in_ok-parents.parents.items in
    let shape : IsShapeOf (changesets s) ps = subst (λ cs. IsShapeOf cs ps) c.graph.ensures.graph
    c.in_ok-parents.ensures in
    let xs = c.ascending-placed_nodes.result.items in
    let shared : (x : PlacedNode) → Contains xs x ↔ IsShared s x = λ x. (
      λ h. (c.in_ok-shared.ensures x).0 ((c.ascending-placed_nodes.ensures.same x).0 h),
      λ h. (c.ascending-placed_nodes.ensures.same x).1 ((c.in_ok-shared.ensures x).1 h),
    ) in
    let within = shared_within s c.graph.ensures.valid ps shape xs shared x
    (subst (λ xs. Contains xs x) c.deref.ensures.value h) in
    omega (arith, within, c.len.ensures, c.in_ok-parents.parents.ok.0)

pub returns : goal.returns
returns c =
    let s = c.args.replica.now.history in
    let ps = c.in_ok-parents.parents.items in
    let xs = c.ascending-placed_nodes.result.items in
    let ds = c.in_ok-decided.decided.items in
    let shared : (x : PlacedNode) → Contains xs x ↔ IsShared s x = λ x. (
      λ h. (c.in_ok-shared.ensures x).0 ((c.ascending-placed_nodes.ensures.same x).0 h),
      λ h. (c.ascending-placed_nodes.ensures.same x).1 ((c.in_ok-shared.ensures x).1 h),
    ) in
    let shape : IsShapeOf (changesets s) ps = subst (λ cs. IsShapeOf cs ps) c.graph.ensures.graph
    c.in_ok-parents.ensures in
    let len : length ds ≡ length ps = omega (
      arith,
      c.in_ok-decided.ensures.len,
      c.len.ensures,
      c.in_ok-parents.parents.ok.0,
    ) in
    let undecided : (k : ℕ) → Is ds Undecided k ↔ ((x : PlacedNode) × Contains xs x × (x.place ≡ k)) =
    subst (λ ys. (k : ℕ) → Is ds Undecided k ↔ ((x : PlacedNode) × Contains ys x × (x.place ≡ k))) c.deref.ensures.value
    c.in_ok-decided.ensures.undecided in
    baseline_from s c.graph.ensures.valid ps shape xs shared ds len undecided c.in_ok-decided.ensures.nothing_common
    c.ascending-placed_nodes.ensures.sorted
