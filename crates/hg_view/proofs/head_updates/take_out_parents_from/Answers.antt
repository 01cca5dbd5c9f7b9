use Rattle.std.proofs.Common.{◌≤◌, ◌<◌, ◌+◌, ◌≡◌, ◌∙◌, ℕ, length, ap, arith}
use Rattle.hg_phases.specs.State.{changesets}
use Rattle.hg_view.specs.Flags.{IsParentOfOne}
use Rattle.hg_view.specs.HeadPlaces.{IsAmong}
use Rattle.hg_view.proofs.FlagLemmas.{taken-none, taken-then, taken-alike, parents-none, parents-then, parents-alike}
use Rattle.hg_view.proofs.FlagLemmas.{from-one}
use Rattle.hg_view.proofs.ChangeLemmas.{among-within}
use Rattle.hg_view.proofs.head_updates.take_out_parents_from.Goals as goal

pub loop-place-init : goal.loop-place-init
loop-place-init c =
    let t = c.args.replica.now.history in
    let first = c.args.first in
    let Q : ℕ → Type 0 = IsAmong c.args.among t in
    let S : ℕ → Type 0 = λ k. (first ≤ k) × (k < first) in
    taken-none _ _ (parents-none _ _ _ (λ k h. omega (arith, h.0, h.1)))

pub take_out_parents-requires-clause-len : goal.take_out_parents-requires-clause-len
take_out_parents-requires-clause-len c = c.loop-place.invariant.len ∙ c.requires

pub loop-place-preserved : goal.loop-place-preserved
loop-place-preserved c =
    let t = c.args.replica.now.history in
    let first = c.args.first in
    let place = c.loop-place.place in
    let Q : ℕ → Type 0 = IsAmong c.args.among t in
    let R : ℕ → Type 0 = λ k. (first ≤ k) × (k < place) in
    let S : ℕ → Type 0 = λ k. place ≡ k in
    let T : ℕ → Type 0 = λ k. (first ≤ k) × (k < place + 1) in
    taken-then _ _ _ _ _ _ c.loop-place.invariant c.take_out_parents.ensures
    (parents-then _ _ _ _ _ (from-one _ _ c.loop-place.auto.place))

pub returns : goal.returns
returns c =
    let t = c.args.replica.now.history in
    let first = c.args.first in
    let place = c.loop-place.place in
    let Q : ℕ → Type 0 = IsAmong c.args.among t in
    let S : ℕ → Type 0 = λ k. (first ≤ k) × (k < place) in
    let T : ℕ → Type 0 = λ k. first ≤ k in
    let count = ap length c.graph.ensures.graph in
    taken-alike _ _ _ _ c.loop-place.invariant (parents-alike _ _ _ _ (λ j q. let within = among-within _ _ _ q in (
      λ le. (le, omega (arith, within, count, c.len-place-end.ensures.len, c.loop-place-test.false)),
      λ h. h.0,
    )))
