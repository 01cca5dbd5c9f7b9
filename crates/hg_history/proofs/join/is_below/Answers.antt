use Rattle.std.proofs.Common.{◌<◌, ◌≤◌, length, true≢false, refl, sym, ◌∙◌, arith}
use Rattle.hg_phases.specs.State.{state_of}
use Rattle.hg_history.proofs.JoinLemmas.{missing, below-length, below-start, below-step, below-finish, not-below}
use Rattle.hg_history.proofs.join.is_below.Goals as goal
use Rattle.hg_history.proofs.join.is_below.Goals.{in-Some+else-not-holds_as_low, in_default}

pub returns-then-len : goal.returns-then-len
returns-then-len c = (
  λ h. absurd (true≢false (sym h)),
  λ below.
      let fewer = below-length _ _ _ _ c.len.ensures.graph c.requires.len c.requires.other_len below in
      absurd (omega (arith, fewer, c.if-len.true, c.len.ensures.len, c.len-2.ensures.len)),
)

pub loop-place-init : goal.loop-place-init
loop-place-init c = below-start c.args.graph.now c.args.phases.now (state_of c.args.other.now c.args.other_phases.now)

pub returns-then-not-holds_as_low : goal.returns-then-not-holds_as_low
returns-then-not-holds_as_low c = (
  λ h. absurd (true≢false (sym h)),
  λ h. absurd (not-below _ _ _
      _ _ _ (sym c.in-Some.ensures) c.at.ensures
      (λ low. true≢false (sym (c.holds_as_low.ensures.1 low) ∙ c.if-not-holds_as_low.true)) h),
)

pub loop-place-preserved : goal.loop-place-preserved
loop-place-preserved c = elim c.match-changeset_at.branch [
  | in-Some+else-not-holds_as_low w ↦
      below-step _ _ _ _ _ _ (sym w.in-Some.ensures) w.at.ensures
      c.loop-place.invariant (w.holds_as_low.ensures.0 w.if-not-holds_as_low.false)
  | in_default w ↦
      let within : c.loop-place.place < length c.args.graph.now = omega arith in
      absurd (missing _ _ _ within c.changeset_at.ensures w.in_default.is)
]

pub returns : goal.returns
returns c =
    let le : length c.args.graph.now ≤ c.loop-place.place = omega arith in (
      λ h. below-finish c.args.graph.now c.args.phases.now c.loop-place.place
          (state_of c.args.other.now c.args.other_phases.now) le c.loop-place.invariant,
      λ h. refl,
    )
