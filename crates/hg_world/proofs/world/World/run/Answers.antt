use Rattle.std.proofs.Common.{List, Option, sym, ◌∙◌, subst}
use Rattle.hg_world.specs.Runs.{Snapshot, snapshot, AllValid, AllLeast, Runs}
use Rattle.hg_world.proofs.Least.{run_is_least, run_is_valid}
use Rattle.hg_world.proofs.Longer.{all_written, if_ok_then, either_way}
use Rattle.hg_world.proofs.world.World.run.Goals as goal

pub invariant_of-self : goal.invariant_of-self
invariant_of-self g c =
    let laws = g.met.S.JoinState in
    let J = g.S.JoinState in
    let whole =
    all_written c.self.inside.nodes c.run_all.new.nodes (c.run_all.auto.nodes ∙ c.as_mut_slice.ensures.len) in
    let old : Snapshot g.row.S.Denot = snapshot c.as_mut_slice.result.now c.self.inside.messages.items in
    let new : Snapshot g.row.S.Denot = snapshot c.run_all.new.nodes c.run_all.new.messages.items in
    let before : AllValid J old = rw c.as_mut_slice.ensures.value c.self.invariant in
    let now : AllValid J new =
    either_way c.run_all.result (AllValid J new)
    (λ answers ran. run_is_valid J g.S.Actor laws.ordered laws.stays_covered laws.absorbed
    g.met.S.Actor.marked_says_the_same old new c.args.events.now answers.items ran.0 before ran.1)
    (λ same. subst (AllValid J) (sym same) before) c.run_all.ensures.ran c.run_all.ensures.unchanged in
    rw whole now

pub returns-clause-ran : goal.returns-clause-ran
returns-clause-ran g c =
    let laws = g.met.S.JoinState in
    let J = g.S.JoinState in
    let whole =
    all_written c.self.inside.nodes c.run_all.new.nodes (c.run_all.auto.nodes ∙ c.as_mut_slice.ensures.len) in
    let old : Snapshot g.row.S.Denot = snapshot c.self.inside.nodes.items c.self.inside.messages.items in
    let new : Snapshot g.row.S.Denot = snapshot c.run_all.new.nodes c.run_all.new.messages.items in
    let ran = rw c.as_mut_slice.ensures.value at c.run_all.ensures.ran in
    rw (whole, ← c.self.view_is)
    (if_ok_then c.run_all.result (λ answers. (parts : List (Option g.row.S-Part.Denot))
    × Runs J g.S.Actor old c.args.events.now answers.items parts new)
    (λ answers. (parts : List (Option g.row.S-Part.Denot)) × Runs J g.S.Actor old c.args.events.now answers.items
    parts new × AllLeast J old c.args.events.now parts new)
    (λ answers h. (
      h.0,
      h.1,
      run_is_least J g.S.Actor laws.ordered laws.stays_covered laws.absorbed
          g.met.S.Actor.marked_says_the_same old new c.args.events.now answers.items h.0 c.self.invariant h.1,
    )) ran)
