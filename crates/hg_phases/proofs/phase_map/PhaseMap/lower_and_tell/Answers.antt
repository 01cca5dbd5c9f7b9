use Rattle.std.proofs.Common.{take, subst, arith}
use Rattle.std.proofs.lemmas.List.{take_all}
use Rattle.hg_phases.specs.State.{state_of}
use Rattle.hg_phases.specs.Lowered.{ListsLowered}
use Rattle.hg_phases.proofs.LogLemmas.{fresh_log}
use Rattle.hg_phases.proofs.phase_map.PhaseMap.lower_and_tell.Goals as goal

pub returns-clause-lowered : goal.returns-clause-lowered
returns-clause-lowered c =
    let cs = c.args.graph.now in
    let old = c.args.self.now in
    let new = c.lower_logged.new.self in
    let logged = c.in_ok-lower_logged.ensures.logged old (fresh_log c.args.phase old c.args.log.now c.requires.fresh) in
    let told = c.in_ok-nodes.ensures.lowered c.args.phase old new c.len.ensures.graph logged in
    let same_graph = take_all c.len.result cs (omega (arith, c.len.ensures.len)) in
    let same_phases = take_all c.len.result old (omega (arith, c.len.ensures.len, c.requires.len)) in
    subst (λ ds. ListsLowered (state_of ds old) (state_of cs new) c.in_ok-nodes.nodes.items) same_graph
    (subst (λ ks. ListsLowered (state_of (take c.len.result cs) ks) (state_of cs new) c.in_ok-nodes.nodes.items)
    same_phases told)

pub returns-clause-least : goal.returns-clause-least
returns-clause-least c = c.in_ok-lower_logged.ensures.least

pub returns-clause-valid : goal.returns-clause-valid
returns-clause-valid c = c.in_ok-lower_logged.ensures.valid

pub returns-clause-logged : goal.returns-clause-logged
returns-clause-logged c =
    c.lower_logged.ensures.logged c.args.self.now
    (fresh_log c.args.phase c.args.self.now c.args.log.now c.requires.fresh)
