use Rattle.std.proofs.Common.{refl, get_or, ◌≡◌, ◌<◌, ℕ, List, length, slice_get, Some, sym, ap, subst, ◌∙◌, arith}
use Rattle.std.proofs.lemmas.Option.{slice_get-get_or}
use Rattle.hg_changeset.specs.Changeset.{node_of}
use Rattle.hg_changeset.proofs.ListLemmas.{slice_get_some}
use Rattle.hg_graph.specs.Graph.{IsGraph}
use Rattle.hg_graph.proofs.MarkLemmas.{IsAt-from}
use Rattle.hg_phases.specs.declared.phase.Phase.{Phase}
use Rattle.hg_phases.specs.declared.phase.Phase.TheVariants.{Public}
use Rattle.hg_phases.specs.declared.lowered.LoweredPlace.{LoweredPlace}
use Rattle.hg_phases.specs.Log.{IsLog, restored, IsUnlowered}
use Rattle.hg_phases.proofs.PlaceLemmas.{graph_of_state}
use Rattle.hg_phases.proofs.LowerLemmas.{IsWalked, IsWalked-start, IsWalked-step, logged_within, first_within}
use Rattle.hg_phases.proofs.LowerLemmas.{second_within, halfway, lowered_are}
use Rattle.hg_phases.proofs.LawLemmas.{least-lowered}
use Rattle.hg_phases.proofs.phase_map.PhaseMap.lower_at.Goals as goal
use Rattle.hg_phases.proofs.phase_map.PhaseMap.lower_at.Goals.{Start, After-deref}

-- what is read where nothing is
abbrev any : LoweredPlace
any = record { place = 0; had = Public }

-- what is read from the log
read : (c : After-deref) → slice_get c.loop-i.log.items c.loop-i.i ≡ Some (get_or c.deref.result.now c.loop-i.i any)
read c = slice_get-get_or c.loop-i.log.items c.loop-i.i any (omega arith)
    ∙ ap (λ es. Some (get_or es c.loop-i.i any)) (sym c.deref.ensures)

graph_of : (c : Start) → IsGraph c.args.graph.now
graph_of c = graph_of_state c.args.graph.now c.args.self.now c.requires.len c.requires.valid

pub loop-i-init : goal.loop-i-init
loop-i-init c =
    let cs = c.args.graph.now in
    let place = c.args.place in
    let within : place < length cs = omega (arith, c.requires.within, c.requires.len) in
    let d = slice_get_some cs place within in
    let start = IsWalked-start cs place c.args.phase c.args.self.now c.args.log.now.items (node_of d.0)
    (IsAt-from cs place d.0 (node_of d.0) d.1 refl) c.lower_one.new.self c.lower_one.new.log.items
    c.in_ok-lower_one.ensures.lowered in
    subst (IsWalked cs place c.args.phase c.args.self.now c.args.log.now.items c.lower_one.new.self
    c.lower_one.new.log.items) (sym c.len-i.ensures.value) start

pub parent_places-parents-requires : goal.parent_places-parents-requires
parent_places-parents-requires c = logged_within _ _ _ _ _ _ _ _ c.loop-i.invariant _
    (read (goal.at.parent_places-parents-requires c).After-deref) c.requires.len

pub lower_found-requires : goal.lower_found-requires
lower_found-requires c =
    let at = goal.at.lower_found-requires c in
    first_within _ _ _ _ _ (graph_of at.Start) _ _ _ c.loop-i.invariant _ (read at.After-deref) _
    c.parent_places-parents.ensures.places c.requires.len

pub lower_found-requires-in-loop-i : goal.lower_found-requires-in-loop-i
lower_found-requires-in-loop-i c =
    let at = goal.at.lower_found-requires-in-loop-i c in
    second_within _ _ _ _ _ (graph_of at.Start) _ _ _ c.loop-i.invariant _ (read at.After-deref) _
    c.parent_places-parents.ensures.places _ _ c.in_ok-lower_found.ensures.lowered c.requires.len

same_log : (phase : Phase) (start mid new : List Phase) (midlog newlog : List LoweredPlace)
    → IsUnlowered mid midlog new newlog → IsLog phase start mid midlog → IsLog phase start new newlog
same_log phase start mid new midlog newlog u l =
    subst (λ ks. IsLog phase start ks newlog) (sym u.0) (subst (IsLog phase start mid) (sym u.1) l)

pub returns-in_err-lower_found-2-clause-logged : goal.returns-in_err-lower_found-2-clause-logged
returns-in_err-lower_found-2-clause-logged c start l =
    let at = goal.at.returns-in_err-lower_found-2-clause-logged c in
    let s = halfway _ _ _ _ _ (graph_of at.Start) _ _ _ c.loop-i.invariant _ (read at.After-deref) _
    c.parent_places-parents.ensures.places _ _ c.in_ok-lower_found.ensures.lowered in
    same_log c.args.phase start _ _ _ _ c.in_err-lower_found-2.ensures.unchanged (s.logged start l)

pub returns-in_err-lower_found-2-clause-undoes : goal.returns-in_err-lower_found-2-clause-undoes
returns-in_err-lower_found-2-clause-undoes c =
    let at = goal.at.returns-in_err-lower_found-2-clause-undoes c in
    let s = halfway _ _ _ _ _ (graph_of at.Start) _ _ _ c.loop-i.invariant _ (read at.After-deref) _
    c.parent_places-parents.ensures.places _ _ c.in_ok-lower_found.ensures.lowered in
    let u = c.in_err-lower_found-2.ensures.unchanged in
    (λ t. restored (u.0 t) (u.1 t)) ∙ s.undoes

pub loop-i-preserved : goal.loop-i-preserved
loop-i-preserved c =
    let at = goal.at.loop-i-preserved c in
    IsWalked-step _ _ _ _ _ (graph_of at.Start) _ _ _ c.loop-i.invariant _ (read at.After-deref) _
    c.parent_places-parents.ensures.places _ _ c.in_ok-lower_found.ensures.lowered _ _
    c.in_ok-lower_found-2.ensures.lowered

pub loop-i-smaller : goal.loop-i-smaller
loop-i-smaller c =
    let at = goal.at.loop-i-smaller c in
    let w = IsWalked-step _ _ _ _ _ (graph_of at.Start) _ _ _ c.loop-i.invariant _ (read at.After-deref) _
    c.parent_places-parents.ensures.places _ _ c.in_ok-lower_found.ensures.lowered _ _
    c.in_ok-lower_found-2.ensures.lowered in
    omega (arith, w.lowering.measure, w.within, c.loop-i.invariant.lowering.measure, c.loop-i.invariant.within)

pub returns-clause-least : goal.returns-clause-least
returns-clause-least c node at =
    let w = c.loop-i.invariant in
    let graph = graph_of (goal.at.returns-clause-least c).Start in
    let ended : length c.loop-i.log.items ≡ c.loop-i.i =
    omega (arith, c.loop-i-test.false, c.len.ensures.value, w.within) in
    let low = lowered_are c.args.graph.now c.args.place c.args.phase c.args.self.now c.args.log.now.items c.loop-i.self
    c.loop-i.log.items graph c.requires.len c.requires.valid w.lowering w.given
    (λ m e q le lt. w.closed m e q le (omega (arith, ended))) in
    least-lowered c.args.graph.now node c.args.place c.args.phase c.args.self.now c.loop-i.self graph c.requires.len at
    low
