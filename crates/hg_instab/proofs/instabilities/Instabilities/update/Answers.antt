use Rattle.std.proofs.Common.{rules, tests, ◌≡◌, [], sym, subst}
use Rattle.std.proofs.lemmas.List.{nil_from_length}
use Rattle.std.proofs.lemmas.Result.{on_ok_weaker}
use Rattle.hg_replica.specs.Content.{content_of}
use Rattle.hg_instab.specs.Instabilities.{InstabilitySets}
use Rattle.hg_instab.specs.Turns.{TurnsTo}
use Rattle.hg_instab.proofs.UnmarkedLemmas.{unmarked-kept}
use Rattle.hg_instab.proofs.instabilities.Instabilities.update.Goals as goal

pub returns-then-is_empty-clause-kept : goal.returns-then-is_empty-clause-kept
returns-then-is_empty-clause-kept c =
    let empty : c.args.replica.now.markers ≡ [] = nil_from_length _ (search (rules, tests)) in
    λ s is are. unmarked-kept s c.args.replica.now c.args.change.now c.args.self.now c.is_valid.ensures empty
    is are

pub returns-clause-kept : goal.returns-clause-kept
returns-clause-kept c =
    let g = content_of c.args.replica.now in
    on_ok_weaker c.turn.result
    (λ turned s is at. turned g (subst (λ (sets : InstabilitySets). TurnsTo g sets c.in_ok-turning.turning)
    (sym c.turning.ensures.unchanged) (c.in_ok-turning.ensures.told s is at)))
    c.turn.ensures.turned
