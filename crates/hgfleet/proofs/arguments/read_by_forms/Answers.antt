use Rattle.std.proofs.Common.{rules, map, inl, inr, subst, ◌≢◌}
use Rattle.clap.specs.Words.{kind_of}
use Rattle.clap.specs.declared.error.kind.ErrorKind.TheVariants.{OutOfMemory}
use Rattle.hgfleet.proofs.ArgumentLemmas.{not_run, is_told}
use Rattle.hgfleet.proofs.AnswerLemmas.{answer_met}
use Rattle.hgfleet.specs.Arguments.{AskFor, command_met}
use Rattle.hgfleet.proofs.arguments.read_by_forms.Goals as goal

pub returns-in-Ok-Some : goal.returns-in-Ok-Some
returns-in-Ok-Some c =
    let words = map (λ s. s.now) c.args.words.now in
    answer_met _ (command_met c.args.forms words) words c.in-Ok-Some.wanted c.in-Ok-Some.field-0
    c.in-Ok-Some.field-0-is c.in-Ok-Some.ensures

pub returns-in_ok-nothing_asked-in-Ok-None : goal.returns-in_ok-nothing_asked-in-Ok-None
returns-in_ok-nothing_asked-in-Ok-None c =
    let met = command_met c.args.forms (map (λ s. s.now) c.args.words.now) in (
      search rules,
      c.in_ok-nothing_asked-in-Ok-None.ensures,
      inl (subst (AskFor _ met) c.in-Ok-None.field-0-is c.in-Ok-None.ensures),
    )

pub returns-in_default : goal.returns-in_default
returns-in_default c =
    let words = map (λ s. s.now) c.args.words.now in
    let k : kind_of c.in-Err.error ≢ OutOfMemory = search rules in (
      not_run _ words c.in-Err.error c.in-Err.ensures k,
      (search rules, search rules, k),
      inr (is_told _ c.in-Err.error c.in-Err.ensures k),
    )
