use Rattle.hg_line.specs.declared.command.Command.TheVariants.{Operation, Pull, Take}
use Rattle.hg_line.proofs.EndingLemmas.{kept_wanting}
use Rattle.hg_line.proofs.unstable.changed_by.Goals as goal

pub returns-in-Ok-Some-Operation : goal.returns-in-Ok-Some-Operation
returns-in-Ok-Some-Operation c =
    let w = c.in-Ok-Some-Operation in
    kept_wanting c.args.fleet.now c.args.words.now (Operation w.at w.field-0-0-1) w.at.now c.kept_of.result
    (rw (w.field-0-is, w.field-0-0-is) at w.ensures) (λ h. h) c.kept_of.ensures

pub returns-in-Ok-Some-Take : goal.returns-in-Ok-Some-Take
returns-in-Ok-Some-Take c =
    let w = c.in-Ok-Some-Take in
    kept_wanting c.args.fleet.now c.args.words.now (Take w.at w.field-0-0-1) w.at.now c.kept_of-in-Ok-Some-Take.result
    (rw (w.field-0-is, w.field-0-0-is) at w.ensures) (λ h. h) c.kept_of-in-Ok-Some-Take.ensures

pub returns-in-Ok-Some-Pull : goal.returns-in-Ok-Some-Pull
returns-in-Ok-Some-Pull c =
    let w = c.in-Ok-Some-Pull in
    kept_wanting c.args.fleet.now c.args.words.now (Pull w.field-0-0-0 w.to w.field-0-0-2) w.to.now
    c.kept_of-in-Ok-Some-Pull.result
    (rw (w.field-0-is, w.field-0-0-is) at w.ensures) (λ h. h) c.kept_of-in-Ok-Some-Pull.ensures
