use Rattle.std.proofs.Common.{refl, subst, sym}
use Rattle.hg_instab.specs.Instabilities.{AreInstabilities}
use Rattle.hg_replica.specs.Content.{content_of}
use Rattle.hg_trial.proofs.TrialLemmas.{absorbed, no_room, not_absorbed}
use Rattle.hg_trial.proofs.trial.absorb.Goals as goal

pub returns-in-Err-clause-answer : goal.returns-in-Err-clause-answer
returns-in-Err-clause-answer c = no_room c.args.kept.now.replica c.args.part

pub returns-in-Ok-absorb_owned-clause-answer : goal.returns-in-Ok-absorb_owned-clause-answer
returns-in-Ok-absorb_owned-clause-answer c =
    absorbed c.args.kept.now.replica c.absorb_owned.new.self.replica c.args.part c.in-Ok-absorb_owned.change _
    c.in-Ok-absorb_owned.ensures.answer refl
    (subst (AreInstabilities (content_of c.args.kept.now.replica)) (sym c.in-Ok.ensures) c.instabilities.ensures)

pub returns-in-Err-absorb_owned-clause-answer : goal.returns-in-Err-absorb_owned-clause-answer
returns-in-Err-absorb_owned-clause-answer c =
    not_absorbed c.args.kept.now.replica c.absorb_owned.new.self.replica c.args.part c.in-Err-absorb_owned.fault
    c.into.result c.in-Err-absorb_owned.ensures.answer c.into.ensures
