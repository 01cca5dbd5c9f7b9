use Rattle.std.proofs.Common.{sym, subst}
use Rattle.std.proofs.lemmas.Result.{on_ok_weaker}
use Rattle.hg_instab.specs.Turns.{LeadTo, TurnsTo}
use Rattle.hg_instab.proofs.KeptLemmas.{kept-then}
use Rattle.hg_instab.proofs.instabilities.Instabilities.turn.Goals as goal

pub returns-in-NewlyExtinct-clause-turned : goal.returns-in-NewlyExtinct-clause-turned
returns-in-NewlyExtinct-clause-turned c =
    on_ok_weaker c.make_extinct.result
    (λ gained g told. subst (TurnsTo g c.args.self.now) c.in-NewlyExtinct.is told c.make_extinct.new.self gained)
    c.make_extinct.ensures.gained

pub returns-in-Each-clause-turned : goal.returns-in-Each-clause-turned
returns-in-Each-clause-turned c =
    on_ok_weaker c.apply.result
    (λ then g told. kept-then g c.args.self.now c.apply.new.self c.deref.result.now then
    (subst (LeadTo g c.args.self.now) (sym c.deref.ensures)
    (subst (TurnsTo g c.args.self.now) c.in-Each.is told)))
    c.apply.ensures.then
