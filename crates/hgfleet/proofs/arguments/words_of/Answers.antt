use Rattle.std.proofs.Common.{sym, ap, ◌∙◌, map, []}
use Rattle.std.specs.Prelude.{option_map, unwrap_or}
use Rattle.std.proofs.lemmas.Result.{IfOk-weaker}
use Rattle.clap.specs.Words.{found_of}
use Rattle.clap.proofs.WalkLemmas.{raw_values-rows}
use Rattle.hgfleet.specs.Arguments.{texts_of}
use Rattle.hgfleet.proofs.arguments.words_of.Goals as goal

pub returns-in-Some : goal.returns-in-Some
returns-in-Some c =
    let read = c.get_strs.ensures ∙ raw_values-rows (found_of c.args.given.now) c.args.name.now in
    let is = sym (ap (option_map (λ s. map (λ v. v.now) s.now)) c.in-Some.is) ∙ read in
    IfOk-weaker c.copies_of.result _ _ (λ names h. h ∙ ap (λ o. unwrap_or o []) is) c.copies_of.ensures

pub returns-in-None : goal.returns-in-None
returns-in-None c =
    let read = c.get_strs.ensures ∙ raw_values-rows (found_of c.args.given.now) c.args.name.now in
    let is = sym (ap (option_map (λ s. map (λ v. v.now) s.now)) c.in-None.is) ∙ read in
    ap texts_of c.new.ensures.items ∙ ap (λ o. unwrap_or o []) is
