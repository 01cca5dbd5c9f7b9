use Rattle.std.proofs.Common.{◌++◌, Option, ap, sym, ◌∙◌}
use Rattle.std.specs.Option.{option_map, option_map_or}
use Rattle.std.proofs.lemmas.Result.{on_ok_weaker}
use Rattle.hg_log.specs.Drawings.{Text, short_id}
use Rattle.hg_log.specs.Titles.{escaped}
use Rattle.hg_why.proofs.named.push_name.Goals as goal

pub returns-in-Some : goal.returns-in-Some
returns-in-Some c =
    let line = c.args.line.now.items in
    let told = ap (option_map (λ s. s.now)) (sym c.in-Some.is) ∙ c.title_at.ensures in
    let name = ap (λ (o : Option Text). option_map_or escaped o (short_id c.args.node)) told in
    on_ok_weaker c.push_label.result (λ is. is ∙ ap (λ (t : Text). line ++ t) name) c.push_label.ensures

pub returns-in-None : goal.returns-in-None
returns-in-None c =
    let line = c.args.line.now.items in
    let told = ap (option_map (λ s. s.now)) (sym c.in-None.is) ∙ c.title_at.ensures in
    let name = ap (λ (o : Option Text). option_map_or escaped o (short_id c.args.node)) told in
    on_ok_weaker c.push_short_id.result (λ is. is ∙ ap (λ (t : Text). line ++ t) name) c.push_short_id.ensures
