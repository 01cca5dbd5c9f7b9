use Rattle.std.proofs.Common.{List, ℕ, subst}
use Rattle.hg_names.specs.Labels.{BindsNode, text_value}
use Rattle.hg_names.proofs.NameLemmas.{text_value-bound}
use Rattle.hg_names.proofs.labels.bind_text.Goals as goal

pub returns-clause-bound : goal.returns-clause-bound
returns-clause-bound c =
    let old = c.args.texts.now in
    let new = c.insert.new.self in
    subst (λ (bs : List ℕ). BindsNode (text_value old) bs c.args.node (text_value new)) c.in_ok-text.ensures.items
    (text_value-bound c.in_ok-text.text.items old new c.args.node c.in_ok-insert.ensures.updates)
