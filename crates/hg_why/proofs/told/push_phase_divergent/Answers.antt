use Rattle.hg_log.proofs.TextLemmas.{extends_by, last_has_id}
use Rattle.hg_why.proofs.told.push_phase_divergent.Goals as goal

pub returns : goal.returns
returns c =
    let named = c.push_named.new.line.items in
    let end = c.push_text-2.new.line.items in
    last_has_id c.push_text-2.result c.args.predecessor named end c.in_ok-push_named.ensures
    (extends_by c.push_text-2.result named end _ c.push_text-2.ensures)
