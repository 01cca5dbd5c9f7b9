use Rattle.hg_history.proofs.NothingLemmas.{nothing_or_growth}
use Rattle.hg_history.proofs.UndoLemmas.{rooted_back}
use Rattle.hg_history.proofs.absorb.absorb_and_update.Goals as goal

pub update-requires-clause-rooted : goal.update-requires-clause-rooted
update-requires-clause-rooted c = rooted_back _ _ c.args.kept.now _ _ _ c.len-before.ensures.len
    c.absorb_logged.ensures.back c.requires.kept.roots

pub returns-in_ok-update-in-Ok-clause-growth : goal.returns-in_ok-update-in-Ok-clause-growth
returns-in_ok-update-in-Ok-clause-growth c =
    nothing_or_growth _ _ _ _ _ _ _ c.requires.valid c.absorb_logged.ensures.back
    c.in-Ok.ensures.absorbed c.in-Ok.ensures.growth
