use Rattle.std.proofs.Common.{sym, ◌∙◌, arith, true≢false}
use Rattle.hg_view.specs.HeadPlaces.{IsAmong}
use Rattle.hg_view.proofs.FlagLemmas.{recompute-in, recompute-out}
use Rattle.hg_view.proofs.head_updates.recompute.Goals as goal

pub returns-then-is_among : goal.returns-then-is_among
returns-then-is_among c =
    recompute-in (IsAmong c.args.among c.args.replica.now.history) c.args.heads.now c.args.place
    (omega (arith, c.requires.within, c.requires.len)) (c.is_among.ensures.0 c.if-is_among.true) c.insert.new.self
    c.insert.ensures

pub returns-else-is_among : goal.returns-else-is_among
returns-else-is_among c =
    recompute-out (IsAmong c.args.among c.args.replica.now.history) c.args.heads.now c.args.place
    (omega (arith, c.requires.within, c.requires.len))
    (λ q. true≢false (sym (c.is_among.ensures.1 q) ∙ c.if-is_among.false)) c.remove.new.self c.remove.ensures
