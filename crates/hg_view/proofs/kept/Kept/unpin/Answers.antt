use Rattle.std.proofs.Common.{subst}
use Rattle.hg_replica.specs.Content.{content_of}
use Rattle.hg_view.specs.Kept.{KeptValue, KeptUnpinAnswer}
use Rattle.hg_view.proofs.UpheldLemmas.{unpinned-but, kept-unpinned}
use Rattle.hg_view.proofs.ReleasedLemmas.{upheld-left}
use Rattle.hg_view.proofs.kept.Kept.unpin.Goals as goal

pub released-requires : goal.released-requires
released-requires c = c.self.invariant.2

pub invariant_of-self : goal.invariant_of-self
invariant_of-self c =
    let pins = c.self.inside.pins in
    let node = c.args.node in (
      c.self.invariant.0,
      c.self.invariant.1,
      upheld-left (content_of c.self.inside.replica) pins c.unpin.new.self c.self.inside.upheld.keys c.in-Ok.gone.keys
          c.take_out.new.upheld.keys node c.self.invariant.2 c.in-Ok.ensures c.take_out.ensures
          (unpinned-but pins c.unpin.new.self node c.unpin.result
          (c.is_pinned.ensures.0 c.if-not-is_pinned.false) c.unpin.ensures),
      c.self.invariant.3,
    )

pub returns-in-Ok-clause-answer : goal.returns-in-Ok-clause-answer
returns-in-Ok-clause-answer c =
    subst (λ (k : KeptValue). KeptUnpinAnswer k.pins c.args.node c.unpin.result c.unpin.new.self) c.self.view_is
    (kept-unpinned c.self.inside.pins c.unpin.new.self c.args.node c.unpin.result c.unpin.ensures)
