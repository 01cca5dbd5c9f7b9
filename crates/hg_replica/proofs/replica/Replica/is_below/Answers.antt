use Rattle.std.proofs.Common.{length, IsTrue, true≢false, ◌↔◌, sym, ap, ◌∙◌, subst, arith}
use Rattle.hg_replica.specs.State.{ReplicaState, Below}
use Rattle.hg_replica.proofs.MarkerLemmas.{within-length}
use Rattle.hg_replica.proofs.ReplicaLemmas.{below-both}
use Rattle.hg_replica.proofs.replica.Replica.is_below.Goals as goal

pub returns-then-markers-len-clause-answer : goal.returns-then-markers-len-clause-answer
returns-then-markers-len-clause-answer c =
    let t : ReplicaState = record { history = c.other.inside.history; markers = c.other.inside.store } in (
      λ is. absurd (true≢false (sym is)),
      λ below.
          let within =
          (subst (λ u. Below u t) (sym c.self.view_is)
          (subst (λ u. Below c.args.self.now u) (sym c.other.view_is) below)).markers in
          let fewer =
          within-length c.self.inside.store c.other.inside.store c.markers-markers.ensures.different within in
          absurd (omega (
            arith,
            fewer,
            c.if-markers-len.true,
            ap length c.markers-markers.ensures.markers,
            c.len.ensures,
          )),
    )

pub returns-then-is_below-clause-answer : goal.returns-then-is_below-clause-answer
returns-then-is_below-clause-answer c =
    let s : ReplicaState = record { history = c.self.inside.history; markers = c.self.inside.store } in
    let t : ReplicaState = record { history = c.other.inside.history; markers = c.other.inside.store } in
    let answer = c.is_below-then-is_below.result in
    subst (λ u. IsTrue answer ↔ Below c.args.self.now u) c.other.view_is
    (subst (λ u. IsTrue answer ↔ Below u t) c.self.view_is
    (below-both s t answer (c.is_below.ensures.answer.0 c.if-is_below.true) c.is_below-then-is_below.ensures))

pub returns-else-is_below-clause-answer : goal.returns-else-is_below-clause-answer
returns-else-is_below-clause-answer c =
    let t : ReplicaState = record { history = c.other.inside.history; markers = c.other.inside.store } in
    let answer = c.is_below.result in (
      λ is. absurd (true≢false (sym is ∙ c.if-is_below.false)),
      λ below. c.is_below.ensures.answer.1
          (subst (λ u. Below u t) (sym c.self.view_is)
          (subst (λ u. Below c.args.self.now u) (sym c.other.view_is) below)).history,
    )
