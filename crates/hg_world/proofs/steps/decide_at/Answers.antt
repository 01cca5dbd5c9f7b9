use Rattle.std.proofs.Common.{get_or, Some, None, inl, inr, refl, ap, subst, List}
use Rattle.hg_world.specs.Runs.{Snapshot}
use Rattle.std.proofs.lemmas.Option.{slice_get-get_or}
use Rattle.hg_world.proofs.Places.{one_at}
use Rattle.hg_world.proofs.steps.decide_at.Goals as goal

pub returns-in-Ok-absorb_at : goal.returns-in-Ok-absorb_at
returns-in-Ok-absorb_at g c =
    let h = c.in-Ok-absorb_at.ensures in
    let there = slice_get-get_or c.args.nodes.now c.args.at c.index-nodes-at.result c.if-at-nodes.false in
    let same =
    one_at c.args.nodes.now c.args.at (get_or c.args.nodes.now c.args.at c.index-nodes-at.result) h.0 there h.1 in
    λ messages. (
      Some c.in-Ok.decided,
      (
        h.0,
        h.2.0,
        h.1,
        subst (λ (s : g.row.S.Denot). g.S.Actor.Decides s c.args.op.now c.in-Ok.decided) same
            c.in-Ok.ensures.ok,
        h.2.1,
        h.2.2,
        refl,
      ),
    )

pub returns-in-Err-absorb_at : goal.returns-in-Err-absorb_at
returns-in-Err-absorb_at g c =
    let J = g.S.JoinState in
    let laws = g.met.S.JoinState in
    let h = c.in-Err-absorb_at.ensures in
    let there = slice_get-get_or c.args.nodes.now c.args.at c.index-nodes-at.result c.if-at-nodes.false in
    let same =
    one_at c.args.nodes.now c.args.at (get_or c.args.nodes.now c.args.at c.index-nodes-at.result) h.0 there h.1 in
    let decided : g.S.Actor.Decides h.0 c.args.op.now c.in-Ok.decided =
    subst (λ (s : g.row.S.Denot). g.S.Actor.Decides s c.args.op.now c.in-Ok.decided) same c.in-Ok.ensures.ok in
    let valid : J.IsValid (J.content h.0) = c.requires c.args.at h.0 h.1 in
    let admitted : J.Admits (J.content h.0) (J.part_content c.in-Ok.decided) =
    subst (λ (s : g.row.S.Denot). J.Admits (J.content s) (J.part_content c.in-Ok.decided)) same
    c.in-Ok.ensures.admitted in
    let memory : J.IsWantOfMemory c.in-Err-absorb_at.fault = elim h.2.0 [
      | inl fault ↦
          absurd (laws.faultless (J.content h.0) (J.part_content c.in-Ok.decided) c.in-Err-absorb_at.fault valid
          admitted fault)
      | inr memory ↦ memory
    ] in
    λ messages. (
      None,
      (
        inr (h.0, h.1, (c.in-Ok.decided, decided, memory)),
        ap (λ (ns : List g.row.S.Denot). let w : Snapshot g.row.S.Denot = record { nodes = ns; messages = messages } in
            w) h.2.1,
      ),
    )

pub returns-in-Err : goal.returns-in-Err
returns-in-Err g c =
    let there = slice_get-get_or c.args.nodes.now c.args.at c.index-nodes-at.result c.if-at-nodes.false in
    λ messages.
    (None, (inr (get_or c.args.nodes.now c.args.at c.index-nodes-at.result, there, c.in-Err.ensures.err), refl))
