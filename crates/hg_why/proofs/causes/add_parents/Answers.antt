use Rattle.std.proofs.Common.{◌≡◌, ◌⊎◌, ◌↔◌, List, Contains, refl, sym, ap, subst, ◌∙◌}
use Rattle.std.proofs.lemmas.Result.{on_ok_weaker}
use Rattle.hg_changeset.specs.declared.node.Node.{Node}
use Rattle.hg_changeset.specs.Contents.{Contents}
use Rattle.hg_graph.specs.Graph.{Holds}
use Rattle.hg_phases.specs.State.{changesets}
use Rattle.hg_history.proofs.ContentLemmas.{node_in_content}
use Rattle.hg_replica.specs.State.{ReplicaState}
use Rattle.hg_replica.specs.Content.{content_of}
use Rattle.hg_instab.proofs.QueryLemmas.{not_true}
use Rattle.hg_log.proofs.KindLemmas.{is_so}
use Rattle.hg_why.specs.Causes.{Cause, IsByParent, IsByThis}
use Rattle.hg_why.proofs.CauseLemmas.{adds-nothing, adds-then, both-parents, given-held}
use Rattle.hg_why.proofs.causes.add_parents.Goals as goal

pub returns-then-not-status : goal.returns-then-not-status
returns-then-not-status c =
    let f = content_of c.args.kept.now.replica in
    adds-nothing f (IsByParent f c.args.node) c.args.reasons.now.items
    (λ cause h. not_true _ c.if-not-status.true (c.status.ensures.orphan.1 h.2.0))

pub returns-in_ok-add_parent-in-Some : goal.returns-in_ok-add_parent-in-Some
returns-in_ok-add_parent-in-Some c =
    let s = c.args.kept.now.replica in
    let f = content_of s in
    let n = c.args.node in
    let held : c.graph.result.now ≡ changesets s.history =
    c.graph.ensures.graph ∙ ap (λ (t : ReplicaState). changesets t.history) c.replica.ensures.replica in
    let given = given-held s c.replica.ensures.valid n c.in-Some.changeset.now
    (subst (λ (cs : List Contents). Contains cs c.in-Some.changeset.now) held c.in-Some.ensures.found.0)
    c.in-Some.ensures.found.1 in
    let are : (given.0.changeset.first, given.0.changeset.second) ≡ c.parents.result =
    ap (λ (x : Contents). (x.first, x.second)) given.2 ∙ sym c.parents.ensures.parents in
    let Joins : Node × Node → Type 0 = λ ps. (cause : Cause)
    → IsByParent f n cause ↔ (IsByThis f ps.0 cause ⊎ IsByThis f ps.1 cause) in
    let orphan = c.status.ensures.orphan.0 (is_so _ c.if-not-status.false) in
    let joins : Joins c.parents.result = subst Joins are (both-parents f n given.0 given.1 orphan) in
    on_ok_weaker c.add_parent-in-Some.result
    (λ second. adds-then f (IsByThis f c.parents.result.0) (IsByThis f c.parents.result.1) (IsByParent f n) _ _ _
    joins c.in_ok-add_parent-in-Some.ensures second) c.add_parent-in-Some.ensures

pub returns-in-None : goal.returns-in-None
returns-in-None c =
    let s = c.args.kept.now.replica in
    let n = c.args.node in
    let held : c.graph.result.now ≡ changesets s.history =
    c.graph.ensures.graph ∙ ap (λ (t : ReplicaState). changesets t.history) c.replica.ensures.replica in
    let orphan = c.status.ensures.orphan.0 (is_so _ c.if-not-status.false) in
    absurd (c.in-None.ensures.missing refl (subst (λ (cs : List Contents). Holds cs n) (sym held)
    (node_in_content s.history c.replica.ensures.valid.graph n (orphan.0.0.0, orphan.0.0.1))))
