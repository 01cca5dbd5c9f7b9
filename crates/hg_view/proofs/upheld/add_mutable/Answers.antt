use Rattle.std.proofs.Common.{true≢false, IsTrue, Contains, ◌↔◌, sym, ◌∙◌}
use Rattle.std.proofs.lemmas.List.Elements.{Contains-append_left}
use Rattle.std.proofs.lemmas.Map.Views.{btree_set_contains_iff}
use Rattle.hg_changeset.proofs.NodeLemmas.{node_cmp_total, node_cmp_exact}
use Rattle.hg_replica.specs.Content.{content_of}
use Rattle.hg_view.proofs.UpheldLemmas.{adds-mutable, adds-no_more, apart-more}
use Rattle.hg_view.proofs.upheld.add_mutable.Goals as goal
use Rattle.hg_view.proofs.upheld.add_mutable.Goals.{then-contains-via-then-contains}
use Rattle.hg_view.proofs.upheld.add_mutable.Goals.{then-contains-via-else-contains+then-not-is_mutable}

pub returns-then-contains-clause-ok : goal.returns-then-contains-clause-ok
returns-then-contains-clause-ok c =
    let upheld = c.args.upheld.now.keys in
    let found = c.args.found.now.keys in
    let node = c.args.node in
    let there : IsTrue c.contains.result ↔ Contains upheld node =
    rw c.contains.ensures (btree_set_contains_iff node_cmp_total node_cmp_exact c.args.upheld.now node) in
    adds-no_more (content_of c.args.replica.now) upheld found node (λ mutable. elim c.then-contains.branch [
      | then-contains-via-then-contains w ↦ Contains-append_left upheld found node (there.0 w.if-contains.true)
      | then-contains-via-else-contains+then-not-is_mutable w ↦
          absurd (true≢false (sym (w.is_mutable.ensures.1 mutable) ∙ w.if-not-is_mutable.true))
    ])

pub returns-clause-disjoint : goal.returns-clause-disjoint
returns-clause-disjoint c =
    let upheld = c.args.upheld.now.keys in
    let node = c.args.node in
    let there : IsTrue c.contains.result ↔ Contains upheld node =
    rw c.contains.ensures (btree_set_contains_iff node_cmp_total node_cmp_exact c.args.upheld.now node) in
    apart-more upheld c.args.found.now.keys c.insert.new.self.keys node
    (λ h. true≢false (sym (there.1 h) ∙ c.if-contains.false)) c.in_ok-insert.ensures.keys

pub returns-clause-ok : goal.returns-clause-ok
returns-clause-ok c =
    adds-mutable (content_of c.args.replica.now) c.args.upheld.now.keys c.args.found.now.keys c.insert.new.self.keys
    c.args.node (c.is_mutable.ensures.0 c.if-not-is_mutable.false) c.in_ok-insert.ensures.keys
