use Rattle.std.proofs.Common.{Ok, List, [], sym, subst}
use Rattle.hg_changeset.specs.Contents.{Contents}
use Rattle.hg_changeset.specs.declared.node.Node.{Node}
use Rattle.hg_phases.specs.declared.phase.Phase.{Phase}
use Rattle.hg_message.specs.Layout.{GivesPart}
use Rattle.hg_message.proofs.PartLemmas.{rest_given}
use Rattle.hg_message.proofs.layout.Layout.read_rest.Goals as goal

pub returns-clause-part : goal.returns-clause-part
returns-clause-part c =
    let bounds = c.in_ok-bounds.bounds.items in
    let markers = c.in_ok-markers.markers.items in
    subst (λ (cs : List Contents). GivesPart c.args.self.now
    (Ok (record { history = record { changesets = cs; bounds = c.from_vec.result.items }; markers = markers })))
    (sym c.new.ensures.items)
    (subst (λ (bs : List (Node × Phase)). GivesPart c.args.self.now
    (Ok (record { history = record { changesets = []; bounds = bs }; markers = markers })))
    (sym c.from_vec.ensures.items)
    (rest_given c.args.self.now bounds markers c.requires.layout.records c.requires.known
    c.in_ok-bounds.ensures.read c.in_ok-markers.ensures.exact))
