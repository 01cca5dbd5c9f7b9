use Rattle.std.proofs.Common.{sym, ◌∙◌, ap, ◌≡◌, Some, slice_get}
use Rattle.std.specs.Option.{option_copied}
use Rattle.hg_changeset.specs.Changeset.{node_of}
use Rattle.hg_graph.specs.Places.{IsOnlyAt}
use Rattle.hg_discovery.proofs.ComparedLemmas.{held-free, none-held}
use Rattle.hg_discovery.proofs.compared.is_free_at.Goals as goal

pub returns-in-Some-changeset_at : goal.returns-in-Some-changeset_at
returns-in-Some-changeset_at c =
    let ds = c.args.other.now in
    let held = c.in-Some-changeset_at.held.now in
    let only : IsOnlyAt ds (node_of c.args.changeset.now) c.in-Some.there = rw c.in-Some.is at c.requires in
    let at : slice_get ds c.in-Some.there ≡ Some held =
    sym c.changeset_at.ensures ∙ ap option_copied c.in-Some-changeset_at.is in
    let free = held-free c.args.changeset.now ds c.in-Some.there held only at in
    (λ t. free.0 (c.is_same.ensures.0 t), λ h. c.is_same.ensures.1 (free.1 h))

pub returns-in-None : goal.returns-in-None
returns-in-None c =
    let ds = c.args.other.now in
    let only : IsOnlyAt ds (node_of c.args.changeset.now) c.in-Some.there = rw c.in-Some.is at c.requires in
    absurd (none-held c.args.changeset.now ds c.in-Some.there only
    (sym c.changeset_at.ensures ∙ ap option_copied c.in-None.is))
