use Rattle.std.proofs.Common.{◌≡◌, Some, sym, subst}
use Rattle.std.proofs.lemmas.Map.Entries.{lookup_from_place}
use Rattle.hg_changeset.proofs.NodeLemmas.{node_eq_laws}
use Rattle.hg_obsstore.specs.Entries.{Table, known}
use Rattle.hg_obsstore.proofs.entries.Entries.find.Goals as goal

pub returns-in-Some : goal.returns-in-Some
returns-in-Some c =
    let m = c.self.inside.table in
    let roles = c.in-Some.roles.now in
    subst (λ (t : Table). Some roles ≡ known t c.args.node) c.self.view_is
    (sym (lookup_from_place node_eq_laws m.entries _ c.args.node roles c.self.invariant.0 c.in-Some.ensures))
