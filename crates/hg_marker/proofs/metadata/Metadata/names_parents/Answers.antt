use Rattle.std.proofs.Common.{ap, sym, ◌∙◌}
use Rattle.std.proofs.lemmas.Bool.{false≢true}
use Rattle.std.specs.List.{list_all, list_any}
use Rattle.hg_marker.specs.Metadata.{pieces, entry, has_colon}
use Rattle.hg_marker.specs.Parents.{is_parents_key, names_parents}
use Rattle.hg_marker.proofs.FormLemmas.{written_colons}
use Rattle.hg_marker.proofs.ParentsLemmas.{written_names}
use Rattle.hg_marker.proofs.metadata.Metadata.names_parents.Goals as goal

pub returns-in-Some : goal.returns-in-Some
returns-in-Some c =
    c.in-Some.ensures.some.parents
    ∙ ap (λ bytes. list_any (λ p. is_parents_key (entry p).0) (pieces bytes)) c.deref.ensures.value
    ∙ written_names c.self.inside.bytes.items c.self.invariant
    ∙ ap names_parents c.self.view_is

pub returns-in-None : goal.returns-in-None
returns-in-None c =
    absurd (false≢true (sym c.in-None.ensures.none
    ∙ ap (λ bytes. list_all has_colon (pieces bytes)) c.deref.ensures.value
    ∙ written_colons c.self.inside.bytes.items c.self.invariant))
