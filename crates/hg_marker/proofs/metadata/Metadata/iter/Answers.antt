use Rattle.std.proofs.Common.{ap, map, ◌∙◌}
use Rattle.std.specs.FinMap.{entries}
use Rattle.hg_marker.specs.Metadata.{pieces, entry}
use Rattle.hg_marker.proofs.FormLemmas.{written_entries}
use Rattle.hg_marker.proofs.metadata.Metadata.iter.Goals as goal

pub returns : goal.returns
returns c = c.new.ensures ∙ ap (λ bytes. map entry (pieces bytes)) c.deref.ensures.value
    ∙ written_entries c.self.inside.bytes.items c.self.invariant ∙ ap entries c.self.view_is
