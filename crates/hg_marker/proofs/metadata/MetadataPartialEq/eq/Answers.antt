use Rattle.std.proofs.Common.{◌∙◌}
use Rattle.hg_marker.specs.Same.{same_texts}
use Rattle.hg_marker.proofs.FormLemmas.{same_written}
use Rattle.hg_marker.proofs.metadata.MetadataPartialEq.eq.Goals as goal

pub returns : goal.returns
returns c =
    c.eq.ensures ∙ same_written c.self.inside.bytes.items c.other.inside.bytes.items c.self.invariant c.other.invariant
    ∙ (λ i. same_texts (c.self.view_is i) (c.other.view_is i))
