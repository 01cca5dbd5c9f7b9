use Rattle.std.proofs.Common.{ap, sym, ◌∙◌}
use Rattle.hg_marker.specs.Making.{is_writable}
use Rattle.hg_marker.specs.Metadata.{pieces, texts}
use Rattle.hg_marker.specs.Parents.{names_parents}
use Rattle.hg_marker.proofs.AscentLemmas.{writable}
use Rattle.hg_marker.proofs.ParentsLemmas.{written_names}
use Rattle.hg_marker.proofs.metadata.Metadata.read.Goals as goal

pub of_map-requires : goal.of_map-requires
of_map-requires c = ap is_writable c.in_ok-texts.ensures ∙ writable c.args.bytes.now c.requires.colons

pub returns-then-found-clause-parents : goal.returns-then-found-clause-parents
returns-then-found-clause-parents c =
    c.requires.parents ∙ written_names c.args.bytes.now (c.requires.written c.if-found.true)
    ∙ ap (λ bytes. names_parents (texts (pieces bytes))) (sym c.in_ok-bytes.ensures.items)
