use Rattle.std.proofs.Common.{◌++◌, ap, ◌∙◌}
use Rattle.hg_marker.specs.Metadata.{written}
use Rattle.hg_marker.proofs.FormLemmas.{written_so, spelled_so}
use Rattle.hg_marker.proofs.metadata.Metadata.of_map.Goals as goal

pub invariant_of-result : goal.invariant_of-result
invariant_of-result c =
    written_so c.args.texts.now c.write_onto.new.out.items
    (c.in_ok-write_onto.ensures ∙ ap (λ t. t ++ written c.args.texts.now) c.in_ok-bytes.ensures.items) c.requires

pub returns : goal.returns
returns c = spelled_so c.args.texts.now c.write_onto.new.out.items
    (c.in_ok-write_onto.ensures ∙ ap (λ t. t ++ written c.args.texts.now) c.in_ok-bytes.ensures.items) c.requires
