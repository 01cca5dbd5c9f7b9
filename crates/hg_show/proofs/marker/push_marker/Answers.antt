use Rattle.std.proofs.Common.{refl}
use Rattle.hg_show.specs.Printing.{marker_text}
use Rattle.hg_show.proofs.PrintLemmas.{marker_from_pieces}
use Rattle.hg_show.proofs.marker.push_marker.Goals as goal

pub returns : goal.returns
returns c =
    let date = c.in_ok-push_date.ensures.0 in (
      marker_text date c.args.marker.now,
      (date, refl),
      marker_from_pieces c.args.marker.now date c.predecessor.result c.successors.result.now c.flags.result
          c.parents.result c.meta-2.result.now c.args.line.now.items c.push_node.new.line.items
          c.push_each.new.line.items c.push_flags.new.line.items c.push_parents.new.line.items
          c.push_date.new.line.items
          c.push_metadata.new.line.items c.predecessor.ensures.predecessor c.successors.ensures c.flags.ensures
          c.parents.ensures c.meta-2.ensures c.in_ok-push_node.ensures c.in_ok-push_each.ensures
          c.in_ok-push_flags.ensures c.in_ok-push_parents.ensures c.in_ok-push_date.ensures.1
          c.in_ok-push_metadata.ensures,
    )
