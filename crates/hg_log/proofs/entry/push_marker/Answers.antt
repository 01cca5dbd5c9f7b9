use Rattle.std.proofs.Common.{◌≡◌, ◌++◌, ◌∙◌, List, ℕ, ap, append_assoc, sym, subst}
use Rattle.std.specs.Prelude.{option_copied}
use Rattle.hg_changeset.specs.declared.node.Node.{Node}
use Rattle.hg_log.specs.Entries.{nodes_text, operation_text}
use Rattle.hg_log.specs.Fates.{rewriting_of}
use Rattle.hg_log.proofs.entry.push_marker.Goals as goal

pub returns : goal.returns
returns c =
    let line = c.args.line.now.items in
    let middle = c.push_nodes.new.line.items in
    let end = c.push_operation.new.line.items in
    let m = c.unwrap-marker.result.now in
    let nodes : middle ≡ line ++ nodes_text m.successors =
    subst (λ (ns : List Node). middle ≡ line ++ nodes_text ns) c.successors.ensures c.in_ok-push_nodes.ensures in
    let operation = operation_text (rewriting_of m) in
    let word : end ≡ middle ++ operation =
    subst (λ (t : List ℕ). end ≡ middle ++ operation_text t) c.rewriting_word.ensures
    c.in_ok-push_operation.ensures in (
      m,
      sym c.get.ensures ∙ ap option_copied c.unwrap-marker.ensures,
      word ∙ ap (λ (l : List ℕ). l ++ operation) nodes ∙ append_assoc line (nodes_text m.successors) operation,
    )
