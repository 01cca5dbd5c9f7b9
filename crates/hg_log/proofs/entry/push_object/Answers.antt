use Rattle.std.proofs.Common.{◌∙◌, ap, sym}
use Rattle.std.specs.Prelude.{option_copied}
use Rattle.std.proofs.lemmas.Result.{on_ok_weaker}
use Rattle.hg_log.proofs.EntryLemmas.{are_within, entry_told}
use Rattle.hg_log.proofs.JsonLemmas.{then_appended}
use Rattle.hg_log.proofs.TextLemmas.{appended_by, last_then}
use Rattle.hg_log.proofs.entry.push_object.Goals as goal

pub push_markers-requires : goal.push_markers-requires
push_markers-requires c = are_within _ _ _ c.with_predecessor-markers.ensures

pub returns : goal.returns
returns c =
    let line = c.args.line.now.items in
    let marked = c.push_markers.new.line.items in
    let end = c.push_text.new.line.items in
    let held = rw c.unwrap-phase.ensures at c.phase_at.ensures in
    let told = then_appended (then_appended (then_appended (then_appended c.in_ok-push_state.ensures
    c.in_ok-push_parents.ensures) c.in_ok-push_string_field.ensures) c.in_ok-push_string_field-2.ensures)
    c.in_ok-push_markers.ensures in
    on_ok_weaker c.push_text.result
    (entry_told c.args.node.now.name.now line end c.args.node.now.kept.now
    c.args.place c.replica-replica.result.now c.graph.result.now c.store-store.result.now c.unwrap-changeset.result.now
    c.node.result c.node-2.result c.unwrap-phase.result c.as_bytes.result.now c.status-status.result
    c.with_predecessor-markers.result.now c.replica-replica.ensures.replica c.graph.ensures.graph c.store-store.ensures
    (sym c.changeset_at.ensures ∙ ap option_copied c.unwrap-changeset.ensures) held c.node.ensures.id
    c.status-status.ensures c.node-2.ensures.id c.with_predecessor-markers.ensures
    (c.as_bytes.ensures.value ∙ c.word.ensures))
    (last_then c.push_text.result line marked end _ _ told (appended_by c.push_text.result marked end _
    c.push_text.ensures))
