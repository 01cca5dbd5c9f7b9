use Rattle.std.proofs.Common.{◌≡◌, List, ap, subst, ◌∙◌}
use Rattle.hg_changeset.specs.declared.node.Node.{Node}
use Rattle.hg_replica.specs.Change.{ChangeValue}
use Rattle.hg_replica.specs.Content.{content_of}
use Rattle.hg_instab.specs.AfterPublic.{IsAfterFresh, IsAfterAny}
use Rattle.hg_instab.specs.Walk.{Adds}
use Rattle.hg_instab.proofs.AfterPublicLemmas.{added-thrice}
use Rattle.hg_instab.proofs.after_public.starts.Goals as goal

pub returns : goal.returns
returns c =
    let g = content_of c.args.replica.now in
    let ms = c.args.replica.now.markers in
    let change = c.args.change.now in
    let first = c.add_after_markers.new.seen.keys in
    let second = c.add_after_each.new.seen.keys in
    let third = c.add_after_each-2.new.seen.keys in
    let added : c.deref.result.now ≡ change.added =
    c.deref.ensures ∙ ap (λ (x : ChangeValue). x.added) c.change.view_is in
    let lowered : c.deref-2.result.now ≡ change.lowered =
    c.deref-2.ensures.value ∙ ap (λ (x : ChangeValue). x.lowered) c.change.view_is in
    added-thrice (IsAfterFresh g change ms c.args.known.now.keys) (IsAfterAny g ms change.added)
    (IsAfterAny g ms change.lowered) _ first second third c.with_keys-starts.ensures
    c.in_ok-add_after_markers.ensures
    (subst (λ (ns : List Node). Adds (IsAfterAny g ms ns) first second) added c.in_ok-add_after_each.ensures)
    (subst (λ (ns : List Node). Adds (IsAfterAny g ms ns) second third) lowered c.in_ok-add_after_each-2.ensures)
