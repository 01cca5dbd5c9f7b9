use Rattle.std.proofs.Common.{◌∙◌, ℕ, All, IsSome, List, Option, String, string_bytes, ap, refl, subst, sym}
use Rattle.std.specs.declared.alloc.Global.{Global}
use Rattle.std.proofs.lemmas.List.{take_all}
use Rattle.std.proofs.lemmas.List.Elements.{All-more}
use Rattle.hg_line.specs.Lines.{ids}
use Rattle.hg_changeset.specs.declared.node.Node.{Node}
use Rattle.hgfleet.proofs.fates.unknown_label.Goals as goal

pub returns-in-None : goal.returns-in-None
returns-in-None c =
    let same = c.as_str.ensures.value ∙ sym c.as_bytes.ensures.value in
    let unknown = ap (λ (n : List ℕ). ids c.args.fleet.now n) same ∙ sym c.in-None.ensures in (
      c.label-item.result,
      (c.loop-label.label-index, c.loop-label-test.true, sym c.label-item.is),
      c.as_str.ensures.value,
      unknown,
    )

pub loop-label-preserved : goal.loop-label-preserved
loop-label-preserved c =
    let P : String Global → Type 0 = λ label. IsSome (ids c.args.fleet.now (string_bytes label)) in
    let labelled = λ (n : List ℕ). ids c.args.fleet.now n in
    let known = c.in-Some.ensures ∙ ap labelled c.as_bytes.ensures.value in
    let here : P c.label-item.result = subst (λ (o : Option Node). IsSome o) known refl in
    All-more P c.args.labels.now c.loop-label.label-index c.label-item.result c.loop-label-test.true
    c.loop-label.invariant (subst P c.label-item.is here)

pub returns : goal.returns
returns c =
    let P : String Global → Type 0 = λ label. IsSome (ids c.args.fleet.now (string_bytes label)) in
    subst (λ (labels : List (String Global)). All P labels)
    (take_all c.loop-label.label-index c.args.labels.now c.loop-label-test.false) c.loop-label.invariant
