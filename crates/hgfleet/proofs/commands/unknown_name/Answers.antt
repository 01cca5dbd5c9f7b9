use Rattle.std.proofs.Common.{◌∙◌, ℕ, All, IsSome, List, Option, String, string_bytes, ap, refl, subst, sym}
use Rattle.std.specs.declared.alloc.Global.{Global}
use Rattle.std.proofs.lemmas.List.{take_all}
use Rattle.std.proofs.lemmas.List.Elements.{All-more}
use Rattle.hg_line.specs.Lines.{node_named}
use Rattle.hg_view.specs.Kept.{KeptValue}
use Rattle.hgfleet.proofs.commands.unknown_name.Goals as goal

pub returns-in-None : goal.returns-in-None
returns-in-None c =
    let same = c.as_str.ensures.value ∙ sym c.as_bytes.ensures.value in
    let unknown = ap (λ (n : List ℕ). node_named c.args.fleet.now n) same ∙ sym c.in-None.ensures in (
      c.name-item.result,
      (c.loop-name.name-index, c.loop-name-test.true, sym c.name-item.is),
      c.as_str.ensures.value,
      unknown,
    )

pub loop-name-preserved : goal.loop-name-preserved
loop-name-preserved c =
    let P : String Global → Type 0 = λ name. IsSome (node_named c.args.fleet.now (string_bytes name)) in
    let named = λ (n : List ℕ). node_named c.args.fleet.now n in
    let known = c.in-Some.ensures ∙ ap named c.as_bytes.ensures.value in
    let here : P c.name-item.result = subst (λ (o : Option KeptValue). IsSome o) known refl in
    All-more P c.args.names.now c.loop-name.name-index c.name-item.result c.loop-name-test.true
    c.loop-name.invariant (subst P c.name-item.is here)

pub returns : goal.returns
returns c =
    let P : String Global → Type 0 = λ name. IsSome (node_named c.args.fleet.now (string_bytes name)) in
    subst (λ (names : List (String Global)). All P names)
    (take_all c.loop-name.name-index c.args.names.now c.loop-name-test.false) c.loop-name.invariant
