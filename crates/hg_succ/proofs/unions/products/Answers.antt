use Rattle.std.proofs.Common.{◌++◌, [], List, map, take, sym, ap, ◌∙◌}
use Rattle.std.proofs.lemmas.List.{flat_map_more}
use Rattle.hg_changeset.specs.declared.node.Node.{Node}
use Rattle.hg_succ.specs.Answer.{sets_of}
use Rattle.hg_succ.specs.Unions.{products}
use Rattle.hg_succ.proofs.SetLemmas.{sets_more}
use Rattle.hg_succ.proofs.unions.products.Goals as goal

pub loop-first-preserved : goal.loop-first-preserved
loop-first-preserved c =
    let firsts = c.args.firsts.now in
    let i = c.loop-first.first-index in
    let v = c.first-item.result in
    let seconds = sets_of c.args.seconds.now in
    let f : List Node → List (List Node) = λ first. map (λ second. first ++ second) seconds in
    c.in_ok-push_unions.ensures
    ∙ (λ k. c.loop-first.invariant k ++ f (c.deref.ensures.value k))
    ∙ flat_map_more f [] (sets_of (take i firsts)) v.items
    ∙ ap (λ (us : List (List Node)). products us seconds)
    (sym (sets_more firsts i v c.loop-first-test.true c.first-item.is))
