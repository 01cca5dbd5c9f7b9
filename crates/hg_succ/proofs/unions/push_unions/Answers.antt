use Rattle.std.proofs.Common.{◌≡◌, ◌∷◌, ◌++◌, [], List, map, take, sym, ap, ◌∙◌, Vec, Global}
use Rattle.std.proofs.lemmas.List.{take_all, append_assoc, map-append}
use Rattle.hg_changeset.specs.declared.node.Node.{Node}
use Rattle.hg_succ.specs.Answer.{sets_of}
use Rattle.hg_succ.proofs.SetLemmas.{sets_more, sets_push}
use Rattle.hg_succ.proofs.unions.push_unions.Goals as goal

pub loop-second-preserved : goal.loop-second-preserved
loop-second-preserved c =
    let first = c.args.first.now in
    let seconds = c.args.seconds.now in
    let i = c.loop-second.second-index in
    let v = c.second-item.result in
    let old = sets_of c.args.found.now.items in
    let f : List Node → List Node = λ second. first ++ second in
    let more = sets_more seconds i v c.loop-second-test.true c.second-item.is in
    let both : c.in_ok-both.both.items ≡ f v.items = c.in_ok-both.ensures ∙ ap f c.deref.ensures.value in
    ap sets_of c.in_ok-push.ensures.items
    ∙ sets_push c.loop-second.found.items c.in_ok-both.both
    ∙ (λ k. c.loop-second.invariant k ++ both k ∷ [])
    ∙ append_assoc old (map f (sets_of (take i seconds))) (f v.items ∷ [])
    ∙ ap (λ (us : List (List Node)). old ++ us) (sym (map-append f (sets_of (take i seconds)) (v.items ∷ [])))
    ∙ ap (λ (us : List (List Node)). old ++ map f us) (sym more)

pub returns : goal.returns
returns c = c.loop-second.invariant ∙
    ap (λ (xs : List (Vec Node Global)). sets_of c.args.found.now.items ++ map (λ second. c.args.first.now ++ second)
    (sets_of xs)) (take_all c.loop-second.second-index c.args.seconds.now c.loop-second-test.false)
