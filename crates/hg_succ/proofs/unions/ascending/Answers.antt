use Rattle.std.proofs.Common.{rules, ◌≡◌, ◌∷◌, ◌++◌, [], List, sym, ap, subst, ◌∙◌, arith, Vec, Global}
use Rattle.std.proofs.lemmas.List.{append_assoc, append-nil}
use Rattle.hg_changeset.specs.declared.node.Node.{Node}
use Rattle.hg_succ.specs.Answer.{sets_of}
use Rattle.hg_succ.specs.Unions.{AreSetsOf}
use Rattle.hg_succ.proofs.SetLemmas.{no_sets_yet, one_set_more, sets_push, empty_list}
use Rattle.hg_succ.proofs.unions.ascending.Goals as goal

pub loop-list-init : goal.loop-list-init
loop-list-init c = record {
  so = subst (λ (vs : List (Vec Node Global)). AreSetsOf [] (sets_of vs)) (sym c.new-sets.ensures.items) no_sets_yet;
  rest = sym c.into_iter-list-iterator.ensures.into_iter_gives.0;
}

pub loop-list-preserved : goal.loop-list-preserved
loop-list-preserved c =
    let left : c.loop-list.list-iterator.rest.items ≡ c.in-Some.list ∷ c.next.new.self.rest.items = search rules in
    record {
      so = subst (λ (vs : List (Vec Node Global)). AreSetsOf (sets_of (c.loop-list.yielded ++ c.in-Some.list ∷ []))
          (sets_of vs)) (sym c.in_ok-push.ensures.items)
          (subst (λ (zs : List (List Node)). AreSetsOf zs (sets_of (c.loop-list.sets.items ++ c.as_set.result ∷ [])))
          (sym (sets_push c.loop-list.yielded c.in-Some.list))
          (subst (AreSetsOf (sets_of c.loop-list.yielded ++ c.in-Some.list.items ∷ []))
          (sym (sets_push c.loop-list.sets.items c.as_set.result))
          (one_set_more (sets_of c.loop-list.yielded) (sets_of c.loop-list.sets.items) c.in-Some.list.items
          c.as_set.result.items c.loop-list.invariant.so c.as_set.ensures)));
      rest = c.loop-list.invariant.rest ∙ ap (λ (vs : List (Vec Node Global)). c.loop-list.yielded ++ vs) left
          ∙ sym (append_assoc c.loop-list.yielded (c.in-Some.list ∷ []) c.next.new.self.rest.items);
    }

pub returns : goal.returns
returns c =
    let none : c.loop-list.list-iterator.rest.items ≡ [] = empty_list c.loop-list.list-iterator.rest.items
    (omega (arith, c.in-None.ensures.steps.0, c.loop-list.list-iterator.rest.ok.0)) in
    let all : c.args.lists.items ≡ c.loop-list.yielded =
    c.loop-list.invariant.rest ∙ ap (λ (vs : List (Vec Node Global)). c.loop-list.yielded ++ vs) none
    ∙ append-nil c.loop-list.yielded in
    subst (λ (vs : List (Vec Node Global)). AreSetsOf (sets_of vs) (sets_of c.loop-list.sets.items)) (sym all)
    c.loop-list.invariant.so
