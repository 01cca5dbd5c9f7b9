use Rattle.std.proofs.Common.{◌≡◌, ◌<◌, IfSome, length, inl, inr, sym, ap, subst, ◌∙◌}
use Rattle.std.proofs.lemmas.List.{length-map}
use Rattle.hg_graph.specs.Links.{lists_of, put_last, drop_last, changed_at}
use Rattle.hg_graph.proofs.LinkLemmas.{within_option, length-changed_at, dropped_again}
use Rattle.hg_graph.proofs.links.add_child.Goals as goal

pub put_child-requires : goal.put_child-requires
put_child-requires c = within_option c.args.parents.first (length c.args.children.now.items)
    (λ k e. c.requires.before k (inl e))

length-put : (c : goal.After-put_child-arg-2-1)
    → length c.put_child.new.children.items ≡ length c.args.children.now.items
length-put c =
    sym (length-map c.put_child.new.children.items (λ v. v.items)) ∙ ap length c.in_ok-put_child.ensures.ok
    ∙ length-changed_at c.args.parents.first (put_last c.args.child) (lists_of c.args.children.now.items)
    ∙ length-map c.args.children.now.items (λ v. v.items)

pub put_child-requires-2 : goal.put_child-requires-2
put_child-requires-2 c = within_option c.args.parents.second (length c.put_child.new.children.items)
    (λ k e. subst (λ n. k < n) (sym (length-put c)) (c.requires.before k (inr e)))

lists : (c : goal.After-forget_last-arg-1) → lists_of c.put_child-2.new.children.items ≡ changed_at c.args.parents.first
    (put_last c.args.child) (lists_of c.args.children.now.items)
lists c = c.in-Err.ensures.err ∙ c.in_ok-put_child.ensures.ok

pub forget_last-requires : goal.forget_last-requires
forget_last-requires c =
    let long : length c.put_child-2.new.children.items ≡ length c.args.children.now.items =
    sym (length-map c.put_child-2.new.children.items (λ v. v.items)) ∙ ap length (lists c)
    ∙ length-changed_at c.args.parents.first (put_last c.args.child) (lists_of c.args.children.now.items)
    ∙ length-map c.args.children.now.items (λ v. v.items) in
    within_option c.args.parents.first (length c.put_child-2.new.children.items)
    (λ k e. subst (λ n. k < n) (sym long) (c.requires.before k (inl e)))

pub returns-in-Err-clause-err : goal.returns-in-Err-clause-err
returns-in-Err-clause-err c =
    let before = lists_of c.args.children.now.items in
    let within : IfSome c.args.parents.first (λ k. k < length before) =
    within_option c.args.parents.first (length before)
    (λ k e. subst (λ n. k < n) (sym (length-map c.args.children.now.items (λ v. v.items)))
    (c.requires.before k (inl e))) in
    c.forget_last.ensures.lists ∙ ap (changed_at c.args.parents.first drop_last)
    (c.in-Err.ensures.err ∙ c.in_ok-put_child.ensures.ok) ∙ dropped_again c.args.parents.first c.args.child
    before within
