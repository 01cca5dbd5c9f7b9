use Rattle.std.proofs.Common.{List, Contains, sym, subst, ◌∙◌}
use Rattle.std.proofs.lemmas.Result.{IfOk-weaker}
use Rattle.hg_changeset.specs.declared.node.Node.{Node}
use Rattle.hg_replica.specs.Content.{content_of}
use Rattle.hg_instab.specs.Near.{AreNearForks}
use Rattle.hg_instab.proofs.FirstLemmas.{region-first}
use Rattle.hg_instab.proofs.first.near_fork_ids.Goals as goal

pub returns : goal.returns
returns c =
    let t = c.args.replica.now in
    let near = region-first t c.in_ok-change.change c.new.result.keys c.in_ok-met.met.keys c.in_ok-met.ensures
    c.in_ok-change.ensures.markers in
    IfOk-weaker c.to_vec.result _ _ (λ ids is. subst (λ (xs : List Node). AreNearForks (content_of t) (Contains xs))
    (sym (is (λ x y e. e) ∙ c.as_slice.ensures.keys)) near) c.to_vec.ensures.items_if_clones_equal
