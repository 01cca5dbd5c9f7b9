use Rattle.std.proofs.Common.{true≢false, sym, subst, ◌∙◌, List}
use Rattle.hg_changeset.specs.declared.node.Node.{Node}
use Rattle.hg_marker.specs.Fields.{Fields}
use Rattle.hg_replica.specs.Content.{content_of}
use Rattle.hg_instab.specs.Quick.{IsInNoSet, IsLeaf}
use Rattle.hg_instab.specs.Near.{IsNamed}
use Rattle.hg_instab.specs.Region.{IsOneNear}
use Rattle.hg_instab.specs.Walk.{IsFork}
use Rattle.hg_instab.proofs.quick.is_rewritten_leaf.Goals as goal

pub returns : goal.returns
returns c t =
    let s = c.args.replica.now in
    let sets = c.args.sets.now in
    let m = c.args.marker.now in
    let it = c.predecessor-node.ensures.predecessor in
    record {
      leaf = subst (IsLeaf (content_of s)) it (c.is_leaf.ensures c.if-not-is_leaf.false);
      once = subst (λ (n : Node). ¬ (IsFork s.markers n)) it (λ fork. true≢false (sym (c.is_fork.ensures.1
          (subst (λ (ms : List Fields). IsFork ms c.predecessor-node.result) (sym c.store.ensures) fork))
          ∙ c.if-is_fork.false));
      in_no_set = subst (IsInNoSet sets) it (c.is_in_no_set.ensures t);
      away = λ close. true≢false (sym (c.names_near.ensures.1
          (subst (λ (xs : List Node). IsOneNear (IsNamed m) xs) (sym c.near_forks.ensures) close))
          ∙ c.if-names_near.false);
    }
