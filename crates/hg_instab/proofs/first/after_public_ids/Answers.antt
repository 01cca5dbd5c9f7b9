use Rattle.std.proofs.Common.{◌↔◌, inl, inr, List, Contains, sym, subst}
use Rattle.std.proofs.lemmas.Result.{IfOk-weaker}
use Rattle.hg_changeset.specs.declared.node.Node.{Node}
use Rattle.hg_changeset.proofs.ListLemmas.{Contains-none}
use Rattle.hg_replica.specs.Content.{content_of}
use Rattle.hg_instab.specs.Near.{IsAfterPublic}
use Rattle.hg_instab.proofs.FirstLemmas.{unmarked, first-follows, none-after}
use Rattle.hg_instab.proofs.first.after_public_ids.Goals as goal

pub returns : goal.returns
returns c =
    let t = c.args.replica.now in
    let exact = c.in_ok-met.ensures (unmarked t) c.is_valid.ensures
    (first-follows t c.in_ok-change.change c.in_ok-change.ensures.markers)
    (none-after t c.new.result.keys c.new.ensures.empty) in
    let met : (n : Node) → Contains c.in_ok-met.met.keys n ↔ IsAfterPublic (content_of t) n = λ n. (
      λ h. (exact n).1 (inr h),
      λ h. elim ((exact n).0 h) [
        | inl old ↦ absurd (Contains-none n (subst (λ (xs : List Node). Contains xs n) c.new.ensures.empty old))
        | inr new ↦ new
      ],
    ) in
    IfOk-weaker c.list_of.result _ _ (λ ids is n.
    subst (λ (xs : List Node). Contains xs n ↔ IsAfterPublic (content_of t) n) (sym is) (met n)) c.list_of.ensures
