use Rattle.std.proofs.Common.{◌≡◌, ◌++◌, Contains, inl, inr, ap, subst, ◌∙◌, append-nil}
use Rattle.hg_changeset.specs.declared.node.Node.{Node}
use Rattle.hg_changeset.proofs.ListLemmas.{Contains-none}
use Rattle.hg_history.specs.Content.{IsHeld}
use Rattle.hg_replica.specs.Content.{content_of}
use Rattle.hg_replica.specs.Evolution.{IsMutable}
use Rattle.hg_instab.specs.Walk.{Adds}
use Rattle.hg_view.proofs.UpheldLemmas.{upholding-one_more, upheld-then}
use Rattle.hg_view.proofs.upheld.upheld_besides.Goals as goal

pub hang_below-requires : goal.hang_below-requires
hang_below-requires c n h =
    let f = content_of c.args.replica.now in
    let U = c.args.upheld.now.keys in
    let first = c.add_mutable.new.found.keys in
    let adds : Adds (λ n. (c.args.node ≡ n) × IsMutable f n) U (U ++ first) =
    subst (λ ns. Adds (λ n. (c.args.node ≡ n) × IsMutable f n) ns (U ++ first))
    (ap (λ ns. U ++ ns) c.with_keys-found.ensures ∙ append-nil U) c.in_ok-add_mutable.ensures.ok in
    elim ((adds.members n).0 h) [ inl old ↦ c.requires n old | inr new ↦ (new.1.0, new.1.1) ]

pub returns-clause-disjoint : goal.returns-clause-disjoint
returns-clause-disjoint c = c.in_ok-hang_below.ensures.disjoint (c.in_ok-add_mutable.ensures.disjoint
    (λ n h. absurd (Contains-none n (subst (λ ns. Contains ns n) c.with_keys-found.ensures h))))

pub returns-clause-upheld : goal.returns-clause-upheld
returns-clause-upheld c pins more are members held =
    let f = content_of c.args.replica.now in
    let U = c.args.upheld.now.keys in
    let first = c.add_mutable.new.found.keys in
    let adds : Adds (λ n. (c.args.node ≡ n) × IsMutable f n) U (U ++ first) =
    subst (λ ns. Adds (λ n. (c.args.node ≡ n) × IsMutable f n) ns (U ++ first))
    (ap (λ ns. U ++ ns) c.with_keys-found.ensures ∙ append-nil U) c.in_ok-add_mutable.ensures.ok in
    let known : (n : Node) → Contains more n → IsHeld f.0 n = λ n h. elim ((members n).0 h) [
      | inl pinned ↦ are.pinned n pinned
      | inr e ↦ subst (λ (m : Node). IsHeld f.0 m) e held
    ] in
    upheld-then f more U (U ++ c.hang_below.new.found.keys) known (c.in_ok-hang_below.ensures.ok more
    (upholding-one_more f pins more U (U ++ first) c.args.node are members adds))
