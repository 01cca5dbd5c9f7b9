use Rattle.std.proofs.Common.{◌≡◌, ◌↔◌, ◌⊎◌, inl, inr, ◌++◌, List, Contains, sym, ap, subst, ◌∙◌}
use Rattle.std.proofs.lemmas.Result.{IfOk-weaker}
use Rattle.hg_changeset.specs.declared.node.Node.{Node}
use Rattle.hg_replica.specs.Content.{content_of}
use Rattle.hg_replica.specs.Evolution.{IsCurrent}
use Rattle.hg_instab.proofs.KeptLemmas.{asked-both, asked-of}
use Rattle.hg_instab.proofs.turns.phase_turn.Goals as goal

pub returns-clause-told : goal.returns-clause-told
returns-clause-told c =
    let g = content_of c.args.replica.now in
    let met = c.args.met.now.keys in
    let seeds = c.args.seeds.now in
    let after = c.args.sets.now.after_public in
    let Is : Node → Type 0 = λ n. IsCurrent g n × (Contains after n ⊎ Contains met n) in
    let nodes : c.in_ok-nodes.nodes.items ≡ met = c.in_ok-nodes.ensures in
    let all : c.deref-2.result.now ≡ met ++ seeds =
    c.deref-2.ensures.value ∙ c.in_ok-extend_from_slice.ensures.items ∙ ap (λ xs. xs ++ seeds) nodes in
    let asked : (n : Node) → Contains c.in_ok-now.now.items n ↔ (Contains c.deref.result.now n × Is n) =
    subst (λ (xs : List Node). (n : Node) → Contains c.in_ok-now.now.items n
    ↔ (Contains c.deref.result.now n × (IsCurrent g n × (Contains xs n ⊎ Contains met n)))) c.after_public.ensures
    c.in_ok-now.ensures in
    let is = asked-of Is c.deref.result.now c.deref-2.result.now c.in_ok-now.now.items
    (c.deref.ensures.value ∙ sym c.deref-2.ensures.value) asked in
    IfOk-weaker c.to.result _ _ (λ turn told f others was. asked-both c.phase_divergent.result.now.keys
    c.args.sets.now.phase_divergent met seeds c.deref-2.result.now c.in_ok-now.now.items turn
    (λ n. IsCurrent f n × Contains after n) Is c.phase_divergent.ensures all told is was
    (λ n unmet same.
    let current = others n same in (
      λ h. (current.0 h.0, elim h.1 [ inl a ↦ a | inr m ↦ absurd (unmet m) ]),
      λ h. (current.1 h.0, inl h.1),
    ))) c.to.ensures.then
