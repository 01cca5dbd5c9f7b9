use Rattle.std.proofs.Common.{◌≡◌, ◌↔◌, ◌⊎◌, ◌++◌, List, Contains, sym, ap, subst, ◌∙◌}
use Rattle.std.proofs.lemmas.Result.{IfOk-weaker}
use Rattle.hg_changeset.specs.declared.node.Node.{Node}
use Rattle.hg_replica.specs.Content.{content_of}
use Rattle.hg_replica.specs.Evolution.{IsCurrent}
use Rattle.hg_instab.specs.Instabilities.{IsContentDivergent}
use Rattle.hg_instab.specs.Near.{IsClosed}
use Rattle.hg_instab.proofs.SetLemmas.{along}
use Rattle.hg_instab.proofs.KeptLemmas.{asked-both, asked-of, both-same, so-there, divergent-is}
use Rattle.hg_instab.proofs.turns.content_turn.Goals as goal

pub returns-clause-told : goal.returns-clause-told
returns-clause-told c =
    let g = content_of c.args.replica.now in
    let region = c.args.region.now.keys in
    let seeds = c.args.seeds.now in
    let set = c.args.sets.now.content_divergent in
    let found = c.in_ok-found.found.keys in
    let now = c.in_ok-now.now.items in
    let nodes : c.in_ok-nodes.nodes.items ≡ region =
    c.in_ok-nodes.ensures.items_if_clones_equal (λ x y e. e) ∙ c.as_slice-2.ensures.keys in
    let all : c.deref-2.result.now ≡ region ++ seeds =
    c.deref-2.ensures.value ∙ c.in_ok-extend_from_slice.ensures.items ∙ ap (λ xs. xs ++ seeds) nodes in
    let Told : Node → Type 0 = λ n. (Contains region n × Contains found n)
    ⊎ (¬ (Contains region n) × (Contains set n × IsCurrent g n)) in
    let asked : (n : Node) → Contains now n ↔ (Contains c.deref.result.now n × Told n) =
    subst (λ (xs : List Node). (n : Node) → Contains now n
    ↔ (Contains c.deref.result.now n × ((Contains region n × Contains found n)
    ⊎ (¬ (Contains region n) × (Contains xs n × IsCurrent g n))))) c.content_divergent.ensures
    c.in_ok-now.ensures in
    let told_now = asked-of Told c.deref.result.now c.deref-2.result.now now
    (c.deref.ensures.value ∙ sym c.deref-2.ensures.value) asked in
    IfOk-weaker c.to.result _ _ (λ turn told f closed outside others was.
    let inside : (n : Node) → Contains region n → Contains found n ↔ IsContentDivergent g n =
    λ n h. along (c.in_ok-found.ensures n)
    (so-there h (subst (λ (xs : List Node). IsClosed g (Contains xs) → (m : Node)
    → Contains c.in_ok-divergent_within.field-0.items m ↔ (Contains xs m × IsContentDivergent g m))
    c.as_slice.ensures.keys c.in_ok-divergent_within.ensures closed n)) in
    let is = divergent-is f g region found set inside outside was in
    asked-both c.content_divergent-2.result.now.keys set region seeds c.deref-2.result.now now turn
    (IsContentDivergent f) (IsContentDivergent g) c.content_divergent-2.ensures all told
    (λ n. along (told_now n) (both-same (is n))) was
    (λ n out same. (
      λ h. ((outside n out).0 h).0,
      λ h. (outside n out).1 (h, (others n same).1 h.0),
    ))) c.to.ensures.then
