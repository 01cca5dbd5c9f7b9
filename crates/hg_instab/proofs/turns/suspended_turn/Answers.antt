use Rattle.std.proofs.Common.{◌≡◌, ◌↔◌, ◌++◌, List, Contains, sym, ap, subst, ◌∙◌}
use Rattle.std.proofs.lemmas.Result.{IfOk-weaker}
use Rattle.hg_changeset.specs.declared.node.Node.{Node}
use Rattle.hg_replica.specs.Content.{content_of}
use Rattle.hg_replica.specs.Evolution.{IsObsolete}
use Rattle.hg_instab.specs.Changed.{IsNow}
use Rattle.hg_instab.proofs.KeptLemmas.{asked-both, asked-of, chosen-of}
use Rattle.hg_instab.proofs.TurnedLemmas.{now-none}
use Rattle.hg_instab.proofs.turns.suspended_turn.Goals as goal

pub returns-clause-told : goal.returns-clause-told
returns-clause-told c =
    let g = content_of c.args.replica.now in
    let turned = c.args.turned.now.keys in
    let seeds = c.args.seeds.now in
    let chosen = c.args.obsolete.now in
    let extinct = c.args.sets.now.extinct in
    let Is : Node → Type 0 = λ n. IsObsolete g n × ¬ (IsNow extinct turned n) in
    let few : c.deref.result.now ≡ turned ++ chosen =
    c.deref.ensures.value ∙ c.in_ok-extend_from_slice.ensures.items ∙ ap (λ xs. xs ++ chosen) c.in_ok-asked.ensures in
    let all : c.deref-2.result.now ≡ turned ++ seeds =
    c.deref-2.ensures.value ∙ c.in_ok-extend_from_slice-2.ensures.items
    ∙ ap (λ xs. xs ++ seeds) c.in_ok-nodes.ensures in
    let asked : (n : Node) → Contains c.in_ok-now.now.items n ↔ (Contains c.deref.result.now n × Is n) =
    subst (λ (xs : List Node). (n : Node) → Contains c.in_ok-now.now.items n
    ↔ (Contains c.deref.result.now n × (IsObsolete g n × ¬ (IsNow xs turned n)))) c.extinct.ensures
    c.in_ok-now.ensures in
    let is = asked-of Is (turned ++ seeds) c.deref-2.result.now c.in_ok-now.now.items (sym all)
    (chosen-of Is (IsObsolete g) turned seeds chosen c.in_ok-now.now.items c.requires (λ n h. h.0)
    (asked-of Is c.deref.result.now (turned ++ chosen) c.in_ok-now.now.items few asked)) in
    IfOk-weaker c.to.result _ _ (λ turn told f others was. asked-both c.suspended.result.now.keys
    c.args.sets.now.suspended turned seeds c.deref-2.result.now c.in_ok-now.now.items turn
    (λ n. IsObsolete f n × ¬ (Contains extinct n)) Is c.suspended.ensures all told is was
    (λ n kept same.
    let now = now-none extinct turned n kept in
    let obsolete = others n same in (
      λ h. (obsolete.0 h.0, λ e. h.1 (now.1 e)),
      λ h. (obsolete.1 h.0, λ e. h.1 (now.0 e)),
    ))) c.to.ensures.then
