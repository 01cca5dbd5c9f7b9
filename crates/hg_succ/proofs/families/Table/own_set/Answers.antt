use Rattle.std.proofs.Common.{◌≡◌, ◌∷◌, ◌++◌, [], List, sym, subst, ap, ◌∙◌, true≢false, Vec, Global}
use Rattle.hg_changeset.specs.declared.node.Node.{Node}
use Rattle.hg_graph.specs.Graph.{Holds as GraphHolds}
use Rattle.hg_history.proofs.ContentLemmas.{content-node, node_in_content}
use Rattle.hg_replica.specs.Content.{content_of}
use Rattle.hg_succ.specs.Answer.{sets_of}
use Rattle.hg_succ.specs.Cover.{IsSolved}
use Rattle.hg_succ.specs.Cover.Known.{are_sets}
use Rattle.hg_succ.proofs.SolveLemmas.{solved_held, solved_unheld}
use Rattle.hg_succ.proofs.families.Table.own_set.Goals as goal
use Rattle.hg_succ.proofs.families.Table.own_set.Goals.{then-held+in_ok-push+in_ok-push-2, else-held}

pub returns : goal.returns
returns c =
    let s = c.args.replica.now in
    let f = content_of s in
    let n = c.args.node in
    elim c.if-held.branch [
      | then-held+in_ok-push+in_ok-push-2 w ↦
          let set : w.push.new.self.items ≡ n ∷ [] = w.in_ok-push.ensures.items ∙ ap (λ (xs : List Node). xs ++ n ∷ [])
          w.new-set.ensures.items in
          let family : sets_of c.if-held.family.items ≡ (n ∷ []) ∷ [] =
          ap (λ (v : Vec (Vec Node Global) Global). sets_of v.items) w.family-is
          ∙ ap sets_of (w.in_ok-push-2.ensures.items ∙ ap (λ (xs : List (Vec Node Global)). xs ++ w.push.new.self ∷ [])
          c.new-family.ensures.items)
          ∙ ap (λ (xs : List Node). xs ∷ []) set in
          subst (λ (fs : List (List Node)). IsSolved f n (are_sets fs)) (sym family)
          (solved_held f n c.requires
          (content-node s.history c.graph.ensures.valid.graph n
          (subst (λ cs. GraphHolds cs n) c.graph.ensures.graph (c.contains-held.ensures.0 w.if-held.true))))
      | else-held w ↦
          let family : sets_of c.if-held.family.items ≡ [] = ap (λ (v : Vec (Vec Node Global) Global). sets_of v.items)
          w.family-is ∙ ap sets_of c.new-family.ensures.items in
          subst (λ (fs : List (List Node)). IsSolved f n (are_sets fs)) (sym family)
          (solved_unheld f n c.requires
          (λ held. true≢false
          (sym (c.contains-held.ensures.1 (subst (λ cs. GraphHolds cs n) (sym c.graph.ensures.graph)
          (node_in_content s.history c.graph.ensures.valid.graph n held))) ∙ w.if-held.false)))
    ]
