use Rattle.std.proofs.Common.{◌∷◌, [], ◌++◌, ℕ, List, Vec, Global, take, Contains, sym, subst₂, ap, ◌∙◌}
use Rattle.std.proofs.lemmas.List.{map-append}
use Rattle.hg_changeset.specs.declared.node.Node.{Node}
use Rattle.hg_succ.specs.Answer.{sets_of}
use Rattle.hg_succ.specs.Rows.{rows_of}
use Rattle.hg_succ.specs.Numbered.{Adds}
use Rattle.hg_succ.specs.Holders.{AreNumberings}
use Rattle.hg_succ.proofs.SetLemmas.{sets_more}
use Rattle.hg_succ.proofs.HolderLemmas.{numbering_from_adds, numberings_more}
use Rattle.hg_succ.proofs.holders.number_members.Goals as goal

pub loop-set-preserved : goal.loop-set-preserved
loop-set-preserved c =
    let sets = c.args.sets.now in
    let i = c.loop-set.set-index in
    let v = c.set-item.result in
    let old = c.loop-set.nodes.keys in
    let new = c.number_each.new.nodes.keys in
    let rows = c.loop-set.rows.items in
    let row = c.number_each.new.row in
    let adds : Adds (Contains v.items) old new [] row.items =
    subst₂ (λ (ns : List Node) (r : List ℕ). Adds (Contains ns) old new r row.items) c.deref.ensures.value
    c.new-row.ensures.items c.in_ok-number_each.ensures in
    let more : AreNumberings (sets_of (take i sets) ++ v.items ∷ []) new (rows_of rows ++ row.items ∷ []) =
    numberings_more old new (sets_of (take i sets)) (rows_of rows) v.items row.items adds.grows c.loop-set.invariant
    (numbering_from_adds old new v.items row.items adds) in
    subst₂ (λ (ss : List (List Node)) (rs : List (List ℕ)). AreNumberings ss new rs)
    (sym (sets_more sets i v c.loop-set-test.true c.set-item.is))
    (sym (ap rows_of c.in_ok-push.ensures.items ∙ map-append (λ (r : Vec ℕ Global). r.items) rows (row ∷ []))) more
