use Rattle.std.proofs.Common.{◌≡◌, ◌∙◌, List, Bool, false, length, replicate, sym, ap, subst, arith}
use Rattle.hg_graph.specs.Marks.{MarksAlso}
use Rattle.hg_graph.proofs.MarkLemmas.{written}
use Rattle.hg_message.specs.Covered.{IsCovered, AreCovered}
use Rattle.hg_message.proofs.CoveredLemmas.{covered_all}
use Rattle.hg_message.proofs.heads.covered.Goals as goal

pub returns-clause-covered : goal.returns-clause-covered
returns-clause-covered c =
    let s = c.args.replica.now.history in
    let marks = c.args.named.now in
    let v = c.in_ok-covered.covered in
    let new = c.cover.new.covered in
    let count : c.len.result ≡ length marks =
    c.len.ensures.len ∙ ap length c.graph.ensures.graph ∙ sym c.requires in
    let clear : c.deref_mut.result.now ≡ replicate (length marks) false =
    c.deref_mut.ensures.value ∙ c.in_ok-covered.ensures.items_if_clones_equal (λ y e. e)
    ∙ ap (λ n. replicate n false) count in
    let all : length new ≡ v.len = omega (arith, c.cover.ensures.0, c.deref_mut.ensures.len) in
    subst (AreCovered s marks) (sym (written v.len new v.items all))
    (covered_all s c.graph.ensures.valid.graph marks new c.requires
    (subst (λ (old : List Bool). MarksAlso 0 (IsCovered s marks) old new) clear c.cover.ensures))
