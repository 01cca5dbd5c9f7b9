use Rattle.std.proofs.Common.{◌≡◌, ◌*◌, inl, inr, ℕ, List, length, arith, subst, ap}
use Rattle.std.proofs.lemmas.List.{length_push}
use Rattle.hg_graph.proofs.GraphLemmas.{place_from_Contains}
use Rattle.hg_succ.specs.Rows.{rows_of}
use Rattle.hg_succ.specs.Holders.{IsBlock}
use Rattle.hg_succ.proofs.HolderLemmas.{rows_push}
use Rattle.hg_succ.proofs.holders.blocks_of.Goals as goal

pub loop-block-preserved : goal.loop-block-preserved
loop-block-preserved c =
    let blocks = c.loop-block.blocks.items in
    let more = c.in_ok-words.words in
    let rows = rows_of c.args.rows.now in
    let all = rows_push blocks more c.push.new.self.items c.in_ok-push.ensures.items in
    record {
      many = omega (arith, c.loop-block.invariant.many, ap length c.in_ok-push.ensures.items, length_push blocks more);
      exact = λ b words at. elim (all b words at) [
        | inl before ↦ c.loop-block.invariant.exact b words before
        | inr last ↦ subst (λ (ws : List ℕ). IsBlock rows (b * 64) ws) last.1
            (subst (λ k. IsBlock rows (k * 64) more.items)
            (let e : c.loop-block.block ≡ b = omega (arith, last.0, c.loop-block.invariant.many) in e)
            c.in_ok-words.ensures.block)
      ];
      long = λ b words at. elim (all b words at) [
        | inl before ↦ c.loop-block.invariant.long b words before
        | inr last ↦ omega (arith, ap length last.1, c.in_ok-words.ensures.long)
      ];
    }

pub returns-clause-words : goal.returns-clause-words
returns-clause-words c row words m h g in' =
    let at = place_from_Contains (rows_of c.loop-block.blocks.items) words g in
    omega (arith, c.loop-block.invariant.long at.0 words at.1, c.requires row m h in')
