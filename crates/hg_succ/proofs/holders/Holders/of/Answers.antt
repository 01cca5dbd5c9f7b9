use Rattle.std.proofs.Common.{ℕ, List, Vec, Global, Contains, arith, subst}
use Rattle.hg_succ.specs.Answer.{sets_of}
use Rattle.hg_succ.specs.Rows.{rows_of}
use Rattle.hg_succ.proofs.NumberLemmas.{once}
use Rattle.hg_succ.proofs.HolderLemmas.{numbers_below}
use Rattle.hg_succ.specs.Holders.{AreBlocks, HaveWords}
use Rattle.hg_succ.proofs.holders.Holders.of.Goals as goal

pub blocks_of-requires : goal.blocks_of-requires
blocks_of-requires c row m h in' =
    let all = c.in_ok-members.ensures in
    let below = numbers_below (sets_of c.args.sets.now) c.in_ok-members.field-0.nodes.keys
    (rows_of c.in_ok-members.field-0.rows.items) all row m
    (subst (λ (rs : List (Vec ℕ Global)). Contains (rows_of rs) row) c.deref.ensures.value h) in' in
    omega (arith, below, c.len.ensures.len)

pub returns : goal.returns
returns c = record {
  members = c.in_ok-members.field-0.nodes.keys;
  once = once c.in_ok-members.field-0.nodes.keys c.len.ensures.unique;
  numbered = c.in_ok-members.ensures;
  blocks = subst (λ (rs : List (Vec ℕ Global)). AreBlocks (rows_of rs) (rows_of c.in_ok-blocks.blocks.items))
      c.deref.ensures.value c.in_ok-blocks.ensures.blocks;
  words = subst (λ (rs : List (Vec ℕ Global)). HaveWords (rows_of rs) (rows_of c.in_ok-blocks.blocks.items))
      c.deref.ensures.value c.in_ok-blocks.ensures.words;
}
