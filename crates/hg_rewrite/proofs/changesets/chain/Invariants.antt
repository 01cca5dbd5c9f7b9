use Rattle.std.proofs.Common.{Contains, drop, length}
use Rattle.hg_changeset.specs.Contents.{Contents}
use Rattle.hg_changeset.specs.Changeset.{IsChangeset}
use Rattle.hg_rewrite.proofs.ChainLemmas.{IsMadeSoFar}
use Rattle.hg_rewrite.proofs.changesets.chain.Given as goal

abbrev pub invariant-loop-text : goal.invariant-loop-text
invariant-loop-text l =
    IsMadeSoFar l.fn.parents l.fn.texts.items (drop (length l.yielded) l.fn.texts.items) (l.p, l.q) l.changesets.items
    × ((d : Contents) → Contains l.changesets.items d → IsChangeset d)
