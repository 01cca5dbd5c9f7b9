use Rattle.std.proofs.Common.{◌≡◌, ℕ, List, ◌++◌}
use Rattle.sha1.specs.Sha1.{Holds}
use Rattle.hg_obsstore.specs.Digests.{texts_bytes}
use Rattle.hg_obsstore.proofs.digests.feed_texts.Given as goal

-- what went in, with what is left, is all that there is
abbrev pub invariant-loop-key : goal.invariant-loop-key
invariant-loop-key l = (m : List ℕ) → Holds l.initial.hasher m
    → (n : List ℕ) × Holds l.hasher n × (n ++ texts_bytes l.key-iterator ≡ m ++ texts_bytes l.fn.texts)
