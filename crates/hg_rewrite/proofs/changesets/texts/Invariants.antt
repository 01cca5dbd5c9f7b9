use Rattle.std.proofs.Common.{◌≡◌, ℕ, map, take}
use Rattle.std.specs.declared.vec.Vec.{Vec}
use Rattle.std.specs.declared.alloc.Global.{Global}
use Rattle.hg_changeset.specs.EntryText.{entry_text}
use Rattle.hg_rewrite.specs.Refusals.{NoneApplies, entry_refused}
use Rattle.hg_rewrite.proofs.changesets.texts.Given as goal

abbrev pub invariant-loop-entry : goal.invariant-loop-entry
invariant-loop-entry l = NoneApplies (map entry_refused (take l.entry-index l.entries))
    × (map (λ (text : Vec ℕ Global). text.items) l.texts.items ≡ map entry_text (take l.entry-index l.entries))
