use Rattle.std.proofs.Common.{◌≡◌, ◌≤◌, refl, Bool, true, false, MatchBool, ap, subst, arith, leb, leb-true, leb-false}
use mathlib.Core.List.{IsPrefix}
use Rattle.hg_journal.specs.Rules.{Notes, entries}
use Rattle.hg_journal.proofs.Prefixes.{prefix_line, line_shorter, line_swap}
use Rattle.hg_journal.proofs.EntryLemmas.{entries_prefix}
use Rattle.hg_journal.proofs.front.Front.begins.Goals as goal

decided : (P Q : Type 0) (b : Bool) → (b ≡ true → P) → (b ≡ false → Q) → MatchBool b P Q
decided P Q true p q = p refl
decided P Q false p q = q refl

pub returns-clause-prefix : goal.returns-clause-prefix
returns-clause-prefix g c =
    let both = c.learn.new.self.log in
    let a = c.self.inside in
    let b = c.other.inside in
    let this : IsPrefix a.seen.log both =
    subst (λ (l : Notes _). IsPrefix l both) (ap (λ s. s.log) c.again-both.ensures) c.learn.ensures.2 in
    let one = entries_prefix a.seen.log both this in
    let two = entries_prefix b.seen.log both c.learn.ensures.3 in
    let line = prefix_line (entries a.seen.log) (entries b.seen.log) (entries both) one two in
    rw (← c.self.view_is, ← c.other.view_is)
    (decided (IsPrefix (entries a.seen.log) (entries b.seen.log)) (IsPrefix (entries b.seen.log) (entries a.seen.log))
    (leb a.count b.count)
    (λ is. line_shorter (entries a.seen.log) (entries b.seen.log) line
    (let le : a.count ≤ b.count = leb-true a.count b.count is in
    omega (arith, c.self.invariant.0, c.other.invariant.0)))
    (λ is. line_shorter (entries b.seen.log) (entries a.seen.log)
    (line_swap (entries a.seen.log) (entries b.seen.log) line)
    (omega (arith, leb-false a.count b.count is, c.self.invariant.0, c.other.invariant.0))))
