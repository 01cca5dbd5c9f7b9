use Rattle.std.proofs.Common.{◌≡◌, ℕ, ◌+◌, ◌∙◌, ap, sym, subst, arith, Option, Some, [], ◌∷◌, ◌++◌, length}
use Rattle.std.proofs.Common.{length-append}
use mathlib.Core.List.{IsPrefix}
use Rattle.hg_journal.specs.Rules.{Notes, entries}
use Rattle.hg_journal.proofs.Prefixes.{prefix_trans, prefix_whole}
use Rattle.hg_journal.proofs.EntryLemmas.{entries_append, entries_prefix}
use Rattle.hg_journal.proofs.StepLemmas.{adds_moves}
use Rattle.hg_journal.proofs.journal.Journal.extend.Goals as goal

-- what is known at first begins what is known once more was learned
chained : {E : Type 0} (mine again first second third : Notes E) → again ≡ mine → IsPrefix again first →
    IsPrefix first second → IsPrefix second third → IsPrefix mine third
chained mine again first second third is p q r =
    prefix_trans mine second third (prefix_trans mine first second (subst (λ (l : Notes _). IsPrefix l first) is p) q) r

-- and is all of it, where that isn't longer
all_known : {E : Type 0} (mine third : Notes E) (n : ℕ) → IsPrefix mine third → length mine ≡ n → length third ≡ n →
    mine ≡ third
all_known mine third n p is long = prefix_whole mine third p (omega (arith, is, long))

-- what is seen once a note was added
one_more : {E : Type 0} (mine third after : Notes E) (asked note : Option E × ℕ) → mine ≡ third →
    after ≡ third ++ asked ∷ [] → asked ≡ note → after ≡ mine ++ note ∷ []
one_more mine third after asked note same is told =
    is ∙ (ap (λ (l : Notes _). l ++ asked ∷ []) (sym same) ∙ ap (λ n. mine ++ n ∷ []) told)

pub compare_exchange-found-requires : goal.compare_exchange-found-requires
compare_exchange-found-requires g c =
    let i = c.self.invariant in
    let book = ap (λ w. w.book) i.0 in
    let mine = c.self.inside.seen.log in
    let grown = c.grow-next.new.seen.log in
    let begins = chained mine c.again-seen.result.log c.learn.new.self.log c.learn-2.new.self.log grown
    (ap (λ s. s.log) c.again-seen.ensures) c.learn.ensures.2 c.learn-2.ensures.2 c.grow-next.ensures.seen.1 in
    let offer = c.plain-offer.ensures in (
      ap (λ w. w.tracked) i.0,
      c.grow-next.ensures.seen.0 ∙
          (c.learn-2.ensures.0 ∙ (c.learn.ensures.0 ∙ (ap (λ s. s.book) c.again-seen.ensures ∙ (i.1 ∙ sym book)))),
      i.2 ∙ sym book,
      offer.0,
      rw (ap (λ w. w.key) i.0, offer.3)
          (adds_moves grown mine c.plain-offer.result.ask (c.self.inside.count + 1) c.self.inside.pen.nib begins i.4 i.3
          i.5),
    )

pub invariant_of-self : goal.invariant_of-self
invariant_of-self g c =
    let i = c.self.invariant in
    let mine = c.self.inside.seen.log in
    let grown = c.grow-next.new.seen.log in
    let note : Option _ × ℕ = (Some c.args.entry, c.grow-next.result.nib.key) in
    let begins = chained mine c.again-seen.result.log c.learn.new.self.log c.learn-2.new.self.log grown
    (ap (λ s. s.log) c.again-seen.ensures) c.learn.ensures.2 c.learn-2.ensures.2 c.grow-next.ensures.seen.1 in
    let done = c.compare_exchange-found.ensures in
    let same = all_known mine grown (c.self.inside.count + 1) begins i.5 done.7.1 in
    let after = one_more mine grown c.compare_exchange-found.new.seen.log c.plain-offer.result.ask note same done.7.0
    c.plain-offer.ensures.1 in
    let learned = c.learn-2.ensures.0 ∙ (c.learn.ensures.0 ∙ (ap (λ s. s.book) c.again-seen.ensures ∙ i.1)) in (
      i.0,
      done.0 ∙ (c.grow-next.ensures.seen.0 ∙ learned),
      c.grow-next.ensures.pen.0 ∙ learned,
      c.grow-next.ensures.pen.1,
      (mine, Some c.args.entry, after),
      omega (arith, ap length after, length-append mine (note ∷ []), i.5),
      omega (
        arith,
        ap (λ (l : Notes _). length (entries l)) after,
        ap length (entries_append mine (note ∷ [])),
        length-append (entries mine) (c.args.entry ∷ []),
        i.6,
      ),
    )

pub returns-clause-new : goal.returns-clause-new
returns-clause-new g c =
    let mine = c.self.inside.seen.log in
    let grown = c.grow-next.new.seen.log in
    let note : Option _ × ℕ = (Some c.args.entry, c.grow-next.result.nib.key) in
    let begins = chained mine c.again-seen.result.log c.learn.new.self.log c.learn-2.new.self.log grown
    (ap (λ s. s.log) c.again-seen.ensures) c.learn.ensures.2 c.learn-2.ensures.2 c.grow-next.ensures.seen.1 in
    let done = c.compare_exchange-found.ensures in
    let same = all_known mine grown (c.self.inside.count + 1) begins c.self.invariant.5 done.7.1 in
    let after = one_more mine grown c.compare_exchange-found.new.seen.log c.plain-offer.result.ask note same done.7.0
    c.plain-offer.ensures.1 in
    ap (λ (l : Notes _). entries l) after ∙
    (entries_append mine (note ∷ []) ∙ ap (λ l. l ++ c.args.entry ∷ []) c.self.view_is)

pub returns-clause-one : goal.returns-clause-one
returns-clause-one g c =
    let mine = c.self.inside.seen.log in
    let grown = c.grow-next.new.seen.log in
    let begins = chained mine c.again-seen.result.log c.learn.new.self.log c.learn-2.new.self.log grown
    (ap (λ s. s.log) c.again-seen.ensures) c.learn.ensures.2 c.learn-2.ensures.2 c.grow-next.ensures.seen.1 in
    let done = c.compare_exchange-found.ensures in
    let same = all_known mine grown (c.self.inside.count + 1) begins c.self.invariant.5 done.7.1 in
    let one = c.one.inside.seen.log in
    let within = prefix_trans one c.learn.new.self.log grown c.learn.ensures.3
    (prefix_trans c.learn.new.self.log c.learn-2.new.self.log grown c.learn-2.ensures.2 c.grow-next.ensures.seen.1) in
    rw (← c.one.view_is, ← c.self.view_is) (entries_prefix one mine (subst (IsPrefix one) (sym same) within))

pub returns-clause-other : goal.returns-clause-other
returns-clause-other g c =
    let mine = c.self.inside.seen.log in
    let grown = c.grow-next.new.seen.log in
    let begins = chained mine c.again-seen.result.log c.learn.new.self.log c.learn-2.new.self.log grown
    (ap (λ s. s.log) c.again-seen.ensures) c.learn.ensures.2 c.learn-2.ensures.2 c.grow-next.ensures.seen.1 in
    let done = c.compare_exchange-found.ensures in
    let same = all_known mine grown (c.self.inside.count + 1) begins c.self.invariant.5 done.7.1 in
    let other = c.other.inside.seen.log in
    let within = prefix_trans other c.learn-2.new.self.log grown c.learn-2.ensures.3 c.grow-next.ensures.seen.1 in
    rw (← c.other.view_is, ← c.self.view_is) (entries_prefix other mine (subst (IsPrefix other) (sym same) within))
