use Rattle.std.proofs.Common.{◌<◌, ◌∙◌, arith, length, false, Some, sym, ap, true≢false}
use Rattle.std.proofs.lemmas.Option.{slice_get-get_or, get_or_from_slice_get}
use mathlib.Core.Bool.{beq}
use Rattle.hg_discovery.specs.declared.finding.Finding.TheVariants.{Undecided}
use Rattle.hg_discovery.proofs.DecidedLemmas.{read_so, read_not_so, same_bool, same_bool_itself}
use Rattle.hg_discovery.proofs.DrawLemmas.{picked, from_picked}
use Rattle.hg_discovery.proofs.draw.is_picked.Goals as goal

pub returns-then-eq : goal.returns-then-eq
returns-then-eq c =
    let ds = c.args.decided.now in
    let marks = c.args.marks.now in
    let x = c.args.placed_node in
    let within : x.place < length ds = c.requires.within in
    let marked : x.place < length marks = omega (arith, c.requires.len, within) in (
      λ t. picked ds marks c.args.so c.args.covered x
          (read_so ds x.place Undecided c.args.so c.eq.result within c.eq.ensures c.if-eq.true)
          (slice_get-get_or marks x.place false marked ∙ ap (λ b. Some b) (same_bool _ _ t)),
      λ t.
          let p = from_picked ds marks c.args.so c.args.covered x t in
          let is = get_or_from_slice_get marks x.place c.args.covered false p.1 in
          ap (λ b. beq b c.args.covered) is ∙ same_bool_itself c.args.covered,
    )

pub returns-else-eq : goal.returns-else-eq
returns-else-eq c =
    let ds = c.args.decided.now in
    let x = c.args.placed_node in (
      λ t. absurd (true≢false (sym t ∙ c.if-eq.false)),
      λ t. absurd (read_not_so ds x.place Undecided c.args.so c.eq.result c.eq.ensures c.if-eq.false
          (from_picked ds c.args.marks.now c.args.so c.args.covered x t).0),
    )
