use Rattle.std.proofs.Common.{◌≤◌, length, sym, subst, arith}
use Rattle.std.specs.Io.KnownBytes.{Consumes}
use Rattle.hg_script.proofs.InputLemmas.{Consumes-nothing, all_is_read, all_is_longer}
use Rattle.hg_script.proofs.input.read_counted.Goals as goal

pub loop-init : goal.loop-init
loop-init g c =
    let left = g.R.Read.remaining c.args.reader.now in
    record {
      bytes = subst (λ xs. Consumes left left xs) (sym c.new-text.ensures.items) (Consumes-nothing left);
      counted = omega arith;
      reads = omega arith;
      limit = subst (λ xs. length xs ≤ 1048576) (sym c.new-text.ensures.items) (omega arith);
    }

pub returns-then-branch-eq0-clause-whole : goal.returns-then-branch-eq0-clause-whole
returns-then-branch-eq0-clause-whole g c =
    let all = g.R.Read.remaining c.args.reader.now in
    let step = c.in_ok-read_more.ensures in
    all_is_read all (g.R.Read.remaining c.read_more.new.reader) c.read_more.new.text.items
    (step.bytes all c.loop.invariant.bytes) (step.end c.if-branch-eq0.true)

pub returns-then-branch-eq0-clause-limit : goal.returns-then-branch-eq0-clause-limit
returns-then-branch-eq0-clause-limit g c =
    omega (arith, c.in_ok-read_more.ensures.counted, c.if-branch-eq0.true, c.loop.invariant.limit)

pub returns-then-len-gt-SCRIPT_LIMIT-clause-too_long :
    goal.returns-then-len-gt-SCRIPT_LIMIT-clause-too_long
returns-then-len-gt-SCRIPT_LIMIT-clause-too_long g c _ =
    let all = g.R.Read.remaining c.args.reader.now in
    let step = c.in_ok-read_more.ensures in
    all_is_longer 1048576 all (g.R.Read.remaining c.read_more.new.reader) c.read_more.new.text.items
    (step.bytes all c.loop.invariant.bytes) (omega arith)

pub loop-preserved : goal.loop-preserved
loop-preserved g c =
    let all = g.R.Read.remaining c.args.reader.now in
    let step = c.in_ok-read_more.ensures in
    let before = c.loop.invariant.counted in
    let sum = step.counted in
    record {
      bytes = step.bytes all c.loop.invariant.bytes;
      counted = omega (arith, before, sum, c.if-branch-eq0.false);
      reads = omega (arith, c.loop.invariant.reads, step.read);
      limit = omega arith;
    }

pub returns-clause-too_long : goal.returns-clause-too_long
returns-clause-too_long g c _ =
    let few = c.loop.invariant.counted in
    let limit = c.loop.invariant.limit in
    absurd (omega (arith, few, limit))

pub returns-in_err-read_more-clause-reads : goal.returns-in_err-read_more-clause-reads
returns-in_err-read_more-clause-reads g c = omega (arith, c.loop.invariant.reads, c.in_err-read_more.ensures.read)

pub returns-then-branch-eq0-clause-reads : goal.returns-then-branch-eq0-clause-reads
returns-then-branch-eq0-clause-reads g c = omega (arith, c.loop.invariant.reads, c.in_ok-read_more.ensures.read)

pub returns-then-len-gt-SCRIPT_LIMIT-clause-reads : goal.returns-then-len-gt-SCRIPT_LIMIT-clause-reads
returns-then-len-gt-SCRIPT_LIMIT-clause-reads g c =
    omega (arith, c.loop.invariant.reads, c.in_ok-read_more.ensures.read)
