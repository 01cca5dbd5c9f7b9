use Rattle.std.proofs.Common.{◌+◌, arith}
use Rattle.hg_phaseroots.proofs.ReadLemmas.{read_fault, read_line}
use Rattle.hg_phaseroots.proofs.read.check_lines.Goals as goal

pub returns-in-Err : goal.returns-in-Err
returns-in-Err c =
    read_fault c.args.text.now c.loop-rest.invariant.1.0 (c.loop-rest.line_number + 1) c.loop-rest.rest.now
    c.split_line.result.0.now c.split_line.result.1.now c.split_line.ensures.line c.loop-rest.invariant.1.1
    c.in-Err.fault c.in-Err.ensures

pub loop-rest-preserved : goal.loop-rest-preserved
loop-rest-preserved c =
    let next = read_line c.args.text.now c.loop-rest.invariant.1.0 (c.loop-rest.line_number + 1) c.loop-rest.rest.now
    c.split_line.result.0.now c.split_line.result.1.now c.split_line.ensures.line c.loop-rest.invariant.1.1
    c.in-Ok.field-0 c.in-Ok.ensures in
    (omega (arith, c.split_line.ensures.shorter, c.loop-rest.invariant.0), next)
