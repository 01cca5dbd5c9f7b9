use Rattle.std.proofs.Common.{◌≡◌, ◌≤◌, ◌+◌, length}
use Rattle.std.specs.Io.KnownBytes.{Consumes}
use Rattle.hg_script.proofs.input.read_counted.Given as goal

abbrev pub invariant-loop : goal.invariant-loop
invariant-loop g l = record {
  bytes : Consumes (g.R.Read.remaining l.fn.reader) (g.R.Read.remaining l.reader) l.text.items;
  counted : l.counter ≤ length l.text.items;
  reads : g.R.CountedRead.reads l.reader ≡ g.R.CountedRead.reads l.fn.reader + l.counter;
  limit : length l.text.items ≤ 1048576;
}
