use Rattle.std.proofs.Common.{◌≡◌, ◌+◌, ◌-◌, ◌≤◌, vec_len, length}
use Rattle.std.specs.Io.KnownBytes.{Consumes}
use Rattle.wk_run.proofs.transfer.read_input.Given as goal

abbrev pub invariant-loop-read : goal.invariant-loop-read
invariant-loop-read g l = record {
  taken : Consumes (g.S.Source.remaining l.fn.input) (g.S.Source.remaining l.input) l.read.items;
  bounded : length l.read.items ≤ l.limit + 1;
  quiet : g.S.Source.faults l.input ≡ g.S.Source.faults l.fn.input;
  piece : vec_len l.piece ≡ 65536;
}

abbrev pub decreases-loop-read : goal.decreases-loop-read
decreases-loop-read g l = l.limit + 1 - vec_len l.read
