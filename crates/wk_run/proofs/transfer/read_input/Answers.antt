-- What was read so far, and what the last call added.
use Rattle.std.proofs.Common.{◌+◌, ◌-◌, ◌≤◌, length, refl, ◌∙◌, arith}
use Rattle.wk_run.proofs.Known.{consumes-none, reads-more}
use Rattle.wk_run.proofs.transfer.read_input.Goals as goal

pub loop-read-init : goal.loop-read-init
loop-read-init g c = record {
  taken = consumes-none _ _ c.new-read.ensures.items;
  bounded = rw c.new-read.ensures.items (omega arith);
  quiet = refl;
  piece = c.in_ok-piece.ensures.len;
}

pub returns-then-count-eq0-clause-read : goal.returns-then-count-eq0-clause-read
returns-then-count-eq0-clause-read g c =
    let fits : c.in_ok-count.count ≤ c.args.limit + 1 - length c.loop-read.read.items = omega (arith, c.in_ok-count.ensures.bound, c.loop-read.read.ok.0) in
    let within : length c.loop-read.read.items ≤ c.args.limit = omega (arith, c.loop-read.read.ok.0) in
    let more = reads-more _ _ _ _ _ _ _ c.loop-read.invariant.taken c.in_ok-count.ensures.read fits within in
    record {
      taken = more.0;
      bounded = more.1;
      to_end = λ _. c.in_ok-count.ensures.end c.if-count-eq0.true;
    }

pub loop-read-preserved : goal.loop-read-preserved
loop-read-preserved g c =
    let fits : c.in_ok-count.count ≤ c.args.limit + 1 - length c.loop-read.read.items = omega (arith, c.in_ok-count.ensures.bound, c.loop-read.read.ok.0) in
    let within : length c.loop-read.read.items ≤ c.args.limit = omega (arith, c.loop-read.read.ok.0) in
    let more = reads-more _ _ _ _ _ _ _ c.loop-read.invariant.taken c.in_ok-count.ensures.read fits within in
    record {
      taken = more.0;
      bounded = more.1;
      quiet = c.in_ok-count.ensures.quiet ∙ c.loop-read.invariant.quiet;
      piece = c.loop-read.invariant.piece;
    }

pub returns-clause-read : goal.returns-clause-read
returns-clause-read g c = record {
  taken = c.loop-read.invariant.taken;
  bounded = c.loop-read.invariant.bounded;
  to_end = λ within. absurd (omega (arith, c.loop-read.read.ok.0));
}
