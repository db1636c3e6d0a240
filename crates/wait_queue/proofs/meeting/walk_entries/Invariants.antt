use Rattle.std.specs.Prelude.{◌≡◌, ◌<◌, ℕ, Some}
use Rattle.wait_queue.proofs.Meetings.{IsUnderway}
use Rattle.wait_queue.proofs.meeting.walk_entries.Given as goal

abbrev pub invariant-loop-met : goal.invariant-loop-met
invariant-loop-met g l = record {
  walk : IsUnderway l.wk.shape l.limit l.initial.entries l.entries l.initial.pass l.pass l.met l.tally.woken l.tally.exclusive;
  below : (n : ℕ) → l.limit ≡ Some n → l.tally.exclusive < n;
}
