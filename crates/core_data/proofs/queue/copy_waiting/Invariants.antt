use Rattle.std.proofs.Common.{◌≡◌, ◌≤◌, take, deque_capacity}
use Rattle.core_data.proofs.queue.copy_waiting.Given as goal

abbrev pub invariant-loop-i : goal.invariant-loop-i
invariant-loop-i l = record { tasks : l.copy.items ≡ take l.i l.waiting.items; room : 200 ≤ deque_capacity l.copy }
