-- For how many more entries the turn of a pass must have room before a call.
use Rattle.std.specs.Prelude.{ℕ, ◌+◌, ◌*◌}

-- before a single step, a call that takes locks and gives them back, and a wake-up or a move
abbrev pub need_step : ℕ
need_step = 4

abbrev pub need_call : ℕ
need_call = 8

abbrev pub need_wake : ℕ
need_wake = 12

-- before a walk of a wait queue, on which each task may be woken
abbrev pub need_walk : ℕ → ℕ
need_walk tasks = 4 * tasks + 16
