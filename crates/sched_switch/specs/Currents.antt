-- The current task after a switch and after a sleep.
use Rattle.std.specs.Prelude.{ℕ, ◌<◌, Option, Some, None}
use Rattle.sched_switch.specs.declared.answer.Out.{Out}
use Rattle.sched_switch.specs.declared.answer.Out.TheVariants as out
use Rattle.sched_switch.specs.declared.answer.Slept.{Slept}
use Rattle.sched_switch.specs.declared.answer.Slept.TheVariants as slept
use Rattle.sched_switch.specs.declared.answer.Switch.{Switch}
use Rattle.sched_switch.specs.declared.answer.Switch.TheVariants as switch

abbrev pub current_after : Switch → Option ℕ
current_after (switch.Running t) = Some t
current_after switch.Idle = None
current_after switch.Nobody = None

abbrev pub current_left : ℕ → Out → Option ℕ
current_left t out.Stays = Some t
current_left t out.Back = None
current_left t (out.Gone m) = None

-- .. which was this one before the sleep
abbrev pub current_slept : Option ℕ → Slept → Option ℕ
current_slept before (slept.Slept m) = None
current_slept before slept.Woken = None
current_slept before (slept.Changed now) = before

-- the task that runs is one of so many
abbrev pub IsTaskOf : ℕ → Switch → Type 0
IsTaskOf tasks (switch.Running t) = t < tasks
IsTaskOf tasks answer = Unit {0}
