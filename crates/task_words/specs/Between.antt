-- What holds of the running table between any two steps.
use Rattle.std.specs.Prelude.{ℕ, List, Bool}
use Rattle.atomic_table.specs.Table.{State}
use Rattle.core_data.specs.Columns.{Columns}
use Rattle.core_law.specs.Laws.{OneRunAtATime, StandsOnce, WakesQueueAtMostOnce, NoLostWake, SleepersWait}
use Rattle.core_law.specs.Laws.{SleepsOnItsProcessor, journals_of}
use Rattle.core_law.specs.Reached.{IsReached}
use Rattle.word_steps.specs.Decode.{core_of}
use Rattle.word_steps.specs.Words.{words_of}
use Rattle.word_table.specs.Ruled.{Ruled, homes_of}
use Rattle.word_table.specs.declared.slot.Key.{Key}
use Rattle.word_table.specs.declared.slot.Slot.{Slot}
use Rattle.word_table.specs.declared.view.View.{View}

-- the core that a table shows: by its words, the values in its slots, and what its seats did
abbrev pub core_shown :
    {B : Type 0} (lasting : B → List ℕ) (ended : B → Bool) (key : Key B) (state : State (Slot B) View)
    → Ruled lasting ended key state → Columns
core_shown lasting ended key state ruled =
    core_of key.shape (words_of state.words) (homes_of state.homes ruled.ended) ruled.trace

-- The laws of the core. The first is why the others hold: the core is one that events lead to, each of them possible
-- where it comes. So what is shown of all such cores holds of it.
pub record LawsHold (core : Columns) : Type 0 where
  pub reached : IsReached core
  pub no_lost_wake : NoLostWake core
  pub sleepers_wait : SleepersWait core
  pub sleeps_on_its_processor : SleepsOnItsProcessor core
  pub one_run_at_a_time : OneRunAtATime core
  pub stands_once : StandsOnce core
  pub wakes_queue_at_most_once : WakesQueueAtMostOnce (journals_of core)
