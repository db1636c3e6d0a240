-- Plans of text tasks.
use Rattle.std.specs.Prelude.{ℕ, Bool, true, false}
use Rattle.task_script.specs.declared.plan.Plan.{Plan}
use Rattle.task_script.specs.declared.plan.Plan.TheVariants.{Lines, Count, Upper, Number, Keep, Drop, Tally, Cat, Weave}
use Rattle.task_script.specs.declared.plan.Plan.TheVariants.{Pin, Table}

-- how many tasks a plan reads
abbrev pub sides : Plan → ℕ
sides (Lines left) = 0
sides (Count next last) = 0
sides Upper = 1
sides (Number next) = 1
sides (Keep prefix) = 1
sides (Drop prefix) = 1
sides (Tally n) = 1
sides (Cat side) = 2
sides (Weave side ended) = 2
sides (Pin left on) = 1
sides (Table map last) = 1

abbrev pub is_table : Plan → Bool
is_table (Lines left) = false
is_table (Count next last) = false
is_table Upper = false
is_table (Number next) = false
is_table (Keep prefix) = false
is_table (Drop prefix) = false
is_table (Tally n) = false
is_table (Cat side) = false
is_table (Weave side ended) = false
is_table (Pin left on) = false
is_table (Table map last) = true
