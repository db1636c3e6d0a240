-- The conditions of a task's turn, by what its body did: 2t counts the items that t put out, 2t + 1 those taken from
-- it.
use Rattle.std.specs.Prelude.{ℕ, zero, suc, ◌+◌, ◌*◌, ◌∷◌, true, false, Bool, List, Option, Some, None}
use Rattle.pipe_bodies.specs.declared.verdict.Then.{Then}
use Rattle.pipe_bodies.specs.declared.verdict.Then.TheVariants as verdict
use Rattle.run_cells.specs.NetMaps.{side_of}
use Rattle.run_cells.specs.declared.net_map.Inputs.{Inputs}
use Rattle.run_turns.specs.declared.loads.Values.{Values}
use Rattle.word_steps.specs.Records.{Rec, LoadedCond}

abbrev pub taken_from : Option ℕ → Option ℕ
taken_from None = None
taken_from (Some x) = Some (2 * x + 1)

abbrev pub put_out : Option ℕ → Option ℕ
put_out None = None
put_out (Some x) = Some (2 * x)

-- an item was taken from a side: the condition of its task is raised
abbrev pub read_cond : Inputs → Option ℕ → Option ℕ
read_cond inputs None = None
read_cond inputs (Some side) = taken_from (side_of inputs side)

-- one was put out
abbrev pub wrote_cond : ℕ → Bool → Option ℕ
wrote_cond t false = None
wrote_cond t true = Some (2 * t)

-- where the task waits
abbrev pub wait_cond : Inputs → ℕ → Then → Option ℕ
wait_cond inputs t verdict.More = None
wait_cond inputs t (verdict.WaitIn side) = put_out (side_of inputs side)
wait_cond inputs t verdict.WaitOut = Some (2 * t + 1)
wait_cond inputs t verdict.Exit = None

-- .. and the value that was loaded of it
abbrev pub value_of_side : Values → ℕ → ℕ
value_of_side values zero = values.left
value_of_side values (suc n) = values.right

abbrev pub wait_value : Values → Then → ℕ
wait_value values verdict.More = 0
wait_value values (verdict.WaitIn side) = value_of_side values side
wait_value values verdict.WaitOut = values.out
wait_value values verdict.Exit = 0

-- the condition that a cell keeps, if it keeps one with its value
abbrev pub cond_kept : Option (ℕ × ℕ) → Option ℕ
cond_kept None = None
cond_kept (Some kept) = Some kept.0

-- a side's condition was loaded, if there is such a side
abbrev pub load_of : Option ℕ → ℕ → List Rec → List Rec
load_of None v trace = trace
load_of (Some x) v trace = LoadedCond (2 * x) v ∷ trace

-- the conditions of a task were loaded
abbrev pub loads_of : ℕ → Inputs → Values → List Rec → List Rec
loads_of t inputs values trace =
    LoadedCond (2 * t + 1) values.out ∷ load_of inputs.right values.right (load_of inputs.left values.left trace)
