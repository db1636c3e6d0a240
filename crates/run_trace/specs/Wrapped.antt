-- Gates that are put beside lists, one for each seat, and taken off again.
use Rattle.std.specs.Prelude.{ℕ, zero, suc, List, [], ◌∷◌, ◌++◌, Some, None, Vec}
use Rattle.std.specs.Global.{Global}
use Rattle.std.specs.Option.{option_to_list}
use Rattle.handoff_data.specs.declared.entry.Entry.{Entry}
use Rattle.run_trace.specs.Keeping.{Keeping, fresh}

abbrev pub items_of : Vec Entry Global → List Entry
items_of list = list.items

module _ {G : Type 0} where
  -- the next gate, as long as there is one, for each of so many seats
  abbrev pub firsts : ℕ → List G → List (Keeping G)
  firsts zero gates = []
  firsts (suc count) [] = fresh None ∷ firsts count []
  firsts (suc count) (gate ∷ gates) = fresh (Some gate) ∷ firsts count gates

  -- the gates that are left then
  abbrev pub gates_left : ℕ → List G → List G
  gates_left zero gates = gates
  gates_left (suc count) [] = []
  gates_left (suc count) (gate ∷ gates) = gates_left count gates

  -- the gates that stand there
  abbrev pub gates_in : List (Keeping G) → List G
  gates_in [] = []
  gates_in (kept ∷ others) = option_to_list kept.gate ++ gates_in others

  abbrev pub entries_of : Keeping G → List Entry
  entries_of kept = kept.entries
