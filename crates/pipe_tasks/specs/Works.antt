-- What works mean that are there for every caller.
use Rattle.std.specs.Prelude.{ℕ, ◌+◌, ◌-◌, List, [], ◌∷◌, map, if◌then◌else◌}
use Rattle.std.specs.Char.{is_ascii_lowercase, is_ascii_uppercase}
use Rattle.task_script.specs.Maps.{identity_map}
use Rattle.task_script.specs.declared.plan.Plan.{Plan}
use Rattle.task_script.specs.declared.plan.Plan.TheVariants.{Table}
use Rattle.pipe_tasks.specs.Words.{Line}

-- a letter in the other case, and every other byte itself
abbrev pub swapped_byte : ℕ → ℕ
swapped_byte byte =
    if is_ascii_lowercase byte then byte - 32
    else if is_ascii_uppercase byte then byte + 32
    else byte

unfoldable pub swap_map : List ℕ
swap_map = map swapped_byte identity_map

-- each line with its letters in the other case
abbrev pub swap_plan : Plan
swap_plan = Table swap_map []

-- each line, and this line at the end
abbrev pub closing_plan : Line → Plan
closing_plan line = Table identity_map (line ∷ [])
