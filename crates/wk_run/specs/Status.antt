-- The exit status of an answer.
use Rattle.std.specs.Prelude.{ℕ, ⊤}
use Rattle.wk_run.specs.declared.status.Status.{Status}
use Rattle.wk_run.specs.declared.status.Status.TheVariants.{Ok, BadScript, Usage, ReadFault, WriteFault, NoMemory}
use Rattle.wk_run.specs.declared.status.Status.TheVariants.{Illegal}

abbrev pub code_of : Status → ℕ
code_of Ok = 0
code_of (BadScript line code) = 1
code_of Usage = 2
code_of ReadFault = 3
code_of WriteFault = 4
code_of NoMemory = 5
code_of (Illegal fault) = 6

-- no script was read, for one of the three reasons that there may be
abbrev pub TellsNoScript : Status → Type 0
TellsNoScript (BadScript line code) = ⊤
TellsNoScript ReadFault = ⊤
TellsNoScript NoMemory = ⊤
TellsNoScript _ = ⊥
