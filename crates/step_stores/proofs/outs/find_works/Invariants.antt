use Rattle.std.proofs.Common.{◌≡◌, ◌==◌, Some, None, take}
use Rattle.std.specs.Option.{option_copied}
use Rattle.core_data.specs.Found.{found}
use Rattle.core_data.specs.declared.held.HeldWorks.{HeldWorks}
use Rattle.step_stores.proofs.outs.find_works.Given as goal

abbrev pub invariant-loop-h : goal.invariant-loop-h
invariant-loop-h l = option_copied l.known ≡ found (λ (h : HeldWorks). l.c == h.c) (λ h. Some h.val) None (take l.h-index l.held)
