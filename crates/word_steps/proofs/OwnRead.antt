-- Whether a seat reads the state of its current task under its own queue's lock shows in its trace.
use Rattle.std.proofs.Common.{◌≡◌, ℕ, refl, ap, lt-ltb, ne_eqb, inl, inr, arith}
use Rattle.std.proofs.Math.Bool.{and-false}
use Rattle.std.proofs.lemmas.Bool.{cases_eq}
use Rattle.std.proofs.lemmas.Bool.Decides.{nat_tests}
use Rattle.std.specs.Prelude.{◌<◌, ◌&&◌, nat_lt, Bool, Option, Some, None, IsSome, is_some}
use Rattle.core_data.specs.Columns.{Columns}
use Rattle.core_invariant.specs.Invariant.{Holds}
use Rattle.core_kinds.specs.Waking.{is_own_read, is_some_of}

-- the word of a lock names the seat where its value is out with that seat
named : {A : Type 0} (lock : Option ℕ) (out : Option A) (s : ℕ) → (lock ≡ Some s → IsSome out) → (IsSome out → lock ≡ Some s) → is_some_of lock s ≡ is_some out
named None None s a b = refl
named None (Some v) s a b = absurd (grind (arith, b refl))
named (Some k) None s a b = elim (cases_eq k s) [ inl e ↦ absurd (grind (arith, a (ap Some e))) | inr ne ↦ ne_eqb k s ne ]
named (Some k) (Some v) s a b = grind (arith, nat_tests, b refl)

by_current : (current lock : Option ℕ) (out : Bool) (s t cpus : ℕ) → ((u : ℕ) → current ≡ Some u → s < cpus) → is_some_of lock s ≡ out
    → (nat_lt s cpus && (is_some_of current t && is_some_of lock s)) ≡ (is_some_of current t && out)
by_current None lock out s t cpus near same = and-false (nat_lt s cpus)
by_current (Some u) lock out s t cpus near same = rw (lt-ltb s cpus (near u refl), same)

pub own_read : (core : Columns) (s t : ℕ) → Holds core → is_own_read core s t ≡ (is_some_of (core.current_task s) t && is_some (core.queue_held s s))
own_read core s t holds =
    by_current (core.current_task s) (core.queue_lock s) (is_some (core.queue_held s s)) s t core.cpus (holds.shapes.current_seat s)
    (named (core.queue_lock s) (core.queue_held s s) s (holds.locks.queues.held_out s s) (holds.locks.queues.out_held s s))
