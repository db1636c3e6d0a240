-- A machine can come to a core with a sleeper to wake: task 0 of the smallest machine sleeps at condition 0, and then the
-- condition is raised.
use Rattle.std.proofs.Common.{◌≡◌, ◌<◌, inl, inr, List, [], ◌∷◌, true, false, Some, None, refl, sym, subst, arith}
use Rattle.std.specs.Prelude.{◌^◌, replicate}
use Rattle.std.proofs.lemmas.Bool.Decides.{nat_tests}
use Rattle.core_data.specs.Entries.{has_entry}
use Rattle.core_data.specs.Opening.{IsStart, first_task, first_cpu, first_cond, first_seat}
use Rattle.core_data.specs.Queue.{Queue}
use Rattle.core_data.specs.Columns.{Columns, columns_of}
use Rattle.core_data.specs.declared.values.WaitEntry.{WaitEntry}
use Rattle.core_gives.specs.Waits.{MayGiveWait, IsPutIn, give_wait}
use Rattle.core_kinds.specs.Locks.{MayTakeTask, take_task, MayTakeQueue, take_queue, MayTakeWait, take_wait}
use Rattle.core_kinds.specs.Running.{MayQueue, queue_task, MayDequeue, dequeue_task, MaySetBusy, set_busy}
use Rattle.core_kinds.specs.Waking.{MaySetState, set_state, MayLoadState, load_state, MayBump, bump, load_cond}
use Rattle.core_law.specs.Laws.{HasSleeperToWake}
use Rattle.core_law.specs.Reached.{IsReached}
use Rattle.core_law.specs.declared.event.Event.{Event}
use Rattle.core_law.specs.declared.step.StepKind.TheVariants.{TakeTask, TakeQueue, QueueTask, SetBusy, TakeWait, SetState, GiveWait, LoadCond, LoadState, DequeueTask, Bump}
use Rattle.handoff_data.proofs.Bits.{bits_all}
use Rattle.handoff_data.specs.declared.mask.CpuMask.{CpuMask}
use Rattle.handoff_data.specs.declared.shape.Shape.{Shape}
use Rattle.handoff_data.specs.declared.state.State.{State}

abbrev shape : Shape
shape = record { cpus = 1; caches = 1; tasks = 1; conds = 1; agents = 0 }

abbrev mask : CpuMask
mask = record { bits = 1 }

abbrev start : Columns
start = columns_of shape (replicate 1 (first_task mask)) (replicate 1 first_cpu) (replicate 1 first_cond) (replicate 1 first_seat)

-- the task is picked with the queue that its seat has out, and sleeps in TASK_INTERRUPTIBLE
abbrev chosen : Queue
chosen = record { waiting = []; cur = Some 0; left = None }

abbrev asleep : State
asleep = record { 0 = 1 }

abbrev entry : WaitEntry
entry = record { t = 0; exclusive = false }

abbrev taken : Columns
taken = take_task start 0 0

abbrev locked : Columns
locked = take_queue taken 0 0

abbrev queued : Columns
queued = queue_task locked 0 0 0

abbrev picked : Columns
picked = set_busy queued 0 0 0

abbrev held : Columns
held = take_wait picked 0 0

abbrev stored : Columns
stored = set_state held 0 0 asleep

abbrev given : Columns
given = give_wait stored 0 0 (entry ∷ [])

abbrev tested : Columns
tested = load_cond given 0 0

abbrev seen : Columns
seen = load_state tested 0 0 None

abbrev left : Columns
left = dequeue_task seen 0 0 0

abbrev raised : Columns
raised = bump left 0 0

one : 0 < 1
one = omega arith

full : 0 < 2 ^ 60
full = omega arith

more : 1 < 2 ^ 60
more = omega arith

may_take : MayTakeTask start 0 0
may_take = record { seat = one; task = one; free = refl; home = refl }

may_lock : MayTakeQueue taken 0 0
may_lock = record { seat = one; processor = one; free = refl; home = refl }

may_queue : MayQueue locked 0 0 0
may_queue = record { seat = one; task = one; processor = one; locked = refl; task_locked = refl; here = refl; off = λ h. omega arith; ready = inl refl; room = full }

may_pick : MaySetBusy queued 0 0 0 chosen
may_pick =
    record {
      seat = one;
      task = one;
      own = refl;
      processor = one;
      locked = refl;
      chosen = refl;
      queued = refl;
      here = refl;
      runnable = inr refl;
      idle = refl;
      none = refl;
      clear = refl;
      room = full;
    }

may_hold : MayTakeWait picked 0 0
may_hold = record { seat = one; condition = one; free = refl; home = refl }

may_store : MaySetState held 0 0 asleep
may_store = record { seat = one; task = one; current = refl; queued = refl; allowed = inr (inl refl) }

only : (x : WaitEntry) → has_entry (entry ∷ []) x ≡ true → 0 ≡ x.t
only x h = grind (arith, nat_tests, h)

nobody : (taken : List WaitEntry) → ◌≡◌ {A = List WaitEntry} [] taken → (x : WaitEntry) → has_entry taken x ≡ true → ⊥
nobody taken q x h = let none : has_entry [] x ≡ true = subst (λ (l : List WaitEntry). has_entry l x ≡ true) (sym q) h in grind (arith, none)

may_give : MayGiveWait stored 0 0 (entry ∷ [])
may_give =
    record {
      seat = one;
      condition = one;
      locked = refl;
      out = refl;
      once = (refl, tt);
      put_in = λ taken x out has new. subst (λ z. IsPutIn stored 0 0 (record { t = z; exclusive = x.exclusive })) (only x has) (refl, refl);
      taken_out = λ taken x out has gone. absurd (nobody taken (grind (arith, out)) x has);
      tasks = λ x has. subst (λ z. z < 1) (only x has) one;
    }

may_raise : (core : Columns) → core.seats ≡ 1 → core.conds ≡ 1 → MayBump core 0 0
may_raise core seats conds = record { seat = omega (arith, seats); condition = omega (arith, conds) }

may_see : MayLoadState tested 0 0 None
may_see = record { seat = one; task = one; allowed = tt }

may_leave : MayDequeue seen 0 0 0
may_leave =
    record {
      seat = one;
      task = one;
      own = refl;
      processor = one;
      locked = refl;
      current = refl;
      queued = refl;
      here = refl;
      seen = inl refl;
      room = more;
    }

abbrev events : List Event
events =
    record { seat = 0; step = TakeTask 0 }
    ∷ record { seat = 0; step = TakeQueue 0 }
    ∷ record { seat = 0; step = QueueTask 0 0 }
    ∷ record { seat = 0; step = SetBusy 0 0 chosen }
    ∷ record { seat = 0; step = TakeWait 0 }
    ∷ record { seat = 0; step = SetState 0 asleep }
    ∷ record { seat = 0; step = GiveWait 0 (entry ∷ []) }
    ∷ record { seat = 0; step = LoadCond 0 }
    ∷ record { seat = 0; step = LoadState 0 None }
    ∷ record { seat = 0; step = DequeueTask 0 0 }
    ∷ record { seat = 0; step = Bump 0 }
    ∷ []

is_start : IsStart shape start
is_start = record { mask = mask; all = λ c. let b = bits_all 1 c (omega arith) in (λ h. b.0 h.bit, λ h. record { bit = b.1 h }); rows = refl }

reached : IsReached raised
reached =
    record {
      shape = shape;
      is_shape = record {
        some_cpu = omega arith;
        few_cpus = omega arith;
        some_cache = omega arith;
        few_caches = omega arith;
        few_tasks = omega arith;
        few_conds = omega arith;
        few_agents = omega arith;
      };
      opening = start;
      is_opening = record { start = start; is_start = is_start; ended = start.ended; alike = refl };
      events = events;
      ran = (may_take, (may_lock, (may_queue, (may_pick, (may_hold, (may_store, (may_give, (may_raise given refl refl, (may_see, (may_leave, (may_raise left refl refl, refl)))))))))));
    }

to_wake : HasSleeperToWake raised
to_wake =
    record {
      condition = 0;
      task = 0;
      tested = 0;
      waits = inl (entry ∷ [], refl, refl);
      off = refl;
      asleep = refl;
      test = refl;
      other = λ h. omega arith;
    }

pub has-sleeper_to_wake : (core : Columns) × IsReached core × HasSleeperToWake core
has-sleeper_to_wake = (raised, reached, to_wake)
