-- Each kind of step whose effect hangs on a test keeps what the places of tasks say.
use Rattle.std.proofs.Common.{◌≡◌, ℕ, ◌⊎◌, inl, inr, List, Bool, true, false, Option, Some, None, refl, ap, ◌∙◌, arith}
use Rattle.std.specs.Prelude.{◌==◌, is_none, not}
use Rattle.std.proofs.lemmas.Bool.{cases_eq}
use Rattle.std.proofs.lemmas.Bool.Decides.{nat_tests}
use Rattle.core_data.specs.Noted.{noted}
use Rattle.core_data.specs.Queue.{Queue}
use Rattle.core_data.specs.Columns.{Columns, put, put_at}
use Rattle.core_data.specs.declared.act.Act.TheVariants.{Passed, OwnStored, Matched, SawOff, SawClear, SawRest, SawRestOff, SawRestIdle}
use Rattle.core_data.specs.declared.pos.TaskReads.{TaskReads}
use Rattle.core_data.specs.declared.values.WaitEntry.{WaitEntry}
use Rattle.core_gives.specs.Queues.{MayGiveQueue, give_queue, gives_up, give_up_if}
use Rattle.core_gives.specs.Waits.{MayGiveWait, give_wait, give_by, walked_if}
use Rattle.core_invariant.proofs.Puts.{put_there}
use Rattle.core_invariant.specs.Invariant.{Holds}
use Rattle.core_invariant.specs.Places.{PlacesHold}
use Rattle.core_kinds.specs.Locks.{unseen}
use Rattle.core_kinds.specs.Steps.{dead, normal, is_match, is_sleep, IsRunnable, stored_word}
use Rattle.core_kinds.specs.Waking.{MaySetState, set_state, IsSettable, slept_if, ran_if, MayLoadState, load_state, is_own_read, is_matched, is_refused, state_read, rq_read, busy_read, logged_if}
use Rattle.core_kinds.specs.Waking.{noted_if, seen_if, MayLoad}
use Rattle.core_kinds.specs.Waking.{load_rq, load_busy, MayBump, load_cond, test_by, tested_if}
use Rattle.core_places.proofs.Facts.{queued_started}
use Rattle.core_places.proofs.NewTasks.{NewStates-state}
use Rattle.core_places.proofs.OffTasks.{OffTasks-state}
use Rattle.core_places.proofs.Running.{CurrentTasks-state, CurrentTasks-less, WaitingTasks-state, WaitingTasks-give, MovingTasks-state}
use Rattle.handoff_data.specs.declared.entry.Entry.{Entry}
use Rattle.handoff_data.specs.declared.entry.Entry.TheVariants.{Refused}
use Rattle.handoff_data.specs.declared.state.State.{State}

passed : (b : Bool) (core : Columns) (s t : ℕ) → PlacesHold core → PlacesHold (noted_if b core s (Passed t))
passed true core s t p = assumption p
passed false core s t p = p

matched : (b : Bool) (core : Columns) (s t : ℕ) → PlacesHold core → PlacesHold (noted_if b core s (Matched t))
matched true core s t p = assumption p
matched false core s t p = p

rested : (b : Bool) (core : Columns) (s t : ℕ) → PlacesHold core → PlacesHold (noted_if b core s (SawRest t))
rested true core s t p = assumption p
rested false core s t p = p

saw_off : (b : Bool) (core : Columns) (s t : ℕ) → PlacesHold core → PlacesHold (noted_if b core s (SawOff t))
saw_off true core s t p = assumption p
saw_off false core s t p = p

rested_off : (b : Bool) (core : Columns) (s t : ℕ) → PlacesHold core → PlacesHold (noted_if b core s (SawRestOff t))
rested_off true core s t p = assumption p
rested_off false core s t p = p

saw_clear : (b : Bool) (core : Columns) (s t : ℕ) → PlacesHold core → PlacesHold (noted_if b core s (SawClear t))
saw_clear true core s t p = assumption p
saw_clear false core s t p = p

rested_idle : (b : Bool) (core : Columns) (s t : ℕ) → PlacesHold core → PlacesHold (noted_if b core s (SawRestIdle t))
rested_idle true core s t p = assumption p
rested_idle false core s t p = p

seen : (b : Bool) (core : Columns) (s : ℕ) (x : State) → PlacesHold core → PlacesHold (seen_if b core s x)
seen true core s x p = assumption p
seen false core s x p = p

logged : (b : Bool) (core : Columns) (s : ℕ) (e : Entry) → PlacesHold core → PlacesHold (logged_if b core s e)
logged true core s e p = assumption p
logged false core s e p = p

slept : (b : Bool) (core : Columns) (s t : ℕ) → PlacesHold core → PlacesHold (slept_if b core s t)
slept true core s t p = assumption p
slept false core s t p = p

ran : (b : Bool) (core : Columns) (s t : ℕ) → PlacesHold core → PlacesHold (ran_if b core s t)
ran true core s t p = assumption p
ran false core s t p = p

walked : (b : Bool) (core : Columns) (s k : ℕ) → PlacesHold core → PlacesHold (walked_if b core s k)
walked true core s k p = assumption p
walked false core s k p = p

reads-put : (core : Columns) (s : ℕ) (new : ℕ → TaskReads) → PlacesHold core → PlacesHold (record core { last_reads = put core.last_reads s new })
reads-put core s new p = assumption p

load_of : (b c d e f : Bool) (core : Columns) (s t : ℕ) (x : State) (entry : Entry) → PlacesHold core
    → PlacesHold (logged_if b (noted_if c (noted_if d (noted_if e (seen_if f core s x) s (Matched t)) s (SawRest t)) s (Passed t)) s entry)
load_of b c d e f core s t x entry p = logged b _ s entry (passed c _ s t (rested d _ s t (matched e _ s t (seen f core s x p))))

pub PlacesHold-load_state : (core : Columns) (s t : ℕ) (mask : Option State) → Holds core → MayLoadState core s t mask → PlacesHold (load_state core s t mask)
PlacesHold-load_state core s t mask holds may =
    let x = core.state t in
    let r = state_read t x (core.last_reads s t) in
    load_of (is_refused x mask) (not (is_match x normal)) (not (x.0 == 0x200)) (is_matched x mask) (is_own_read core s t)
    (record core { last_reads = put_at core.last_reads s t r }) s t x (Refused t x) (reads-put core s (put (core.last_reads s) t r) holds.places)

pub PlacesHold-load_rq : (core : Columns) (s t : ℕ) → Holds core → MayLoad core s t → PlacesHold (load_rq core s t)
PlacesHold-load_rq core s t holds may =
    rested_off _ _ s t (saw_off _ _ s t (reads-put core s (put (core.last_reads s) t (rq_read t (core.on_rq t) (core.changes t) (core.last_reads s t))) holds.places))

pub PlacesHold-load_busy : (core : Columns) (s t : ℕ) → Holds core → MayLoad core s t → PlacesHold (load_busy core s t)
PlacesHold-load_busy core s t holds may =
    rested_idle _ _ s t (saw_clear _ _ s t (reads-put core s (put (core.last_reads s) t (busy_read t (core.on_cpu t) (core.last_reads s t))) holds.places))

tested : (b : Bool) (core : Columns) (s t k v : ℕ) → PlacesHold core → PlacesHold (tested_if b core s t k v)
tested true core s t k v p = assumption p
tested false core s t k v p = p

tested_by : (o : Option ℕ) (core : Columns) (s k : ℕ) → PlacesHold core → PlacesHold (test_by core s o k)
tested_by None core s k p = p
tested_by (Some t) core s k p = tested (core.has_slept s t) core s t k (core.cond k) p

pub PlacesHold-load_cond : (core : Columns) (s k : ℕ) → Holds core → MayBump core s k → PlacesHold (load_cond core s k)
PlacesHold-load_cond core s k holds may = tested_by (core.current_task s) core s k holds.places

wait-put : (core : Columns) (s : ℕ) (lock : ℕ → Option ℕ) (wait : ℕ → Option (List WaitEntry)) (out : ℕ → ℕ → Option (List WaitEntry)) (asleep : ℕ → ℕ → Bool) → PlacesHold core
    → PlacesHold (record core { wait_lock = lock; wait = wait; wait_held = out; is_asleep = put core.is_asleep s asleep })
wait-put core s lock wait out asleep p = assumption p

given_by : (o : Option (List WaitEntry)) (core : Columns) (s k : ℕ) (given : List WaitEntry) → PlacesHold core → PlacesHold (give_by core s k given o)
given_by None core s k given p = p
given_by (Some taken) core s k given p = walked _ _ s k (wait-put core s (put core.wait_lock k None) (put core.wait k (Some given)) (put_at core.wait_held s k None) _ p)

pub PlacesHold-give_wait : (core : Columns) (s k : ℕ) (given : List WaitEntry) → Holds core → MayGiveWait core s k given → PlacesHold (give_wait core s k given)
PlacesHold-give_wait core s k given holds may = given_by (core.wait_held s k) core s k given holds.places

is_own : (core : Columns) (s t : ℕ) (state : State) → IsSettable core s t state → IsRunnable state ⊎ ((is_sleep state ≡ true) ⊎ (state ≡ dead))
is_own core s t state (inl a) = inl (inl (ap (λ (x : State). x.0) a))
is_own core s t state (inr (inl a)) = inr (inl a)
is_own core s t state (inr (inr a)) = inr (inr a.0)

pub PlacesHold-set_state : (core : Columns) (s t : ℕ) (state : State) → Holds core → MaySetState core s t state → PlacesHold (set_state core s t state)
PlacesHold-set_state core s t state holds may =
    let p = holds.places in
    let q : PlacesHold (noted (stored_word (record core { state = put core.state t state; seen_state = put core.seen_state s None }) s t) s (OwnStored t)) = assumption (
      p,
      NewStates-state core.tasks core.state core.changes core.lock core.has_stored s t state p.new_states (inl (queued_started core t holds (λ h. let q = may.queued in omega arith))),
      OffTasks-state core.state core.on_rq core.changes core.lock core.is_claimed t state p.off (inr (λ h. let q = may.queued in omega arith)),
      CurrentTasks-state core.state core.on_rq core.current_task t state p.current (inr (is_own core s t state may.allowed)),
      WaitingTasks-state core.state core.on_rq core.cpu core.current_task core.queue_lock core.has_added t state p.waiting (inl (s, may.current)),
      MovingTasks-state core.state core.on_rq core.on_cpu core.lock t state p.moving (inl (λ h. let q = may.queued in omega arith)),
    ) in
    ran _ _ s t (slept _ _ s t q)

given_up : (core : Columns) (s c : ℕ) (queue : Queue) (b : Bool) → gives_up s c queue ≡ b → Holds core → MayGiveQueue core s c queue → PlacesHold (unseen (give_up_if b (record core {
  queue_lock = put core.queue_lock c None;
  queue = put core.queue c (Some queue);
  queue_held = put_at core.queue_held s c None;
}) s) s c)
given_up core s c queue false up holds may =
    let p = holds.places in
    assumption (
      p,
      WaitingTasks-give core.state core.on_rq core.cpu core.current_task core.current_task core.queue_lock core.has_added c queue p.waiting may.fits may.runnable.0 may.runnable.1 (λ k u h. inl h),
    )
given_up core s c queue true up holds may =
    let p = holds.places in
    let own : s ≡ c = grind (arith, nat_tests, up) in
    let none : queue.cur ≡ None = no_cur queue.cur (grind (arith, nat_tests, up)) in
    assumption (
      p,
      CurrentTasks-less core.state core.on_rq core.current_task (put core.current_task s None) p.current (λ k u h. grind (arith, nat_tests, h)),
      WaitingTasks-give core.state core.on_rq core.cpu core.current_task (put core.current_task s None) core.queue_lock core.has_added c queue p.waiting may.fits may.runnable.0
          (λ u h. absurd (grind (arith, none, h)))
          (λ k u h. elim (cases_eq k s) [ inl q ↦ inr (holds.busy.runner.current_here k u h ∙ (q ∙ own)) | inr q ↦ inl (put_there core.current_task s None k q ∙ h) ]),
    )
  where
    no_cur : (o : Option ℕ) → is_none o ≡ true → o ≡ None
    no_cur None h = refl
    no_cur (Some j) h = absurd (grind (arith, h))

pub PlacesHold-give_queue : (core : Columns) (s c : ℕ) (queue : Queue) → Holds core → MayGiveQueue core s c queue → PlacesHold (give_queue core s c queue)
PlacesHold-give_queue core s c queue holds may = given_up core s c queue (gives_up s c queue) refl holds may
