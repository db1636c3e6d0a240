-- Each kind of step whose effect hangs on a test, but for the loads of a task's words, keeps what a seat may rely on.
use Rattle.std.proofs.Common.{◌≡◌, ◌≢◌, ℕ, ◌⊎◌, inl, inr, List, Bool, true, false, Option, Some, None, refl, ◌∙◌, arith}
use Rattle.std.specs.Prelude.{if◌then◌else◌}
use Rattle.std.proofs.lemmas.Bool.{cases_eq}
use Rattle.std.proofs.lemmas.Bool.Decides.{nat_tests}
use Rattle.core_data.specs.Noted.{noted}
use Rattle.core_data.specs.Queue.{Queue, times_in}
use Rattle.core_data.specs.Columns.{Columns, put, put_at}
use Rattle.core_data.specs.declared.act.Act.TheVariants.{OwnStored}
use Rattle.core_data.specs.declared.values.WaitEntry.{WaitEntry}
use Rattle.core_gives.specs.Queues.{MayGiveQueue, give_queue, gives_up, give_up_if, times, is_at}
use Rattle.core_gives.specs.Waits.{MayGiveWait, give_wait, give_by, walked_if}
use Rattle.core_invariant.proofs.Puts.{put_there}
use Rattle.core_invariant.specs.Histories.{history}
use Rattle.core_invariant.specs.Invariant.{Holds}
use Rattle.core_invariant.specs.Positions.{PositionsHold}
use Rattle.core_kinds.specs.Locks.{unseen}
use Rattle.core_kinds.specs.Steps.{waking, dead, stored_word, kept_reads}
use Rattle.core_kinds.specs.Waking.{MaySetState, set_state, IsSettable, slept_if, ran_if, MayBump, load_cond, test_by, tested_if}
use Rattle.core_places.proofs.Claimed.{ClaimedTasks-state}
use Rattle.core_places.proofs.Facts.{one_seat}
use Rattle.core_places.proofs.Idle.{IdleTasks-give}
use Rattle.core_places.proofs.LastReads.{CpusRead-same, WakingStored-state, MovingStored-stored}
use Rattle.core_places.proofs.Matched.{MatchedTasks-state}
use Rattle.core_places.proofs.MadeRunnable.{MadeRunnable-given_up, MadeRunnable-state}
use Rattle.core_places.proofs.Resting.{RestingTasks-state}
use Rattle.core_places.proofs.Seen.{SeenStates-give, SeenStates-own}
use Rattle.core_places.proofs.Told.{ReadsTold-forget}
use Rattle.handoff_data.specs.declared.state.State.{State}

slept : (b : Bool) (core : Columns) (s t : ℕ) → PositionsHold core → PositionsHold (slept_if b core s t)
slept true core s t p = assumption p
slept false core s t p = p

ran : (b : Bool) (core : Columns) (s t : ℕ) → PositionsHold core → PositionsHold (ran_if b core s t)
ran true core s t p = assumption p
ran false core s t p = p

walked : (b : Bool) (core : Columns) (s k : ℕ) → PositionsHold core → PositionsHold (walked_if b core s k)
walked true core s k p = assumption p
walked false core s k p = p

tested : (b : Bool) (core : Columns) (s t k v : ℕ) → PositionsHold core → PositionsHold (tested_if b core s t k v)
tested true core s t k v p = assumption p
tested false core s t k v p = p

tested_by : (o : Option ℕ) (core : Columns) (s k : ℕ) → PositionsHold core → PositionsHold (test_by core s o k)
tested_by None core s k p = p
tested_by (Some t) core s k p = tested (core.has_slept s t) core s t k (core.cond k) p

pub PositionsHold-load_cond : (core : Columns) (s k : ℕ) → Holds core → MayBump core s k → PositionsHold (load_cond core s k)
PositionsHold-load_cond core s k holds may = tested_by (core.current_task s) core s k holds.positions

wait-put : (core : Columns) (s : ℕ) (lock : ℕ → Option ℕ) (wait : ℕ → Option (List WaitEntry)) (out : ℕ → ℕ → Option (List WaitEntry)) (asleep : ℕ → ℕ → Bool) → PositionsHold core
    → PositionsHold (record core { wait_lock = lock; wait = wait; wait_held = out; is_asleep = put core.is_asleep s asleep })
wait-put core s lock wait out asleep p = assumption p

given_by : (o : Option (List WaitEntry)) (core : Columns) (s k : ℕ) (given : List WaitEntry) → PositionsHold core → PositionsHold (give_by core s k given o)
given_by None core s k given p = p
given_by (Some taken) core s k given p = walked _ _ s k (wait-put core s (put core.wait_lock k None) (put core.wait k (Some given)) (put_at core.wait_held s k None) _ p)

pub PositionsHold-give_wait : (core : Columns) (s k : ℕ) (given : List WaitEntry) → Holds core → MayGiveWait core s k given → PositionsHold (give_wait core s k given)
PositionsHold-give_wait core s k given holds may = given_by (core.wait_held s k) core s k given holds.positions

own_awake : (core : Columns) (s t : ℕ) (state : State) → IsSettable core s t state → state ≢ waking
own_awake core s t state (inl a) h = grind (arith, a, h)
own_awake core s t state (inr (inl a)) h = grind (arith, nat_tests, a, h)
own_awake core s t state (inr (inr a)) h = grind (arith, a.0, h)

own_alive : (core : Columns) (s t : ℕ) (state : State) → core.on_rq t ≡ 1 → IsSettable core s t state → (core.lock t ≡ Some s) ⊎ ((core.on_rq t ≡ 1) × (state ≢ dead))
own_alive core s t state queued (inl a) = inr (queued, λ h. grind (arith, a, h))
own_alive core s t state queued (inr (inl a)) = inr (queued, λ h. grind (arith, nat_tests, a, h))
own_alive core s t state queued (inr (inr a)) = inl a.1

own_made_runnable : (core : Columns) (s t : ℕ) (state : State) → core.current_task s ≡ Some t → IsSettable core s t state → (state ≢ dead) ⊎ ((core.lock t ≡ Some s) × (core.current_task s ≡ Some t))
own_made_runnable core s t state current (inl a) = inl (λ h. grind (arith, a, h))
own_made_runnable core s t state current (inr (inl a)) = inl (λ h. grind (arith, nat_tests, a, h))
own_made_runnable core s t state current (inr (inr a)) = inr (a.1, current)

pub PositionsHold-set_state : (core : Columns) (s t : ℕ) (state : State) → Holds core → MaySetState core s t state → PositionsHold (set_state core s t state)
PositionsHold-set_state core s t state holds may =
    let p = holds.positions in
    let j = history core.cpus core.tasks core.seats core.journal in
    let r = kept_reads t (core.last_reads s t) in
    let awake = own_awake core s t state may.allowed in
    let q : PositionsHold (noted (stored_word (record core { state = put core.state t state; seen_state = put core.seen_state s None }) s t) s (OwnStored t)) = assumption (
      p,
      MatchedTasks-state core.state core.on_rq core.changes core.lock core.is_unstored core.saw_off s t state p.matched (own_alive core s t state may.queued may.allowed),
      ClaimedTasks-state core.state core.on_rq core.on_cpu core.lock core.is_claimed core.saw_clear t state p.claimed (inl (λ h. let z = may.queued in omega arith)),
      RestingTasks-state core.state core.on_rq core.on_cpu core.lock core.saw_rest core.saw_rest_off core.saw_rest_idle s t state p.resting (inr awake),
      SeenStates-own core.cpus core.state core.on_rq core.queue_lock core.current_task core.seen_state s t state p.seen (one_seat core s t holds may.current),
      CpusRead-same core.cpu core.lock core.last_reads s t r p.cpu refl,
      ReadsTold-forget j core.cpu core.on_rq core.changes core.lock core.last_reads s t r p.reads refl refl,
      MadeRunnable-state core.state core.on_rq core.lock core.current_task core.has_matched s t state p.made_runnable (own_made_runnable core s t state may.current may.allowed),
      WakingStored-state core.state core.on_rq core.lock core.has_stored s t state p.waking_stored (inr awake),
      MovingStored-stored core.on_rq core.lock core.has_stored s t p.moving_stored,
    ) in
    ran _ _ s t (slept _ _ s t q)

-- a task that its seat gives up while it is queued waits in that queue, so it may run
left_alive : (core : Columns) (s c : ℕ) (queue : Queue) → gives_up s c queue ≡ true → Holds core → MayGiveQueue core s c queue → (u : ℕ) → core.current_task s ≡ Some u → core.on_rq u ≡ 1
    → core.state u ≢ dead
left_alive core s c queue up holds may u current queued =
    by queue.cur refl
  where
    own : s ≡ c
    own = grind (arith, nat_tests, up)

    here : is_at core.on_rq core.cpu c u ≡ true
    here = let at = holds.busy.runner.current_here s u current in grind (arith, nat_tests, queued, at, own)

    once : (b : Bool) → b ≡ true → ◌≡◌ {A = ℕ} (if b then 1 else 0) 1
    once true h = refl
    once false h = absurd (grind (arith, h))

    by : (o : Option ℕ) → queue.cur ≡ o → core.state u ≢ dead
    by (Some x) q d = absurd (grind (arith, nat_tests, up, q))
    by None q d =
        let one : times queue u ≡ 1 = may.fits u ∙ once (is_at core.on_rq core.cpu c u) here in
        let waits : times_in queue.waiting u ≢ 0 = λ z. grind (arith, nat_tests, one, q, z) in
        elim (may.runnable.0 u waits) [ inl a ↦ grind (arith, nat_tests, a, d) | inr a ↦ grind (arith, nat_tests, a, d) ]

given_up : (core : Columns) (s c : ℕ) (queue : Queue) (b : Bool) → gives_up s c queue ≡ b → Holds core → MayGiveQueue core s c queue → PositionsHold (unseen (give_up_if b (record core {
  queue_lock = put core.queue_lock c None;
  queue = put core.queue c (Some queue);
  queue_held = put_at core.queue_held s c None;
}) s) s c)
given_up core s c queue false up holds may =
    let p = holds.positions in
    assumption (
      p,
      SeenStates-give core.cpus core.state core.on_rq core.queue_lock core.current_task core.current_task core.seen_state s c p.seen may.locked (λ k u h. h),
      IdleTasks-give core.on_rq core.cpu core.on_cpu core.queue_lock core.current_task core.current_task core.saw_idle core.has_added c p.idle (λ k u h. inl h),
    )
given_up core s c queue true up holds may =
    let p = holds.positions in
    let own : s ≡ c = grind (arith, nat_tests, up) in
    assumption (
      p,
      SeenStates-give core.cpus core.state core.on_rq core.queue_lock core.current_task (put core.current_task s None) core.seen_state s c p.seen may.locked (λ k u h. grind (arith, nat_tests, h)),
      IdleTasks-give core.on_rq core.cpu core.on_cpu core.queue_lock core.current_task (put core.current_task s None) core.saw_idle core.has_added c p.idle
          (λ k u h. elim (cases_eq k s) [ inl q ↦ inr (holds.busy.runner.current_here k u h ∙ (q ∙ own)) | inr q ↦ inl (put_there core.current_task s None k q ∙ h) ]),
      MadeRunnable-given_up core.state core.on_rq core.lock core.current_task core.has_matched s p.made_runnable (left_alive core s c queue up holds may),
    )

pub PositionsHold-give_queue : (core : Columns) (s c : ℕ) (queue : Queue) → Holds core → MayGiveQueue core s c queue → PositionsHold (give_queue core s c queue)
PositionsHold-give_queue core s c queue holds may = given_up core s c queue (gives_up s c queue) refl holds may
