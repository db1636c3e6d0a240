-- Each kind of step keeps what a seat may rely on.
use Rattle.std.proofs.Common.{◌≡◌, ◌≢◌, ℕ, ◌+◌, ◌<◌, ◌⊎◌, inl, inr, ◌++◌, ◌∷◌, [], List, Bool, Some, None, refl, ap, ◌∙◌, arith}
use Rattle.core_data.specs.Queue.{Queue}
use Rattle.core_data.specs.Found.{no_reads}
use Rattle.core_data.specs.Columns.{Columns, put, put_at}
use Rattle.core_data.specs.declared.pos.TaskReads.{TaskReads}
use Rattle.core_data.specs.declared.values.TaskVal.{TaskVal}
use Rattle.core_data.specs.declared.values.WorkItem.{WorkItem}
use Rattle.core_invariant.proofs.Logs.{logged, somewhere-old}
use Rattle.core_invariant.specs.Histories.{history}
use Rattle.core_invariant.specs.Invariant.{Holds}
use Rattle.core_invariant.specs.Positions.{PositionsHold, ReadsTold}
use Rattle.core_kinds.specs.Locks.{MayTakeTask, take_task, MayGiveTask, give_task, MayTakeQueue, take_queue, MayTakeWait, take_wait, MayTakeWorks, take_works, MayGiveWorks, give_works}
use Rattle.core_kinds.specs.Running.{MayQueue, queue_task, queue_entry, MayDequeue, dequeue_task, dequeue_entry, MayMove, move_task, MaySetBusy, set_busy, MayClearBusy, clear_busy, MayBodyOut}
use Rattle.core_kinds.specs.Running.{body_out, MayBodyHome, body_home}
use Rattle.core_kinds.specs.Steps.{waking, running, dead, kept_reads, numbered_reads}
use Rattle.core_kinds.specs.Waking.{MayClaim, claim, IsReadyToRun, MayMakeRunnable, make_runnable, MayLoad, load_cpu, cpu_read, load_count, MayStoreCpu, store_cpu, MayBump, bump}
use Rattle.core_places.proofs.Claimed.{ClaimedTasks-take, ClaimedTasks-give, ClaimedTasks-queue, ClaimedTasks-off, ClaimedTasks-busy, ClaimedTasks-clear, ClaimedTasks-state, ClaimedTasks-claim}
use Rattle.core_places.proofs.Facts.{idle_apart, ready_idle, ready_alive, leaves, claim_off, free_rests, free_settled, new_rests, leaves_rests, placeable_off}
use Rattle.core_places.proofs.Idle.{IdleTasks-take, IdleTasks-queue, IdleTasks-off, IdleTasks-pick, IdleTasks-clear, IdleTasks-cpu}
use Rattle.core_places.proofs.LastReads.{reads_here, reads_there, CpusRead-take, CpusRead-give, CpusRead-same, CpusRead-load, CpusRead-store}
use Rattle.core_places.proofs.LastReads.{WakingStored-take, WakingStored-give, WakingStored-stored, WakingStored-change, WakingStored-state, MovingStored-take, MovingStored-give, MovingStored-stored}
use Rattle.core_places.proofs.LastReads.{MovingStored-change}
use Rattle.core_places.proofs.Matched.{MatchedTasks-take, MatchedTasks-give, MatchedTasks-stored, MatchedTasks-change, MatchedTasks-state}
use Rattle.core_places.proofs.MadeRunnable.{MadeRunnable-take, MadeRunnable-give, MadeRunnable-change, MadeRunnable-pick, MadeRunnable-state}
use Rattle.core_places.proofs.Resting.{RestingTasks-take, RestingTasks-give, RestingTasks-stored, RestingTasks-change, RestingTasks-busy, RestingTasks-clear, RestingTasks-state}
use Rattle.core_places.proofs.Seen.{SeenStates-take, SeenStates-queue, SeenStates-off, SeenStates-pick, SeenStates-state}
use Rattle.core_places.proofs.Told.{ReadsTold-take, ReadsTold-give, ReadsTold-forget, ReadsTold-same, ReadsTold-change, ReadsTold-store_cpu, ReadsTold-log}
use Rattle.handoff_data.specs.declared.entry.Entry.{Entry}
use Rattle.handoff_data.specs.declared.entry.Entry.TheVariants.{Wake, Out, Pick, Finish}

pub PositionsHold-take_task : (core : Columns) (s t : ℕ) → Holds core → MayTakeTask core s t → PositionsHold (take_task core s t)
PositionsHold-take_task core s t holds may =
    let p = holds.positions in
    let j = history core.cpus core.tasks core.seats core.journal in
    assumption (
      MatchedTasks-take core.state core.on_rq core.changes core.lock core.is_unstored core.saw_off s t p.matched,
      ClaimedTasks-take core.state core.on_rq core.on_cpu core.lock core.is_claimed core.saw_clear s t p.claimed may.free,
      RestingTasks-take core.state core.on_rq core.on_cpu core.lock core.saw_rest core.saw_rest_off core.saw_rest_idle s t p.resting,
      CpusRead-take core.cpu core.lock core.last_reads s t (no_reads t) p.cpu refl,
      ReadsTold-take j core.cpu core.on_rq core.changes core.lock core.last_reads s t (no_reads t) p.reads refl refl,
      MadeRunnable-take core.state core.on_rq core.lock core.current_task core.has_matched s t p.made_runnable,
      WakingStored-take core.state core.on_rq core.lock core.has_stored s t p.waking_stored (free_rests core t holds may.free),
      MovingStored-take core.on_rq core.lock core.has_stored s t p.moving_stored (free_settled core t holds may.free),
    )

pub PositionsHold-give_task : (core : Columns) (s t : ℕ) (val : TaskVal) (stood done : Bool) → Holds core → MayGiveTask core s t val stood done → PositionsHold (give_task core s t val)
PositionsHold-give_task core s t val stood done holds may =
    let p = holds.positions in
    let j = history core.cpus core.tasks core.seats core.journal in
    assumption (
      MatchedTasks-give core.state core.on_rq core.changes core.lock core.is_unstored core.saw_off t p.matched,
      ClaimedTasks-give core.state core.on_rq core.on_cpu core.lock core.is_claimed core.saw_clear t p.claimed may.settled.1,
      RestingTasks-give core.state core.on_rq core.on_cpu core.lock core.saw_rest core.saw_rest_off core.saw_rest_idle t p.resting,
      CpusRead-give core.cpu core.lock core.last_reads t p.cpu,
      ReadsTold-give j core.cpu core.on_rq core.changes core.lock core.last_reads t p.reads,
      MadeRunnable-give core.state core.on_rq core.lock core.current_task core.has_matched t p.made_runnable,
      WakingStored-give core.state core.on_rq core.lock core.has_stored t p.waking_stored,
      MovingStored-give core.on_rq core.lock core.has_stored t p.moving_stored,
    )

pub PositionsHold-take_queue : (core : Columns) (s c : ℕ) → Holds core → MayTakeQueue core s c → PositionsHold (take_queue core s c)
PositionsHold-take_queue core s c holds may =
    let p = holds.positions in
    assumption (
      SeenStates-take core.cpus core.state core.on_rq core.queue_lock core.current_task core.seen_state s c p.seen may.free,
      IdleTasks-take core.on_rq core.cpu core.on_cpu core.queue_lock core.current_task core.saw_idle core.has_added s c p.idle,
    )

pub PositionsHold-take_wait : (core : Columns) (s k : ℕ) → Holds core → MayTakeWait core s k → PositionsHold (take_wait core s k)
PositionsHold-take_wait core s k holds may = let p = holds.positions in assumption p

pub PositionsHold-take_works : (core : Columns) (s c : ℕ) → Holds core → MayTakeWorks core s c → PositionsHold (take_works core s c)
PositionsHold-take_works core s c holds may = let p = holds.positions in assumption p

pub PositionsHold-give_works : (core : Columns) (s c : ℕ) (val : List WorkItem) → Holds core → MayGiveWorks core s c val → PositionsHold (give_works core s c val)
PositionsHold-give_works core s c val holds may = let p = holds.positions in assumption p

pub PositionsHold-body_out : (core : Columns) (s t : ℕ) → Holds core → MayBodyOut core s t → PositionsHold (body_out core s t)
PositionsHold-body_out core s t holds may = let p = holds.positions in assumption p

pub PositionsHold-body_home : (core : Columns) (s t : ℕ) (ended : Bool) → Holds core → MayBodyHome core s t ended → PositionsHold (body_home core s t ended)
PositionsHold-body_home core s t ended holds may = let p = holds.positions in assumption p

-- the reads of a seat, as its journal has one entry more and it forgets what it read of a task
told-logged : (core : Columns) (s t : ℕ) (e : Entry) (r : TaskReads) → Holds core → s < core.seats → r.rq ≡ None → r.number ≡ (core.last_reads s t).number
    → ReadsTold (history core.cpus core.tasks core.seats (put core.journal s (core.journal s ++ e ∷ []))) core.cpu core.on_rq core.changes core.lock (put_at core.last_reads s t r)
told-logged core s t e r holds seat none same =
    let j = history core.cpus core.tasks core.seats core.journal in
    let k = history core.cpus core.tasks core.seats (put core.journal s (core.journal s ++ e ∷ [])) in
    ReadsTold-forget k core.cpu core.on_rq core.changes core.lock core.last_reads s t r
    (ReadsTold-log j k core.cpu core.on_rq core.changes core.lock core.last_reads (somewhere-old (logged core.cpus core.tasks core.seats core.journal s e seat)) holds.positions.reads) none same

-- .. and stores its queue word, with its number
told-changed : (core : Columns) (s t v : ℕ) (e : Entry) → Holds core → s < core.seats → (core.lock t ≡ Some s) ⊎ (core.on_rq t ≡ 1)
    → ReadsTold (history core.cpus core.tasks core.seats (put core.journal s (core.journal s ++ e ∷ []))) core.cpu (put core.on_rq t v) (put core.changes t (core.changes t + 1)) core.lock
    (put_at core.last_reads s t (numbered_reads t (core.changes t + 1) (core.last_reads s t)))
told-changed core s t v e holds seat by =
    let j = history core.cpus core.tasks core.seats core.journal in
    let k = history core.cpus core.tasks core.seats (put core.journal s (core.journal s ++ e ∷ [])) in
    ReadsTold-change j k core.cpu core.on_rq core.changes core.lock core.last_reads s t v (numbered_reads t (core.changes t + 1) (core.last_reads s t)) holds.positions.reads
    (somewhere-old (logged core.cpus core.tasks core.seats core.journal s e seat)) by refl refl

pub PositionsHold-queue_task : (core : Columns) (s c t : ℕ) → Holds core → MayQueue core s c t → PositionsHold (queue_task core s c t)
PositionsHold-queue_task core s c t holds may =
    let p = holds.positions in
    let e = queue_entry (core.changes t) (core.on_rq t) t c in
    let r = numbered_reads t (core.changes t + 1) (core.last_reads s t) in
    let idle = ready_idle core s t holds may.task_locked may.ready in
    assumption (
      MatchedTasks-change core.state core.on_rq core.changes core.lock core.is_unstored core.saw_off s t 1 p.matched (inl may.task_locked),
      ClaimedTasks-queue core.state core.on_rq core.on_cpu core.lock core.is_claimed core.saw_clear s t p.claimed may.task_locked,
      RestingTasks-change core.state core.on_rq core.on_cpu core.lock core.saw_rest core.saw_rest_off core.saw_rest_idle s t 1 p.resting (inl may.task_locked),
      SeenStates-queue core.cpus core.state core.on_rq core.queue_lock core.current_task core.seen_state t p.seen (idle_apart core t holds idle),
      IdleTasks-queue core.on_rq core.cpu core.on_cpu core.queue_lock core.current_task core.saw_idle core.has_added s t p.idle idle,
      CpusRead-same core.cpu core.lock core.last_reads s t r p.cpu refl,
      told-changed core s t 1 e holds may.seat (inl may.task_locked),
      MadeRunnable-change core.state core.on_rq core.lock core.current_task core.has_matched t 1 p.made_runnable (inr (ready_alive core s t holds may.ready)),
      WakingStored-change core.state core.on_rq core.lock core.has_stored s t 1 p.waking_stored (inl (λ h. omega arith)),
      MovingStored-change core.on_rq core.lock core.has_stored s t 1 p.moving_stored (inl (λ h. omega arith)),
    )

pub PositionsHold-dequeue_task : (core : Columns) (s c t : ℕ) → Holds core → MayDequeue core s c t → PositionsHold (dequeue_task core s c t)
PositionsHold-dequeue_task core s c t holds may =
    let p = holds.positions in
    let e = dequeue_entry (core.seen_state s) (core.changes t) t c in
    let r = numbered_reads t (core.changes t + 1) (core.last_reads s t) in
    assumption (
      MatchedTasks-change core.state core.on_rq core.changes core.lock core.is_unstored core.saw_off s t 0 p.matched (inr (refl, leaves core s c t holds may)),
      ClaimedTasks-off core.state core.on_rq core.on_cpu core.lock core.is_claimed core.saw_clear t 0 p.claimed may.queued,
      RestingTasks-change core.state core.on_rq core.on_cpu core.lock core.saw_rest core.saw_rest_off core.saw_rest_idle s t 0 p.resting (inr refl),
      SeenStates-off core.cpus core.state core.on_rq core.queue_lock core.current_task core.seen_state t 0 p.seen (λ h. omega arith),
      IdleTasks-off core.on_rq core.cpu core.on_cpu core.queue_lock core.current_task core.saw_idle core.has_added t 0 p.idle (λ h. omega arith),
      CpusRead-same core.cpu core.lock core.last_reads s t r p.cpu refl,
      told-changed core s t 0 e holds may.seat (inr may.queued),
      MadeRunnable-change core.state core.on_rq core.lock core.current_task core.has_matched t 0 p.made_runnable (inl (λ h. omega arith)),
      WakingStored-change core.state core.on_rq core.lock core.has_stored s t 0 p.waking_stored (inr (leaves_rests core s c t holds may)),
      MovingStored-change core.on_rq core.lock core.has_stored s t 0 p.moving_stored (inl (λ h. omega arith)),
    )

pub PositionsHold-move_task : (core : Columns) (s c t : ℕ) (val : Queue) → Holds core → MayMove core s c t val → PositionsHold (move_task core s c t)
PositionsHold-move_task core s c t val holds may =
    let p = holds.positions in
    let e = Out t (core.changes t + 1) c in
    let r = numbered_reads t (core.changes t + 1) (core.last_reads s t) in
    assumption (
      MatchedTasks-change core.state core.on_rq core.changes core.lock core.is_unstored core.saw_off s t 2 p.matched (inl may.task_locked),
      ClaimedTasks-off core.state core.on_rq core.on_cpu core.lock core.is_claimed core.saw_clear t 2 p.claimed may.queued,
      RestingTasks-change core.state core.on_rq core.on_cpu core.lock core.saw_rest core.saw_rest_off core.saw_rest_idle s t 2 p.resting (inl may.task_locked),
      SeenStates-off core.cpus core.state core.on_rq core.queue_lock core.current_task core.seen_state t 2 p.seen (λ h. omega arith),
      IdleTasks-off core.on_rq core.cpu core.on_cpu core.queue_lock core.current_task core.saw_idle core.has_added t 2 p.idle (λ h. omega arith),
      CpusRead-same core.cpu core.lock core.last_reads s t r p.cpu refl,
      told-changed core s t 2 e holds may.seat (inl may.task_locked),
      MadeRunnable-change core.state core.on_rq core.lock core.current_task core.has_matched t 2 p.made_runnable (inl (λ h. omega arith)),
      WakingStored-change core.state core.on_rq core.lock core.has_stored s t 2 p.waking_stored (inl (λ h. omega arith)),
      MovingStored-change core.on_rq core.lock core.has_stored s t 2 p.moving_stored (inr may.task_locked),
    )

pub PositionsHold-set_busy : (core : Columns) (s c t : ℕ) (val : Queue) → Holds core → MaySetBusy core s c t val → PositionsHold (set_busy core s c t)
PositionsHold-set_busy core s c t val holds may =
    let p = holds.positions in
    let e = Pick t (core.runs t + 1) c in
    let r = kept_reads t (core.last_reads s t) in
    assumption (
      MatchedTasks-stored core.state core.on_rq core.changes core.lock core.is_unstored core.saw_off s t p.matched,
      ClaimedTasks-busy core.state core.on_rq core.on_cpu core.lock core.is_claimed core.saw_clear t p.claimed may.queued,
      RestingTasks-busy core.state core.on_rq core.on_cpu core.lock core.saw_rest core.saw_rest_off core.saw_rest_idle s t p.resting may.queued,
      SeenStates-pick core.cpus core.state core.on_rq core.queue_lock core.current_task core.seen_state s t p.seen,
      IdleTasks-pick core.on_rq core.cpu core.on_cpu core.queue_lock core.current_task core.saw_idle core.has_added s t p.idle (ap core.queue_lock may.here ∙ may.locked) may.none,
      CpusRead-same core.cpu core.lock core.last_reads s t r p.cpu refl,
      told-logged core s t e r holds may.seat refl refl,
      MadeRunnable-pick core.state core.on_rq core.lock core.current_task core.has_matched s t p.made_runnable may.none,
      WakingStored-stored core.state core.on_rq core.lock core.has_stored s t p.waking_stored,
      MovingStored-stored core.on_rq core.lock core.has_stored s t p.moving_stored,
    )

pub PositionsHold-clear_busy : (core : Columns) (s t : ℕ) → Holds core → MayClearBusy core s t → PositionsHold (clear_busy core s t)
PositionsHold-clear_busy core s t holds may =
    let p = holds.positions in
    let e = Finish t (core.runs t + 1) s in
    let r = kept_reads t (core.last_reads s t) in
    assumption (
      MatchedTasks-stored core.state core.on_rq core.changes core.lock core.is_unstored core.saw_off s t p.matched,
      ClaimedTasks-clear core.state core.on_rq core.on_cpu core.lock core.is_claimed core.saw_clear t p.claimed,
      RestingTasks-clear core.state core.on_rq core.on_cpu core.lock core.saw_rest core.saw_rest_off core.saw_rest_idle s t p.resting,
      p.seen,
      IdleTasks-clear core.on_rq core.cpu core.on_cpu core.queue_lock core.current_task core.saw_idle core.has_added t p.idle,
      CpusRead-same core.cpu core.lock core.last_reads s t r p.cpu refl,
      told-logged core s t e r holds may.seat refl refl,
      WakingStored-stored core.state core.on_rq core.lock core.has_stored s t p.waking_stored,
      MovingStored-stored core.on_rq core.lock core.has_stored s t p.moving_stored,
    )

pub PositionsHold-claim : (core : Columns) (s t : ℕ) → Holds core → MayClaim core s t → PositionsHold (claim core s t)
PositionsHold-claim core s t holds may =
    let p = holds.positions in
    let off = claim_off core s t holds may in
    let e = Wake t (core.changes t) in
    let r = kept_reads t (core.last_reads s t) in
    assumption (
      MatchedTasks-state core.state core.on_rq core.changes core.lock core.is_unstored core.saw_off s t waking p.matched (inl may.locked),
      ClaimedTasks-claim core.state core.on_rq core.on_cpu core.lock core.is_claimed core.saw_clear s t p.claimed may.locked off,
      RestingTasks-state core.state core.on_rq core.on_cpu core.lock core.saw_rest core.saw_rest_off core.saw_rest_idle s t waking p.resting (inl may.locked),
      SeenStates-state core.cpus core.state core.on_rq core.queue_lock core.current_task core.seen_state t waking p.seen (λ k h q l. omega arith),
      p.idle,
      CpusRead-same core.cpu core.lock core.last_reads s t r p.cpu refl,
      told-logged core s t e r holds may.seat refl refl,
      MadeRunnable-state core.state core.on_rq core.lock core.current_task core.has_matched s t waking p.made_runnable (inl (λ h. grind (arith, h))),
      WakingStored-state core.state core.on_rq core.lock core.has_stored s t waking p.waking_stored (inl may.locked),
      MovingStored-stored core.on_rq core.lock core.has_stored s t p.moving_stored,
    )

lock_or_queued : (core : Columns) (s t : ℕ) → IsReadyToRun core s t → (core.lock t ≡ Some s) ⊎ ((core.on_rq t ≡ 1) × (running ≢ dead))
lock_or_queued core s t (inl a) = inl a.0
lock_or_queued core s t (inr (inl a)) = inl a.0
lock_or_queued core s t (inr (inr a)) = inr (a.2, λ h. grind (arith, h))

queued_or_rests : (core : Columns) (s t : ℕ) → Holds core → IsReadyToRun core s t → (core.on_rq t ≢ 0) ⊎ (core.state t ≢ waking)
queued_or_rests core s t holds (inl a) = inr (new_rests core t holds a.1)
queued_or_rests core s t holds (inr (inl a)) = inl (λ h. let q = a.2 in omega arith)
queued_or_rests core s t holds (inr (inr a)) = inl (λ h. let q = a.2 in omega arith)

-- a seat that has such a task as current, and its own queue locked, isn't there
apart : (core : Columns) (s t : ℕ) → Holds core → IsReadyToRun core s t → (k : ℕ) → core.current_task k ≡ Some t → core.on_rq t ≡ 1 → core.queue_lock k ≡ Some k → ⊥
apart core s t holds (inl a) k h q l = idle_apart core t holds (holds.places.new.idle t a.1) k h
apart core s t holds (inr (inl a)) k h q l =
    let here = holds.busy.runner.current_here k t h in
    let same : s ≡ k = grind (arith, a.3, l, here) in
    a.4 (ap core.current_task same ∙ h)
apart core s t holds (inr (inr a)) k h q l = idle_apart core t holds a.3 k h

pub PositionsHold-make_runnable : (core : Columns) (s t : ℕ) → Holds core → MayMakeRunnable core s t → PositionsHold (make_runnable core s t)
PositionsHold-make_runnable core s t holds may =
    let p = holds.positions in
    let j = history core.cpus core.tasks core.seats core.journal in
    let r = kept_reads t (core.last_reads s t) in
    let awake : running ≢ waking = λ h. grind (arith, h) in
    assumption (
      MatchedTasks-state core.state core.on_rq core.changes core.lock core.is_unstored core.saw_off s t running p.matched (lock_or_queued core s t may.ready),
      ClaimedTasks-state core.state core.on_rq core.on_cpu core.lock core.is_claimed core.saw_clear t running p.claimed (queued_or_rests core s t holds may.ready),
      RestingTasks-state core.state core.on_rq core.on_cpu core.lock core.saw_rest core.saw_rest_off core.saw_rest_idle s t running p.resting (inr awake),
      SeenStates-state core.cpus core.state core.on_rq core.queue_lock core.current_task core.seen_state t running p.seen (apart core s t holds may.ready),
      p.idle,
      CpusRead-same core.cpu core.lock core.last_reads s t r p.cpu refl,
      ReadsTold-forget j core.cpu core.on_rq core.changes core.lock core.last_reads s t r p.reads refl refl,
      MadeRunnable-state core.state core.on_rq core.lock core.current_task core.has_matched s t running p.made_runnable (inl (λ h. grind (arith, h))),
      WakingStored-state core.state core.on_rq core.lock core.has_stored s t running p.waking_stored (inr awake),
      MovingStored-stored core.on_rq core.lock core.has_stored s t p.moving_stored,
    )

pub PositionsHold-load_cpu : (core : Columns) (s t : ℕ) → Holds core → MayLoad core s t → PositionsHold (load_cpu core s t)
PositionsHold-load_cpu core s t holds may =
    let p = holds.positions in
    let j = history core.cpus core.tasks core.seats core.journal in
    let r = cpu_read t (core.cpu t) (core.last_reads s t) in
    assumption (
      p,
      CpusRead-load core.cpu core.lock core.last_reads s t r p.cpu refl,
      ReadsTold-same j core.cpu core.on_rq core.changes core.lock core.last_reads s t r p.reads refl refl refl,
    )

pub PositionsHold-load_count : (core : Columns) (s t : ℕ) → Holds core → MayLoad core s t → PositionsHold (load_count core s t)
PositionsHold-load_count core s t holds may = let p = holds.positions in assumption p

pub PositionsHold-store_cpu : (core : Columns) (s t c : ℕ) → Holds core → MayStoreCpu core s t c → PositionsHold (store_cpu core s t c)
PositionsHold-store_cpu core s t c holds may =
    let p = holds.positions in
    let j = history core.cpus core.tasks core.seats core.journal in
    let r = cpu_read t c (core.last_reads s t) in
    let between = put_at core.last_reads s t r in
    assumption (
      p,
      MatchedTasks-stored core.state core.on_rq core.changes core.lock core.is_unstored core.saw_off s t p.matched,
      RestingTasks-stored core.state core.on_rq core.on_cpu core.lock core.saw_rest core.saw_rest_off core.saw_rest_idle s t p.resting,
      IdleTasks-cpu core.on_rq core.cpu core.on_cpu core.queue_lock core.current_task core.saw_idle core.has_added t c p.idle (placeable_off core s t c holds may),
      CpusRead-same (put core.cpu t c) core.lock between s t (kept_reads t (between s t)) (CpusRead-store core.cpu core.lock core.last_reads s t c r p.cpu may.locked refl) refl,
      ReadsTold-store_cpu j core.cpu core.on_rq core.changes core.lock core.last_reads between s t c (kept_reads t (between s t)) p.reads may.locked refl
          (ap (λ (x : TaskReads). x.number) (reads_here core.last_reads s t r s t refl refl)) (reads_there core.last_reads s t r),
      WakingStored-stored core.state core.on_rq core.lock core.has_stored s t p.waking_stored,
      MovingStored-stored core.on_rq core.lock core.has_stored s t p.moving_stored,
    )

pub PositionsHold-bump : (core : Columns) (s k : ℕ) → Holds core → MayBump core s k → PositionsHold (bump core s k)
PositionsHold-bump core s k holds may = let p = holds.positions in assumption p
