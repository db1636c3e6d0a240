-- The steps that move no task.
use Rattle.std.proofs.Common.{◌≡◌, ◌≢◌, ℕ, inl, inr, ◌++◌, ◌∷◌, [], Option, Some, None, List, refl, sym, ap, ◌∙◌}
use Rattle.std.specs.Prelude.{◌==◌, ◌&&◌, Bool, true, false, if◌then◌else◌}
use mathlib.Core.Bool.{not}
use Rattle.core_data.specs.Noted.{noted}
use Rattle.core_data.specs.Queue.{Queue}
use Rattle.core_data.specs.Columns.{Columns, put, put_at}
use Rattle.core_data.specs.declared.act.Act.{Act}
use Rattle.core_data.specs.declared.act.Act.TheVariants.{TookTask, Renewed, StoredWord, Matched, SawOff, Claimed, SawClear, SawRest, SawRestOff, SawRestIdle, TookQueue, Queued, Dequeued}
use Rattle.core_data.specs.declared.act.Act.TheVariants.{Picked, TookWait, OwnStored, Slept, Passed, Bumped, Walked}
use Rattle.core_data.specs.declared.pos.TaskReads.{TaskReads}
use Rattle.core_data.specs.declared.values.TaskVal.{TaskVal}
use Rattle.core_data.specs.declared.values.WaitEntry.{WaitEntry}
use Rattle.core_data.specs.declared.values.WorkItem.{WorkItem}
use Rattle.core_gives.specs.Queues.{MayGiveQueue, give_queue, give_up_if, gives_up}
use Rattle.core_gives.specs.Waits.{MayGiveWait, give_wait, give_by, walked_if, is_walk}
use Rattle.core_invariant.proofs.Puts.{put_here, put_there}
use Rattle.core_invariant.specs.Invariant.{Holds}
use Rattle.core_journals.proofs.PlacesKept.{q-lock, q-state, q-cpu, b-idle, same-place}
use Rattle.core_journals.proofs.Rows.{rows}
use Rattle.core_journals.proofs.States.{unlocked-still, unlocked-settled}
use Rattle.core_journals.proofs.Waking.{placed-anew}
use Rattle.core_journals.specs.Places.{place, place_of, OneMoveOrNone}
use Rattle.core_kinds.specs.Locks.{MayTakeTask, take_task, MayGiveTask, give_task, MayTakeQueue, take_queue, MayTakeWorks, take_works, MayGiveWorks, give_works, MayTakeWait, take_wait}
use Rattle.core_kinds.specs.Running.{MayBodyOut, body_out, MayBodyHome, body_home}
use Rattle.core_kinds.specs.Steps.{running, waking, normal, is_match, is_sleep}
use Rattle.core_kinds.specs.Waking.{MaySetState, set_state, slept_if, ran_if, MayMakeRunnable, make_runnable}
use Rattle.core_kinds.specs.Waking.{MayLoad, MayLoadState, load_state, load_this, is_own_read, is_matched, is_refused, noted_if, logged_if, seen_if, load_rq, load_rq_so, load_busy, load_busy_so}
use Rattle.core_kinds.specs.Waking.{load_cpu, load_count, MayStoreCpu, store_cpu, MayBump, bump, tested_if, test_by, load_cond}
use Rattle.handoff_data.specs.declared.entry.Entry.{Entry}
use Rattle.handoff_data.specs.declared.entry.Entry.TheVariants as entry
use Rattle.handoff_data.specs.declared.state.State.{State}

-- each task is where it was, and so is each journal
record Quiet (core next : Columns) : Type 0 where
  places : (t : ℕ) → place_of next t ≡ place_of core t
  journals : (k : ℕ) → next.journal k ≡ core.journal k

stays : (s : ℕ) (core next : Columns) → Quiet core next → OneMoveOrNone s core next
stays s core next q = inl (record { places = q.places; own_journal = inl (q.journals s); other_journals = λ k h. q.journals k })

unchanged : (core : Columns) → Quiet core core
unchanged core = record { places = λ t. refl; journals = λ k. refl }

-- locks

stays-lock : (core : Columns) (t : ℕ) (new : Option ℕ) → Holds core → core.on_rq t ≢ 2 → (core.on_rq t ≡ 0 → core.state t ≢ waking) → (u : ℕ)
    → place (core.changes u) (core.on_rq u) (core.state u) (core.cpu u) (put core.lock t new u) (core.on_cpu u) ≡ place_of core u
stays-lock core t new holds still off =
    rows t (λ u b. place (core.changes u) (core.on_rq u) (core.state u) (core.cpu u) (if b then new else core.lock u) (core.on_cpu u) ≡ place_of core u)
    (same-place _ _ _ _ (q-lock (core.changes t) (core.on_rq t) (core.state t) (core.cpu t) (core.lock t) new (holds.places.on_rq t) still off) refl) (λ u q. refl)

pub Moves-take_task : (core : Columns) (s t : ℕ) → Holds core → MayTakeTask core s t → OneMoveOrNone s core (take_task core s t)
Moves-take_task core s t holds may =
    stays s core _ (record { places = stays-lock core t (Some s) holds (unlocked-settled core t holds may.free) (unlocked-still core t holds may.free); journals = λ k. refl })

pub Moves-give_task : (core : Columns) (s t : ℕ) (val : TaskVal) (stood done : Bool) → Holds core → MayGiveTask core s t val stood done → OneMoveOrNone s core (give_task core s t val)
Moves-give_task core s t val stood done holds may =
    stays s core _ (record { places = stays-lock core t None holds may.settled.0 (λ off. elim (may.settled.1) [ inl a ↦ absurd (a off) | inr b ↦ b ]); journals = λ k. refl })

pub Moves-take_queue : (core : Columns) (s c : ℕ) → Holds core → MayTakeQueue core s c → OneMoveOrNone s core (take_queue core s c)
Moves-take_queue core s c holds may = stays s core _ (record { places = λ t. refl; journals = λ k. refl })

stays-given_up : (b : Bool) (core next : Columns) (s : ℕ) → Quiet core next → Quiet core (give_up_if b next s)
stays-given_up true core next s p = record { places = p.places; journals = p.journals }
stays-given_up false core next s p = p

pub Moves-give_queue : (core : Columns) (s c : ℕ) (queue : Queue) → Holds core → MayGiveQueue core s c queue → OneMoveOrNone s core (give_queue core s c queue)
Moves-give_queue core s c queue holds may =
    let p = stays-given_up (gives_up s c queue) core (record core {
      queue_lock = put core.queue_lock c None;
      queue = put core.queue c (Some queue);
      queue_held = put_at core.queue_held s c None;
    }) s (record { places = λ t. refl; journals = λ k. refl }) in
    stays s core _ (record { places = p.places; journals = p.journals })

pub Moves-take_works : (core : Columns) (s c : ℕ) → Holds core → MayTakeWorks core s c → OneMoveOrNone s core (take_works core s c)
Moves-take_works core s c holds may = stays s core _ (record { places = λ t. refl; journals = λ k. refl })

pub Moves-give_works : (core : Columns) (s c : ℕ) (val : List WorkItem) → Holds core → MayGiveWorks core s c val → OneMoveOrNone s core (give_works core s c val)
Moves-give_works core s c val holds may = stays s core _ (record { places = λ t. refl; journals = λ k. refl })

pub Moves-take_wait : (core : Columns) (s k : ℕ) → Holds core → MayTakeWait core s k → OneMoveOrNone s core (take_wait core s k)
Moves-take_wait core s k holds may = stays s core _ (record { places = λ t. refl; journals = λ k. refl })

stays-walked : (b : Bool) (core next : Columns) (s k : ℕ) → Quiet core next → Quiet core (walked_if b next s k)
stays-walked true core next s k p = record { places = p.places; journals = p.journals }
stays-walked false core next s k p = p

stays-given : (core : Columns) (s k : ℕ) (given : List WaitEntry) (taken : Option (List WaitEntry)) → Quiet core (give_by core s k given taken)
stays-given core s k given None = unchanged core
stays-given core s k given (Some taken) = stays-walked (core.owes_walk s k && (core.has_retaken s k && is_walk (core.has_passed s k) taken)) core _ s k (record {
  places = λ t. refl;
  journals = λ k. refl;
})

pub Moves-give_wait : (core : Columns) (s k : ℕ) (given : List WaitEntry) → Holds core → MayGiveWait core s k given → OneMoveOrNone s core (give_wait core s k given)
Moves-give_wait core s k given holds may = stays s core _ (stays-given core s k given (core.wait_held s k))

-- bodies

pub Moves-body_out : (core : Columns) (s t : ℕ) → Holds core → MayBodyOut core s t → OneMoveOrNone s core (body_out core s t)
Moves-body_out core s t holds may = stays s core _ (record { places = λ t. refl; journals = λ k. refl })

pub Moves-body_home : (core : Columns) (s t : ℕ) (ended : Bool) → Holds core → MayBodyHome core s t ended → OneMoveOrNone s core (body_home core s t ended)
Moves-body_home core s t ended holds may = stays s core _ (record { places = λ t. refl; journals = λ k. refl })

-- states

stays-state : (core : Columns) (t : ℕ) (new : State) → (core.changes t ≢ 0 → core.on_rq t ≡ 1) → (u : ℕ)
    → place (core.changes u) (core.on_rq u) (put core.state t new u) (core.cpu u) (core.lock u) (core.on_cpu u) ≡ place_of core u
stays-state core t new h =
    rows t (λ u b. place (core.changes u) (core.on_rq u) (if b then new else core.state u) (core.cpu u) (core.lock u) (core.on_cpu u) ≡ place_of core u)
    (same-place _ _ _ _ (q-state (core.changes t) (core.on_rq t) (core.state t) new (core.cpu t) (core.lock t) h) refl) (λ u q. refl)

stays-slept : (b : Bool) (core next : Columns) (s t : ℕ) → Quiet core next → Quiet core (slept_if b next s t)
stays-slept true core next s t p = record { places = p.places; journals = p.journals }
stays-slept false core next s t p = p

stays-ran : (b : Bool) (core next : Columns) (s t : ℕ) → Quiet core next → Quiet core (ran_if b next s t)
stays-ran true core next s t p = record { places = p.places; journals = p.journals }
stays-ran false core next s t p = p

pub Moves-set_state : (core : Columns) (s t : ℕ) (state : State) → Holds core → MaySetState core s t state → OneMoveOrNone s core (set_state core s t state)
Moves-set_state core s t state holds may =
    stays s core _ (stays-ran (state.0 == 0) core _ s t (stays-slept (is_sleep state) core _ s t (record { places = stays-state core t state (λ m. may.queued); journals = λ k. refl })))

pub Moves-make_runnable : (core : Columns) (s t : ℕ) → Holds core → MayMakeRunnable core s t → OneMoveOrNone s core (make_runnable core s t)
Moves-make_runnable core s t holds may =
    let queued : (core.changes t ≢ 0 → core.on_rq t ≡ 1) = λ m. elim (may.ready) [ inl a ↦ absurd (m a.1) | inr b ↦ elim b [ inl a ↦ a.2 | inr a ↦ a.2 ] ] in
    stays s core _ (record { places = stays-state core t running queued; journals = λ k. refl })

-- loads

stays-act : (core next : Columns) (s : ℕ) (act : Act) → Quiet core next → Quiet core (noted next s act)
stays-act core next s (TookTask n) p = record { places = p.places; journals = p.journals }
stays-act core next s (Renewed n) p = record { places = p.places; journals = p.journals }
stays-act core next s (StoredWord n) p = record { places = p.places; journals = p.journals }
stays-act core next s (Matched n) p = record { places = p.places; journals = p.journals }
stays-act core next s (SawOff n) p = record { places = p.places; journals = p.journals }
stays-act core next s (Claimed n) p = record { places = p.places; journals = p.journals }
stays-act core next s (SawClear n) p = record { places = p.places; journals = p.journals }
stays-act core next s (SawRest n) p = record { places = p.places; journals = p.journals }
stays-act core next s (SawRestOff n) p = record { places = p.places; journals = p.journals }
stays-act core next s (SawRestIdle n) p = record { places = p.places; journals = p.journals }
stays-act core next s (TookQueue n) p = record { places = p.places; journals = p.journals }
stays-act core next s (Queued n) p = record { places = p.places; journals = p.journals }
stays-act core next s (Dequeued n) p = record { places = p.places; journals = p.journals }
stays-act core next s (Picked n) p = record { places = p.places; journals = p.journals }
stays-act core next s (TookWait n) p = record { places = p.places; journals = p.journals }
stays-act core next s (OwnStored n) p = record { places = p.places; journals = p.journals }
stays-act core next s (Slept n) p = record { places = p.places; journals = p.journals }
stays-act core next s (Passed n) p = record { places = p.places; journals = p.journals }
stays-act core next s (Bumped n) p = record { places = p.places; journals = p.journals }
stays-act core next s (Walked n) p = record { places = p.places; journals = p.journals }

stays-noted : (b : Bool) (core next : Columns) (s : ℕ) (act : Act) → Quiet core next → Quiet core (noted_if b next s act)
stays-noted true core next s act p = stays-act core next s act p
stays-noted false core next s act p = p

stays-seen : (b : Bool) (core next : Columns) (s : ℕ) (state : State) → Quiet core next → Quiet core (seen_if b next s state)
stays-seen true core next s state p = record { places = p.places; journals = p.journals }
stays-seen false core next s state p = p

stays-refused : (b : Bool) (core next : Columns) (s t : ℕ) (state : State) → Quiet core next → OneMoveOrNone s core (logged_if b next s (entry.Refused t state))
stays-refused true core next s t state p =
    let e : Entry = entry.Refused t state in
    inl (record {
      places = p.places;
      own_journal = inr (e, tt, put_here next.journal s (next.journal s ++ e ∷ []) s refl ∙ ap (λ xs. xs ++ e ∷ []) (p.journals s));
      other_journals = λ k h. put_there next.journal s (next.journal s ++ e ∷ []) k h ∙ p.journals k;
    })
stays-refused false core next s t state p = stays s core next p

stays-read : (core : Columns) (s t : ℕ) (mask : Option State) (own : Bool) (old : TaskReads) (state : State) → OneMoveOrNone s core (load_this core s t mask own old state)
stays-read core s t mask own old state =
    let seen = stays-seen own core _ s state (record { places = λ t. refl; journals = λ k. refl }) in
    let matched = stays-noted (is_matched state mask) core _ s (Matched t) seen in
    let rest = stays-noted (not (state.0 == 0x200)) core _ s (SawRest t) matched in
    stays-refused (is_refused state mask) core _ s t state (stays-noted (not (is_match state normal)) core _ s (Passed t) rest)

pub Moves-load_state : (core : Columns) (s t : ℕ) (mask : Option State) → Holds core → MayLoadState core s t mask → OneMoveOrNone s core (load_state core s t mask)
Moves-load_state core s t mask holds may = stays-read core s t mask (is_own_read core s t) (core.last_reads s t) (core.state t)

stays-read_rq : (core : Columns) (s t : ℕ) (fresh rests : Bool) (old : TaskReads) (on m : ℕ) → Quiet core (load_rq_so core s t fresh rests old on m)
stays-read_rq core s t fresh rests old on m =
    stays-noted ((on == 0) && rests) core _ s (SawRestOff t) (stays-noted ((on == 0) && fresh) core _ s (SawOff t) (record { places = λ t. refl; journals = λ k. refl }))

pub Moves-load_rq : (core : Columns) (s t : ℕ) → Holds core → MayLoad core s t → OneMoveOrNone s core (load_rq core s t)
Moves-load_rq core s t holds may = stays s core _ (stays-read_rq core s t (core.is_unstored s t) (core.saw_rest s t) (core.last_reads s t) (core.on_rq t) (core.changes t))

stays-read_busy : (core : Columns) (s t : ℕ) (rests : Bool) (old : TaskReads) (busy : Bool) → Quiet core (load_busy_so core s t rests old busy)
stays-read_busy core s t rests old busy =
    stays-noted (not busy && rests) core _ s (SawRestIdle t) (stays-noted (not busy) core _ s (SawClear t) (record { places = λ t. refl; journals = λ k. refl }))

pub Moves-load_busy : (core : Columns) (s t : ℕ) → Holds core → MayLoad core s t → OneMoveOrNone s core (load_busy core s t)
Moves-load_busy core s t holds may = stays s core _ (stays-read_busy core s t (core.saw_rest_off s t) (core.last_reads s t) (core.on_cpu t))

pub Moves-load_cpu : (core : Columns) (s t : ℕ) → Holds core → MayLoad core s t → OneMoveOrNone s core (load_cpu core s t)
Moves-load_cpu core s t holds may = stays s core _ (record { places = λ t. refl; journals = λ k. refl })

pub Moves-load_count : (core : Columns) (s t : ℕ) → Holds core → MayLoad core s t → OneMoveOrNone s core (load_count core s t)
Moves-load_count core s t holds may = stays s core _ (record { places = λ t. refl; journals = λ k. refl })

pub Moves-store_cpu : (core : Columns) (s t c : ℕ) → Holds core → MayStoreCpu core s t c → OneMoveOrNone s core (store_cpu core s t c)
Moves-store_cpu core s t c holds may =
    let anew = placed-anew core s t c holds may in
    stays s core _ (record {
      places = rows t (λ u b. place (core.changes u) (core.on_rq u) (core.state u) (if b then c else core.cpu u) (core.lock u) (core.on_cpu u) ≡ place_of core u)
          (same-place _ _ _ _ (q-cpu (core.changes t) (core.on_rq t) (core.state t) (core.cpu t) c (core.lock t) anew.off) (b-idle (core.on_cpu t) c anew.idle
          ∙ sym (b-idle (core.on_cpu t) (core.cpu t) anew.idle))) (λ u q. refl);
      journals = λ k. refl;
    })

-- conditions

pub Moves-bump : (core : Columns) (s k : ℕ) → Holds core → MayBump core s k → OneMoveOrNone s core (bump core s k)
Moves-bump core s k holds may = stays s core _ (record { places = λ t. refl; journals = λ k. refl })

stays-tested : (b : Bool) (core : Columns) (s t k v : ℕ) → Quiet core (tested_if b core s t k v)
stays-tested true core s t k v = record { places = λ t. refl; journals = λ k. refl }
stays-tested false core s t k v = unchanged core

stays-tests : (core : Columns) (s k : ℕ) (current : Option ℕ) → Quiet core (test_by core s current k)
stays-tests core s k None = unchanged core
stays-tests core s k (Some t) = stays-tested (core.has_slept s t) core s t k (core.cond k)

pub Moves-load_cond : (core : Columns) (s k : ℕ) → Holds core → MayBump core s k → OneMoveOrNone s core (load_cond core s k)
Moves-load_cond core s k holds may = stays s core _ (stays-tests core s k (core.current_task s))
