-- The loads of a task's state, of its queue word and of its busy word keep what a seat may rely on.
use Rattle.std.proofs.Common.{◌≡◌, ◌≢◌, ℕ, ◌<◌, ◌⊎◌, inl, inr, ◌++◌, ◌∷◌, [], Bool, true, false, Option, Some, None, refl, sym, ap, ◌∙◌, arith}
use Rattle.std.specs.Prelude.{if◌then◌else◌, ◌==◌, ◌&&◌, nat_lt, is_some, bit_and}
use mathlib.Core.Bool.{not}
use Rattle.std.proofs.lemmas.Bool.{cases_eq}
use Rattle.std.proofs.lemmas.Bool.Decides.{nat_tests}
use Rattle.std.proofs.lemmas.Nat.{and_comm, and_assoc}
use Rattle.core_data.specs.Columns.{Columns, put, put_at}
use Rattle.core_data.specs.declared.act.Act.TheVariants.{Passed, Matched, SawOff, SawClear, SawRest, SawRestOff, SawRestIdle}
use Rattle.core_data.specs.declared.pos.Rq.{Rq}
use Rattle.core_invariant.proofs.Logs.{logged, somewhere-old}
use Rattle.core_invariant.specs.Histories.{history}
use Rattle.core_invariant.specs.Invariant.{Holds}
use Rattle.core_invariant.specs.Positions.{PositionsHold}
use Rattle.core_kinds.specs.Steps.{waking, dead, normal, is_match, is_sleep, IsRunnable}
use Rattle.core_kinds.specs.Waking.{MayLoadState, IsMask, load_state, is_own_read, is_some_of, is_matched, is_refused, state_read, rq_read, busy_read, logged_if, noted_if, seen_if, MayLoad, load_rq}
use Rattle.core_kinds.specs.Waking.{load_busy}
use Rattle.core_places.proofs.Claimed.{ClaimedTasks-saw_clear}
use Rattle.core_places.proofs.Idle.{IdleTasks-saw_clear}
use Rattle.core_places.proofs.LastReads.{CpusRead-same}
use Rattle.core_places.proofs.Matched.{Meets, MatchedTasks-matched, MatchedTasks-saw_off}
use Rattle.core_places.proofs.MadeRunnable.{MadeRunnable-matched}
use Rattle.core_places.proofs.Resting.{RestingTasks-state_read, RestingTasks-off_read, RestingTasks-idle_read}
use Rattle.core_places.proofs.Seen.{SeenStates-load}
use Rattle.core_places.proofs.Told.{IsLeft, ReadsTold-forget, ReadsTold-load_busy, ReadsTold-load_rq, ReadsTold-log}
use Rattle.handoff_data.specs.Positions.{IsSomewhere}
use Rattle.handoff_data.specs.declared.entry.Entry.{Entry}
use Rattle.handoff_data.specs.declared.entry.Entry.TheVariants as entry
use Rattle.handoff_data.specs.declared.state.State.{State}

-- a state that has no bit of TASK_NORMAL and TASK_WAKEKILL matches no mask
no_bits : (x m : ℕ) → bit_and x 0x103 ≡ 0 → bit_and m 0x103 ≡ m → bit_and x m ≡ 0
no_bits x m h mask =
    ap (bit_and x) (sym mask ∙ and_comm m 0x103) ∙ (sym (and_assoc m x 0x103) ∙ ap (λ z. bit_and z m) h)

no_match : (x : State) (mask : Option State) → IsMask mask → bit_and x.0 0x103 ≡ 0 → is_matched x mask ≡ true → ⊥
no_match x None allowed h m = grind (arith, m)
no_match x (Some mask) allowed h m = let z = no_bits x.0 mask.0 h allowed in grind (arith, nat_tests, z, m)

no_match_of : (x y : State) (mask : Option State) → IsMask mask → x ≡ y → bit_and y.0 0x103 ≡ 0 → is_matched x mask ≡ true → ⊥
no_match_of x y mask allowed q h m = no_match x mask allowed (ap (λ (z : State). bit_and z.0 0x103) q ∙ h) m

no_match_runnable : (x : State) (mask : Option State) → IsMask mask → IsRunnable x → is_matched x mask ≡ true → ⊥
no_match_runnable x mask allowed (inl a) m = no_match x mask allowed (ap (λ z. bit_and z 0x103) a) m
no_match_runnable x mask allowed (inr a) m = no_match x mask allowed (ap (λ z. bit_and z 0x103) a) m

-- a task whose state matches is queued, or asleep off its queue
meets_mask : (core : Columns) (t : ℕ) (mask : Option State) → Holds core → IsMask mask → is_matched (core.state t) mask ≡ true → Meets core.state core.on_rq core.changes t
meets_mask core t mask holds allowed m =
    record {
      started = started;
      alive = λ q. no_match_of (core.state t) dead mask allowed q refl m;
      stands = elim (cases_eq (core.on_rq t) 1) [
        | inl q ↦ inl q
        | inr q ↦ elim (cases_eq (core.on_rq t) 0) [
          | inl z ↦ inr (z, asleep z)
          | inr z ↦ let moving : core.on_rq t ≡ 2 = omega (arith, holds.places.on_rq t) in absurd (no_match_runnable (core.state t) mask allowed (holds.places.moving.runnable t moving) m)
        ]
      ];
    }
  where
    started : core.changes t ≢ 0
    started h = no_match_runnable (core.state t) mask allowed (holds.places.new_states.runnable t h) m

    asleep : core.on_rq t ≡ 0 → is_sleep (core.state t) ≡ true
    asleep z = elim (holds.places.off t started z) [
      | inl a ↦ a
      | inr b ↦ elim b [
        | inl a ↦ absurd (no_match_of (core.state t) dead mask allowed a refl m)
        | inr a ↦ absurd (no_match_of (core.state t) waking mask allowed a.0 refl m)
      ]
    ]

-- a core in which seat s has just read the state x of t
record IsRead (core : Columns) (s t : ℕ) (x : State) (meets : Bool) : Type 0 where
  positions : PositionsHold core
  seat : s < core.seats
  is : core.state t ≡ x
  met : meets ≡ true → Meets core.state core.on_rq core.changes t

keep_state : (own : Bool) (core : Columns) (s t : ℕ) (x : State) (m : Bool) → IsRead core s t x m → (own ≡ true → (core.current_task s ≡ Some t) × (core.queue_lock s ≡ Some s))
    → IsRead (seen_if own core s x) s t x m
keep_state false core s t x m r h = r
keep_state true core s t x m r h =
    let p = r.positions in
    let o = h refl in
    record {
      positions = assumption (p, SeenStates-load core.cpus core.state core.on_rq core.queue_lock core.current_task core.seen_state s t x p.seen o.0 o.1 r.is);
      seat = r.seat;
      is = r.is;
      met = r.met;
    }

note_matched : (b : Bool) (core : Columns) (s t : ℕ) (x : State) → IsRead core s t x b → IsRead (noted_if b core s (Matched t)) s t x b
note_matched false core s t x r = r
note_matched true core s t x r =
    let p = r.positions in
    record {
      positions = assumption (
        p,
        MatchedTasks-matched core.state core.on_rq core.changes core.lock core.is_unstored core.saw_off s t p.matched (r.met refl),
        MadeRunnable-matched core.state core.on_rq core.lock core.current_task core.has_matched s t p.made_runnable (r.met refl).alive,
      );
      seat = r.seat;
      is = r.is;
      met = r.met;
    }

note_rest : (b : Bool) (core : Columns) (s t : ℕ) (x : State) (m : Bool) → IsRead core s t x m → (b ≡ true → x ≢ waking) → IsRead (noted_if b core s (SawRest t)) s t x m
note_rest false core s t x m r h = r
note_rest true core s t x m r h =
    let p = r.positions in
    record {
      positions = assumption (p, RestingTasks-state_read core.state core.on_rq core.on_cpu core.lock core.saw_rest core.saw_rest_off core.saw_rest_idle s t p.resting (λ q. h refl (sym r.is ∙ q)));
      seat = r.seat;
      is = r.is;
      met = r.met;
    }

note_passed : (b : Bool) (core : Columns) (s t : ℕ) (x : State) (m : Bool) → IsRead core s t x m → IsRead (noted_if b core s (Passed t)) s t x m
note_passed false core s t x m r = r
note_passed true core s t x m r = let p = r.positions in record { positions = assumption p; seat = r.seat; is = r.is; met = r.met }

note_refused : (b : Bool) (core : Columns) (s t : ℕ) (x : State) (m : Bool) (e : Entry) → IsRead core s t x m → PositionsHold (logged_if b core s e)
note_refused false core s t x m e r = r.positions
note_refused true core s t x m e r =
    let p = r.positions in
    let j = history core.cpus core.tasks core.seats core.journal in
    let k = history core.cpus core.tasks core.seats (put core.journal s (core.journal s ++ e ∷ [])) in
    assumption (p, ReadsTold-log j k core.cpu core.on_rq core.changes core.lock core.last_reads (somewhere-old (logged core.cpus core.tasks core.seats core.journal s e r.seat)) p.reads)

holds_some : (o : Option ℕ) (k : ℕ) → is_some_of o k ≡ true → o ≡ Some k
holds_some None k h = absurd (grind (arith, h))
holds_some (Some j) k h = grind (arith, nat_tests, h)

both : (a b : Bool) → a && b ≡ true → (a ≡ true) × (b ≡ true)
both true b h = (refl, h)
both false b h = absurd (grind (arith, h))

own_read : (core : Columns) (s t : ℕ) → is_own_read core s t ≡ true → (core.current_task s ≡ Some t) × (core.queue_lock s ≡ Some s)
own_read core s t h =
    let r = both (is_some_of (core.current_task s) t) (is_some_of (core.queue_lock s) s) (both (nat_lt s core.cpus) (is_some_of (core.current_task s) t && is_some_of (core.queue_lock s) s) h).1 in
    (holds_some (core.current_task s) t r.0, holds_some (core.queue_lock s) s r.1)

pub PositionsHold-load_state : (core : Columns) (s t : ℕ) (mask : Option State) → Holds core → MayLoadState core s t mask → PositionsHold (load_state core s t mask)
PositionsHold-load_state core s t mask holds may =
    let p = holds.positions in
    let j = history core.cpus core.tasks core.seats core.journal in
    let x = core.state t in
    let m = is_matched x mask in
    let r = state_read t x (core.last_reads s t) in
    let read : PositionsHold (record core { last_reads = put_at core.last_reads s t r }) = assumption (
      p,
      CpusRead-same core.cpu core.lock core.last_reads s t r p.cpu refl,
      ReadsTold-forget j core.cpu core.on_rq core.changes core.lock core.last_reads s t r p.reads refl refl,
    ) in
    let first : IsRead (record core { last_reads = put_at core.last_reads s t r }) s t x m = record { positions = read; seat = may.seat; is = refl; met = meets_mask core t mask holds may.allowed } in
    let own = is_own_read core s t in
    let rests = not (x.0 == 0x200) in
    let passes = not (is_match x normal) in
    let awake : rests ≡ true → x ≢ waking = λ h q. grind (arith, nat_tests, ap (λ (z : State). z.0) q, h) in
    note_refused (is_refused x mask) _ s t x m (entry.Refused t x)
    (note_passed passes _ s t x m (note_rest rests _ s t x m (note_matched m _ s t x (keep_state own _ s t x m first (own_read core s t))) awake))

saw : (b : Bool) (core : Columns) (s t : ℕ) → PositionsHold core → (b ≡ true → (core.is_unstored s t ≡ true) × (core.on_rq t ≡ 0)) → PositionsHold (noted_if b core s (SawOff t))
saw false core s t p h = p
saw true core s t p h = let o = h refl in assumption (p, MatchedTasks-saw_off core.state core.on_rq core.changes core.lock core.is_unstored core.saw_off s t p.matched o.0 o.1)

saw_rest : (b c : Bool) (core : Columns) (s t : ℕ) → PositionsHold (noted_if c core s (SawOff t)) → (b ≡ true → (core.saw_rest s t ≡ true) × (core.on_rq t ≡ 0))
    → PositionsHold (noted_if b (noted_if c core s (SawOff t)) s (SawRestOff t))
saw_rest false c core s t p h = p
saw_rest true false core s t p h =
    let o = h refl in
    assumption (p, RestingTasks-off_read core.state core.on_rq core.on_cpu core.lock core.saw_rest core.saw_rest_off core.saw_rest_idle s t p.resting o.0 o.1)
saw_rest true true core s t p h =
    let o = h refl in
    assumption (p, RestingTasks-off_read core.state core.on_rq core.on_cpu core.lock core.saw_rest core.saw_rest_off core.saw_rest_idle s t p.resting o.0 o.1)

some_of : (b : Bool) (x y : Rq) → (if b then Some x else None) ≡ Some y → y ≡ x
some_of true x y h = grind (arith, h)
some_of false x y h = absurd (grind (arith, h))

zero_test : (n : ℕ) (b : Bool) → (n == 0) && b ≡ true → (b ≡ true) × (n ≡ 0)
zero_test n b h = let r = both (n == 0) b h in (r.1, grind (arith, nat_tests, r.0))

abbrev of_bits : ℕ → State
of_bits n = record { 0 = n }

-- what the last change of a task off its queue was
left_by : (core : Columns) (t : ℕ) → Holds core → core.changes t ≢ 0 → core.on_rq t ≡ 0
    → (c : ℕ) × (IsSomewhere (history core.cpus core.tasks core.seats core.journal) (entry.Sleep t (core.changes t) c)
    ⊎ IsSomewhere (history core.cpus core.tasks core.seats core.journal) (entry.Die t (core.changes t) c))
left_by core t holds started off =
    elim (cases_eq ((core.state t).0) 0x80) [
      | inl q ↦ let d = holds.journals.last_changes.ended t started off (ap of_bits q) in (d.0, inr d.1)
      | inr q ↦ let d = holds.journals.last_changes.off t started off (λ h. q (ap (λ (z : State). z.0) h)) in (d.0, inl d.1)
    ]

pub PositionsHold-load_rq : (core : Columns) (s t : ℕ) → Holds core → MayLoad core s t → PositionsHold (load_rq core s t)
PositionsHold-load_rq core s t holds may =
    let p = holds.positions in
    let j = history core.cpus core.tasks core.seats core.journal in
    let on = core.on_rq t in
    let m = core.changes t in
    let old = core.last_reads s t in
    let r = rq_read t on m old in
    let read : PositionsHold (record core { last_reads = put_at core.last_reads s t r }) = assumption (
      p,
      CpusRead-same core.cpu core.lock core.last_reads s t r p.cpu refl,
      ReadsTold-load_rq j core.cpu core.on_rq core.changes core.lock core.last_reads s t r p.reads refl refl (λ rq h. words rq h) (holds.journals.last_changes.queued t)
          (λ off some. left_by core t holds some off),
    ) in
    saw_rest ((on == 0) && core.saw_rest s t) ((on == 0) && core.is_unstored s t) (record core { last_reads = put_at core.last_reads s t r }) s t
    (saw ((on == 0) && core.is_unstored s t) (record core { last_reads = put_at core.last_reads s t r }) s t read (zero_test on (core.is_unstored s t)))
    (zero_test on (core.saw_rest s t))
  where
    words : (rq : Rq) → (rq_read t (core.on_rq t) (core.changes t) (core.last_reads s t)).rq ≡ Some rq → (rq.on ≡ core.on_rq t) × (rq.m ≡ core.changes t)
    words rq h =
        let is = some_of (is_some (core.last_reads s t).state) (record { on = core.on_rq t; m = core.changes t }) rq h in
        (ap (λ (z : Rq). z.on) is, ap (λ (z : Rq). z.m) is)

saw_clear : (b : Bool) (core : Columns) (s t : ℕ) → PositionsHold core → (b ≡ true → core.on_cpu t ≡ false) → PositionsHold (noted_if b core s (SawClear t))
saw_clear false core s t p h = p
saw_clear true core s t p h =
    let idle = h refl in
    assumption (
      p,
      ClaimedTasks-saw_clear core.state core.on_rq core.on_cpu core.lock core.is_claimed core.saw_clear s t p.claimed idle,
      IdleTasks-saw_clear core.on_rq core.cpu core.on_cpu core.queue_lock core.current_task core.saw_idle core.has_added s t p.idle idle,
    )

saw_idle : (b c : Bool) (core : Columns) (s t : ℕ) → PositionsHold (noted_if c core s (SawClear t))
    → (b ≡ true → (core.saw_rest_off s t ≡ true) × (core.on_cpu t ≡ false)) → PositionsHold (noted_if b (noted_if c core s (SawClear t)) s (SawRestIdle t))
saw_idle false c core s t p h = p
saw_idle true false core s t p h =
    let o = h refl in
    assumption (p, RestingTasks-idle_read core.state core.on_rq core.on_cpu core.lock core.saw_rest core.saw_rest_off core.saw_rest_idle s t p.resting o.0 o.1)
saw_idle true true core s t p h =
    let o = h refl in
    assumption (p, RestingTasks-idle_read core.state core.on_rq core.on_cpu core.lock core.saw_rest core.saw_rest_off core.saw_rest_idle s t p.resting o.0 o.1)

not_true : (b : Bool) → not b ≡ true → b ≡ false
not_true false h = refl
not_true true h = absurd (grind (arith, h))

pub PositionsHold-load_busy : (core : Columns) (s t : ℕ) → Holds core → MayLoad core s t → PositionsHold (load_busy core s t)
PositionsHold-load_busy core s t holds may =
    let p = holds.positions in
    let j = history core.cpus core.tasks core.seats core.journal in
    let busy = core.on_cpu t in
    let r = busy_read t busy (core.last_reads s t) in
    let read : PositionsHold (record core { last_reads = put_at core.last_reads s t r }) = assumption (
      p,
      CpusRead-same core.cpu core.lock core.last_reads s t r p.cpu refl,
      ReadsTold-load_busy j core.cpu core.on_rq core.changes core.lock core.last_reads s t r p.reads refl refl (left),
    ) in
    saw_idle (not busy && core.saw_rest_off s t) (not busy) (record core { last_reads = put_at core.last_reads s t r }) s t
    (saw_clear (not busy) (record core { last_reads = put_at core.last_reads s t r }) s t read (not_true busy))
    (λ h. let o = both (not busy) (core.saw_rest_off s t) h in (o.1, not_true busy o.0))
  where
    -- only a task that is busy is read so
    is_busy : (b busy : Bool) → (if b then Some busy else None) ≡ Some true → busy ≡ true
    is_busy true busy h = grind (arith, h)
    is_busy false busy h = absurd (grind (arith, h))

    left : (busy_read t (core.on_cpu t) (core.last_reads s t)).busy ≡ Some true → core.on_rq t ≡ 0 → IsLeft (history core.cpus core.tasks core.seats core.journal) t (core.changes t) (core.cpu t)
    left b off = elim (holds.journals.last_changes.leaving t off (is_busy (is_some (core.last_reads s t).rq) (core.on_cpu t) b)) [
      | inl a ↦ inl (core.cpu t, a)
      | inr a ↦ inr (core.cpu t, a)
    ]
