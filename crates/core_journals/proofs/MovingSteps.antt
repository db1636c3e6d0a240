-- The steps that move a task: each is a move of the table.
use Rattle.std.proofs.Common.{◌≡◌, ◌≢◌, ℕ, ◌+◌, inl, inr, ◌++◌, ◌∷◌, [], Option, Some, None, refl, sym, subst, ap, ◌∙◌, arith}
use Rattle.std.specs.Prelude.{true, false, if◌then◌else◌}
use Rattle.std.proofs.lemmas.Bool.{cases_eq}
use Rattle.core_data.specs.Queue.{Queue}
use Rattle.core_data.specs.Columns.{Columns}
use Rattle.core_invariant.proofs.Puts.{put_here, put_there}
use Rattle.core_invariant.specs.Invariant.{Holds}
use Rattle.core_journals.proofs.PlacesKept.{here, apart, q-new, q-on, q-moving, q-dead, q-waking, q-asleep, b-busy, b-idle, same-place}
use Rattle.core_journals.proofs.Running.{queued-some, entry-new, entry-in, entry-enq, entry-sleep, entry-die}
use Rattle.core_journals.proofs.Waking.{claims-sleeper, woken-idle}
use Rattle.core_journals.specs.Places.{q_of, place, place_of, IsMoved, OneMoveOrNone}
use Rattle.core_kinds.specs.Running.{store_rq, MayQueue, queue_entry, queue_task, MayLeave, MayDequeue, dequeue_entry, dequeue_task, MayMove, move_task, MaySetBusy, set_busy, MayClearBusy, clear_busy}
use Rattle.core_kinds.specs.Steps.{waking, dead, is_sleep}
use Rattle.core_kinds.specs.Waking.{MayClaim, claim}
use Rattle.handoff_data.specs.Moves.{task_of, MovesFrom, moved, Moves}
use Rattle.handoff_data.specs.declared.entry.Entry.{Entry}
use Rattle.handoff_data.specs.declared.entry.Entry.TheVariants as entry
use Rattle.handoff_data.specs.declared.place.Q.TheVariants as q
use Rattle.handoff_data.specs.declared.state.State.{State}

-- the stored queue word moves its task

pub stored-moves : (core : Columns) (s t on : ℕ) (e : Entry) → task_of e ≡ Some t
    → Moves s (place_of core t) e (place (core.changes t + 1) on (core.state t) (core.cpu t) (core.lock t) (core.on_cpu t))
    → IsMoved s core (store_rq core s t on e)
stored-moves core s t on e of m =
    record {
      task = t;
      entry = e;
      of_task = of;
      own_journal = put_here core.journal s (core.journal s ++ e ∷ []) s refl;
      other_journals = λ k h. put_there core.journal s (core.journal s ++ e ∷ []) k h;
      moves =
          here t
          (λ b. Moves s (place_of core t) e (place (if b then core.changes t + 1 else core.changes t) (if b then on else core.on_rq t) (core.state t) (core.cpu t) (core.lock t) (core.on_cpu t))) m;
      others =
          λ u h. apart t u (λ b. place (if b then core.changes t + 1 else core.changes u) (if b then on else core.on_rq u) (core.state u) (core.cpu u) (core.lock u) (core.on_cpu u) ≡ place_of core u)
          h refl;
    }

-- a task that is put on the queue of its processor, from the place q
onto : (core : Columns) (s c t : ℕ) (e : Entry) → core.cpu t ≡ c → core.on_cpu t ≡ false → MovesFrom s (place_of core t) e → moved s (place_of core t) e ≡ record { q = q.On c; b = None }
    → Moves s (place_of core t) e (place (core.changes t + 1) 1 (core.state t) (core.cpu t) (core.lock t) (core.on_cpu t))
onto core s c t e at_cpu idle from to =
    record {
      from = from;
      to = same-place _ _ _ _ (q-on (core.changes t + 1) 1 (core.state t) (core.cpu t) (core.lock t) c (λ z. omega (arith, z)) refl at_cpu) (b-idle (core.on_cpu t) (core.cpu t) idle) ∙ sym to;
    }

queue-moves : (core : Columns) (s c t : ℕ) → Holds core → MayQueue core s c t → IsMoved s core (store_rq core s t 1 (queue_entry (core.changes t) (core.on_rq t) t c))
queue-moves core s c t holds may = elim (cases_eq (core.changes t) 0) [
  | inl z ↦ subst (λ e. IsMoved s core (store_rq core s t 1 e)) (entry-new (core.changes t) (core.on_rq t) t c z) (stored-moves core s t 1 (entry.New t (core.changes t + 1) c) refl (
      let idle = holds.places.new.idle t z in
      onto core s c t (entry.New t (core.changes t + 1) c) may.here idle (
        q-new (core.changes t) (core.on_rq t) (core.state t) (core.cpu t) (core.lock t) z,
        b-idle (core.on_cpu t) (core.cpu t) idle,
      ) refl))
  | inr m ↦ elim (cases_eq (core.on_rq t) 2) [
    | inl h ↦ subst (λ e. IsMoved s core (store_rq core s t 1 e)) (entry-in (core.changes t) (core.on_rq t) t c m h) (stored-moves core s t 1 (entry.In t (core.changes t + 1) c) refl (
        let idle = holds.places.moving.idle t h in
        onto core s c t (entry.In t (core.changes t + 1) c) may.here idle (
          q-moving (core.changes t) (core.on_rq t) (core.state t) (core.cpu t) (core.lock t) s m h may.task_locked,
          b-idle (core.on_cpu t) (core.cpu t) idle,
        ) refl))
    | inr h ↦
        subst (λ e. IsMoved s core (store_rq core s t 1 e)) (entry-enq (core.changes t) (core.on_rq t) t c m h)
        (stored-moves core s t 1 (entry.Enq t (core.changes t + 1) c false) refl (elim (may.ready) [
          | inl z ↦ absurd (m z)
          | inr r ↦ elim r [
            | inl w ↦
                let idle = woken-idle core s t holds may.task_locked m w.0 w.1 w.2 in
                onto core s c t (entry.Enq t (core.changes t + 1) c false) may.here idle
                (q-waking (core.changes t) (core.on_rq t) (core.state t) (core.cpu t) (core.lock t) s m w.0 w.1 may.task_locked, b-idle (core.on_cpu t) (core.cpu t) idle) refl
            | inr b ↦ absurd (h b)
          ]
        ]))
  ]
]

pub Moves-queue_task : (core : Columns) (s c t : ℕ) → Holds core → MayQueue core s c t → OneMoveOrNone s core (queue_task core s c t)
Moves-queue_task core s c t holds may =
    let m = queue-moves core s c t holds may in
    inr (record { task = m.task; entry = m.entry; of_task = m.of_task; moves = m.moves; others = m.others; own_journal = m.own_journal; other_journals = m.other_journals })

-- the place of a task that runs
on-here : (core : Columns) (s t : ℕ) → core.changes t ≢ 0 → core.on_rq t ≡ 1 → core.cpu t ≡ s → (q_of (core.changes t) (core.on_rq t) (core.state t) (core.cpu t) (core.lock t) ≡ q.On s)
on-here core s t m queued at_cpu = q-on (core.changes t) (core.on_rq t) (core.state t) (core.cpu t) (core.lock t) s m queued at_cpu

dequeue-sleep : (core : Columns) (s t : ℕ) → Holds core → MayDequeue core s s t → is_sleep (core.state t) ≡ true → IsMoved s core (store_rq core s t 0 (entry.Sleep t (core.changes t + 1) s))
dequeue-sleep core s t holds may asleep =
    let m = queued-some core t holds (λ z. let r = may.queued in omega (arith, z, r)) in
    let busy = b-busy (core.on_cpu t) (core.cpu t) s (holds.busy.runner.current_busy s t may.current) may.here in
    stored-moves core s t 0 (entry.Sleep t (core.changes t + 1) s) refl (record {
      from = (on-here core s t m may.queued may.here, busy);
      to = same-place _ _ _ _ (q-asleep (core.changes t + 1) 0 (core.state t) (core.cpu t) (core.lock t) (λ z. omega (arith, z)) refl asleep) busy;
    })

dequeue-die : (core : Columns) (s t : ℕ) → Holds core → MayDequeue core s s t → core.state t ≡ dead → IsMoved s core (store_rq core s t 0 (entry.Die t (core.changes t + 1) s))
dequeue-die core s t holds may ended =
    let m = queued-some core t holds (λ z. let r = may.queued in omega (arith, z, r)) in
    let busy = b-busy (core.on_cpu t) (core.cpu t) s (holds.busy.runner.current_busy s t may.current) may.here in
    stored-moves core s t 0 (entry.Die t (core.changes t + 1) s) refl (record {
      from = (on-here core s t m may.queued may.here, busy);
      to = same-place _ _ _ _ (q-dead (core.changes t + 1) 0 (core.state t) (core.cpu t) (core.lock t) (λ z. omega (arith, z)) refl ended) busy;
    })

dequeue-seen : (core : Columns) (s t : ℕ) (seen : Option State) → Holds core → MayDequeue core s s t → core.seen_state s ≡ seen → MayLeave seen (core.count t)
    → IsMoved s core (store_rq core s t 0 (dequeue_entry seen (core.changes t) t s))
dequeue-seen core s t None holds may q h = absurd h
dequeue-seen core s t (Some x) holds may q h =
    let is = holds.positions.seen.is s t x may.current may.queued q in
    elim h [
      | inl a ↦ subst (λ e. IsMoved s core (store_rq core s t 0 e)) (entry-sleep x (core.changes t) t s a) (dequeue-sleep core s t holds may (subst (λ y. is_sleep y ≡ true) (sym is) a))
      | inr b ↦ subst (λ e. IsMoved s core (store_rq core s t 0 e)) (entry-die x (core.changes t) t s b.0) (dequeue-die core s t holds may (subst (λ y. y ≡ dead) (sym is) b.0))
    ]

dequeue-own : (core : Columns) (s t : ℕ) → Holds core → MayDequeue core s s t → OneMoveOrNone s core (dequeue_task core s s t)
dequeue-own core s t holds may =
    let m = dequeue-seen core s t (core.seen_state s) holds may refl may.seen in
    inr (record { task = m.task; entry = m.entry; of_task = m.of_task; moves = m.moves; others = m.others; own_journal = m.own_journal; other_journals = m.other_journals })

pub Moves-dequeue_task : (core : Columns) (s c t : ℕ) → Holds core → MayDequeue core s c t → OneMoveOrNone s core (dequeue_task core s c t)
Moves-dequeue_task core s c t holds may = subst (λ z. MayDequeue core s z t → OneMoveOrNone s core (dequeue_task core s z t)) may.own (dequeue-own core s t holds) may

pub Moves-move_task : (core : Columns) (s c t : ℕ) (val : Queue) → Holds core → MayMove core s c t val → OneMoveOrNone s core (move_task core s c t)
Moves-move_task core s c t val holds may =
    let some = queued-some core t holds (λ z. let r = may.queued in omega (arith, z, r)) in
    let idle : core.on_cpu t ≡ false = elim (holds.positions.idle.read s c t may.locked may.idle may.queued may.here) [ inl a ↦ a | inr b ↦ absurd (may.other b) ] in
    let free = b-idle (core.on_cpu t) (core.cpu t) idle in
    let m = stored-moves core s t 2 (entry.Out t (core.changes t + 1) c) refl (record {
      from = (on-here core c t some may.queued may.here, free);
      to = same-place _ _ _ _ (q-moving (core.changes t + 1) 2 (core.state t) (core.cpu t) (core.lock t) s (λ z. omega (arith, z)) refl may.task_locked) free;
    }) in
    inr (record { task = m.task; entry = m.entry; of_task = m.of_task; moves = m.moves; others = m.others; own_journal = m.own_journal; other_journals = m.other_journals })

-- the stored busy word moves its task

busy-own : (core : Columns) (s t : ℕ) (val : Queue) → Holds core → MaySetBusy core s s t val → OneMoveOrNone s core (set_busy core s s t)
busy-own core s t val holds may =
    let e : Entry = entry.Pick t (core.runs t + 1) s in
    let some = queued-some core t holds (λ z. let r = may.queued in omega (arith, z, r)) in
    let on = on-here core s t some may.queued may.here in
    inr (record {
      task = t;
      entry = e;
      of_task = refl;
      own_journal = put_here core.journal s (core.journal s ++ e ∷ []) s refl;
      other_journals = λ k h. put_there core.journal s (core.journal s ++ e ∷ []) k h;
      moves = here t (λ b. Moves s (place_of core t) e (place (core.changes t) (core.on_rq t) (core.state t) (core.cpu t) (core.lock t) (if b then true else core.on_cpu t))) (record {
        from = (on, b-idle (core.on_cpu t) (core.cpu t) may.idle);
        to = same-place _ _ _ _ on (ap Some may.here);
      });
      others = λ u h. apart t u (λ b. place (core.changes u) (core.on_rq u) (core.state u) (core.cpu u) (core.lock u) (if b then true else core.on_cpu u) ≡ place_of core u) h refl;
    })

pub Moves-set_busy : (core : Columns) (s c t : ℕ) (val : Queue) → Holds core → MaySetBusy core s c t val → OneMoveOrNone s core (set_busy core s c t)
Moves-set_busy core s c t val holds may = subst (λ z. MaySetBusy core s z t val → OneMoveOrNone s core (set_busy core s z t)) may.own (busy-own core s t val holds) may

pub Moves-clear_busy : (core : Columns) (s t : ℕ) → Holds core → MayClearBusy core s t → OneMoveOrNone s core (clear_busy core s t)
Moves-clear_busy core s t holds may =
    let e : Entry = entry.Finish t (core.runs t + 1) s in
    let busy = holds.busy.runner.left_busy s t may.left in
    let at_cpu = holds.busy.runner.left_here s t may.left in
    inr (record {
      task = t;
      entry = e;
      of_task = refl;
      own_journal = put_here core.journal s (core.journal s ++ e ∷ []) s refl;
      other_journals = λ k h. put_there core.journal s (core.journal s ++ e ∷ []) k h;
      moves = here t (λ b. Moves s (place_of core t) e (place (core.changes t) (core.on_rq t) (core.state t) (core.cpu t) (core.lock t) (if b then false else core.on_cpu t))) (record {
        from = b-busy (core.on_cpu t) (core.cpu t) s busy at_cpu;
        to = refl;
      });
      others = λ u h. apart t u (λ b. place (core.changes u) (core.on_rq u) (core.state u) (core.cpu u) (core.lock u) (if b then false else core.on_cpu u) ≡ place_of core u) h refl;
    })

-- and so does the stored TASK_WAKING
pub Moves-claim : (core : Columns) (s t : ℕ) → Holds core → MayClaim core s t → OneMoveOrNone s core (claim core s t)
Moves-claim core s t holds may =
    let e : Entry = entry.Wake t (core.changes t) in
    let sleeper = claims-sleeper core s t holds may in
    inr (record {
      task = t;
      entry = e;
      of_task = refl;
      own_journal = put_here core.journal s (core.journal s ++ e ∷ []) s refl;
      other_journals = λ k h. put_there core.journal s (core.journal s ++ e ∷ []) k h;
      moves = here t (λ b. Moves s (place_of core t) e (place (core.changes t) (core.on_rq t) (if b then waking else core.state t) (core.cpu t) (core.lock t) (core.on_cpu t))) (record {
        from = q-asleep (core.changes t) (core.on_rq t) (core.state t) (core.cpu t) (core.lock t) sleeper.2 sleeper.0 sleeper.1;
        to = same-place _ _ _ _ (q-waking (core.changes t) (core.on_rq t) waking (core.cpu t) (core.lock t) s sleeper.2 sleeper.0 refl may.locked) refl;
      });
      others = λ u h. apart t u (λ b. place (core.changes u) (core.on_rq u) (if b then waking else core.state u) (core.cpu u) (core.lock u) (core.on_cpu u) ≡ place_of core u) h refl;
    })
