-- Each shape of what a seat did with a queue allows its give.
use Rattle.std.proofs.Common.{◌≡◌, ℕ, ◌<◌, ◌≤◌, ◌+◌, ◌++◌, ◌∷◌, [], inl, inr, refl, sym, ap, subst, ◌∙◌, List, length, arith}
use Rattle.std.specs.Prelude.{suc, ◌-◌, ◌/◌, ◌^◌, IsSome, unwrap_or, MatchOption, IfSome, ◌==◌, ◌&&◌, ◌⊎◌, Bool, true, false, Option, Some, None, if◌then◌else◌, is_some}
use Rattle.std.proofs.lemmas.Bool.{cases_Bool, cases_eq}
use Rattle.std.proofs.lemmas.Bool.Decides.{nat_tests}
use Rattle.std.specs.List.{filter}
use Rattle.core_data.proofs.QueueLemmas.{times_in-push, times_in-cons}
use Rattle.core_data.specs.Queue.{Queue, times_in, is_other}
use Rattle.core_data.specs.declared.values.TaskVal.{TaskVal}
use Rattle.core_gives.specs.Queues.{times, is_some_of}
use Rattle.handoff_data.specs.declared.shape.Shape.{Shape}
use Rattle.handoff_data.specs.declared.state.State.{State}
use Rattle.task_words.proofs.Finer.{IsFiner, finer_next, finer_without, finer_gives, loads_quiet}
use Rattle.task_words.proofs.Read.{read_finer, unread_finer}
use Rattle.task_words.specs.Gives.{is_load, is_quiet, since, IsAsTaken, IsPut, IsWoken, IsPicked, IsPickedCur, IsPutBack, IsAsleep, IsMoved, HasRoomFor, IsJustTaken, IsQueuedUnder}
use Rattle.core_kinds.specs.Steps.{is_sleep, dead, running}
use Rattle.task_words.specs.States.{IsOwnStore}
use Rattle.task_words.specs.Queues.{MayQueueHere, MayMoveHere}
use Rattle.word_rule.proofs.Uses.{gives_same, gives_put, gives_woken, gives_moved, gives_picked, gives_back, gives_asleep, IsPushed}
use Rattle.word_rule.proofs.Possible.{value_of}
use Rattle.word_rule.specs.May.{MayGiveQueueVal, MayGiveTaskVal, MaySetBusyWord, MayQueueWord, MayMoveWord, MaySetStateWord, next_busy, next_rq, queued_next}
use Rattle.word_rule.specs.Standing.{may_run}
use Rattle.word_rule.specs.Told.{TakenQueue}
use Rattle.word_steps.specs.Folds.{put_both, has_put, current_task, stays_queued, queue_held, number_read, task_to_clear, task_held, ended_known}
use Rattle.word_steps.specs.Records.{Rec, Took, Gave, OutBody, HomeBody, Queued, Dequeued, Moved, SetBusy, ClearedBusy, StateSet, Claimed, MadeRunnable, LoadedState, LoadedRq, LoadedBusy, LoadedCpu}
use Rattle.word_steps.specs.Records.{LoadedCount, StoredCpu, Bumped, LoadedCond}
use Rattle.word_steps.specs.declared.val.Val.TheVariants as val

-- one more at the back, and at the front
pushed : (xs : List ℕ) (t : ℕ) → IsPushed xs (xs ++ t ∷ []) t
pushed xs t u = let more = times_in-push xs t u in grind (arith, nat_tests, more)

fronted : (xs : List ℕ) (t : ℕ) → IsPushed xs (t ∷ xs) t
fronted xs t u = let more = times_in-cons t xs u in grind (arith, nat_tests, more)

-- t, which stands once in a list, taken out
times_without : (t : ℕ) (xs : List ℕ) (u : ℕ) → times_in (filter (is_other t) xs) u ≡ (if u == t then 0 else times_in xs u)
times_without t [] u = grind (arith, nat_tests)
times_without t (x ∷ xs) u =
    let rest = times_without t xs u in let all = times_in-cons x xs u in
    let others = times_in-cons x (filter (is_other t) xs) u in grind (arith, nat_tests, rest, all, others)

pulled : (xs : List ℕ) (t : ℕ) → times_in xs t ≡ 1 → IsPushed (filter (is_other t) xs) xs t
pulled xs t once u = let less = times_without t xs u in elim (cases_eq u t) [
  | inl same ↦ (let one : times_in xs u ≡ 1 = ap (times_in xs) same ∙ once in grind (arith, nat_tests, less, same, one))
  | inr apart ↦ grind (arith, nat_tests, less, apart)
]

-- a task in `cur` doesn't wait
unwaiting : (v : Queue) (t : ℕ) → times v t ≤ 1 → v.cur ≡ Some t → times_in v.waiting t ≡ 0
unwaiting v t once is =
    let one : ◌≡◌ {A = ℕ} (if is_some_of v.cur t then 1 else 0) (if t == t then 1 else 0) = ap (λ (o : Option ℕ). if is_some_of o t then 1 else 0) is in
    grind (arith, nat_tests, one, once)

-- .. and it stands there once
standing_once : (v : Queue) (t : ℕ) → times v t ≤ 1 → v.cur ≡ Some t → times v t ≡ 1
standing_once v t once is =
    let one : ◌≡◌ {A = ℕ} (if is_some_of v.cur t then 1 else 0) (if t == t then 1 else 0) = ap (λ (o : Option ℕ). if is_some_of o t then 1 else 0) is in
    grind (arith, nat_tests, one, once)

-- the queue is given as it was taken, after its next was picked
gives_cur : (shape : Shape) (s : ℕ) (v : Queue) (rs : List Rec) → TakenQueue shape s rs s v → (t n : ℕ) → v.cur ≡ Some t
    → MayGiveQueueVal s (SetBusy t s n ∷ Took s (val.Queue v) ∷ rs) shape s v
gives_cur shape s v rs told t n next = record {
  taken = v;
  held = grind (arith, nat_tests);
  stands = λ u. grind (arith, nat_tests);
  waits = λ u w. grind (arith, nat_tests, w);
  next = λ u e. inr (grind (arith, nat_tests));
  others = λ ne. absurd (ne refl);
  own = λ own u e. inl (next ∙ e);
  clear = told.clear;
  left = told.left;
}

module _ (shape : Shape) (s : ℕ) (c : ℕ) where
  -- what may be given after the steps without loads may be given after all
  loaded_gives : (given : Queue) (trace did : List Rec) → since trace ≡ did → MayGiveQueueVal s did shape c given
      → MayGiveQueueVal s trace shape c given
  loaded_gives given trace did is may =
      finer_gives s shape trace did c given
      (subst (IsFiner s trace) is (finer_without s is_load loads_quiet trace)) may

  pub as_taken_gives : (trace : List Rec) (given : Queue) → IsAsTaken shape s trace c given → MayGiveQueueVal s trace shape c given
  as_taken_gives trace given x =
      finer_gives s shape trace (Took c (val.Queue given) ∷ x.rs) c given
      (subst (IsFiner s trace) x.did (finer_without s is_quiet (λ r q. q) trace)) (gives_same shape s c given x.rs x.told)

  pub put_gives : (trace : List Rec) (given : Queue) → IsPut shape s trace c given → MayGiveQueueVal s trace shape c given
  put_gives trace given x =
      loaded_gives given trace (Queued x.t c x.on x.m ∷ Took c (val.Queue x.v) ∷ x.rs) x.did
      (gives_put shape s c x.v x.rs x.told x.t x.on x.m given x.ready
      (subst (λ (q : Queue). IsPushed x.v.waiting q.waiting x.t) (sym x.put) (pushed x.v.waiting x.t))
      (ap (λ (q : Queue). q.cur) x.put) (ap (λ (q : Queue). q.left) x.put))

  pub woken_gives : (trace : List Rec) (given : Queue) → IsWoken shape s trace c given → MayGiveQueueVal s trace shape c given
  woken_gives trace given x =
      loaded_gives given trace (MadeRunnable x.t ∷ Queued x.t c x.on x.m ∷ Took c (val.Queue x.v) ∷ x.rs) x.did
      (gives_woken shape s c x.v x.rs x.told x.t x.on x.m given
      (subst (λ (q : Queue). IsPushed x.v.waiting q.waiting x.t) (sym x.put) (pushed x.v.waiting x.t))
      (ap (λ (q : Queue). q.cur) x.put) (ap (λ (q : Queue). q.left) x.put))

  -- a task that was read as not busy before it was moved may be given up without that read
  unread_moved : (t m : ℕ) (v : Queue) (rs : List Rec)
      → IsFiner s (Moved t c m ∷ Took c (val.Queue v) ∷ rs) (Moved t c m ∷ LoadedBusy t false 0 ∷ Took c (val.Queue v) ∷ rs)
  unread_moved t m v rs = let a = Took c (val.Queue v) ∷ rs in
      finer_next s (Moved t c m) a (LoadedBusy t false 0 ∷ a) (record {
        queues = refl;
        stands = refl;
        added = refl;
        dropped = refl;
        there = refl;
        current = refl;
        stays = refl;
        body = refl;
        clear = refl;
        may = λ d u e. e;
      })

  pub moved_gives : (trace : List Rec) (given : Queue) → IsMoved shape s trace c given → MayGiveQueueVal s trace shape c given
  moved_gives trace given x = let did = Took c (val.Queue x.v) ∷ x.off.rs in
      loaded_gives given trace (Moved x.t c x.off.m ∷ did) x.off.did
      (finer_gives s shape (Moved x.t c x.off.m ∷ did) (Moved x.t c x.off.m ∷ LoadedBusy x.t false 0 ∷ did) c given
      (unread_moved x.t x.off.m x.v x.off.rs)
      (gives_moved shape s c x.v x.off.rs x.off.told x.t 0 x.off.m given
      (subst (λ (q : Queue). IsPushed q.waiting x.v.waiting x.t) (sym x.rest) (pulled x.v.waiting x.t x.off.waiting))
      (ap (λ (q : Queue). q.cur) x.rest) (ap (λ (q : Queue). q.left) x.rest)))

module _ (shape : Shape) (s : ℕ) (trace : List Rec) where
  pub picked_gives : (given : Queue) → IsPicked shape s trace given → MayGiveQueueVal s trace shape s given
  picked_gives given x =
      loaded_gives shape s s given trace (SetBusy x.t s x.n ∷ Took s (val.Queue x.v) ∷ x.rs) x.did
      (gives_picked shape s x.v x.rs x.told x.t x.n given x.clear x.none
      (subst (λ (xs : List ℕ). IsPushed given.waiting xs x.t) (sym x.first) (fronted given.waiting x.t))
      (ap (λ (q : Queue). q.cur) x.next) (ap (λ (q : Queue). q.left) x.next))

  pub picked_cur_gives : (given : Queue) → IsPickedCur shape s trace given → MayGiveQueueVal s trace shape s given
  picked_cur_gives given x =
      loaded_gives shape s s given trace (SetBusy x.t s x.n ∷ Took s (val.Queue given) ∷ x.rs) x.did
      (gives_cur shape s given x.rs x.told x.t x.n x.next)

  pub back_gives : (given : Queue) → IsPutBack shape s trace given → MayGiveQueueVal s trace shape s given
  back_gives given x =
      finer_gives s shape trace (LoadedState x.t None (record { 0 = 0 }) ∷ Took s (val.Queue x.v) ∷ x.rs) s given
      (read_finer s x.t x.state x.runs x.v x.rs trace x.did x.current x.stays x.seen)
      (gives_back shape s x.v x.rs x.told x.t given x.current x.stays x.home
      (subst (λ (q : Queue). IsPushed x.v.waiting q.waiting x.t) (sym x.back) (pushed x.v.waiting x.t))
      (ap (λ (q : Queue). q.cur) x.back) (ap (λ (q : Queue). q.left) x.back))

  pub asleep_gives : (given : Queue) → IsAsleep shape s trace given → MayGiveQueueVal s trace shape s given
  asleep_gives given x = let did = Took s (val.Queue x.v) ∷ x.rs in
      loaded_gives shape s s given trace (Dequeued x.t s x.m ∷ did) x.did
      (finer_gives s shape (Dequeued x.t s x.m ∷ did) (Dequeued x.t s x.m ∷ LoadedState x.t None (record { 0 = 1 }) ∷ did) s given
      (finer_next s (Dequeued x.t s x.m) did (LoadedState x.t None (record { 0 = 1 }) ∷ did) (unread_finer s x.t did))
      (gives_asleep shape s x.v x.rs x.told x.t x.m (record { 0 = 1 }) given x.current x.home
      (λ u. ap (λ (q : Queue). times_in q.waiting u) x.gone)
      (ap (λ (q : Queue). q.cur) x.gone) (ap (λ (q : Queue). q.left) x.gone)))

  pub absent_of : (c t : ℕ) (now : Queue) → HasRoomFor shape s trace c t now → times_in now.waiting t ≡ 0
  absent_of c t now (inl x) = let none : times now t ≡ 0 = x.told.off t x.off in omega (arith, none)
  absent_of c t now (inr x) = unwaiting now t (x.told.once t) (x.told.current x.own t x.current)

  pub room_of : (c t : ℕ) (now : Queue) → t < shape.tasks → HasRoomFor shape s trace c t now → length now.waiting < shape.tasks
  room_of c t now task (inl x) = x.told.room t task (absent_of c t now (inl x))
  room_of c t now task (inr x) = x.told.room t task (absent_of c t now (inr x))

  pub first_may : (c t : ℕ) (now : Queue) (rest : List ℕ) → IsJustTaken shape s trace c now → now.waiting ≡ t ∷ rest
      → (t < shape.tasks) × (may_run s trace c t ≡ true)
  first_may c t now rest x first = (
    x.told.waiting t (λ none. absurd (omega (arith, none, one))),
    (loaded_finer x).may c t (grind (arith, nat_tests, one)),
  )
    where
      loaded_finer : (x : IsJustTaken shape s trace c now) → IsFiner s trace (Took c (val.Queue now) ∷ x.rs)
      loaded_finer x = subst (IsFiner s trace) x.did (finer_without s is_load loads_quiet trace)

      one : times_in now.waiting t ≡ times_in rest t + 1
      one = let all = ap (λ (xs : List ℕ). times_in xs t) first in let more = times_in-cons t rest t in grind (arith, nat_tests, all, more)

  pub popped_task : (c : ℕ) (now new : Queue) (o : Option ℕ) → IsJustTaken shape s trace c now
      → MatchOption o ((now.waiting ≡ []) × (new ≡ now)) (λ t. (now.waiting ≡ t ∷ new.waiting) × (new ≡ record now { waiting = new.waiting }))
      → IfSome o (λ t. t < shape.tasks)
  popped_task c now new None x is = tt
  popped_task c now new (Some t) x is = (first_may c t now new.waiting x is.0).0

  pub popped_ready : (c : ℕ) (now new : Queue) (o : Option ℕ) → IsJustTaken shape s trace c now
      → MatchOption o ((now.waiting ≡ []) × (new ≡ now)) (λ t. (now.waiting ≡ t ∷ new.waiting) × (new ≡ record now { waiting = new.waiting }))
      → IfSome o (λ t. may_run s trace c t ≡ true)
  popped_ready c now new None x is = tt
  popped_ready c now new (Some t) x is = (first_may c t now new.waiting x is.0).1

-- a number that was read, and isn't 0
numbered : (o : Option ℕ) → 0 < unwrap_or o 0 → (m : ℕ) × (o ≡ Some (suc m))
numbered None h = absurd (omega (arith, h))
numbered (Some n) h = (n - 1, ap (λ (k : ℕ). Some k) (omega (arith, h)))

pub queued_under_gives : (shape : Shape) (s : ℕ) (trace : List Rec) (t : ℕ) (given : TaskVal) → IsQueuedUnder shape trace t given
    → MayGiveTaskVal s trace shape t given
queued_under_gives shape s trace t given x = record {
  taken = x.taken;
  held = x.held;
  kept = x.kept;
  wake_cpu = x.wake_cpu;
  dest = x.dest;
  settled = inr (x.unclaimed, x.unmoved);
  begun = inr (inl (numbered (number_read trace t) x.number));
}

pub ready_may : (s : ℕ) (trace : List Rec) (t x : ℕ) → IsSome (queue_held trace s) → may_run s trace s t ≡ true
    → current_task s trace ≡ None → task_to_clear s trace ≡ None → x / 2 < 2 ^ 60 → MaySetBusyWord s trace t x (next_busy x)
ready_may s trace t x held ready none clear room = let out = value_of (queue_held trace s) held in record {
  after = refl;
  room = room;
  taken = out.0;
  queue = out.1;
  stands = inl ready;
  none = none;
  clear = clear;
}

-- the next of the seat's own queue, just taken
pub cur_may : (shape : Shape) (s : ℕ) (trace : List Rec) (now : Queue) (t x : ℕ) → IsAsTaken shape s trace s now → now.cur ≡ Some t
    → current_task s trace ≡ None → task_to_clear s trace ≡ None → x / 2 < 2 ^ 60 → MaySetBusyWord s trace t x (next_busy x)
cur_may shape s trace now t x h is none clear room =
    let fine : IsFiner s trace (Took s (val.Queue now) ∷ h.rs) =
    subst (IsFiner s trace) h.did (finer_without s is_quiet (λ r q. q) trace) in record {
      after = refl;
      room = room;
      taken = now;
      queue = ap (λ (f : ℕ → Option Queue). f s) fine.queues ∙ grind (arith, nat_tests);
      stands = inr (
        standing_once now t (h.told.once t) is,
        ap (λ (f : ℕ → ℕ → Bool). f s t) fine.added ∙ grind (arith, nat_tests),
        ap (λ (f : ℕ → ℕ → Bool). f s t) fine.dropped ∙ grind (arith, nat_tests),
      );
      none = none;
      clear = clear;
    }

pub here_may : (s : ℕ) (trace : List Rec) (c t m x : ℕ) → MayQueueHere trace c t → number_read trace t ≡ Some m → m < 2 ^ 60
    → MayQueueWord s trace t x (queued_next m)
here_may s trace c t m x h known room =
    record { number = m; known = known; room = room; after = refl; locked = h.locked; cpu = c; read = h.read; queue = h.queue; ready = h.ready }

pub move_may : (s : ℕ) (trace : List Rec) (c t x : ℕ) → MayMoveHere s trace c t → x / 4 < 2 ^ 60 → MayMoveWord s trace t x (next_rq x 2)
move_may s trace c t x h room = let out = value_of (queue_held trace c) h.queue in record {
  after = refl;
  room = room;
  locked = h.locked;
  cpu = c;
  read = h.read;
  taken = out.0;
  queue = out.1;
  waiting = subst (λ (o : Option Queue). IfSome o (λ taken. times_in taken.waiting t ≡ 1)) out.1 h.waiting;
  unadded = h.unadded;
  undropped = h.undropped;
  idle = h.idle;
  other = h.other;
}

pub own_store : (s : ℕ) (trace : List Rec) (state : State) → IsOwnStore s trace state → (t : ℕ) × ((x : ℕ) → MaySetStateWord s trace t x state.0)
own_store s trace state h = let out = value_of (current_task s trace) h.runs in (
  out.0,
  λ x. record {
    current = out.1;
    stays = h.stays;
    allowed = subst (λ (t : ℕ). (state ≡ running) ⊎ ((is_sleep state ≡ true) ⊎ ((state ≡ dead) × IsSome (task_held trace t) × (ended_known trace t ≡ Some true))))
        (ap (λ (o : Option ℕ). unwrap_or o 0) out.1) h.allowed;
  },
)
