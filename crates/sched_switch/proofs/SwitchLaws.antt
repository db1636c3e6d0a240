-- A switch is a leave and then a pick, and what it means.
use Rattle.std.proofs.Common.{◌≡◌, ◌∙◌, ℕ, ◌+◌, ◌++◌, ◌∷◌, [], List, refl, sym, ap, subst, inl, inr, arith, append_assoc, append-nil}
use Rattle.std.specs.Prelude.{Bool, true, false, Option, Some, None, ◌==◌, ◌⊎◌, if◌then◌else◌}
use Rattle.std.proofs.lemmas.Bool.Decides.{nat_tests}
use Rattle.core_kinds.specs.Steps.{is_sleep, dead}
use Rattle.core_kinds.specs.Running.{dequeue_entry}
use Rattle.handoff_data.specs.declared.entry.Entry.{Entry}
use Rattle.handoff_data.specs.declared.entry.Entry.TheVariants as entry
use Rattle.handoff_data.specs.declared.state.State.{State}
use Rattle.run_queue.specs.Queueing.{pushed}
use Rattle.sched_switch.specs.Laws.{front_by, IsAtFront, HasFoundNone, HasLeftBy, HasLeftFirst}
use Rattle.sched_switch.specs.Switches.{IsPutBack, IsGone, IsKept, IsPicked, IsEmpty, HasLeft, DidPick, DidSwitch, HasDied, left_by}
use Rattle.sched_switch.specs.declared.answer.Next.{Next}
use Rattle.sched_switch.specs.declared.answer.Next.TheVariants as asked
use Rattle.sched_switch.specs.declared.answer.Switch.{Switch}
use Rattle.sched_switch.specs.declared.answer.Switch.TheVariants as switch
use Rattle.task_words.specs.Views.{PassView, TurnView, logged}
use Rattle.ttwu_core.specs.Orders.{IsSince}
use Rattle.word_rule.specs.Own.{IsStill, last_own}
use Rattle.word_rule.specs.Standing.{is_runnable}
use Rattle.word_steps.specs.Folds.{current_task}
use Rattle.word_steps.specs.Records.{Took, Gave, Dequeued, SetBusy, ClearedBusy, LoadedState, LoadedCount}
use Rattle.word_steps.specs.declared.val.Val.TheVariants as val

pub left_then : (next : Next) (old mid new : PassView) (answer : Switch) → HasLeft next old mid → DidPick next mid new answer
    → DidSwitch next old new answer
left_then asked.Task old mid new (switch.Running t) left did = inr (mid, left, did)
left_then asked.Task old mid new switch.Idle left did = (mid, left, did)
left_then asked.Task old mid new switch.Nobody left did = absurd did
left_then asked.Nobody old mid new (switch.Running t) left did = absurd did
left_then asked.Nobody old mid new switch.Idle left did = absurd did
left_then asked.Nobody old mid new switch.Nobody left did = subst (λ (p : PassView). HasLeft asked.Nobody old p) (sym did) left

-- Entries

pub entries_once : (e : Entry) (a b : TurnView) → b ≡ logged e a → b.entries ≡ a.entries ++ e ∷ []
entries_once e a b same = ap (λ (z : TurnView). z.entries) same

pub entries_twice : (d e : Entry) (a b : TurnView) → b ≡ logged e (logged d a) → b.entries ≡ a.entries ++ d ∷ e ∷ []
entries_twice d e a b same =
    ap (λ (z : TurnView). z.entries) same ∙ append_assoc a.entries (d ∷ []) (e ∷ [])

-- What was done before the next one was picked

left_since : (next : Next) (old mid : PassView) → HasLeft next old mid → IsSince old.trace mid.trace
left_since next old mid (inl left) = record { added = []; did = ap (λ (p : PassView). p.trace) left.1 }
left_since next old mid (inr (inl left)) = record {
  added = ClearedBusy left.0 left.2.n
      ∷ Gave old.seat (val.Queue left.2.queue) (val.Queue (left_by left.0 (pushed left.0 left.2.queue)))
      ∷ LoadedCount left.0 0 ∷ LoadedState left.0 None left.1 ∷ Took old.seat (val.Queue left.2.queue) ∷ [];
  did = left.2.did;
}
left_since next old mid (inr (inr left)) = record {
  added = ClearedBusy left.0 left.3.n ∷ Gave old.seat (val.Queue left.3.queue) (val.Queue (left_by left.0 left.3.queue))
      ∷ Dequeued left.0 old.seat left.3.before ∷ LoadedCount left.0 0 ∷ LoadedState left.0 None left.1 ∷ Took old.seat (val.Queue left.3.queue)
      ∷ [];
  did = left.3.did;
}

left_seat : (next : Next) (old mid : PassView) → HasLeft next old mid → mid.seat ≡ old.seat
left_seat next old mid (inl left) = ap (λ (p : PassView). p.seat) left.1
left_seat next old mid (inr (inl left)) = left.2.same_seat
left_seat next old mid (inr (inr left)) = left.3.same_seat

pub picked_front : (t : ℕ) (old new : PassView) → DidSwitch asked.Task old new (switch.Running t) → IsAtFront t old new
picked_front t old new (inl kept) = record {
  before = old.trace;
  queue = kept.queue;
  stood = left_by t (pushed t kept.queue);
  start = record { added = []; did = refl };
  taken = record {
    added = Gave old.seat (val.Queue kept.queue) (val.Queue kept.queue) ∷ LoadedCount t 0 ∷ LoadedState t None kept.state ∷ [];
    did = kept.did;
  };
  put_back = inr (kept.read.current, refl);
  front = ap (λ (w : List ℕ). front_by None (w ++ t ∷ [])) kept.alone;
}
picked_front t old new (inr (mid, left, inl first)) = record {
  before = mid.trace;
  queue = first.queue;
  stood = first.queue;
  start = left_since asked.Task old mid left;
  taken = subst (λ (s : ℕ). IsSince (Took s (val.Queue first.queue) ∷ mid.trace) new.trace) (left_seat asked.Task old mid left)
      (record {
        added = Gave mid.seat (val.Queue first.queue) (val.Queue (record first.queue { waiting = first.rest; cur = Some t }))
            ∷ SetBusy t mid.seat first.n ∷ [];
        did = first.did;
      });
  put_back = inl refl;
  front = ap (λ (o : Option ℕ). front_by o first.queue.waiting) first.nobody ∙ ap (front_by None) first.first;
}
picked_front t old new (inr (mid, left, inr next)) = record {
  before = mid.trace;
  queue = next.queue;
  stood = next.queue;
  start = left_since asked.Task old mid left;
  taken = subst (λ (s : ℕ). IsSince (Took s (val.Queue next.queue) ∷ mid.trace) new.trace) (left_seat asked.Task old mid left)
      (record {
        added = Gave mid.seat (val.Queue next.queue) (val.Queue next.queue) ∷ SetBusy t mid.seat next.n ∷ [];
        did = next.did;
      });
  put_back = inl refl;
  front = ap (λ (o : Option ℕ). front_by o next.queue.waiting) next.next;
}

pub found_none : (old new : PassView) → DidSwitch asked.Task old new switch.Idle → HasFoundNone old new
found_none old new (mid, left, empty) = record {
  before = mid.trace;
  queue = empty.queue;
  start = left_since asked.Task old mid left;
  did = subst (λ (s : ℕ). new.trace ≡ Gave s (val.Queue empty.queue) (val.Queue empty.queue) ∷ Took s (val.Queue empty.queue) ∷ mid.trace)
      (left_seat asked.Task old mid left) empty.did;
  none = ap (λ (o : Option ℕ). front_by o empty.queue.waiting) empty.nobody ∙ ap (front_by None) empty.none;
}

-- By which state a task left

some_same : (a b : ℕ) → Some a ≡ Some b → a ≡ b
some_same a b e = cc

runnable_asleep : (state : State) → is_runnable state ≡ true → is_sleep state ≡ true → ⊥
runnable_asleep state runs sleeps = grind (arith, nat_tests, runs, sleeps)

pub runnable_dead : (state : State) → is_runnable state ≡ true → state ≡ dead → ⊥
runnable_dead state runs e =
    let f : is_runnable dead ≡ true = subst (λ (z : State). is_runnable z ≡ true) e runs in grind (arith, f)

asleep_dead : (state : State) → is_sleep state ≡ true → (state.0 == 0x80) ≡ false
asleep_dead state sleeps = grind (arith, nat_tests, sleeps)

module _ (t m n : ℕ) (state : State) (s : ℕ) (a b : TurnView)
    (turn : b ≡ logged (entry.Finish t n s) (logged (dequeue_entry (Some state) m t s) a)) where
  slept_entries : is_sleep state ≡ true → b.entries ≡ a.entries ++ entry.Sleep t (m + 1) s ∷ entry.Finish t n s ∷ []
  slept_entries e =
      entries_twice (dequeue_entry (Some state) m t s) (entry.Finish t n s) a b turn
      ∙ ap (λ (d : Bool). a.entries ++ (if d then entry.Die t (m + 1) s else entry.Sleep t (m + 1) s) ∷ entry.Finish t n s ∷ [])
      (asleep_dead state e)

  pub died_entries : state ≡ dead → b.entries ≡ a.entries ++ entry.Die t (m + 1) s ∷ entry.Finish t n s ∷ []
  died_entries e =
      entries_twice (dequeue_entry (Some state) m t s) (entry.Finish t n s) a b turn
      ∙ ap (λ (z : State). a.entries ++ dequeue_entry (Some z) m t s ∷ entry.Finish t n s ∷ []) e

put_left : (next : Next) (t : ℕ) (state : State) (old new : PassView) → IsPutBack next t state old new → HasLeftBy next t old new
put_left next t state old new put = record {
  state = state;
  queue = put.queue;
  n = put.n + 1;
  read = record {
    added = ClearedBusy t put.n ∷ Gave old.seat (val.Queue put.queue) (val.Queue (left_by t (pushed t put.queue))) ∷ [];
    did = put.did;
  };
  kinds = inl put.runs;
  others = λ asks runs. put.others asks;
  back = λ runs. entries_once (entry.Finish t (put.n + 1) old.seat) old.turn new.turn put.turn;
  sleeps = λ e. absurd (runnable_asleep state put.runs e);
  dies = λ e. absurd (runnable_dead state put.runs e);
}

runnable_stops : (state : State) → is_runnable state ≡ true → (is_sleep state ≡ true) ⊎ (state ≡ dead) → ⊥
runnable_stops state runs (inl e) = runnable_asleep state runs e
runnable_stops state runs (inr e) = runnable_dead state runs e

gone_left : (next : Next) (t : ℕ) (state : State) (m : ℕ) (old new : PassView) → IsGone t state m old new
    → HasLeftBy next t old new
gone_left next t state m old new gone = record {
  state = state;
  queue = gone.queue;
  n = gone.n + 1;
  read = record {
    added = ClearedBusy t gone.n ∷ Gave old.seat (val.Queue gone.queue) (val.Queue (left_by t gone.queue))
        ∷ Dequeued t old.seat gone.before ∷ [];
    did = gone.did;
  };
  kinds = inr gone.stops;
  others = λ asks runs. absurd (runnable_stops state runs gone.stops);
  back = λ runs. absurd (runnable_stops state runs gone.stops);
  sleeps = λ e. (gone.before + 1, slept_entries t gone.before (gone.n + 1) state old.seat old.turn new.turn gone.turn e);
  dies = λ e. (gone.before + 1, died_entries t gone.before (gone.n + 1) state old.seat old.turn new.turn gone.turn e);
}

left_by_state : (t : ℕ) (next : Next) (old new : PassView) → HasLeft next old new → current_task old.seat old.trace ≡ Some t
    → HasLeftBy next t old new
left_by_state t next old new (inl left) e = absurd (let no : None ≡ Some t = sym left.0 ∙ e in cc)
left_by_state t next old new (inr (inl left)) e =
    put_left next t left.1 old new (subst (λ (u : ℕ). IsPutBack next u left.1 old new)
    (some_same left.0 t (sym left.2.read.current ∙ e)) left.2)
left_by_state t next old new (inr (inr left)) e =
    gone_left next t left.1 left.2 old new (subst (λ (u : ℕ). IsGone u left.1 left.2 old new)
    (some_same left.0 t (sym left.3.read.current ∙ e)) left.3)

picked_later : (t u : ℕ) (old mid new : PassView) → HasLeftBy asked.Task t old mid → IsPicked u mid new
    → HasLeftFirst asked.Task t old new
picked_later t u old mid new left (inl first) = record {
  between = mid;
  left = left;
  later = record {
    added = Gave mid.seat (val.Queue first.queue) (val.Queue (record first.queue { waiting = first.rest; cur = Some u }))
        ∷ SetBusy u mid.seat first.n ∷ Took mid.seat (val.Queue first.queue) ∷ [];
    did = first.did;
  };
  picks = entry.Pick u (first.n + 1) mid.seat ∷ [];
  entries = entries_once (entry.Pick u (first.n + 1) mid.seat) mid.turn new.turn first.turn;
}
picked_later t u old mid new left (inr next) = record {
  between = mid;
  left = left;
  later = record {
    added = Gave mid.seat (val.Queue next.queue) (val.Queue next.queue) ∷ SetBusy u mid.seat next.n
        ∷ Took mid.seat (val.Queue next.queue) ∷ [];
    did = next.did;
  };
  picks = entry.Pick u (next.n + 1) mid.seat ∷ [];
  entries = entries_once (entry.Pick u (next.n + 1) mid.seat) mid.turn new.turn next.turn;
}

idle_later : (t : ℕ) (old mid new : PassView) → HasLeftBy asked.Task t old mid → IsEmpty mid new
    → HasLeftFirst asked.Task t old new
idle_later t old mid new left empty = record {
  between = mid;
  left = left;
  later = record {
    added = Gave mid.seat (val.Queue empty.queue) (val.Queue empty.queue) ∷ Took mid.seat (val.Queue empty.queue) ∷ [];
    did = empty.did;
  };
  picks = [];
  entries = ap (λ (z : TurnView). z.entries) empty.turn ∙ sym (append-nil mid.turn.entries);
}

pub left_first : (t : ℕ) (next : Next) (answer : Switch) (old new : PassView) → DidSwitch next old new answer
    → current_task old.seat old.trace ≡ Some t → ((next ≡ asked.Task) × IsKept t old new) ⊎ HasLeftFirst next t old new
left_first t asked.Task (switch.Running u) old new (inl kept) e =
    inl (refl, subst (λ (x : ℕ). IsKept x old new) (some_same u t (sym kept.read.current ∙ e)) kept)
left_first t asked.Task (switch.Running u) old new (inr (mid, left, picked)) e =
    inr (picked_later t u old mid new (left_by_state t asked.Task old mid left e) picked)
left_first t asked.Task switch.Idle old new (mid, left, empty) e =
    inr (idle_later t old mid new (left_by_state t asked.Task old mid left e) empty)
left_first t asked.Task switch.Nobody old new did e = absurd did
left_first t asked.Nobody (switch.Running u) old new did e = absurd did
left_first t asked.Nobody switch.Idle old new did e = absurd did
left_first t asked.Nobody switch.Nobody old new did e = inr (record {
  between = new;
  left = left_by_state t asked.Nobody old new did e;
  later = record { added = []; did = refl };
  picks = [];
  entries = sym (append-nil new.turn.entries);
})

-- A death

still_dead : (state : State) → IsStill dead state → state ≡ dead
still_dead state (inl e) = e
still_dead state (inr e) = absurd (e.1 refl)

put_lives : (next : Next) (t : ℕ) (state : State) (old new : PassView) → IsPutBack next t state old new
    → last_own old.trace t ≡ Some dead → ⊥
put_lives next t state old new put e = runnable_dead state put.runs (still_dead state (put.read.still dead e))

pub kept_lives : (t u : ℕ) (old new : PassView) → IsKept u old new → current_task old.seat old.trace ≡ Some t
    → last_own old.trace t ≡ Some dead → ⊥
kept_lives t u old new kept current e =
    let same : u ≡ t = some_same u t (sym kept.read.current ∙ current) in
    runnable_dead kept.state kept.runs
    (still_dead kept.state (kept.read.still dead (ap (last_own old.trace) same ∙ e)))

gone_died : (t : ℕ) (state : State) (m : ℕ) (old new : PassView) → IsGone t state m old new → last_own old.trace t ≡ Some dead
    → HasDied t old new
gone_died t state m old new gone e = record {
  m = gone.before + 1;
  n = gone.n + 1;
  later = [];
  entries = died_entries t gone.before (gone.n + 1) state old.seat old.turn new.turn gone.turn
      (still_dead state (gone.read.still dead e));
}

left_died : (t : ℕ) (next : Next) (old new : PassView) → HasLeft next old new → current_task old.seat old.trace ≡ Some t
    → last_own old.trace t ≡ Some dead → HasDied t old new
left_died t next old new (inl left) current e = absurd (let no : None ≡ Some t = sym left.0 ∙ current in cc)
left_died t next old new (inr (inl left)) current e =
    absurd (put_lives next t left.1 old new (subst (λ (u : ℕ). IsPutBack next u left.1 old new)
    (some_same left.0 t (sym left.2.read.current ∙ current)) left.2) e)
left_died t next old new (inr (inr left)) current e =
    gone_died t left.1 left.2 old new (subst (λ (u : ℕ). IsGone u left.1 left.2 old new)
    (some_same left.0 t (sym left.3.read.current ∙ current)) left.3) e

died_more : (t : ℕ) (e : Entry) (old mid new : PassView) → HasDied t old mid → new.turn ≡ logged e mid.turn → HasDied t old new
died_more t e old mid new died turn = record {
  m = died.m;
  n = died.n;
  later = died.later ++ e ∷ [];
  entries = entries_once e mid.turn new.turn turn ∙ ap (λ (x : List Entry). x ++ e ∷ []) died.entries
      ∙ append_assoc old.turn.entries (entry.Die t died.m old.seat ∷ entry.Finish t died.n old.seat ∷ died.later) (e ∷ []);
}

died_same : (t : ℕ) (old mid new : PassView) → HasDied t old mid → new.turn ≡ mid.turn → HasDied t old new
died_same t old mid new died turn = record {
  m = died.m;
  n = died.n;
  later = died.later;
  entries = ap (λ (z : TurnView). z.entries) turn ∙ died.entries;
}

died_picked : (t : ℕ) (next : Next) (old mid new : PassView) (answer : Switch) → HasDied t old mid → DidPick next mid new answer
    → HasDied t old new
died_picked t asked.Task old mid new (switch.Running u) died (inl first) =
    died_more t (entry.Pick u (first.n + 1) mid.seat) old mid new died first.turn
died_picked t asked.Task old mid new (switch.Running u) died (inr second) =
    died_more t (entry.Pick u (second.n + 1) mid.seat) old mid new died second.turn
died_picked t asked.Task old mid new switch.Idle died empty = died_same t old mid new died empty.turn
died_picked t asked.Task old mid new switch.Nobody died did = absurd did
died_picked t asked.Nobody old mid new (switch.Running u) died did = absurd did
died_picked t asked.Nobody old mid new switch.Idle died did = absurd did
died_picked t asked.Nobody old mid new switch.Nobody died did = died_same t old mid new died (ap (λ (p : PassView). p.turn) did)

-- who had stored TASK_DEAD of its current task has its death in its turn
pub died_then : (t : ℕ) (next : Next) (old mid new : PassView) (answer : Switch) → HasLeft next old mid → DidPick next mid new answer
    → current_task old.seat old.trace ≡ Some t → last_own old.trace t ≡ Some dead → HasDied t old new
died_then t next old mid new answer left did current e =
    died_picked t next old mid new answer (left_died t next old mid left current e) did
