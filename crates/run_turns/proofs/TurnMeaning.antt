-- What a turn means, from what it did.
use Rattle.std.proofs.Common.{◌≡◌, ◌∙◌, ℕ, zero, suc, ◌+◌, ◌*◌, ◌++◌, ◌∷◌, [], List, refl, sym, ap, subst, inl, inr, append_assoc}
use Rattle.std.specs.Prelude.{Option, Some, None}
use Rattle.core_data.specs.Queue.{Queue}
use Rattle.core_kinds.specs.Steps.{dead}
use Rattle.handoff_data.specs.declared.entry.Entry.{Entry}
use Rattle.handoff_data.specs.declared.entry.Entry.TheVariants as entry
use Rattle.handoff_data.specs.declared.shape.Shape.{Shape}
use Rattle.handoff_data.specs.declared.state.State.{State}
use Rattle.pipe_bodies.specs.declared.verdict.Then.{Then}
use Rattle.pipe_bodies.specs.declared.verdict.Then.TheVariants as verdict
use Rattle.pipe_bodies.specs.declared.verdict.Verdict.{Verdict}
use Rattle.run_cells.specs.NetMaps.{side_of}
use Rattle.run_cells.specs.Telling.{cleared}
use Rattle.run_cells.specs.declared.net_map.Inputs.{Inputs}
use Rattle.run_turns.proofs.Raising.{more, raises_then, switched_raise, marked_raise, left_cond_raise, load_raise, load_side_raise, had_raise, before_raise, raised_after, after_raise, run_raise}
use Rattle.run_turns.specs.Conds.{put_out, load_of}
use Rattle.run_turns.specs.Laws.{inputs_at, raises_of, HasRaised, WasPickedAndRun, HasIdled, HasWaited, HasDiedNow}
use Rattle.run_turns.specs.Turns.{WasSwitched, WasSentToSleep, Sleeps, Dies, GoesAs, HasRun, DidTurn}
use Rattle.run_turns.specs.declared.turn.Turned.TheVariants as turned
use Rattle.sched_switch.proofs.SwitchLaws.{picked_front, found_none, runnable_dead, died_entries}
use Rattle.sched_switch.specs.Currents.{current_slept}
use Rattle.sched_switch.specs.Laws.{IsAtFront, HasFoundNone}
use Rattle.sched_switch.specs.Switches.{IsGone, DidSwitch, looked, left_by}
use Rattle.sched_switch.specs.declared.answer.Next.TheVariants as asked
use Rattle.sched_switch.specs.declared.answer.Slept.{Slept}
use Rattle.sched_switch.specs.declared.answer.Slept.TheVariants as slept
use Rattle.sched_switch.specs.declared.answer.Switch.{Switch}
use Rattle.sched_switch.specs.declared.answer.Switch.TheVariants as switch
use Rattle.task_words.specs.Views.{PassView}
use Rattle.ttwu_core.specs.Orders.{IsSince}
use Rattle.word_rule.specs.Own.{IsStill, last_own}
use Rattle.word_steps.specs.Folds.{current_task}
use Rattle.word_steps.specs.Records.{Rec, Gave, Dequeued, ClearedBusy, LoadedCond, OutBody, HomeBody}
use Rattle.word_steps.specs.declared.val.Val.TheVariants as val

-- Idle, or a task that was picked

pub idled : (old new : PassView) → WasSwitched asked.Task switch.Idle old new → HasIdled old new
idled old new did = record {
  none = subst (λ (p : PassView). HasFoundNone old p) (sym did.is_told) (record {
    before = none.before;
    queue = none.queue;
    start = none.start;
    did = none.did;
    none = none.none;
  });
  raised = switched_raise asked.Task switch.Idle old new did;
}
  where
    none : HasFoundNone old did.made
    none = found_none old did.made did.did

front_told : (t : ℕ) (old made : PassView) → IsAtFront t old made → IsAtFront t old (cleared made)
front_told t old made front = record {
  before = front.before;
  queue = front.queue;
  stood = front.stood;
  start = front.start;
  taken = front.taken;
  put_back = front.put_back;
  front = front.front;
}

since : {xs : List ℕ} {a b : List Rec} → HasRaised xs a b → IsSince a b
since x = record { added = x.added; did = x.did }

since_then : {a b c : List Rec} → IsSince a b → IsSince b c → IsSince a c
since_then {a} x y = record {
  added = y.added ++ x.added;
  did = y.did ∙ ap (λ (z : List Rec). y.added ++ z) x.did ∙ sym (append_assoc y.added x.added a);
}

since_by : {a b c : List Rec} → b ≡ a → IsSince b c → IsSince a c
since_by {a} {b} {c} is x = subst (λ (z : List Rec). IsSince z c) is x

-- a task is current after a sleep only where another value was read
changed_only : (before : Option ℕ) (answer : Slept) (u : ℕ) → current_slept before answer ≡ Some u
    → (now : ℕ) × (answer ≡ slept.Changed now)
changed_only before (slept.Slept m) u is = absurd (let no : None ≡ Some u = is in cc)
changed_only before slept.Woken u is = absurd (let no : None ≡ Some u = is in cc)
changed_only before (slept.Changed now) u is = (now, refl)

-- A death

-- t left by TASK_DEAD, and the turn got its death and the end of its run
record IsDeadNow (t : ℕ) (old new : PassView) : Type 0 where
  queue : Queue
  m : ℕ
  n : ℕ
  left : IsSince (looked new.seat t dead queue old.trace) new.trace
  entries : new.turn.entries ≡ old.turn.entries ++ entry.Die t m new.seat ∷ entry.Finish t n new.seat ∷ []

some_same : (a b : ℕ) → Some a ≡ Some b → a ≡ b
some_same a b e = cc

still_dead : (state : State) → IsStill dead state → state ≡ dead
still_dead state (inl e) = e
still_dead state (inr e) = absurd (e.1 refl)

gone_dead : (t m : ℕ) (old new : PassView) → IsGone t dead m old new → IsDeadNow t old new
gone_dead t m old new gone = record {
  queue = gone.queue;
  m = gone.before + 1;
  n = gone.n + 1;
  left = subst (λ (s : ℕ). IsSince (looked s t dead gone.queue old.trace) new.trace) (sym gone.same_seat) (record {
    added = ClearedBusy t gone.n ∷ Gave old.seat (val.Queue gone.queue) (val.Queue (left_by t gone.queue))
        ∷ Dequeued t old.seat gone.before ∷ [];
    did = gone.did;
  });
  entries = subst (λ (s : ℕ). new.turn.entries ≡ old.turn.entries ++ entry.Die t (gone.before + 1) s ∷ entry.Finish t (gone.n + 1) s ∷ [])
      (sym gone.same_seat) (died_entries t gone.before (gone.n + 1) dead old.seat old.turn new.turn gone.turn refl);
}

dead_now : (t : ℕ) (answer : Switch) (old new : PassView) → DidSwitch asked.Nobody old new answer
    → current_task old.seat old.trace ≡ Some t → last_own old.trace t ≡ Some dead → IsDeadNow t old new
dead_now t (switch.Running u) old new did current marks = absurd did
dead_now t switch.Idle old new did current marks = absurd did
dead_now t switch.Nobody old new (inl left) current marks = absurd (let no : None ≡ Some t = sym left.0 ∙ current in cc)
dead_now t switch.Nobody old new (inr (inl left)) current marks =
    let same : left.0 ≡ t = some_same left.0 t (sym left.2.read.current ∙ current) in
    absurd (runnable_dead left.1 left.2.runs (still_dead left.1 (left.2.read.still dead (ap (last_own old.trace) same ∙ marks))))
dead_now t switch.Nobody old new (inr (inr left)) current marks =
    let same : left.0 ≡ t = some_same left.0 t (sym left.3.read.current ∙ current) in
    let is : left.1 ≡ dead = still_dead left.1 (left.3.read.still dead (ap (last_own old.trace) same ∙ marks)) in
    gone_dead t left.2 old new
    (subst (λ (z : ℕ × State). IsGone z.0 z.1 left.2 old new) (λ i. (same i, is i)) left.3)

dead_told : (t : ℕ) (start marked made new : PassView) → IsSince start.trace marked.trace → IsDeadNow t marked made → new ≡ cleared made
    → HasDiedNow t start new
dead_told t start marked made new first died is = subst (λ (p : PassView). HasDiedNow t start p) (sym is) (record {
  before = marked.trace;
  queue = died.queue;
  m = died.m;
  n = died.n;
  earlier = made.told ++ marked.turn.entries;
  start = first;
  left = died.left;
  told = ap (λ (z : List Entry). made.told ++ z) died.entries
      ∙ sym (append_assoc made.told marked.turn.entries (entry.Die t died.m made.seat ∷ entry.Finish t died.n made.seat ∷ []));
})

module _ (shape : Shape) (inputs : Inputs) (t : ℕ) (v : Verdict) (old new : PassView) (run : HasRun shape inputs t v old new) where
  -- from the end of the body's turn to the sleep or the death, and to the end
  raised_before : HasRaised (raises_of inputs t v) run.turned.trace run.after.wrote.trace
  raised_before = raised_after shape inputs run.values t v run.turned new run.after

  turn_before : IsSince (HomeBody t run.had.ended ∷ OutBody t run.had.was ∷ run.loaded.trace) run.after.wrote.trace
  turn_before = since_by run.had.did (since raised_before)

  turn_since : IsSince (HomeBody t run.had.ended ∷ OutBody t run.had.was ∷ run.loaded.trace) new.trace
  turn_since = since_by run.had.did (since (after_raise shape inputs run.values t v run.turned new run.after))

  left_since : IsSince old.trace run.left.trace
  left_since = since (left_cond_raise t old run.left run.leaves)

  picked_and_run : (start : PassView) → IsAtFront t start old → WasPickedAndRun t start new
  picked_and_run start front = record {
    picked = old;
    home = run.loaded.trace;
    was = run.had.was;
    ended = run.had.ended;
    front = front;
    before = since (before_raise shape inputs t v old new run);
    turn = turn_since;
  }

  -- it was asked to sleep at k with w, which was loaded
  waited : (start : PassView) (k w : ℕ) (before : List Rec) → IsSince start.trace before → IsSince (LoadedCond k w ∷ before) run.loaded.trace
      → WasSentToSleep k w run.after.wrote new → HasWaited t k start new
  waited start k w before first load sent = record {
    v = w;
    before = before;
    home = run.loaded.trace;
    was = run.had.was;
    ended = run.had.ended;
    asked = run.after.wrote;
    made = sent.made;
    answer = sent.answer;
    start = first;
    loaded = load;
    turn = turn_before;
    did = sent.did;
    is_told = sent.is_told;
    stays = λ u is. changed_only (current_task run.after.wrote.seat run.after.wrote.trace) sent.answer u
        (sym sent.is_current ∙ sym (ap (λ (p : PassView). current_task p.seat p.trace) sent.is_told) ∙ is);
  }

  -- what was loaded

  others_load : (a : List Rec) → IsSince a (LoadedCond (2 * t + 1) run.values.out ∷ load_of inputs.right run.values.right a)
  others_load a = since (more refl (load_side_raise inputs.right run.values.right a))

  left_load : (x : ℕ) → inputs.left ≡ Some x → IsSince (LoadedCond (2 * x) run.values.left ∷ run.left.trace) run.loaded.trace
  left_load x is =
      subst (λ (o : Option ℕ). IsSince (load_of o run.values.left run.left.trace) run.loaded.trace) is
      (subst (λ (z : List Rec). IsSince (load_of inputs.left run.values.left run.left.trace) z) (sym run.loads)
      (others_load (load_of inputs.left run.values.left run.left.trace)))

  right_load : (x : ℕ) → inputs.right ≡ Some x
      → IsSince (LoadedCond (2 * x) run.values.right ∷ load_of inputs.left run.values.left run.left.trace) run.loaded.trace
  right_load x is =
      subst (λ (o : Option ℕ). IsSince (load_of o run.values.right (load_of inputs.left run.values.left run.left.trace)) run.loaded.trace) is
      (record { added = LoadedCond (2 * t + 1) run.values.out ∷ []; did = run.loads })

  sent : (o : Option ℕ) (k w : ℕ) → o ≡ Some k → Sleeps o w run.after.wrote new → WasSentToSleep k w run.after.wrote new
  sent o k w is did = subst (λ (z : Option ℕ). Sleeps z w run.after.wrote new) is did

  waited_in : (start : PassView) (side x : ℕ) → IsSince start.trace old.trace → v.then ≡ verdict.WaitIn side
      → side_of inputs side ≡ Some x → HasWaited t (2 * x) start new
  waited_in start zero x first then is =
      waited start (2 * x) run.values.left run.left.trace (since_then first left_since) (left_load x is)
      (sent (put_out inputs.left) (2 * x) run.values.left (ap put_out is)
      (subst (λ (z : Then). GoesAs inputs run.values t z run.after.wrote new) then run.after.goes))
  waited_in start (suc n) x first then is =
      waited start (2 * x) run.values.right (load_of inputs.left run.values.left run.left.trace)
      (since_then first (since_then left_since (since (load_side_raise inputs.left run.values.left run.left.trace)))) (right_load x is)
      (sent (put_out inputs.right) (2 * x) run.values.right (ap put_out is)
      (subst (λ (z : Then). GoesAs inputs run.values t z run.after.wrote new) then run.after.goes))

  waited_out : (start : PassView) → IsSince start.trace old.trace → v.then ≡ verdict.WaitOut → HasWaited t (2 * t + 1) start new
  waited_out start first then =
      waited start (2 * t + 1) run.values.out (load_of inputs.right run.values.right (load_of inputs.left run.values.left run.left.trace))
      (since_then first (since_then left_since (since (load_raise inputs.right run.values.right run.left.trace _
      (load_side_raise inputs.left run.values.left run.left.trace)))))
      (record { added = []; did = run.loads })
      (subst (λ (z : Then). GoesAs inputs run.values t z run.after.wrote new) then run.after.goes)

  died_now : (start : PassView) → IsSince start.trace old.trace → v.then ≡ verdict.Exit → HasDiedNow t start new
  died_now start first then =
      let dies : Dies t run.after.wrote new = subst (λ (z : Then). GoesAs inputs run.values t z run.after.wrote new) then run.after.goes in
      dead_told t start dies.marked dies.left.made new
      (since_then first (since_then (since (before_raise shape inputs t v old new run)) (since_then (since (had_raise t run.loaded run.turned run.had))
      (since_then (since raised_before) (since (marked_raise t run.after.wrote dies.marked dies.marks))))))
      (dead_now t dies.answer dies.marked dies.left.made dies.left.did dies.marks.current dies.marks.marks)
      dies.left.is_told

pub turn_picked : (shape : Shape) (net : List Inputs) (t : ℕ) (v : Verdict) (old new : PassView)
    → DidTurn shape net (turned.Ran t v) old new → WasPickedAndRun t old new
turn_picked shape net t v old new did =
    picked_and_run shape did.1 t v did.0 new did.4 old
    (subst (λ (p : PassView). IsAtFront t old p) (sym did.3.is_told) (front_told t old did.3.made (picked_front t old did.3.made did.3.did)))

pub turn_raised : (shape : Shape) (net : List Inputs) (t : ℕ) (v : Verdict) (old new : PassView)
    → DidTurn shape net (turned.Ran t v) old new → HasRaised (raises_of (inputs_at net t) t v) old.trace new.trace
turn_raised shape net t v old new did =
    subst (λ (x : Inputs). HasRaised (raises_of x t v) old.trace new.trace) (did.2 (record { left = None; right = None }))
    (raises_then {xs = []} (switched_raise asked.Task (switch.Running t) old did.0 did.3) (run_raise shape did.1 t v did.0 new did.4))

module _ (shape : Shape) (net : List Inputs) (t : ℕ) (v : Verdict) (old new : PassView) (did : DidTurn shape net (turned.Ran t v) old new) where
  first_since : IsSince old.trace did.0.trace
  first_since = since (switched_raise asked.Task (switch.Running t) old did.0 did.3)

  pub turn_waited_in : (side x : ℕ) → v.then ≡ verdict.WaitIn side → side_of (inputs_at net t) side ≡ Some x → HasWaited t (2 * x) old new
  turn_waited_in side x then is =
      waited_in shape did.1 t v did.0 new did.4 old side x first_since then
      (ap (λ (i : Inputs). side_of i side) (did.2 (record { left = None; right = None })) ∙ is)

  pub turn_waited_out : v.then ≡ verdict.WaitOut → HasWaited t (2 * t + 1) old new
  turn_waited_out then = waited_out shape did.1 t v did.0 new did.4 old first_since then

  pub turn_died : v.then ≡ verdict.Exit → HasDiedNow t old new
  turn_died then = died_now shape did.1 t v did.0 new did.4 old first_since then
