-- No sleeper is missed: what the invariant says of sleepers once no lock is held.
use Rattle.std.proofs.Common.{◌≡◌, ◌≢◌, ◌<◌, ◌≤◌, ◌⊎◌, ℕ, Bool, true, false, length, List, refl, sym, ap, ◌∙◌, subst, inl, inr, arith}
use Rattle.std.specs.Prelude.{Option, Some, None, IsSome, is_some, slice_get, ◌==◌}
use Rattle.std.proofs.lemmas.Bool.Decides.{nat_tests}
use Rattle.core_data.specs.Entries.{has_entry}
use Rattle.core_data.specs.Columns.{Columns}
use Rattle.core_data.specs.declared.values.WaitEntry.{WaitEntry}
use Rattle.core_gives.specs.Waits.{has_task}
use Rattle.core_invariant.specs.Invariant.{Holds}
use Rattle.core_invariant.specs.Sleepers.{IsOwed, IsSafeSleeper, IsAwake, shared_entry}
use Rattle.core_journals.proofs.Chains.{once-change}
use Rattle.core_journals.proofs.States.{waking-sleep, sleep-dead}
use Rattle.core_kinds.specs.Steps.{IsRunnable, is_sleep}
use Rattle.core_sleepers.proofs.Entries.{any-element, element-entry}
use Rattle.handoff_data.specs.Positions.{IsIn}
use Rattle.handoff_data.specs.declared.entry.Entry.{Entry}
use Rattle.handoff_data.specs.declared.entry.Entry.TheVariants as entry
use Rattle.handoff_data.specs.declared.shape.Shape.{Shape}
use Rattle.handoff_data.specs.declared.state.State.{State}
use Rattle.core_law.specs.Laws.{journals_of}
use Rattle.task_words.proofs.Ends.{each_trace, each_map, some_same, got_below, no_current, state_of}
use Rattle.task_words.specs.Closing.{SleptLast, SleepersSlept}
use Rattle.word_steps.specs.Exclusives.{exclusive_entry, gave_exclusively}
use Rattle.word_steps.specs.Decode.{core_of}
use Rattle.word_steps.specs.Folds.{wait_held, tested, is_asleep, owes_walk, has_retaken, has_passed}
use Rattle.word_table.specs.End.{IsIdle, IsEnd, traces_of}
use Rattle.word_table.specs.Ruled.{Each}
use Rattle.word_table.specs.Views.{TokenView}

sleep-runnable : (state : State) → is_sleep state ≡ true → IsRunnable state → ⊥
sleep-runnable state asleep r = grind (arith, nat_tests, asleep, r)

sleep-awake : (state : State) → is_sleep state ≡ true → IsAwake state → ⊥
sleep-awake state asleep awake = elim awake [
  | inl a ↦ grind (arith, nat_tests, asleep, a)
  | inr b ↦ elim b [ inl a ↦ waking-sleep state a asleep | inr a ↦ sleep-dead state asleep a ]
]

-- an entry is exclusive or not
either_entry : (entries : List WaitEntry) (x : WaitEntry) (t : ℕ) → has_entry entries x ≡ true → x.t ≡ t
    → (has_entry entries (shared_entry t) ≡ true) ⊎ (has_entry entries (exclusive_entry t) ≡ true)
either_entry entries x t has is = which x.exclusive (λ j. x.exclusive)
  where
    which : (b : Bool) → x.exclusive ≡ b
        → (has_entry entries (shared_entry t) ≡ true) ⊎ (has_entry entries (exclusive_entry t) ≡ true)
    which true e =
        let same : x ≡ exclusive_entry t = λ j. record { t = is j; exclusive = e j } in
        inr (subst (λ z. has_entry entries z ≡ true) same has)
    which false e =
        let same : x ≡ shared_entry t = λ j. record { t = is j; exclusive = e j } in
        inl (subst (λ z. has_entry entries z ≡ true) same has)

equal_of : (a b : ℕ) → (a == b) ≡ true → a ≡ b
equal_of a b e = grind (arith, nat_tests, e)

of_task : (entries : List WaitEntry) (t : ℕ) → has_task entries t ≡ true
    → (has_entry entries (shared_entry t) ≡ true) ⊎ (has_entry entries (exclusive_entry t) ≡ true)
of_task entries t has =
    let x = any-element (λ (y : WaitEntry). y.t == t) entries has in
    either_entry entries x.0 t (element-entry x.0 entries x.1) (equal_of x.0.t t x.2)

none_of : (o : Option ℕ) → ((q : ℕ) → o ≡ Some q → ⊥) → o ≡ None
none_of None f = refl
none_of (Some q) f = absurd (f q refl)

not_some : {A : Type 0} (o : Option A) → o ≡ None → IsSome o → ⊥
not_some o e is = let no : false ≡ true = sym (ap is_some e) ∙ is in cc

value_of : {A : Type 0} (o : Option A) → IsSome o → (v : A) × (o ≡ Some v)
value_of None is = let no : false ≡ true = is in cc
value_of (Some v) is = (v, refl)

abbrev sleep_at : Entry → ℕ
sleep_at (entry.Sleep t m c) = c
sleep_at e = 0

-- the seat of a sleeper is that of its processor
module _ (core : Columns) (holds : Holds core) (none : (s t : ℕ) → core.current_task s ≢ Some t) (t : ℕ)
    (asleep : is_sleep (core.state t) ≡ true) where
  off : core.on_rq t ≡ 0
  off =
      let one : core.on_rq t ≢ 1 = λ e. elim
      (holds.places.waiting t e (λ s. none s t)) [
        | inl a ↦ sleep-runnable (core.state t) asleep a
        | inr b ↦ waking-sleep (core.state t) b.0 asleep
      ] in
      let two : core.on_rq t ≢ 2 = λ e. sleep-runnable (core.state t) asleep (holds.places.moving.runnable t e) in
      let few = holds.places.on_rq t in omega (arith, few, one, two)

  sleep_there : IsIn (journals_of core) (core.cpu t) (entry.Sleep t (core.changes t) (core.cpu t))
  sleep_there =
      let some : core.changes t ≢ 0 = λ z. sleep-runnable (core.state t) asleep
      (holds.places.new_states.runnable t z) in
      holds.journals.last_changes.asleep t some off (λ d. sleep-dead (core.state t) asleep d)
      (λ w. waking-sleep (core.state t) w asleep)

  slept_last : SleptLast (journals_of core) (core.cpu t) t
  slept_last = record {
    number = core.changes t;
    c = core.cpu t;
    slept = sleep_there;
    last = λ e m there is. holds.journals.numbered.change there.0 there.1.0 e t m there.1.1 is;
  }

  seat_is : (s : ℕ) → SleptLast (journals_of core) s t → core.cpu t ≡ s
  seat_is s at =
      let j = journals_of core in let changes = core.changes t in let p = holds.journals in
      let last = sleep_there in
      let below : at.number ≤ changes = p.numbered.change s at.slept.0
      (entry.Sleep t at.number at.c) t at.number at.slept.1 refl in
      let above : changes ≤ at.number = at.last (entry.Sleep t changes (core.cpu t)) changes (core.cpu t, last) refl in
      let same : changes ≡ at.number = omega (arith, below, above) in
      let entries = once-change j s at.slept.0 (core.cpu t) last.0 (entry.Sleep t at.number at.c)
      (entry.Sleep t changes (core.cpu t)) t at.number p.rules.not_repeated at.slept.1 last.1 refl
      (ap (λ z. Some (t, z)) same) in
      sym (ap sleep_at entries) ∙ (p.rules.in_range s at.slept.0 (entry.Sleep t at.number at.c) at.slept.1).2

-- a safe sleeper with a test has the condition's value, or is owed a walk
safe-tested : (core : Columns) (k t v : ℕ) → is_sleep (core.state t) ≡ true → core.tested (core.cpu t) t k ≡ Some v
    → IsSafeSleeper core k t
    → (core.cond k ≡ v) ⊎ IsOwed core.owes_walk core.has_retaken core.has_passed k t
safe-tested core k t v asleep test safe = elim safe [
  | inl awake ↦ absurd (sleep-awake (core.state t) asleep awake)
  | inr (inl right) ↦ elim right [
    | inl a ↦ absurd (let no : false ≡ true = ap is_some (sym a ∙ test) in cc)
    | inr a ↦ inl (some_same (core.cond k) v (sym a ∙ test))
  ]
  | inr (inr owed) ↦ inr owed
]

module _ {B : Type 0} {ended : B → Bool} {shape : Shape} {tokens : List TokenView} {bodies : List B}
    {states : List State} {conds : List ℕ} (end : IsEnd ended shape tokens bodies states conds)
    (idle : Each IsIdle tokens) where
  abbrev core : Columns
  core = core_of shape end.words end.homes (traces_of tokens)

  no_wait : (k s : ℕ) → wait_held (traces_of tokens s) k ≡ None
  no_wait k = each_trace (λ s trace. wait_held trace k ≡ None) (λ s. refl) tokens
      (each_map IsIdle (λ t. wait_held t.trace k ≡ None) tokens (λ t i. i.waits k) idle)

  waits_home : (k : ℕ) → k < shape.conds → (entries : List WaitEntry) × (core.wait k ≡ Some entries)
  waits_home k lt =
      let locks = end.kept.holds.locks.waits in
      let free = none_of (core.wait_lock k)
      (λ q e. not_some (core.wait_held q k) (no_wait k q) (locks.held_out k q e)) in
      value_of (core.wait k) (locks.free_home k lt free)

  none : (q u : ℕ) → core.current_task q ≢ Some u
  none q u e = let no : false ≡ true = ap is_some
      (sym (no_current end idle q) ∙ e) in cc

  sleeping : length states ≡ shape.tasks → (t : ℕ) (state : State) → slice_get states t ≡ Some state
      → is_sleep state ≡ true → is_sleep (core.state t) ≡ true
  sleeping tasks t state is sleeps =
      let low : t < shape.tasks = (let below = got_below states t state is in omega arith) in
      ap is_sleep (state_of end t state low is) ∙ sleeps

  pub sleepers_slept : length states ≡ shape.tasks → SleepersSlept (journals_of core) states
  sleepers_slept tasks t state is sleeps =
      (core.cpu t, slept_last core end.kept.holds none t (sleeping tasks t state is sleeps))

  pub none_missed : length states ≡ shape.tasks → length conds ≡ shape.conds
      → (s t k v count : ℕ) (state : State) → slice_get states t ≡ Some state → is_sleep state ≡ true
      → slice_get conds k ≡ Some count
      → SleptLast (journals_of core) s t → is_asleep s (traces_of tokens s) t k ≡ true → tested s
      (traces_of tokens s) t k ≡ Some v
      → (count ≡ v)
      ⊎ (IsOwed (λ x. owes_walk (traces_of tokens x)) (λ x. has_retaken (traces_of tokens x))
      (λ x. has_passed (traces_of tokens x)) k t
      ⊎ (gave_exclusively s (traces_of tokens s) t k ≡ true))
  none_missed tasks lengths s t k v count state is sleeps has at asleep test =
      let holds = end.kept.holds in
      let cond : k < shape.conds = (let below = got_below conds k count has in omega arith) in
      let rests = sleeping tasks t state is sleeps in
      let here : core.cpu t ≡ s = seat_is core holds none t rests s at in
      let home = waits_home k cond in
      let there : core.is_asleep (core.cpu t) t k ≡ true = subst (λ (q : ℕ). is_asleep q (traces_of tokens q) t k ≡ true)
      (sym here) asleep in
      let tests : core.tested (core.cpu t) t k ≡ Some v = subst (λ (q : ℕ). tested q (traces_of tokens q) t k ≡ Some v)
      (sym here) test in
      let entry = holds.sleepers.entry_home k t home.0 there rests home.1 in
      let counts : core.cond k ≡ count = some_same (core.cond k) count (sym (end.cond k cond) ∙ has) in
      elim (of_task home.0 t entry) [
        | inl shared ↦ elim (safe-tested core k t v rests tests (holds.sleepers.safe_home k t home.0 home.1 shared)) [
          | inl e ↦ inl (sym counts ∙ e)
          | inr owed ↦ inr (inl owed)
        ]
        | inr exclusive ↦ inr (inr (subst (λ (q : ℕ). gave_exclusively q (traces_of tokens q) t k ≡ true) here
            (end.kept.exclusives t k home.0 (record { state = rests; asleep = there }) (inl home.1) exclusive)))
      ]
