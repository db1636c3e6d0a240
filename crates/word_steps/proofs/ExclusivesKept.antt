-- An exclusive entry of a task that sleeps is one that its own seat gave: kept by each kind of step.
use Rattle.std.proofs.Common.{◌≡◌, ◌≢◌, ℕ, suc, inl, inr, refl, sym, ap, subst, ◌∙◌, List, [], ◌∷◌, arith}
use Rattle.std.specs.Prelude.{◌⊎◌, ◌==◌, ◌&&◌, ◌||◌, Bool, true, false, Option, Some, None, IsSome, if◌then◌else◌, unwrap_or}
use Rattle.std.proofs.lemmas.Bool.{cases_eq, cases_Bool, false≢true}
use Rattle.std.proofs.lemmas.Bool.Decides.{nat_tests}
use mathlib.Core.Bool.{not}
use Rattle.core_data.specs.Entries.{has_entry, is_gone}
use Rattle.core_data.specs.Noted.{given_asleep}
use Rattle.core_data.specs.Columns.{put, put_at}
use Rattle.core_data.specs.declared.values.WaitEntry.{WaitEntry}
use Rattle.core_gives.specs.Waits.{MayGiveWait, sleeper_of, has_task}
use Rattle.core_invariant.specs.Invariant.{Holds}
use Rattle.core_journals.proofs.States.{waking-sleep}
use Rattle.core_kinds.specs.Steps.{is_sleep, IsRunnable}
use Rattle.core_kinds.specs.Waking.{IsPlaceable}
use Rattle.core_stores.proofs.Columns.{put_there, put_other}
use Rattle.handoff_data.specs.declared.shape.Shape.{Shape}
use Rattle.handoff_data.specs.declared.state.State.{State}
use Rattle.word_steps.proofs.Puts.{word_here, word_apart, word_beside, fold_here, fold_else}
use Rattle.word_steps.specs.Decode.{Homes, core_of}
use Rattle.word_steps.specs.Exclusives.{exclusive_entry, give_own, gave_exclusively, IsAsleepAt, IsWaiting, ExclusivesHold}
use Rattle.word_steps.specs.Folds.{put_row_if, put_both, current_task, wait_held, is_asleep, has_slept_in}
use Rattle.word_steps.specs.Records.{Rec, Took, Gave, SetBusy, StateSet, StoredCpu}
use Rattle.word_steps.specs.Words.{STATE, CPU, WAIT_LOCK}
use Rattle.word_steps.specs.declared.val.Val.TheVariants as val

pub exclusives_start : (words : ℕ → ℕ → ℕ) (wait : ℕ → Option (List WaitEntry)) → ExclusivesHold words wait (λ s. [])
exclusives_start words wait t k entries a i e = absurd (false≢true a.asleep)

sleeps_not : (state : State) → is_sleep state ≡ true → IsRunnable state → ⊥
sleeps_not state asleep r = grind (arith, nat_tests, asleep, r)

-- a row that is cleared
less_row : (b : Bool) (h : ℕ → ℕ → Bool) (n t k : ℕ) → put_row_if b n false h t k ≡ true → h t k ≡ true
less_row true h n t k e = elim (cases_eq t n) [
  | inl same ↦ absurd (grind (arith, nat_tests, same, e))
  | inr ne ↦ grind (arith, nat_tests, ne, e)
]
less_row false h n t k e = e

no_row : (b : Bool) (h : ℕ → ℕ → Bool) (n k : ℕ) → b ≡ true → put_row_if b n false h n k ≡ true → ⊥
no_row true h n k is e = grind (arith, nat_tests, e)
no_row false h n k is e = false≢true is

same_value : {A : Type 0} (a b : A) → Some a ≡ Some b → a ≡ b
same_value a b e = ap (λ (o : Option _). unwrap_or o a) e

is_or_not : (o : Option ℕ) (t : ℕ) → (o ≡ Some t) ⊎ (o ≢ Some t)
is_or_not None t = inr (λ e. grind (arith, e))
is_or_not (Some u) t = elim (cases_eq u t) [ inl e ↦ inl (ap Some e) | inr ne ↦ inr (λ e. ne (same_value u t e)) ]

module _ (words : ℕ → ℕ → ℕ) (wait : ℕ → Option (List WaitEntry)) (traces : ℕ → List Rec) (s : ℕ)
    (holds : ExclusivesHold words wait traces) where
  -- the seat tells of its gives what it told before
  gave_still : (r : Rec) (t k : ℕ) → gave_exclusively s (r ∷ traces s) t k ≡ gave_exclusively s (traces s) t k → (j : ℕ)
      → gave_exclusively j (traces j) t k ≡ true → gave_exclusively j (put traces s (r ∷ traces s) j) t k ≡ true
  gave_still r t k same j was = elim (cases_eq j s) [
    | inl e ↦ ap (λ (f : ℕ → ℕ → Bool). f t k) (fold_here (gave_exclusively j) traces s r j e)
        ∙ ap (λ (z : ℕ). gave_exclusively z (r ∷ traces s) t k) e ∙ same
        ∙ ap (λ (z : ℕ). gave_exclusively z (traces z) t k) (sym e) ∙ was
    | inr ne ↦ ap (λ (f : ℕ → ℕ → Bool). f t k) (fold_else (gave_exclusively j) traces s r j ne) ∙ was
  ]

  -- a task that sleeps after a step did so before it
  asleep_before : (words' : ℕ → ℕ → ℕ) (r : Rec) (t k : ℕ) → words' t STATE ≡ words t STATE → words' t CPU ≡ words t CPU
      → (is_asleep s (r ∷ traces s) t k ≡ true → is_asleep s (traces s) t k ≡ true)
      → IsAsleepAt words' (put traces s (r ∷ traces s)) t k → IsAsleepAt words traces t k
  asleep_before words' r t k state cpu less a = record {
    state = ap (λ (x : ℕ). is_sleep (record { 0 = x })) (sym state) ∙ a.state;
    asleep = before (words t CPU) (subst (λ (j : ℕ). is_asleep j (put traces s (r ∷ traces s) j) t k ≡ true) cpu a.asleep);
  }
    where
      before : (j : ℕ) → is_asleep j (put traces s (r ∷ traces s) j) t k ≡ true → is_asleep j (traces j) t k ≡ true
      before j now = elim (cases_eq j s) [
        | inl e ↦ subst (λ (z : ℕ). is_asleep z (traces z) t k ≡ true) (sym e)
            (less (ap (λ (z : ℕ). is_asleep z (r ∷ traces s) t k) (sym e)
            ∙ ap (λ (f : ℕ → ℕ → Bool). f t k) (sym (fold_here (is_asleep j) traces s r j e)) ∙ now))
        | inr ne ↦ ap (λ (f : ℕ → ℕ → Bool). f t k) (sym (fold_else (is_asleep j) traces s r j ne)) ∙ now
      ]

  -- a wait queue that no seat took or gave
  waits_before : (r : Rec) (k : ℕ) (entries : List WaitEntry) → wait_held (r ∷ traces s) k ≡ wait_held (traces s) k
      → IsWaiting wait (put traces s (r ∷ traces s)) k entries → IsWaiting wait traces k entries
  waits_before r k entries same (inl home) = inl home
  waits_before r k entries same (inr out) = elim (cases_eq out.0 s) [
    | inl e ↦ inr (s, sym same ∙ ap (λ (f : ℕ → Option (List WaitEntry)). f k) (sym (fold_here wait_held traces s r out.0 e)) ∙ out.1)
    | inr ne ↦ inr (out.0, ap (λ (f : ℕ → Option (List WaitEntry)). f k) (sym (fold_else wait_held traces s r out.0 ne)) ∙ out.1)
  ]

  -- a step that puts no task to sleep, and takes and gives no wait queue: if it changes the state or the processor of a task,
  -- that doesn't sleep
  pub exclusives_step : (words' : ℕ → ℕ → ℕ) (r : Rec)
      → ((t k : ℕ) → is_asleep s (r ∷ traces s) t k ≡ true → is_asleep s (traces s) t k ≡ true)
      → gave_exclusively s (r ∷ traces s) ≡ gave_exclusively s (traces s) → wait_held (r ∷ traces s) ≡ wait_held (traces s)
      → ((t k : ℕ) → IsAsleepAt words' (put traces s (r ∷ traces s)) t k → (words' t STATE ≡ words t STATE) × (words' t CPU ≡ words t CPU))
      → ExclusivesHold words' wait (put traces s (r ∷ traces s))
  exclusives_step words' r less gave waits still t k entries a i e =
      let same = still t k a in
      subst (λ (j : ℕ). gave_exclusively j (put traces s (r ∷ traces s) j) t k ≡ true) (sym same.1)
      (gave_still r t k (ap (λ (f : ℕ → ℕ → Bool). f t k) gave) (words t CPU)
      (holds t k entries (asleep_before words' r t k same.0 same.1 (less t k) a)
      (waits_before r k entries (ap (λ (f : ℕ → Option (List WaitEntry)). f k) waits) i) e))

  -- .. on a word that is neither
  pub exclusives_beside : (n c x : ℕ) (r : Rec) → STATE ≢ c → CPU ≢ c
      → ((t k : ℕ) → is_asleep s (r ∷ traces s) t k ≡ true → is_asleep s (traces s) t k ≡ true)
      → gave_exclusively s (r ∷ traces s) ≡ gave_exclusively s (traces s) → wait_held (r ∷ traces s) ≡ wait_held (traces s)
      → ExclusivesHold (put_at words n c x) wait (put traces s (r ∷ traces s))
  exclusives_beside n c x r state cpu less gave waits =
      exclusives_step (put_at words n c x) r less gave waits
      (λ t k a. (word_beside words n c x t STATE state, word_beside words n c x t CPU cpu))

  pub exclusives_still : (r : Rec) → ((t k : ℕ) → is_asleep s (r ∷ traces s) t k ≡ true → is_asleep s (traces s) t k ≡ true)
      → gave_exclusively s (r ∷ traces s) ≡ gave_exclusively s (traces s) → wait_held (r ∷ traces s) ≡ wait_held (traces s)
      → ExclusivesHold words wait (put traces s (r ∷ traces s))
  exclusives_still r less gave waits = exclusives_step words r less gave waits (λ t k a. (refl, refl))

  -- a store of the state of a task that doesn't sleep after it
  pub exclusives_state : (n x : ℕ) (r : Rec)
      → ((t k : ℕ) → is_asleep s (r ∷ traces s) t k ≡ true → is_asleep s (traces s) t k ≡ true)
      → gave_exclusively s (r ∷ traces s) ≡ gave_exclusively s (traces s) → wait_held (r ∷ traces s) ≡ wait_held (traces s)
      → ((k : ℕ) → is_sleep (record { 0 = x }) ≡ true → is_asleep (words n CPU) (put traces s (r ∷ traces s) (words n CPU)) n k ≡ true → ⊥)
      → ExclusivesHold (put_at words n STATE x) wait (put traces s (r ∷ traces s))
  exclusives_state n x r less gave waits gone =
      exclusives_step (put_at words n STATE x) r less gave waits (λ t k a. elim (cases_eq t n) [
        | inl e ↦ absurd (woken k (subst (λ (u : ℕ). IsAsleepAt (put_at words n STATE x) (put traces s (r ∷ traces s)) u k) e a))
        | inr ne ↦ (word_apart words n STATE x t STATE ne, word_apart words n STATE x t CPU ne)
      ])
    where
      cpu : put_at words n STATE x n CPU ≡ words n CPU
      cpu = word_beside words n STATE x n CPU (λ e. omega (arith, e))

      woken : (k : ℕ) → IsAsleepAt (put_at words n STATE x) (put traces s (r ∷ traces s)) n k → ⊥
      woken k a = gone k (ap (λ (z : ℕ). is_sleep (record { 0 = z })) (sym (word_here words n STATE x)) ∙ a.state)
          (subst (λ (j : ℕ). is_asleep j (put traces s (r ∷ traces s) j) n k ≡ true) cpu a.asleep)

  pub set_busy_exclusives : (n c m x b : ℕ) → STATE ≢ b → CPU ≢ b
      → ExclusivesHold (put_at words n b x) wait (put traces s (SetBusy n c m ∷ traces s))
  set_busy_exclusives n c m x b state cpu =
      exclusives_beside n b x (SetBusy n c m) state cpu (λ t k e. less_row true (is_asleep s (traces s)) n t k e) refl refl

  module _ (shape : Shape) (homes : Homes) (core : Holds (core_of shape words homes traces)) where
    pub set_state_exclusives : (n x : ℕ) → current_task s (traces s) ≡ Some n
        → ExclusivesHold (put_at words n STATE x) wait (put traces s (StateSet n (record { 0 = x }) ∷ traces s))
    set_state_exclusives n x current =
        exclusives_state n x (StateSet n (record { 0 = x }))
        (λ t k e. less_row (is_sleep (record { 0 = x })) (is_asleep s (traces s)) n t k e) refl refl
        (λ k sleeps e. no_row (is_sleep (record { 0 = x })) (is_asleep s (traces s)) n k sleeps (sym (own k) ∙ e))
      where
        here : words n CPU ≡ s
        here = core.busy.runner.current_here s n current

        own : (k : ℕ) → is_asleep (words n CPU) (put traces s (StateSet n (record { 0 = x }) ∷ traces s) (words n CPU)) n k
            ≡ is_asleep s (StateSet n (record { 0 = x }) ∷ traces s) n k
        own k = ap (λ (j : ℕ). is_asleep j (put traces s (StateSet n (record { 0 = x }) ∷ traces s) j) n k) here
            ∙ ap (λ (f : ℕ → ℕ → Bool). f n k) (fold_here (is_asleep s) traces s (StateSet n (record { 0 = x })) s refl)

    -- a task that a seat places doesn't sleep
    placed_awake : (n : ℕ) → IsPlaceable (core_of shape words homes traces) s n → is_sleep (record { 0 = words n STATE }) ≡ true → ⊥
    placed_awake n (inl new) asleep = sleeps_not (record { 0 = words n STATE }) asleep (core.places.new_states.runnable n new)
    placed_awake n (inr (inl claimed)) asleep = waking-sleep (record { 0 = words n STATE }) claimed.1 asleep
    placed_awake n (inr (inr moving)) asleep = sleeps_not (record { 0 = words n STATE }) asleep (core.places.moving.runnable n moving)

    pub store_cpu_exclusives : (n x : ℕ) → IsPlaceable (core_of shape words homes traces) s n
        → ExclusivesHold (put_at words n CPU x) wait (put traces s (StoredCpu n x ∷ traces s))
    store_cpu_exclusives n x placeable =
        exclusives_step (put_at words n CPU x) (StoredCpu n x) (λ t k e. e) refl refl (λ t k a. elim (cases_eq t n) [
          | inl e ↦ absurd (placed_awake n placeable (ap (λ (z : ℕ). is_sleep (record { 0 = z }))
              (ap (λ (u : ℕ). words u STATE) (sym e) ∙ sym (state t)) ∙ a.state))
          | inr ne ↦ (state t, word_apart words n CPU x t CPU ne)
        ])
      where
        state : (t : ℕ) → put_at words n CPU x t STATE ≡ words t STATE
        state t = word_beside words n CPU x t STATE (λ e. omega (arith, e))

  -- Wait queues

  pub take_wait_exclusives : (n x : ℕ) (v : List WaitEntry) → wait n ≡ Some v
      → ExclusivesHold (put_at words n WAIT_LOCK x) (put wait n None) (put traces s (Took n (val.Wait v) ∷ traces s))
  take_wait_exclusives n x v home t k entries a i e =
      subst (λ (j : ℕ). gave_exclusively j (put traces s (Took n (val.Wait v) ∷ traces s) j) t k ≡ true) (sym cpu)
      (gave_still (Took n (val.Wait v)) t k refl (words t CPU)
      (holds t k entries (asleep_before (put_at words n WAIT_LOCK x) (Took n (val.Wait v)) t k state cpu (λ z. z) a) (before i) e))
    where
      cpu : put_at words n WAIT_LOCK x t CPU ≡ words t CPU
      cpu = word_beside words n WAIT_LOCK x t CPU (λ z. omega (arith, z))

      state : put_at words n WAIT_LOCK x t STATE ≡ words t STATE
      state = word_beside words n WAIT_LOCK x t STATE (λ z. omega (arith, z))

      mine : wait_held (Took n (val.Wait v) ∷ traces s) k ≡ Some entries → IsWaiting wait traces k entries
      mine held = elim (cases_eq k n) [
        | inl same ↦ inl (ap wait same ∙ home ∙ sym (put_there (wait_held (traces s)) n (Some v) k same) ∙ held)
        | inr ne ↦ inr (s, sym (put_other (wait_held (traces s)) n (Some v) k ne) ∙ held)
      ]

      before : IsWaiting (put wait n None) (put traces s (Took n (val.Wait v) ∷ traces s)) k entries → IsWaiting wait traces k entries
      before (inl there) = elim (cases_eq k n) [
        | inl same ↦ absurd (grind (arith, sym (put_there wait n None k same) ∙ there))
        | inr ne ↦ inl (sym (put_other wait n None k ne) ∙ there)
      ]
      before (inr out) = elim (cases_eq out.0 s) [
        | inl same ↦ mine (ap (λ (f : ℕ → Option (List WaitEntry)). f k) (sym (fold_here wait_held traces s (Took n (val.Wait v)) out.0 same)) ∙ out.1)
        | inr ne ↦ inr (out.0, ap (λ (f : ℕ → Option (List WaitEntry)). f k) (sym (fold_else wait_held traces s (Took n (val.Wait v)) out.0 ne)) ∙ out.1)
      ]

-- what a give tells of a task that isn't the current one, or of another condition

abbrev IsOther : Option ℕ → ℕ → ℕ → ℕ → Type 0
IsOther current n t k = (current ≢ Some t) ⊎ (k ≢ n)

own_not : (u t n k : ℕ) → IsOther (Some u) n t k → ((t == u) && (k == n)) ≡ false
own_not u t n k (inl other) = elim (cases_eq t u) [
  | inl e ↦ absurd (other (ap Some (sym e)))
  | inr ne ↦ grind (arith, nat_tests, ne)
]
own_not u t n k (inr ne) = elim (cases_Bool (t == u)) [ inl e ↦ grind (arith, nat_tests, e, ne) | inr e ↦ grind (arith, nat_tests, e) ]

give_other : (current : Option ℕ) (n : ℕ) (given : List WaitEntry) (h : ℕ → ℕ → Bool) (t k : ℕ) → IsOther current n t k
    → give_own current n given h t k ≡ h t k
give_other None n given h t k other = refl
give_other (Some u) n given h t k other =
    ap (λ (b : Bool). if b then has_entry given (exclusive_entry u) else h t k) (own_not u t n k other)

kept_if : (b c : Bool) → (not b && c) ≡ true → c ≡ true
kept_if true c e = absurd (false≢true e)
kept_if false c e = e

sleeps_other : (current : Option ℕ) (slept : ℕ → Bool) (n : ℕ) (taken given : List WaitEntry) (h : ℕ → ℕ → Bool) (t k : ℕ)
    → IsOther current n t k → given_asleep n taken given (sleeper_of current slept given) h t k ≡ true → h t k ≡ true
sleeps_other None slept n taken given h t k other e = kept_if ((k == n) && is_gone taken given t) (h t k) e
sleeps_other (Some u) slept n taken given h t k other now = which (has_task given u && slept u) now
  where
    which : (b : Bool) → given_asleep n taken given (if b then Some u else None) h t k ≡ true → h t k ≡ true
    which true e = kept_if ((k == n) && is_gone taken given t) (h t k)
        (sym (ap (λ (b : Bool). b || (not ((k == n) && is_gone taken given t) && h t k)) (own_not u t n k other)) ∙ e)
    which false e = kept_if ((k == n) && is_gone taken given t) (h t k) e

module _ (shape : Shape) (words : ℕ → ℕ → ℕ) (homes : Homes) (traces : ℕ → List Rec) (s : ℕ)
    (holds : ExclusivesHold words homes.wait traces) (core : Holds (core_of shape words homes traces))
    (n x : ℕ) (taken given : List WaitEntry) (held : wait_held (traces s) n ≡ Some taken)
    (may : MayGiveWait (core_of shape words homes traces) s n given) where
  abbrev after : ℕ → List Rec
  after = put traces s (Gave n (val.Wait taken) (val.Wait given) ∷ traces s)

  -- who has a wait queue out after the give had it out before, and it is another one
  out_before : (q k : ℕ) (entries : List WaitEntry) → wait_held (after q) k ≡ Some entries
      → (k ≢ n) × (wait_held (traces q) k ≡ Some entries)
  out_before q k entries out = elim (cases_eq q s) [
    | inl e ↦ mine (ap (λ (f : ℕ → Option (List WaitEntry)). f k) (sym (fold_here wait_held traces s (Gave n (val.Wait taken) (val.Wait given)) q e)) ∙ out) e
    | inr ne ↦ let was = ap (λ (f : ℕ → Option (List WaitEntry)). f k) (sym (fold_else wait_held traces s (Gave n (val.Wait taken) (val.Wait given)) q ne)) ∙ out in
        (λ same. ne (one q (ap (wait_held (traces q)) (sym same) ∙ was)), was)
  ]
    where
      mine : wait_held (Gave n (val.Wait taken) (val.Wait given) ∷ traces s) k ≡ Some entries → q ≡ s
          → (k ≢ n) × (wait_held (traces q) k ≡ Some entries)
      mine now e = elim (cases_eq k n) [
        | inl same ↦ absurd (grind (arith, sym (put_there (wait_held (traces s)) n None k same) ∙ now))
        | inr ne ↦ (ne, ap (λ (z : ℕ). wait_held (traces z) k) e ∙ sym (put_other (wait_held (traces s)) n None k ne) ∙ now)
      ]

      one : (j : ℕ) → wait_held (traces j) n ≡ Some entries → j ≡ s
      one j there = same_value j s
          (sym (core.locks.waits.out_held j n (subst (λ (o : Option (List WaitEntry)). IsSome o) (sym there) refl)) ∙ may.locked)

  entry_before : (t k : ℕ) (entries : List WaitEntry) → IsOther (current_task s (traces s)) n t k
      → IsWaiting (put homes.wait n (Some given)) after k entries → has_entry entries (exclusive_entry t) ≡ true
      → (was : List WaitEntry) × IsWaiting homes.wait traces k was × (has_entry was (exclusive_entry t) ≡ true)
  entry_before t k entries other (inr out) e =
      let was = out_before out.0 k entries out.1 in (entries, inr (out.0, was.1), e)
  entry_before t k entries other (inl home) e = elim (cases_eq k n) [
    | inr ne ↦ (entries, inl (sym (put_other homes.wait n (Some given) k ne) ∙ home), e)
    | inl same ↦
        let is : given ≡ entries = same_value given entries (sym (put_there homes.wait n (Some given) k same) ∙ home) in
        (taken, inr (s, ap (wait_held (traces s)) same ∙ held), there same (ap (λ (z : List WaitEntry). has_entry z (exclusive_entry t)) is ∙ e))
  ]
    where
      there : k ≡ n → has_entry given (exclusive_entry t) ≡ true → has_entry taken (exclusive_entry t) ≡ true
      there same has = elim (cases_Bool (has_entry taken (exclusive_entry t))) [
        | inl q ↦ q
        | inr q ↦ absurd (put_in other (may.put_in taken (exclusive_entry t) held has q).0)
      ]
        where
          put_in : IsOther (current_task s (traces s)) n t k → current_task s (traces s) ≡ Some t → ⊥
          put_in (inl ne) is = ne is
          put_in (inr ne) is = ne same

  pub give_wait_exclusives : ExclusivesHold (put_at words n WAIT_LOCK x) (put homes.wait n (Some given)) after
  give_wait_exclusives t k entries a i e =
      subst (λ (j : ℕ). gave_exclusively j (after j) t k ≡ true) (sym cpu)
      (elim (cases_eq k n) [
        | inr ne ↦ others (inr ne)
        | inl same ↦ elim (is_or_not (current_task s (traces s)) t) [ inr ne ↦ others (inl ne) | inl is ↦ own same is ]
      ])
    where
      cpu : put_at words n WAIT_LOCK x t CPU ≡ words t CPU
      cpu = word_beside words n WAIT_LOCK x t CPU (λ z. omega (arith, z))

      state : put_at words n WAIT_LOCK x t STATE ≡ words t STATE
      state = word_beside words n WAIT_LOCK x t STATE (λ z. omega (arith, z))

      others : IsOther (current_task s (traces s)) n t k → gave_exclusively (words t CPU) (after (words t CPU)) t k ≡ true
      others other =
          let was = entry_before t k entries other i e in
          gave_still words homes.wait traces s holds (Gave n (val.Wait taken) (val.Wait given)) t k
          (give_other (current_task s (traces s)) n given (gave_exclusively s (traces s)) t k other) (words t CPU)
          (holds t k was.0 (asleep_before words homes.wait traces s holds (put_at words n WAIT_LOCK x) (Gave n (val.Wait taken) (val.Wait given)) t k state cpu
          (λ z. sleeps_other (current_task s (traces s)) (has_slept_in (traces s) n) n taken given (is_asleep s (traces s)) t k other z) a)
          was.1 was.2)

      own : k ≡ n → current_task s (traces s) ≡ Some t → gave_exclusively (words t CPU) (after (words t CPU)) t k ≡ true
      own same is =
          let here : words t CPU ≡ s = core.busy.runner.current_here s t is in
          ap (λ (j : ℕ). gave_exclusively j (after j) t k) here
          ∙ ap (λ (f : ℕ → ℕ → Bool). f t k) (fold_here (gave_exclusively s) traces s (Gave n (val.Wait taken) (val.Wait given)) s refl)
          ∙ ap (λ (o : Option ℕ). give_own o n given (gave_exclusively s (traces s)) t k) is
          ∙ given_own (mine i)
        where
          mine : IsWaiting (put homes.wait n (Some given)) after k entries → given ≡ entries
          mine (inl home) = same_value given entries (sym (put_there homes.wait n (Some given) k same) ∙ home)
          mine (inr out) = absurd ((out_before out.0 k entries out.1).0 same)

          given_own : given ≡ entries → put_both (gave_exclusively s (traces s)) t n (has_entry given (exclusive_entry t)) t k ≡ true
          given_own q =
              let test : ((t == t) && (k == n)) ≡ true = grind (arith, nat_tests, same) in
              ap (λ (b : Bool). if b then has_entry given (exclusive_entry t) else gave_exclusively s (traces s) t k) test
              ∙ ap (λ (z : List WaitEntry). has_entry z (exclusive_entry t)) q ∙ e
