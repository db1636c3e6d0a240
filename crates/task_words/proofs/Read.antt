-- What the loads of a state tell of who may run, since the lock of the seat's own queue was taken.
use Rattle.std.proofs.Common.{◌≡◌, ◌∙◌, ℕ, ◌∷◌, [], List, inl, inr, refl, sym, ap, subst, arith}
use Rattle.std.specs.Prelude.{◌==◌, ◌&&◌, Bool, true, false, Option, Some, None, is_some, if◌then◌else◌}
use Rattle.std.proofs.lemmas.Bool.{cases_Bool, false≢true}
use Rattle.std.proofs.lemmas.Bool.Decides.{nat_tests}
use Rattle.core_data.specs.Queue.{Queue}
use Rattle.core_gives.specs.Queues.{is_some_of}
use Rattle.handoff_data.specs.declared.state.State.{State}
use Rattle.task_words.proofs.Finer.{IsFiner, finer_without, loads_quiet}
use Rattle.task_words.specs.Gives.{is_load, since}
use Rattle.word_rule.specs.Standing.{may_run, is_runnable}
use Rattle.word_steps.specs.Folds.{put_both, current_task, stays_queued, queue_held, seen_state}
use Rattle.word_steps.specs.Records.{Rec, Took, Gave, OutBody, HomeBody, Queued, Dequeued, Moved, SetBusy, ClearedBusy, StateSet, Claimed, MadeRunnable, LoadedState, LoadedRq, LoadedBusy, LoadedCpu}
use Rattle.word_steps.specs.Records.{LoadedCount, StoredCpu, Bumped, LoadedCond}
use Rattle.word_steps.specs.declared.val.Val.TheVariants as val

same_some : (a b : State) → Some a ≡ Some b → a ≡ b
same_some a b e = cc

-- a load of the state of the task t, as it is found to run
module _ (s t u : ℕ) (st state : State) (o : Option State) (h : ℕ → ℕ → Bool) (runs : is_runnable state ≡ true)
    (before : o ≡ Some state → h s t ≡ true) where
  read_known : (b own : Bool) → (b ≡ true → u ≡ t) → (if b && own then Some st else o) ≡ Some state
      → (if b && (true && (own && is_runnable st)) then put_both h s u true else h) s t ≡ true
  read_known true true same seen =
      let can : is_runnable st ≡ true = ap is_runnable (same_some st state seen) ∙ runs in
      subst (λ (b : Bool). (if b then put_both h s u true else h) s t ≡ true) (sym can)
      (subst (λ (k : ℕ). put_both h s k true s t ≡ true) (sym (same refl)) (grind (arith, nat_tests)))
  read_known true false same seen = before seen
  read_known false own same seen = before seen

is_current : (o : Option ℕ) (t u : ℕ) → o ≡ Some t → is_some_of o u ≡ true → u ≡ t
is_current o t u is e = let same : is_some_of (Some t) u ≡ true = ap (λ (z : Option ℕ). is_some_of z u) (sym is) ∙ e in grind (arith, nat_tests, same)

abbrev first_takes : List Rec → Bool
first_takes (Took n (val.Queue v) ∷ rs) = true
first_takes rs = false

abbrev first_taken : List Rec → ℕ
first_taken (Took n (val.Queue v) ∷ rs) = n
first_taken rs = 0

none_seen : {A : Type 0} (b : Bool) (o : Option State) (state : State) → b ≡ true → (if b then None else o) ≡ Some state → A
none_seen true o state own e = absurd (false≢true (ap is_some e))
none_seen false o state own e = absurd (false≢true own)

module _ (s t : ℕ) (state : State) (runs : is_runnable state ≡ true) (v : Queue) (rs : List Rec) where
  abbrev IsReadIn : List Rec → Type 0
  IsReadIn trace = since trace ≡ Took s (val.Queue v) ∷ rs → current_task s trace ≡ Some t → stays_queued trace ≡ true
      → seen_state s trace ≡ Some state → may_run s trace s t ≡ true

  other_first : {A : Type 0} (xs : List Rec) → first_takes xs ≡ false → xs ≡ Took s (val.Queue v) ∷ rs → A
  other_first xs isnt did = absurd (false≢true (sym isnt ∙ ap first_takes did))

  seen_may : (trace : List Rec) → IsReadIn trace
  seen_may [] did current stays seen = absurd (false≢true (ap is_some seen))
  seen_may (LoadedState u mask st ∷ a) did current stays seen =
      subst (λ (b : Bool). (if is_some_of (current_task s a) u && (b && (is_some (queue_held a s) && is_runnable st)) then put_both (may_run s a) s u true else may_run s a) s t ≡ true)
      (sym stays)
      (read_known s t u st state (seen_state s a) (may_run s a) runs (seen_may a did current stays)
      (is_some_of (current_task s a) u) (is_some (queue_held a s)) (is_current (current_task s a) t u current) seen)
  seen_may (LoadedRq u on m ∷ a) did current stays seen = seen_may a did current stays seen
  seen_may (LoadedBusy u busy n ∷ a) did current stays seen = seen_may a did current stays seen
  seen_may (LoadedCpu u c ∷ a) did current stays seen = seen_may a did current stays seen
  seen_may (LoadedCount u level ∷ a) did current stays seen = seen_may a did current stays seen
  seen_may (LoadedCond k n ∷ a) did current stays seen = seen_may a did current stays seen
  seen_may (Took n (val.Queue w) ∷ a) did current stays seen =
      let same : n ≡ s = ap first_taken did in
      none_seen (s == n) (seen_state s a) state (grind (arith, nat_tests, same)) seen
  seen_may (Took n (val.Task w) ∷ a) did current stays seen = other_first (Took n (val.Task w) ∷ since a) refl did
  seen_may (Took n (val.Works w) ∷ a) did current stays seen = other_first (Took n (val.Works w) ∷ since a) refl did
  seen_may (Took n (val.Wait w) ∷ a) did current stays seen = other_first (Took n (val.Wait w) ∷ since a) refl did
  seen_may (Gave n x y ∷ a) did current stays seen = other_first (Gave n x y ∷ since a) refl did
  seen_may (OutBody u b ∷ a) did current stays seen = other_first (OutBody u b ∷ since a) refl did
  seen_may (HomeBody u b ∷ a) did current stays seen = other_first (HomeBody u b ∷ since a) refl did
  seen_may (Queued u c on m ∷ a) did current stays seen = other_first (Queued u c on m ∷ since a) refl did
  seen_may (Dequeued u c m ∷ a) did current stays seen = other_first (Dequeued u c m ∷ since a) refl did
  seen_may (Moved u c m ∷ a) did current stays seen = other_first (Moved u c m ∷ since a) refl did
  seen_may (SetBusy u c n ∷ a) did current stays seen = other_first (SetBusy u c n ∷ since a) refl did
  seen_may (ClearedBusy u n ∷ a) did current stays seen = other_first (ClearedBusy u n ∷ since a) refl did
  seen_may (StateSet u st ∷ a) did current stays seen = other_first (StateSet u st ∷ since a) refl did
  seen_may (Claimed u m ∷ a) did current stays seen = other_first (Claimed u m ∷ since a) refl did
  seen_may (MadeRunnable u ∷ a) did current stays seen = other_first (MadeRunnable u ∷ since a) refl did
  seen_may (StoredCpu u c ∷ a) did current stays seen = other_first (StoredCpu u c ∷ since a) refl did
  seen_may (Bumped k n ∷ a) did current stays seen = other_first (Bumped k n ∷ since a) refl did

  added_known : (b : Bool) (c u : ℕ) (h k : ℕ → ℕ → Bool) → (h c u ≡ true → k c u ≡ true) → k s t ≡ true
      → (if b then put_both h s t true else h) c u ≡ true → k c u ≡ true
  added_known false c u h k more there e = more e
  added_known true c u h k more there e = elim (cases_Bool ((c == s) && (u == t))) [
    | inl same ↦ (let row : c ≡ s = grind (arith, nat_tests, same) in let column : u ≡ t = grind (arith, nat_tests, same) in
        subst (λ (z : ℕ × ℕ). k z.0 z.1 ≡ true) (λ i. (sym row i, sym column i)) there)
    | inr apart ↦ more (subst (λ (b : Bool). (if b then true else h c u) ≡ true) apart e)
  ]

  -- .. so it is known as if it had been read as running at once
  pub read_finer : (trace : List Rec) → since trace ≡ Took s (val.Queue v) ∷ rs → current_task s rs ≡ Some t
      → stays_queued rs ≡ true → seen_state s trace ≡ Some state
      → IsFiner s trace (LoadedState t None (record { 0 = 0 }) ∷ Took s (val.Queue v) ∷ rs)
  read_finer trace did current stays seen =
      let x : IsFiner s trace (Took s (val.Queue v) ∷ rs) = subst (IsFiner s trace) did (finer_without s is_load loads_quiet trace) in
      let there = seen_may trace did (x.current ∙ current) (x.stays ∙ stays) seen in record {
        queues = x.queues;
        stands = x.stands;
        added = x.added;
        dropped = x.dropped;
        there = x.there;
        current = x.current;
        stays = x.stays;
        body = x.body;
        clear = x.clear;
        may = λ c u e. added_known
            (is_some_of (current_task s rs) t && (stays_queued rs && (is_some (queue_held (Took s (val.Queue v) ∷ rs) s) && true)))
            c u (may_run s (Took s (val.Queue v) ∷ rs)) (may_run s trace) (x.may c u) there e;
      }

never : (a b c : Bool) → a && (b && (c && false)) ≡ false
never true true true = refl
never true true false = refl
never true false c = refl
never false b c = refl

-- a load of a sleep state tells nothing of who may run
pub unread_finer : (s t : ℕ) (a : List Rec) → IsFiner s a (LoadedState t None (record { 0 = 1 }) ∷ a)
unread_finer s t a = record {
  queues = refl;
  stands = refl;
  added = refl;
  dropped = refl;
  there = refl;
  current = refl;
  stays = refl;
  body = refl;
  clear = refl;
  may = λ c u e. subst (λ (b : Bool). (if b then put_both (may_run s a) s t true else may_run s a) c u ≡ true)
      (never (is_some_of (current_task s a) t) (stays_queued a) (is_some (queue_held a s))) e;
}
