-- Traces that tell as much of queues as others, and maybe more of who may run: those with loads more.
use Rattle.std.proofs.Common.{◌≡◌, ◌∙◌, ℕ, ◌∷◌, [], List, inl, inr, refl, sym, ap, subst}
use Rattle.std.specs.Prelude.{◌==◌, ◌&&◌, Bool, true, false, Option, Some, None, is_some, if◌then◌else◌}
use mathlib.Core.Bool.{not}
use Rattle.std.proofs.lemmas.Bool.{cases_Bool, false≢true}
use Rattle.core_data.specs.Queue.{Queue}
use Rattle.core_gives.specs.Queues.{is_some_of}
use Rattle.handoff_data.specs.declared.shape.Shape.{Shape}
use Rattle.handoff_data.specs.declared.state.State.{State}
use Rattle.task_words.specs.Gives.{is_load, is_quiet, takes_queue, without}
use Rattle.word_rule.specs.May.{MayGiveQueueVal}
use Rattle.word_rule.specs.Standing.{standing, standing_after, may_run, may_run_after, is_runnable}
use Rattle.word_steps.specs.Folds.{put_both, put_column_if, queue_held, queue_after, has_added, added_after, has_dropped, dropped_after, has_put, put_after, current_task, current_after, stays_queued}
use Rattle.word_steps.specs.Folds.{stays_after, body_held, body_after, task_to_clear, to_clear_after}
use Rattle.word_steps.specs.Records.{Rec, Took, Gave, OutBody, HomeBody, Queued, Dequeued, Moved, SetBusy, ClearedBusy, StateSet, Claimed, MadeRunnable, LoadedState, LoadedRq, LoadedBusy, LoadedCpu}
use Rattle.word_steps.specs.Records.{LoadedCount, StoredCpu, Bumped, LoadedCond}
use Rattle.word_steps.specs.declared.val.Val.TheVariants as val

-- What is known of one table is known of another that knows more

if_more : (b x y z : Bool) → (y ≡ true → z ≡ true) → (if b then x else y) ≡ true → (if b then x else z) ≡ true
if_more true x y z more e = e
if_more false x y z more e = more e

row_more : (b : Bool) (f x y : ℕ → Bool) (t : ℕ) → (x t ≡ true → y t ≡ true) → (if b then f else x) t ≡ true → (if b then f else y) t ≡ true
row_more true f x y t more e = e
row_more false f x y t more e = more e

column_more : (b : Bool) (n : ℕ) (v : Bool) (h k : ℕ → ℕ → Bool) (c t : ℕ) → (h c t ≡ true → k c t ≡ true)
    → put_column_if b n v h c t ≡ true → put_column_if b n v k c t ≡ true
column_more true n v h k c t more e = if_more (t == n) v (h c t) (k c t) more e
column_more false n v h k c t more e = more e

read_more : (b : Bool) (s n : ℕ) (h k : ℕ → ℕ → Bool) (c t : ℕ) → (h c t ≡ true → k c t ≡ true)
    → (if b then put_both h s n true else h) c t ≡ true → (if b then put_both k s n true else k) c t ≡ true
read_more true s n h k c t more e = if_more ((c == s) && (t == n)) true (h c t) (k c t) more e
read_more false s n h k c t more e = more e

still_read : (b : Bool) (s n : ℕ) (h : ℕ → ℕ → Bool) (c t : ℕ) → h c t ≡ true → (if b then put_both h s n true else h) c t ≡ true
still_read true s n h c t e = still ((c == s) && (t == n)) (h c t) e
  where
    still : (b x : Bool) → x ≡ true → (if b then true else x) ≡ true
    still true x e = refl
    still false x e = e
still_read false s n h c t e = e

still_if : (b x : Bool) → x ≡ true → (if b then true else x) ≡ true
still_if true x e = refl
still_if false x e = e

module _ (s : ℕ) (current : Option ℕ) (stays own : Bool) (were h k : ℕ → ℕ → Bool) where
  abbrev IsMore : Rec → Type 0
  IsMore r = (c t : ℕ) → (h c t ≡ true → k c t ≡ true)
      → may_run_after s r current stays own were h c t ≡ true → may_run_after s r current stays own were k c t ≡ true

  more_known : (r : Rec) → IsMore r
  more_known (Took n (val.Task v)) c t more e = more e
  more_known (Took n (val.Queue v)) c t more e = row_more (c == n) _ (h c) (k c) t more e
  more_known (Took n (val.Works v)) c t more e = more e
  more_known (Took n (val.Wait v)) c t more e = more e
  more_known (Gave n v w) c t more e = more e
  more_known (OutBody u b) c t more e = more e
  more_known (HomeBody u b) c t more e = more e
  more_known (Queued u d on m) c t more e = if_more ((c == d) && (t == u)) _ (h c t) (k c t) more e
  more_known (Dequeued u d m) c t more e = if_more (t == u) false (h c t) (k c t) more e
  more_known (Moved u d m) c t more e = if_more (t == u) false (h c t) (k c t) more e
  more_known (SetBusy u d n) c t more e = more e
  more_known (ClearedBusy u n) c t more e = more e
  more_known (StateSet u state) c t more e = column_more (not (state.0 == 0)) u false h k c t more e
  more_known (Claimed u m) c t more e = more e
  more_known (MadeRunnable u) c t more e = if_more ((t == u) && were c t) true (h c t) (k c t) more e
  more_known (LoadedState u mask state) c t more e =
      read_more (is_some_of current u && (stays && (own && is_runnable state))) s u h k c t more e
  more_known (LoadedRq u on m) c t more e = more e
  more_known (LoadedBusy u busy n) c t more e = more e
  more_known (LoadedCpu u d) c t more e = more e
  more_known (LoadedCount u level) c t more e = more e
  more_known (StoredCpu u d) c t more e = more e
  more_known (Bumped n v) c t more e = more e
  more_known (LoadedCond n v) c t more e = more e

loud : {A : Type 0} (r : Rec) → is_quiet r ≡ false → is_quiet r ≡ true → A
loud r isnt is = absurd (false≢true (sym isnt ∙ is))

module _ (s : ℕ) where
  -- the one tells of queues what the other tells, and no less of who may run
  pub record IsFiner (fine coarse : List Rec) : Type 0 where
    pub queues : queue_held fine ≡ queue_held coarse
    pub stands : standing fine ≡ standing coarse
    pub added : has_added fine ≡ has_added coarse
    pub dropped : has_dropped fine ≡ has_dropped coarse
    pub there : has_put fine ≡ has_put coarse
    pub current : current_task s fine ≡ current_task s coarse
    pub stays : stays_queued fine ≡ stays_queued coarse
    pub body : body_held fine ≡ body_held coarse
    pub clear : task_to_clear s fine ≡ task_to_clear s coarse
    pub may : (c t : ℕ) → may_run s coarse c t ≡ true → may_run s fine c t ≡ true

  pub finer_same : (a : List Rec) → IsFiner a a
  finer_same a = record {
    queues = refl;
    stands = refl;
    added = refl;
    dropped = refl;
    there = refl;
    current = refl;
    stays = refl;
    body = refl;
    clear = refl;
    may = λ c t e. e;
  }

  pub finer_again : (a b d : List Rec) → IsFiner a b → IsFiner b d → IsFiner a d
  finer_again a b d x y = record {
    queues = x.queues ∙ y.queues;
    stands = x.stands ∙ y.stands;
    added = x.added ∙ y.added;
    dropped = x.dropped ∙ y.dropped;
    there = x.there ∙ y.there;
    current = x.current ∙ y.current;
    stays = x.stays ∙ y.stays;
    body = x.body ∙ y.body;
    clear = x.clear ∙ y.clear;
    may = λ c t e. x.may c t (y.may c t e);
  }

  -- .. also after one more step of both
  pub finer_next : (r : Rec) (a b : List Rec) → IsFiner a b → IsFiner (r ∷ a) (r ∷ b)
  finer_next r a b x = record {
    queues = ap (queue_after r) x.queues;
    stands = ap (standing_after r) x.stands;
    added = ap (added_after r) x.added;
    dropped = ap (dropped_after r) x.dropped;
    there = ap (put_after r) x.there;
    current = ap (current_after s r) x.current;
    stays = ap (stays_after r) x.stays;
    body = ap (body_after r) x.body;
    clear = λ i. to_clear_after s r (x.current i) (x.clear i);
    may = λ c t e. more_known s (current_task s a) (stays_queued a) (is_some (queue_held a s)) (has_put a) (may_run s b) (may_run s a) r c t (x.may c t)
        (subst (λ (f : ℕ → ℕ → Bool). f c t ≡ true)
        (λ i. may_run_after s r (sym x.current i) (sym x.stays i) (is_some (sym x.queues i s)) (sym x.there i) (may_run s b)) e);
  }

  abbrev Skips : Rec → Type 0
  Skips r = (a : List Rec) → IsFiner (r ∷ a) a

  same_but : (r : Rec) (a : List Rec) → queue_held (r ∷ a) ≡ queue_held a → standing (r ∷ a) ≡ standing a
      → has_added (r ∷ a) ≡ has_added a → has_dropped (r ∷ a) ≡ has_dropped a → has_put (r ∷ a) ≡ has_put a
      → current_task s (r ∷ a) ≡ current_task s a → stays_queued (r ∷ a) ≡ stays_queued a
      → body_held (r ∷ a) ≡ body_held a → task_to_clear s (r ∷ a) ≡ task_to_clear s a
      → ((c t : ℕ) → may_run s a c t ≡ true → may_run s (r ∷ a) c t ≡ true) → IsFiner (r ∷ a) a
  same_but r a queues stands added dropped there current stays body clear may = record {
    queues = queues;
    stands = stands;
    added = added;
    dropped = dropped;
    there = there;
    current = current;
    stays = stays;
    body = body;
    clear = clear;
    may = may;
  }

  -- .. and without a quiet one
  pub finer_skip : (r : Rec) → is_quiet r ≡ true → Skips r
  finer_skip (LoadedState t mask state) q a =
      same_but (LoadedState t mask state) a refl refl refl refl refl refl refl refl refl
      (λ c u e. still_read (is_some_of (current_task s a) t && (stays_queued a && (is_some (queue_held a s) && is_runnable state))) s t (may_run s a) c u e)
  finer_skip (LoadedRq t on m) q a = same_but (LoadedRq t on m) a refl refl refl refl refl refl refl refl refl (λ c u e. e)
  finer_skip (LoadedBusy t busy n) q a = same_but (LoadedBusy t busy n) a refl refl refl refl refl refl refl refl refl (λ c u e. e)
  finer_skip (LoadedCpu t d) q a = same_but (LoadedCpu t d) a refl refl refl refl refl refl refl refl refl (λ c u e. e)
  finer_skip (LoadedCount t level) q a = same_but (LoadedCount t level) a refl refl refl refl refl refl refl refl refl (λ c u e. e)
  finer_skip (LoadedCond k v) q a = same_but (LoadedCond k v) a refl refl refl refl refl refl refl refl refl (λ c u e. e)
  finer_skip (MadeRunnable t) q a =
      same_but (MadeRunnable t) a refl refl refl refl refl refl refl refl refl
      (λ c u e. still_if ((u == t) && has_put a c u) (may_run s a c u) e)
  finer_skip (Took n v) q a = loud (Took n v) refl q
  finer_skip (Gave n v w) q a = loud (Gave n v w) refl q
  finer_skip (OutBody t b) q a = loud (OutBody t b) refl q
  finer_skip (HomeBody t b) q a = loud (HomeBody t b) refl q
  finer_skip (Queued t d on m) q a = loud (Queued t d on m) refl q
  finer_skip (Dequeued t d m) q a = loud (Dequeued t d m) refl q
  finer_skip (Moved t d m) q a = loud (Moved t d m) refl q
  finer_skip (SetBusy t d n) q a = loud (SetBusy t d n) refl q
  finer_skip (ClearedBusy t n) q a = loud (ClearedBusy t n) refl q
  finer_skip (StateSet t state) q a = loud (StateSet t state) refl q
  finer_skip (Claimed t m) q a = loud (Claimed t m) refl q
  finer_skip (StoredCpu t d) q a = loud (StoredCpu t d) refl q
  finer_skip (Bumped k v) q a = loud (Bumped k v) refl q

  -- a trace tells no less than it does without its quiet steps since a queue's lock was taken
  pub finer_without : (such : Rec → Bool) → ((r : Rec) → such r ≡ true → is_quiet r ≡ true) → (a : List Rec) → IsFiner a (without such a)
  finer_without such quiet [] = finer_same []
  finer_without such quiet (r ∷ rs) = elim (cases_Bool (takes_queue r)) [
    | inl takes ↦ subst (λ (b : Bool). IsFiner (r ∷ rs) (if b then r ∷ rs else (if such r then without such rs else r ∷ without such rs)))
        (sym takes) (finer_same (r ∷ rs))
    | inr other ↦ subst (λ (b : Bool). IsFiner (r ∷ rs) (if b then r ∷ rs else (if such r then without such rs else r ∷ without such rs)))
        (sym other) (elim (cases_Bool (such r)) [
          | inl is ↦ subst (λ (b : Bool). IsFiner (r ∷ rs) (if b then without such rs else r ∷ without such rs)) (sym is)
              (finer_again (r ∷ rs) rs (without such rs) (finer_skip r (quiet r is) rs) (finer_without such quiet rs))
          | inr isnt ↦ subst (λ (b : Bool). IsFiner (r ∷ rs) (if b then without such rs else r ∷ without such rs)) (sym isnt)
              (finer_next r rs (without such rs) (finer_without such quiet rs))
        ])
  ]

  pub finer_gives : (shape : Shape) (a b : List Rec) (c : ℕ) (given : Queue) → IsFiner a b → MayGiveQueueVal s b shape c given → MayGiveQueueVal s a shape c given
  finer_gives shape a b c given x h = record {
    taken = h.taken;
    held = ap (λ (f : ℕ → Option Queue). f c) x.queues ∙ h.held;
    stands = λ t. h.stands t ∙ sym (ap (λ (f : ℕ → ℕ → ℕ). f c t) x.stands);
    waits = λ t w. x.may c t (h.waits t w);
    next = λ t e. elim (h.next t e) [
      | inl w ↦ inl (x.may c t w)
      | inr w ↦ inr (ap (λ (f : ℕ → ℕ → Bool). f c t) x.added ∙ w)
    ];
    others = h.others;
    own = λ own t e. elim (h.own own t (sym x.current ∙ e)) [
      | inl w ↦ inl w
      | inr w ↦ inr (w.0, w.1, x.body ∙ w.2)
    ];
    clear = λ own t e. h.clear own t (sym x.clear ∙ e);
    left = h.left;
  }

pub loads_quiet : (r : Rec) → is_load r ≡ true → is_quiet r ≡ true
loads_quiet (LoadedState t mask state) q = refl
loads_quiet (LoadedRq t on m) q = refl
loads_quiet (LoadedBusy t busy n) q = refl
loads_quiet (LoadedCpu t d) q = refl
loads_quiet (LoadedCount t level) q = refl
loads_quiet (LoadedCond k v) q = refl
loads_quiet (MadeRunnable t) q = refl
loads_quiet (Took n v) q = q
loads_quiet (Gave n v w) q = q
loads_quiet (OutBody t b) q = q
loads_quiet (HomeBody t b) q = q
loads_quiet (Queued t d on m) q = q
loads_quiet (Dequeued t d m) q = q
loads_quiet (Moved t d m) q = q
loads_quiet (SetBusy t d n) q = q
loads_quiet (ClearedBusy t n) q = q
loads_quiet (StateSet t state) q = q
loads_quiet (Claimed t m) q = q
loads_quiet (StoredCpu t d) q = q
loads_quiet (Bumped k v) q = q
