-- Takes of locks, each as the core's step.
use Rattle.std.proofs.Common.{◌≡◌, ◌≢◌, ℕ, suc, eq-eqb, ne_eqb, refl, List, ◌∷◌, ◌∙◌, sym, ap}
use Rattle.std.specs.Prelude.{◌==◌, Some, None}
use Rattle.core_data.specs.Noted.{noted}
use Rattle.core_data.specs.Queue.{Queue}
use Rattle.core_data.specs.declared.act.Act.TheVariants.{TookQueue}
use Rattle.core_data.specs.Columns.{Columns, put, put_at}
use Rattle.core_data.specs.declared.values.TaskVal.{TaskVal}
use Rattle.core_data.specs.declared.values.WaitEntry.{WaitEntry}
use Rattle.core_data.specs.declared.values.WorkItem.{WorkItem}
use Rattle.core_kinds.specs.Locks.{take_task, take_queue, take_wait, take_works}
use Rattle.handoff_data.specs.declared.shape.Shape.{Shape}
use Rattle.word_steps.proofs.Flats.{unseen_by, unseen_flat}
use Rattle.word_steps.proofs.Rows.{seat_row, word_row}
use Rattle.word_steps.proofs.Shown.{known, shown_at}
use Rattle.word_steps.specs.Decode.{Homes, core_of, core_after}
use Rattle.word_steps.specs.Records.{Rec, Took}
use Rattle.word_steps.specs.Words.{LOCK, QUEUE_LOCK, WORKS_LOCK, WAIT_LOCK}
use Rattle.word_steps.specs.declared.val.Val.TheVariants as val

module _ (shape : Shape) (words : ℕ → ℕ → ℕ) (homes : Homes) (traces : ℕ → List Rec) (s : ℕ) where
  abbrev now : Columns
  now = core_of shape words homes traces

  pub take_task_shown : (t : ℕ) (v : TaskVal) → homes.task t ≡ Some v
      → core_after shape (put_at words t LOCK (suc s)) (record homes { task = put homes.task t None }) traces s (Took t (val.Task v))
      ≡ take_task (core_of shape words homes traces) s t
  take_task_shown t v home =
      shown_at shape (put_at words t LOCK (suc s)) (record homes { task = put homes.task t None }) traces s (Took t (val.Task v)) (take_task now s t) t here elsewhere mine others
    where
      here : word_row (core_of shape (put_at words t LOCK (suc s)) (record homes { task = put homes.task t None }) traces) t ≡ word_row (take_task now s t) t
      here = rw (eq-eqb t t refl)

      elsewhere : (i : ℕ) → i ≢ t → word_row (core_of shape (put_at words t LOCK (suc s)) (record homes { task = put homes.task t None }) traces) i ≡ word_row (take_task now s t) i
      elsewhere i ne = rw (ne_eqb i t ne)

      mine : known shape s (Took t (val.Task v) ∷ traces s) ≡ seat_row (take_task now s t) s
      mine = rw (eq-eqb s s refl, home)

      others : (j : ℕ) → j ≢ s → known shape j (traces j) ≡ seat_row (take_task now s t) j
      others j ne = rw (ne_eqb j s ne)

  abbrev take_queue_core : (c : ℕ) (v : Queue) → Columns
  take_queue_core c v = noted (unseen_by (s == c) (record now {
    queue_lock = put now.queue_lock c (Some s);
    queue = put now.queue c None;
    queue_held = put_at now.queue_held s c (now.queue c);
  }) s) s (TookQueue c)

  pub take_queue_shown : (c : ℕ) (v : Queue) → homes.queue c ≡ Some v
      → core_after shape (put_at words c QUEUE_LOCK (suc s)) (record homes { queue = put homes.queue c None }) traces s (Took c (val.Queue v))
      ≡ take_queue (core_of shape words homes traces) s c
  take_queue_shown c v home =
      shown_at shape (put_at words c QUEUE_LOCK (suc s)) (record homes { queue = put homes.queue c None }) traces s (Took c (val.Queue v)) (take_queue_core c v) c here elsewhere mine others
      ∙ sym (ap (λ (z : Columns). noted z s (TookQueue c)) (unseen_flat (record now {
        queue_lock = put now.queue_lock c (Some s);
        queue = put now.queue c None;
        queue_held = put_at now.queue_held s c (now.queue c);
      }) s c))
    where
      here : word_row (core_of shape (put_at words c QUEUE_LOCK (suc s)) (record homes { queue = put homes.queue c None }) traces) c ≡ word_row (take_queue_core c v) c
      here = rw (eq-eqb c c refl)

      elsewhere : (i : ℕ) → i ≢ c → word_row (core_of shape (put_at words c QUEUE_LOCK (suc s)) (record homes { queue = put homes.queue c None }) traces) i ≡ word_row (take_queue_core c v) i
      elsewhere i ne = rw (ne_eqb i c ne)

      mine : known shape s (Took c (val.Queue v) ∷ traces s) ≡ seat_row (take_queue_core c v) s
      mine = rw (eq-eqb s s refl, home)

      others : (j : ℕ) → j ≢ s → known shape j (traces j) ≡ seat_row (take_queue_core c v) j
      others j ne = rw (ne_eqb j s ne)

  pub take_works_shown : (c : ℕ) (v : List WorkItem) → homes.works c ≡ Some v
      → core_after shape (put_at words c WORKS_LOCK (suc s)) (record homes { works = put homes.works c None }) traces s (Took c (val.Works v))
      ≡ take_works (core_of shape words homes traces) s c
  take_works_shown c v home =
      shown_at shape (put_at words c WORKS_LOCK (suc s)) (record homes { works = put homes.works c None }) traces s (Took c (val.Works v)) (take_works now s c) c here elsewhere mine others
    where
      here : word_row (core_of shape (put_at words c WORKS_LOCK (suc s)) (record homes { works = put homes.works c None }) traces) c ≡ word_row (take_works now s c) c
      here = rw (eq-eqb c c refl)

      elsewhere : (i : ℕ) → i ≢ c → word_row (core_of shape (put_at words c WORKS_LOCK (suc s)) (record homes { works = put homes.works c None }) traces) i ≡ word_row (take_works now s c) i
      elsewhere i ne = rw (ne_eqb i c ne)

      mine : known shape s (Took c (val.Works v) ∷ traces s) ≡ seat_row (take_works now s c) s
      mine = rw (eq-eqb s s refl, home)

      others : (j : ℕ) → j ≢ s → known shape j (traces j) ≡ seat_row (take_works now s c) j
      others j ne = rw (ne_eqb j s ne)

  pub take_wait_shown : (k : ℕ) (v : List WaitEntry) → homes.wait k ≡ Some v
      → core_after shape (put_at words k WAIT_LOCK (suc s)) (record homes { wait = put homes.wait k None }) traces s (Took k (val.Wait v))
      ≡ take_wait (core_of shape words homes traces) s k
  take_wait_shown k v home =
      shown_at shape (put_at words k WAIT_LOCK (suc s)) (record homes { wait = put homes.wait k None }) traces s (Took k (val.Wait v)) (take_wait now s k) k here elsewhere mine others
    where
      here : word_row (core_of shape (put_at words k WAIT_LOCK (suc s)) (record homes { wait = put homes.wait k None }) traces) k ≡ word_row (take_wait now s k) k
      here = rw (eq-eqb k k refl)

      elsewhere : (i : ℕ) → i ≢ k → word_row (core_of shape (put_at words k WAIT_LOCK (suc s)) (record homes { wait = put homes.wait k None }) traces) i ≡ word_row (take_wait now s k) i
      elsewhere i ne = rw (ne_eqb i k ne)

      mine : known shape s (Took k (val.Wait v) ∷ traces s) ≡ seat_row (take_wait now s k) s
      mine = rw (eq-eqb s s refl, home)

      others : (j : ℕ) → j ≢ s → known shape j (traces j) ≡ seat_row (take_wait now s k) j
      others j ne = rw (ne_eqb j s ne)
