-- Gives of locks, each as the core's step.
use Rattle.std.proofs.Common.{◌≡◌, ◌≢◌, ℕ, eq-eqb, ne_eqb, refl, List, ◌∷◌, ◌∙◌, sym, ap}
use Rattle.std.specs.Prelude.{◌==◌, ◌&&◌, Some, None}
use Rattle.core_data.specs.Noted.{given_asleep}
use Rattle.core_data.specs.Queue.{Queue}
use Rattle.core_data.specs.Columns.{Columns, put, put_at}
use Rattle.core_data.specs.declared.values.TaskVal.{TaskVal}
use Rattle.core_data.specs.declared.values.WaitEntry.{WaitEntry}
use Rattle.core_data.specs.declared.values.WorkItem.{WorkItem}
use Rattle.core_gives.specs.Queues.{give_queue, give_up_if, gives_up}
use Rattle.core_gives.specs.Waits.{give_wait, give_by, sleeper_of, is_walk}
use Rattle.core_kinds.specs.Locks.{give_task, give_works}
use Rattle.handoff_data.specs.declared.shape.Shape.{Shape}
use Rattle.word_steps.proofs.Flats.{unseen_by, unseen_flat, give_up_by, give_up_flat, walked_by, walked_flat}
use Rattle.word_steps.proofs.Rows.{seat_row, word_row}
use Rattle.word_steps.proofs.Shown.{known, shown_at}
use Rattle.word_steps.specs.Decode.{Homes, core_of, core_after}
use Rattle.word_steps.specs.Folds.{wait_held}
use Rattle.word_steps.specs.Records.{Rec, Gave}
use Rattle.word_steps.specs.Words.{LOCK, QUEUE_LOCK, WORKS_LOCK, WAIT_LOCK}
use Rattle.word_steps.specs.declared.val.Val.TheVariants as val

module _ (shape : Shape) (words : ℕ → ℕ → ℕ) (homes : Homes) (traces : ℕ → List Rec) (s : ℕ) where
  abbrev now : Columns
  now = core_of shape words homes traces

  pub give_task_shown : (t : ℕ) (taken : TaskVal) (given : TaskVal)
      → core_after shape (put_at words t LOCK 0) (record homes { task = put homes.task t (Some given) }) traces s (Gave t (val.Task taken) (val.Task given))
      ≡ give_task (core_of shape words homes traces) s t given
  give_task_shown t taken given =
      shown_at shape (put_at words t LOCK 0) (record homes { task = put homes.task t (Some given) }) traces s (Gave t (val.Task taken) (val.Task given)) (give_task now s t given) t here elsewhere
      mine others
    where
      here : word_row (core_of shape (put_at words t LOCK 0) (record homes { task = put homes.task t (Some given) }) traces) t ≡ word_row (give_task now s t given) t
      here = rw (eq-eqb t t refl)

      elsewhere : (i : ℕ) → i ≢ t → word_row (core_of shape (put_at words t LOCK 0) (record homes { task = put homes.task t (Some given) }) traces) i ≡ word_row (give_task now s t given) i
      elsewhere i ne = rw (ne_eqb i t ne)

      mine : known shape s (Gave t (val.Task taken) (val.Task given) ∷ traces s) ≡ seat_row (give_task now s t given) s
      mine = rw (eq-eqb s s refl)

      others : (j : ℕ) → j ≢ s → known shape j (traces j) ≡ seat_row (give_task now s t given) j
      others j ne = rw (ne_eqb j s ne)

  abbrev give_queue_core : (c : ℕ) (taken : Queue) (given : Queue) → Columns
  give_queue_core c taken given = unseen_by (s == c) (give_up_by (gives_up s c given) (record now {
    queue_lock = put now.queue_lock c None;
    queue = put now.queue c (Some given);
    queue_held = put_at now.queue_held s c None;
  }) s) s

  pub give_queue_shown : (c : ℕ) (taken : Queue) (given : Queue)
      → core_after shape (put_at words c QUEUE_LOCK 0) (record homes { queue = put homes.queue c (Some given) }) traces s (Gave c (val.Queue taken) (val.Queue given))
      ≡ give_queue (core_of shape words homes traces) s c given
  give_queue_shown c taken given =
      shown_at shape (put_at words c QUEUE_LOCK 0) (record homes { queue = put homes.queue c (Some given) }) traces s (Gave c (val.Queue taken) (val.Queue given)) (give_queue_core c taken given) c
      here elsewhere mine others ∙ sym (unseen_flat (give_up_if (gives_up s c given) (record now {
        queue_lock = put now.queue_lock c None;
        queue = put now.queue c (Some given);
        queue_held = put_at now.queue_held s c None;
      }) s) s c ∙ ap (λ (z : Columns). unseen_by (s == c) z s) (give_up_flat (gives_up s c given)
      (record now { queue_lock = put now.queue_lock c None; queue = put now.queue c (Some given); queue_held = put_at now.queue_held s c None }) s))
    where
      here : word_row (core_of shape (put_at words c QUEUE_LOCK 0) (record homes { queue = put homes.queue c (Some given) }) traces) c ≡ word_row (give_queue_core c taken given) c
      here = rw (eq-eqb c c refl)

      elsewhere : (i : ℕ) → i ≢ c → word_row (core_of shape (put_at words c QUEUE_LOCK 0) (record homes { queue = put homes.queue c (Some given) }) traces) i
          ≡ word_row (give_queue_core c taken given) i
      elsewhere i ne = rw (ne_eqb i c ne)

      mine : known shape s (Gave c (val.Queue taken) (val.Queue given) ∷ traces s) ≡ seat_row (give_queue_core c taken given) s
      mine = rw (eq-eqb s s refl)

      others : (j : ℕ) → j ≢ s → known shape j (traces j) ≡ seat_row (give_queue_core c taken given) j
      others j ne = rw (ne_eqb j s ne)

  pub give_works_shown : (c : ℕ) (taken : List WorkItem) (given : List WorkItem)
      → core_after shape (put_at words c WORKS_LOCK 0) (record homes { works = put homes.works c (Some given) }) traces s (Gave c (val.Works taken) (val.Works given))
      ≡ give_works (core_of shape words homes traces) s c given
  give_works_shown c taken given =
      shown_at shape (put_at words c WORKS_LOCK 0) (record homes { works = put homes.works c (Some given) }) traces s (Gave c (val.Works taken) (val.Works given)) (give_works now s c given) c here
      elsewhere mine others
    where
      here : word_row (core_of shape (put_at words c WORKS_LOCK 0) (record homes { works = put homes.works c (Some given) }) traces) c ≡ word_row (give_works now s c given) c
      here = rw (eq-eqb c c refl)

      elsewhere : (i : ℕ) → i ≢ c → word_row (core_of shape (put_at words c WORKS_LOCK 0) (record homes { works = put homes.works c (Some given) }) traces) i ≡ word_row (give_works now s c given) i
      elsewhere i ne = rw (ne_eqb i c ne)

      mine : known shape s (Gave c (val.Works taken) (val.Works given) ∷ traces s) ≡ seat_row (give_works now s c given) s
      mine = rw (eq-eqb s s refl)

      others : (j : ℕ) → j ≢ s → known shape j (traces j) ≡ seat_row (give_works now s c given) j
      others j ne = rw (ne_eqb j s ne)

  abbrev give_wait_core : (k : ℕ) (taken : List WaitEntry) (given : List WaitEntry) → Columns
  give_wait_core k taken given = walked_by (now.owes_walk s k && (now.has_retaken s k && is_walk (now.has_passed s k) taken))
      (record now {
        wait_lock = put now.wait_lock k None;
        wait = put now.wait k (Some given);
        wait_held = put_at now.wait_held s k None;
        is_asleep = put now.is_asleep s (given_asleep k taken given (sleeper_of (now.current_task s) (now.has_slept_in s k) given) (now.is_asleep s));
      }) s k

  pub give_wait_shown : (k : ℕ) (taken : List WaitEntry) (given : List WaitEntry) → wait_held (traces s) k ≡ Some taken
      → core_after shape (put_at words k WAIT_LOCK 0) (record homes { wait = put homes.wait k (Some given) }) traces s (Gave k (val.Wait taken) (val.Wait given))
      ≡ give_wait (core_of shape words homes traces) s k given
  give_wait_shown k taken given out =
      shown_at shape (put_at words k WAIT_LOCK 0) (record homes { wait = put homes.wait k (Some given) }) traces s (Gave k (val.Wait taken) (val.Wait given)) (give_wait_core k taken given) k here
      elsewhere mine others ∙ sym (ap (give_by now s k given) out ∙ walked_flat (now.owes_walk s k && (now.has_retaken s k && is_walk (now.has_passed s k) taken))
      (record now {
        wait_lock = put now.wait_lock k None;
        wait = put now.wait k (Some given);
        wait_held = put_at now.wait_held s k None;
        is_asleep = put now.is_asleep s (given_asleep k taken given (sleeper_of (now.current_task s) (now.has_slept_in s k) given) (now.is_asleep s));
      }) s k)
    where
      here : word_row (core_of shape (put_at words k WAIT_LOCK 0) (record homes { wait = put homes.wait k (Some given) }) traces) k ≡ word_row (give_wait_core k taken given) k
      here = rw (eq-eqb k k refl)

      elsewhere : (i : ℕ) → i ≢ k → word_row (core_of shape (put_at words k WAIT_LOCK 0) (record homes { wait = put homes.wait k (Some given) }) traces) i ≡ word_row (give_wait_core k taken given) i
      elsewhere i ne = rw (ne_eqb i k ne)

      mine : known shape s (Gave k (val.Wait taken) (val.Wait given) ∷ traces s) ≡ seat_row (give_wait_core k taken given) s
      mine = rw (eq-eqb s s refl)

      others : (j : ℕ) → j ≢ s → known shape j (traces j) ≡ seat_row (give_wait_core k taken given) j
      others j ne = rw (ne_eqb j s ne)
