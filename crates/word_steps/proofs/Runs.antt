-- Changes of a task's queue word and busy word, and bodies, each as the core's step.
use Rattle.std.proofs.Common.{◌≡◌, ◌≢◌, ℕ, eq-eqb, ne_eqb, refl, List, ◌∷◌}
use Rattle.std.specs.Prelude.{◌+◌, ◌/◌, ◌%◌, Bool, true, false}
use Rattle.core_data.specs.Columns.{Columns, put, put_at}
use Rattle.core_kinds.specs.Running.{queue_task, dequeue_task, move_task, set_busy, clear_busy, body_out, body_home}
use Rattle.handoff_data.specs.declared.shape.Shape.{Shape}
use Rattle.word_steps.proofs.Rows.{seat_row, word_row}
use Rattle.word_steps.proofs.Shown.{known, shown_at}
use Rattle.word_steps.specs.Decode.{Homes, core_of, core_after}
use Rattle.word_steps.specs.Records.{Rec, OutBody, HomeBody, Queued, Dequeued, Moved, SetBusy, ClearedBusy}
use Rattle.word_steps.specs.Words.{RQ, BUSY}

module _ (shape : Shape) (words : ℕ → ℕ → ℕ) (homes : Homes) (traces : ℕ → List Rec) (s : ℕ) where
  abbrev now : Columns
  now = core_of shape words homes traces

  pub queue_task_shown : (c : ℕ) (t : ℕ) (x : ℕ) → x % 4 ≡ 1 → x / 4 ≡ words t RQ / 4 + 1
      → core_after shape (put_at words t RQ x) homes traces s (Queued t c (words t RQ % 4) (words t RQ / 4))
      ≡ queue_task (core_of shape words homes traces) s c t
  queue_task_shown c t x on_is next =
      shown_at shape (put_at words t RQ x) homes traces s (Queued t c (words t RQ % 4) (words t RQ / 4)) (queue_task now s c t) t here elsewhere mine others
    where
      here : word_row (core_of shape (put_at words t RQ x) homes traces) t ≡ word_row (queue_task now s c t) t
      here = rw (eq-eqb t t refl, on_is, next)

      elsewhere : (i : ℕ) → i ≢ t → word_row (core_of shape (put_at words t RQ x) homes traces) i ≡ word_row (queue_task now s c t) i
      elsewhere i ne = rw (ne_eqb i t ne)

      mine : known shape s (Queued t c (words t RQ % 4) (words t RQ / 4) ∷ traces s) ≡ seat_row (queue_task now s c t) s
      mine = rw (eq-eqb s s refl)

      others : (j : ℕ) → j ≢ s → known shape j (traces j) ≡ seat_row (queue_task now s c t) j
      others j ne = rw (ne_eqb j s ne)

  pub dequeue_task_shown : (c : ℕ) (t : ℕ) (x : ℕ) → x % 4 ≡ 0 → x / 4 ≡ words t RQ / 4 + 1
      → core_after shape (put_at words t RQ x) homes traces s (Dequeued t c (words t RQ / 4))
      ≡ dequeue_task (core_of shape words homes traces) s c t
  dequeue_task_shown c t x on_is next =
      shown_at shape (put_at words t RQ x) homes traces s (Dequeued t c (words t RQ / 4)) (dequeue_task now s c t) t here elsewhere mine others
    where
      here : word_row (core_of shape (put_at words t RQ x) homes traces) t ≡ word_row (dequeue_task now s c t) t
      here = rw (eq-eqb t t refl, on_is, next)

      elsewhere : (i : ℕ) → i ≢ t → word_row (core_of shape (put_at words t RQ x) homes traces) i ≡ word_row (dequeue_task now s c t) i
      elsewhere i ne = rw (ne_eqb i t ne)

      mine : known shape s (Dequeued t c (words t RQ / 4) ∷ traces s) ≡ seat_row (dequeue_task now s c t) s
      mine = rw (eq-eqb s s refl)

      others : (j : ℕ) → j ≢ s → known shape j (traces j) ≡ seat_row (dequeue_task now s c t) j
      others j ne = rw (ne_eqb j s ne)

  pub move_task_shown : (c : ℕ) (t : ℕ) (x : ℕ) → x % 4 ≡ 2 → x / 4 ≡ words t RQ / 4 + 1
      → core_after shape (put_at words t RQ x) homes traces s (Moved t c (words t RQ / 4))
      ≡ move_task (core_of shape words homes traces) s c t
  move_task_shown c t x on_is next =
      shown_at shape (put_at words t RQ x) homes traces s (Moved t c (words t RQ / 4)) (move_task now s c t) t here elsewhere mine others
    where
      here : word_row (core_of shape (put_at words t RQ x) homes traces) t ≡ word_row (move_task now s c t) t
      here = rw (eq-eqb t t refl, on_is, next)

      elsewhere : (i : ℕ) → i ≢ t → word_row (core_of shape (put_at words t RQ x) homes traces) i ≡ word_row (move_task now s c t) i
      elsewhere i ne = rw (ne_eqb i t ne)

      mine : known shape s (Moved t c (words t RQ / 4) ∷ traces s) ≡ seat_row (move_task now s c t) s
      mine = rw (eq-eqb s s refl)

      others : (j : ℕ) → j ≢ s → known shape j (traces j) ≡ seat_row (move_task now s c t) j
      others j ne = rw (ne_eqb j s ne)

  pub set_busy_shown : (c : ℕ) (t : ℕ) (x : ℕ) → x % 2 ≡ 1 → x / 2 ≡ words t BUSY / 2 + 1
      → core_after shape (put_at words t BUSY x) homes traces s (SetBusy t c (words t BUSY / 2))
      ≡ set_busy (core_of shape words homes traces) s c t
  set_busy_shown c t x busy_is next =
      shown_at shape (put_at words t BUSY x) homes traces s (SetBusy t c (words t BUSY / 2)) (set_busy now s c t) t here elsewhere mine others
    where
      here : word_row (core_of shape (put_at words t BUSY x) homes traces) t ≡ word_row (set_busy now s c t) t
      here = rw (eq-eqb t t refl, busy_is, next)

      elsewhere : (i : ℕ) → i ≢ t → word_row (core_of shape (put_at words t BUSY x) homes traces) i ≡ word_row (set_busy now s c t) i
      elsewhere i ne = rw (ne_eqb i t ne)

      mine : known shape s (SetBusy t c (words t BUSY / 2) ∷ traces s) ≡ seat_row (set_busy now s c t) s
      mine = rw (eq-eqb s s refl)

      others : (j : ℕ) → j ≢ s → known shape j (traces j) ≡ seat_row (set_busy now s c t) j
      others j ne = rw (ne_eqb j s ne)

  pub clear_busy_shown : (t : ℕ) (x : ℕ) → x % 2 ≡ 0 → x / 2 ≡ words t BUSY / 2 + 1
      → core_after shape (put_at words t BUSY x) homes traces s (ClearedBusy t (words t BUSY / 2))
      ≡ clear_busy (core_of shape words homes traces) s t
  clear_busy_shown t x busy_is next =
      shown_at shape (put_at words t BUSY x) homes traces s (ClearedBusy t (words t BUSY / 2)) (clear_busy now s t) t here elsewhere mine others
    where
      here : word_row (core_of shape (put_at words t BUSY x) homes traces) t ≡ word_row (clear_busy now s t) t
      here = rw (eq-eqb t t refl, busy_is, next)

      elsewhere : (i : ℕ) → i ≢ t → word_row (core_of shape (put_at words t BUSY x) homes traces) i ≡ word_row (clear_busy now s t) i
      elsewhere i ne = rw (ne_eqb i t ne)

      mine : known shape s (ClearedBusy t (words t BUSY / 2) ∷ traces s) ≡ seat_row (clear_busy now s t) s
      mine = rw (eq-eqb s s refl)

      others : (j : ℕ) → j ≢ s → known shape j (traces j) ≡ seat_row (clear_busy now s t) j
      others j ne = rw (ne_eqb j s ne)

  pub body_out_shown : (t : ℕ) (ended : Bool)
      → core_after shape words (record homes { body = put homes.body t false }) traces s (OutBody t ended)
      ≡ body_out (core_of shape words homes traces) s t
  body_out_shown t ended =
      shown_at shape words (record homes { body = put homes.body t false }) traces s (OutBody t ended) (body_out now s t) t here elsewhere mine others
    where
      here : word_row (core_of shape words (record homes { body = put homes.body t false }) traces) t ≡ word_row (body_out now s t) t
      here = rw (eq-eqb t t refl)

      elsewhere : (i : ℕ) → i ≢ t → word_row (core_of shape words (record homes { body = put homes.body t false }) traces) i ≡ word_row (body_out now s t) i
      elsewhere i ne = rw (ne_eqb i t ne)

      mine : known shape s (OutBody t ended ∷ traces s) ≡ seat_row (body_out now s t) s
      mine = rw (eq-eqb s s refl)

      others : (j : ℕ) → j ≢ s → known shape j (traces j) ≡ seat_row (body_out now s t) j
      others j ne = rw (ne_eqb j s ne)

  pub body_home_shown : (t : ℕ) (ended : Bool)
      → core_after shape words (record homes { body = put homes.body t true; ended = put homes.ended t ended }) traces s (HomeBody t ended)
      ≡ body_home (core_of shape words homes traces) s t ended
  body_home_shown t ended =
      shown_at shape words (record homes { body = put homes.body t true; ended = put homes.ended t ended }) traces s (HomeBody t ended) (body_home now s t ended) t here elsewhere mine others
    where
      here : word_row (core_of shape words (record homes { body = put homes.body t true; ended = put homes.ended t ended }) traces) t ≡ word_row (body_home now s t ended) t
      here = rw (eq-eqb t t refl)

      elsewhere : (i : ℕ) → i ≢ t → word_row (core_of shape words (record homes { body = put homes.body t true; ended = put homes.ended t ended }) traces) i ≡ word_row (body_home now s t ended) i
      elsewhere i ne = rw (ne_eqb i t ne)

      mine : known shape s (HomeBody t ended ∷ traces s) ≡ seat_row (body_home now s t ended) s
      mine = rw (eq-eqb s s refl)

      others : (j : ℕ) → j ≢ s → known shape j (traces j) ≡ seat_row (body_home now s t ended) j
      others j ne = rw (ne_eqb j s ne)
