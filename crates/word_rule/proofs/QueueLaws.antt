-- Stores of a task's queue word keep the rule.
use Rattle.std.proofs.Common.{◌≡◌, ℕ, ◌<◌, ◌+◌, refl, sym, ap, subst, ◌∙◌, List, ◌∷◌, arith}
use Rattle.std.specs.Prelude.{◌/◌, ◌%◌, Option, Some, unwrap_or}
use Rattle.core_data.specs.Queue.{Queue}
use Rattle.core_data.specs.Columns.{put, put_at}
use Rattle.core_kinds.specs.Running.{MayQueue, MayDequeue, MayMove}
use Rattle.handoff_data.specs.declared.shape.Shape.{Shape}
use Rattle.word_rule.proofs.BodiesKept.{known_still}
use Rattle.word_rule.proofs.GrownKept.{next_grown}
use Rattle.word_rule.proofs.OffKept.{queue_task_off, dequeue_task_off, move_task_off}
use Rattle.word_rule.proofs.Possible.{queue_number, queue_on, queue_possible, dequeue_possible, move_possible}
use Rattle.word_rule.proofs.Quiet.{words_hold_after}
use Rattle.word_rule.proofs.RunsKept.{queue_task_runs, dequeue_task_runs, move_task_runs}
use Rattle.word_rule.proofs.StandingKept.{queue_task_standing, dequeue_task_standing, move_task_standing}
use Rattle.word_rule.specs.WordsHold.{WordsHold}
use Rattle.word_rule.specs.May.{MayQueueWord, MayDequeueWord, MayMoveWord, cpu_read_of, number_of, on_of}
use Rattle.word_steps.proofs.CurrentKept.{queue_task_current, dequeue_task_current, move_task_current}
use Rattle.word_steps.proofs.EndedKept.{ended_still, counts_put}
use Rattle.word_steps.proofs.Events.{queue_task_event, dequeue_task_event, move_task_event}
use Rattle.word_steps.proofs.ExclusivesKept.{exclusives_beside}
use Rattle.word_steps.proofs.MatchedKept.{matched_beside, grows_next}
use Rattle.word_steps.proofs.MovingKept.{states_put}
use Rattle.word_steps.proofs.MovingSteps.{queue_task_moves, dequeue_task_moves, move_task_moves}
use Rattle.word_steps.proofs.NumbersKept.{queue_task_numbers, dequeue_task_numbers, move_task_numbers}
use Rattle.word_steps.proofs.PutKept.{queue_task_put, dequeue_task_put, move_task_put}
use Rattle.word_steps.proofs.QueuedKept.{queue_task_queued, dequeue_task_queued, move_task_queued}
use Rattle.word_steps.specs.Decode.{Homes, core_of}
use Rattle.word_steps.specs.Events.{IsEvent}
use Rattle.word_steps.specs.Folds.{last_reads, number_read}
use Rattle.word_steps.specs.Records.{Rec, Queued, Dequeued, Moved}
use Rattle.word_steps.specs.Words.{RQ}

-- the processor that was read last
read_of : (trace : List Rec) (t c : ℕ) → (last_reads trace t).cpu ≡ Some c → c ≡ cpu_read_of trace t
read_of trace t c read = sym (ap (λ (o : Option ℕ). unwrap_or o 0) read)

-- .. and the number
read_number : (trace : List Rec) (t m : ℕ) → number_read trace t ≡ Some m → m ≡ number_of trace t
read_number trace t m read = sym (ap (λ (o : Option ℕ). unwrap_or o 0) read)

module _ (shape : Shape) (words : ℕ → ℕ → ℕ) (homes : Homes) (traces : ℕ → List Rec) (s n y : ℕ)
    (kept : WordsHold shape words homes traces) (seat : s < shape.cpus + shape.agents) where
  -- what the word was
  abbrev on : ℕ
  on = words n RQ % 4

  abbrev m : ℕ
  m = words n RQ / 4

  next_of : (may : MayQueueWord s (traces s) n (words n RQ) y) → y / 4 ≡ words n RQ / 4 + 1
  next_of may = omega (arith, may.after, queue_number shape words homes traces s kept seat n y may)

  -- what the word was is what the seat knows of it
  as_known : (P : Rec → Type 0) (may : MayQueueWord s (traces s) n (words n RQ) y) → P (Queued n may.cpu on m)
      → P (Queued n (cpu_read_of (traces s) n) (on_of (traces s) n) (number_of (traces s) n))
  as_known P may h =
      subst (λ (z : ℕ). P (Queued n z (on_of (traces s) n) (number_of (traces s) n))) (read_of (traces s) n may.cpu may.read)
      (subst (λ (z : ℕ). P (Queued n may.cpu z (number_of (traces s) n))) (queue_on shape words homes traces s kept seat n y may)
      (subst (λ (z : ℕ). P (Queued n may.cpu on z))
      (queue_number shape words homes traces s kept seat n y may ∙ read_number (traces s) n may.number may.known) h))

  -- a seat queues a task by what it knows of it
  pub queue_is_event : n < shape.tasks → MayQueueWord s (traces s) n (words n RQ) y
      → IsEvent shape words homes traces s (Queued n (cpu_read_of (traces s) n) (on_of (traces s) n) (number_of (traces s) n))
      (put_at words n RQ y) homes
  queue_is_event task may =
      as_known (λ r. IsEvent shape words homes traces s r (put_at words n RQ y) homes) may
      (queue_task_event shape words homes traces s may.cpu n y (omega (arith, may.after)) (next_of may)
      (queue_possible shape words homes traces s kept seat n y task may))

  pub queue_law : n < shape.tasks → MayQueueWord s (traces s) n (words n RQ) y
      → WordsHold shape (put_at words n RQ y) homes
      (put traces s (Queued n (cpu_read_of (traces s) n) (on_of (traces s) n) (number_of (traces s) n) ∷ traces s)) × Unit {0}
  queue_law task may = (
    as_known (λ r. WordsHold shape (put_at words n RQ y) homes (put traces s (r ∷ traces s))) may
        (by_core may.cpu (omega (arith, may.after)) (next_of may)
        (queue_possible shape words homes traces s kept seat n y task may)),
    tt,
  )
    where
      by_core : (c : ℕ) → y % 4 ≡ 1 → y / 4 ≡ words n RQ / 4 + 1 → MayQueue (core_of shape words homes traces) s c n
          → WordsHold shape (put_at words n RQ y) homes (put traces s (Queued n c on m ∷ traces s))
      by_core c on_is next core =
          words_hold_after shape words homes traces s kept (Queued n c on m) (put_at words n RQ y) homes
          (queue_task_event shape words homes traces s c n y on_is next core)
          (record {
            moving = queue_task_moves shape words homes traces s kept.moving c n y on_is core;
            current = queue_task_current words traces s kept.current c n on m y on_is;
            numbers = queue_task_numbers words traces s kept.numbers shape homes kept.holds c n on m y core;
            matched = matched_beside words traces s kept.matched n RQ y (Queued n c on m) (λ e. omega (arith, e))
                (grows_next words traces s kept.matched n y next) refl;
            queued = queue_task_queued words traces s kept.queued c n on m y on_is;
            exclusives = exclusives_beside words homes.wait traces s kept.exclusives n RQ y (Queued n c on m)
                (λ e. omega (arith, e)) (λ e. omega (arith, e)) (λ t k e. e) refl refl;
            put_there = queue_task_put words traces s kept.put_there shape homes kept.holds c n on m y on_is core;
            ended = ended_still homes.ended traces s kept.ended (Queued n c on m) (λ j. refl) refl;
            counts = counts_put words n RQ y kept.counts (λ e. omega (arith, e));
            states = states_put words n RQ y kept.states (λ e. absurd (omega (arith, e)));
            standing = queue_task_standing words traces s kept.standing shape homes c n on m y on_is core;
            runs = queue_task_runs words traces s kept.runs shape homes kept.holds c n y on_is core;
            off = queue_task_off words traces s kept.off shape homes kept.holds c n on m y core;
            grown = next_grown words traces s kept.grown n y (Queued n c on m) next refl;
            known = known_still traces s kept.known (Queued n c on m) refl refl;
          })

  pub dequeue_is_event : n < shape.tasks → MayDequeueWord s (traces s) n (words n RQ) y
      → IsEvent shape words homes traces s (Dequeued n s (words n RQ / 4)) (put_at words n RQ y) homes
  dequeue_is_event task may =
      dequeue_task_event shape words homes traces s s n y (omega (arith, may.after)) (omega (arith, may.after))
      (dequeue_possible shape words homes traces s kept seat n y task may)

  pub dequeue_law : n < shape.tasks → MayDequeueWord s (traces s) n (words n RQ) y
      → WordsHold shape (put_at words n RQ y) homes (put traces s (Dequeued n s (words n RQ / 4) ∷ traces s)) × Unit {0}
  dequeue_law task may = (
    by_core (omega (arith, may.after)) (omega (arith, may.after))
        (dequeue_possible shape words homes traces s kept seat n y task may),
    tt,
  )
    where
      by_core : y % 4 ≡ 0 → y / 4 ≡ words n RQ / 4 + 1 → MayDequeue (core_of shape words homes traces) s s n
          → WordsHold shape (put_at words n RQ y) homes (put traces s (Dequeued n s m ∷ traces s))
      by_core on_is next core =
          words_hold_after shape words homes traces s kept (Dequeued n s m) (put_at words n RQ y) homes
          (dequeue_task_event shape words homes traces s s n y on_is next core)
          (record {
            moving = dequeue_task_moves shape words homes traces s kept.moving s n y on_is core;
            current = dequeue_task_current words traces s kept.current shape homes kept.holds s n m y core;
            numbers = dequeue_task_numbers words traces s kept.numbers shape homes kept.holds s n m y core;
            matched = matched_beside words traces s kept.matched n RQ y (Dequeued n s m) (λ e. omega (arith, e))
                (grows_next words traces s kept.matched n y next) refl;
            queued = dequeue_task_queued words traces s kept.queued shape homes s n m y core;
            exclusives = exclusives_beside words homes.wait traces s kept.exclusives n RQ y (Dequeued n s m)
                (λ e. omega (arith, e)) (λ e. omega (arith, e)) (λ t k e. e) refl refl;
            put_there = dequeue_task_put words traces s kept.put_there shape homes kept.holds s n m y core;
            ended = ended_still homes.ended traces s kept.ended (Dequeued n s m) (λ j. refl) refl;
            counts = counts_put words n RQ y kept.counts (λ e. omega (arith, e));
            states = states_put words n RQ y kept.states (λ e. absurd (omega (arith, e)));
            standing = dequeue_task_standing words traces s kept.standing shape homes s n m y on_is core;
            runs = dequeue_task_runs words traces s kept.runs shape homes s n m y core;
            off = dequeue_task_off words traces s kept.off shape homes kept.holds s n m y core;
            grown = next_grown words traces s kept.grown n y (Dequeued n s m) next refl;
            known = known_still traces s kept.known (Dequeued n s m) refl refl;
          })

  pub move_is_event : n < shape.tasks → MayMoveWord s (traces s) n (words n RQ) y
      → IsEvent shape words homes traces s (Moved n (cpu_read_of (traces s) n) (words n RQ / 4)) (put_at words n RQ y) homes
  move_is_event task may =
      subst (λ (c : ℕ). IsEvent shape words homes traces s (Moved n c m) (put_at words n RQ y) homes)
      (read_of (traces s) n may.cpu may.read)
      (move_task_event shape words homes traces s may.cpu n y may.taken (omega (arith, may.after)) (omega (arith, may.after))
      (move_possible shape words homes traces s kept seat n y task may))

  pub move_law : n < shape.tasks → MayMoveWord s (traces s) n (words n RQ) y
      → WordsHold shape (put_at words n RQ y) homes
      (put traces s (Moved n (cpu_read_of (traces s) n) (words n RQ / 4) ∷ traces s)) × Unit {0}
  move_law task may = (
    subst (λ (c : ℕ). WordsHold shape (put_at words n RQ y) homes (put traces s (Moved n c m ∷ traces s)))
        (read_of (traces s) n may.cpu may.read)
        (by_core may.cpu may.taken (omega (arith, may.after)) (omega (arith, may.after))
        (move_possible shape words homes traces s kept seat n y task may)),
    tt,
  )
    where
      by_core : (c : ℕ) (q : Queue) → y % 4 ≡ 2 → y / 4 ≡ words n RQ / 4 + 1
          → MayMove (core_of shape words homes traces) s c n q
          → WordsHold shape (put_at words n RQ y) homes (put traces s (Moved n c m ∷ traces s))
      by_core c q on_is next core =
          words_hold_after shape words homes traces s kept (Moved n c m) (put_at words n RQ y) homes
          (move_task_event shape words homes traces s c n y q on_is next core)
          (record {
            moving = move_task_moves shape words homes traces s kept.moving c n y q on_is core;
            current = move_task_current words traces s kept.current shape homes kept.holds c n m y q core;
            numbers = move_task_numbers words traces s kept.numbers shape homes kept.holds c n m y q core;
            matched = matched_beside words traces s kept.matched n RQ y (Moved n c m) (λ e. omega (arith, e))
                (grows_next words traces s kept.matched n y next) refl;
            queued = move_task_queued words traces s kept.queued shape homes c n m y q core;
            exclusives = exclusives_beside words homes.wait traces s kept.exclusives n RQ y (Moved n c m)
                (λ e. omega (arith, e)) (λ e. omega (arith, e)) (λ t k e. e) refl refl;
            put_there = move_task_put words traces s kept.put_there shape homes kept.holds c n m y q core;
            ended = ended_still homes.ended traces s kept.ended (Moved n c m) (λ j. refl) refl;
            counts = counts_put words n RQ y kept.counts (λ e. omega (arith, e));
            states = states_put words n RQ y kept.states (λ e. absurd (omega (arith, e)));
            standing = move_task_standing words traces s kept.standing shape homes c n m y q on_is core;
            runs = move_task_runs words traces s kept.runs shape homes c n m y q core;
            off = move_task_off words traces s kept.off shape homes kept.holds c n m y q core;
            grown = next_grown words traces s kept.grown n y (Moved n c m) next refl;
            known = known_still traces s kept.known (Moved n c m) refl refl;
          })
