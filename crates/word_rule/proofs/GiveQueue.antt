-- When a seat may give a queue's lock, by what its own trace tells.
use Rattle.std.proofs.Common.{◌≡◌, ◌≢◌, ℕ, ◌<◌, ◌+◌, inl, inr, refl, sym, ap, subst, ◌∙◌, List, arith}
use Rattle.std.specs.Prelude.{◌%◌, ◌==◌, ◌&&◌, ◌⊎◌, true, false, Option, Some, None, IsSome, unwrap_or, if◌then◌else◌}
use Rattle.std.proofs.lemmas.Bool.{cases_eq}
use Rattle.std.proofs.lemmas.Bool.Decides.{nat_tests}
use Rattle.core_data.specs.Queue.{Queue, times_in}
use Rattle.core_gives.specs.Queues.{MayGiveQueue, MayGiveUp, times, is_some_of}
use Rattle.core_kinds.specs.Steps.{IsRunnable}
use Rattle.handoff_data.specs.declared.shape.Shape.{Shape}
use Rattle.word_rule.specs.WordsHold.{WordsHold}
use Rattle.word_rule.specs.May.{MayGiveQueueVal}
use Rattle.word_steps.proofs.Conditions.{queue_locked, body_out_may}
use Rattle.word_steps.proofs.MovingKept.{one_seat}
use Rattle.word_steps.specs.Decode.{Homes, core_of}
use Rattle.word_steps.specs.Folds.{queue_held, has_added, current_task}
use Rattle.word_steps.specs.Records.{Rec}
use Rattle.word_steps.specs.Words.{QUEUE_LOCK, RQ, CPU, STATE, holder}

there_is : {A : Type 0} (o : Option A) (v : A) → o ≡ Some v → IsSome o
there_is o v e = subst (λ z. IsSome z) (sym e) refl

one_value : {A : Type 0} (o : Option A) (v w : A) → o ≡ Some v → o ≡ Some w → v ≡ w
one_value o v w a b = ap (λ z. unwrap_or z v) (sym a ∙ b)

is_or_not : (o : Option ℕ) (t : ℕ) → (o ≡ Some t) ⊎ (o ≢ Some t)
is_or_not None t = inr (λ e. absurd (grind (arith, e)))
is_or_not (Some j) t = elim (cases_eq j t) [
  | inl same ↦ inl (ap Some same)
  | inr apart ↦ inr (λ e. apart (grind (arith, e)))
]

-- the next task of a queue stands there
next_stands : (o : Option ℕ) (t waits on at c : ℕ) → o ≡ Some t
    → waits + (if is_some_of o t then 1 else 0) ≡ (if (on == 1) && (at == c) then 1 else 0)
    → (on ≡ 1) × (at ≡ c)
next_stands None t waits on at c e stands = absurd (grind (arith, e))
next_stands (Some j) t waits on at c e stands =
    let same : j ≡ t = grind (arith, e) in
    (grind (arith, nat_tests, same, stands), grind (arith, nat_tests, same, stands))

module _ (shape : Shape) (words : ℕ → ℕ → ℕ) (homes : Homes) (traces : ℕ → List Rec) (s c : ℕ) (given : Queue) where
  pub give_queue_may : WordsHold shape words homes traces → s < shape.cpus + shape.agents → c < shape.cpus
      → MayGiveQueueVal s (traces s) shape c given
      → MayGiveQueue (core_of shape words homes traces) s c given
  give_queue_may kept seat processor may =
      record {
        seat = seat;
        processor = processor;
        locked = locked;
        out = there_is (queue_held (traces s) c) may.taken may.held;
        fits = fits;
        runnable = (λ t waits. (kept.runs s c t locked (may.waits t waits)).runnable, next);
        switch = (
          λ other taken out. subst (λ (v : Queue). (given.cur ≡ v.cur) × (given.left ≡ v.left))
              (one_value (queue_held (traces s) c) may.taken taken may.held out) (may.others other),
          gives_up,
          may.clear,
        );
        left = may.left;
      }
    where
      locked : holder (words c QUEUE_LOCK) ≡ Some s
      locked = queue_locked shape words homes traces s kept.holds seat c may.taken may.held

      fits : (t : ℕ) → times given t ≡ (if (words t RQ % 4 == 1) && (words t CPU == c) then 1 else 0)
      fits t = may.stands t ∙ kept.standing s c t locked

      -- no seat's current task but that of the processor's own seat stands in its queue
      unadded : (t : ℕ) → (words t RQ % 4 ≡ 1) × (words t CPU ≡ c) → has_added (traces s) c t ≡ false
          → current_task c (traces c) ≢ Some t
          → IsRunnable (record { 0 = words t STATE })
      unadded t at unput other = elim (kept.holds.places.waiting t at.0 (λ k is. other
          (subst (λ (z : ℕ). current_task z (traces z) ≡ Some t)
          (sym (kept.holds.busy.runner.current_here k t is) ∙ at.1) is))) [
            | inl h ↦ h
            | inr w ↦ absurd (by_holder w.1.0 w.1.1 w.1.2)
          ]
        where
          by_holder : (o : ℕ) → holder (words (words t CPU) QUEUE_LOCK) ≡ Some o
              → has_added (traces o) (words t CPU) t ≡ true → ⊥
          by_holder o held added =
              let same : o ≡ s = one_seat (holder (words c QUEUE_LOCK)) s o locked
              (subst (λ (z : ℕ). holder (words z QUEUE_LOCK) ≡ Some o) at.1 held) in
              absurd (grind (
                arith,
                unput,
                subst (λ (z : ℕ). has_added (traces z) c t ≡ true) same
                    (subst (λ (z : ℕ). has_added (traces o) z t ≡ true) at.1 added),
              ))

      next : (t : ℕ) → given.cur ≡ Some t
          → IsRunnable (record { 0 = words t STATE }) ⊎ ((k : ℕ) × (current_task k (traces k) ≡ Some t))
      next t is = elim (may.next t is) [
        | inl runs ↦ inl (kept.runs s c t locked runs).runnable
        | inr unput ↦ elim (is_or_not (current_task c (traces c)) t) [
          | inl runs ↦ inr (c, runs)
          | inr other ↦ inl (unadded t
              (next_stands given.cur t (times_in given.waiting t) (words t RQ % 4) (words t CPU) c is (fits t))
              unput other)
        ]
      ]

      gives_up : s ≡ c → (t : ℕ) → current_task s (traces s) ≡ Some t
          → (given.cur ≡ Some t)
          ⊎ ((given.cur ≡ None) × (given.left ≡ Some t) × MayGiveUp (core_of shape words homes traces) s t)
      gives_up own t is = elim (may.own own t is) [
        | inl stays ↦ inl stays
        | inr left ↦ inr (
          left.0,
          left.1,
          (
            (body_out_may shape words homes traces s kept.holds seat t
                (kept.holds.shapes.current s t is) is left.2).home,
            inr (kept.counts t),
          ),
        )
      ]
