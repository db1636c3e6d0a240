-- The opening core meets what the places of tasks and the positions of seats say.
use Rattle.std.proofs.Common.{◌≡◌, ℕ, zero, suc, ◌+◌, ◌<◌, ◌⊎◌, inl, inr, length, true, false, Some, None, refl, sym, ap, subst, arith}
use Rattle.std.specs.Prelude.{◌↔◌, replicate}
use Rattle.std.proofs.lemmas.List.{length-replicate}
use Rattle.core_data.specs.Found.{no_reads}
use Rattle.core_data.specs.Opening.{IsStart, first_task, first_cpu, first_cond, first_seat}
use Rattle.core_data.specs.Columns.{Columns, columns_of, column, current_task_of, task_held_of, seen_state_of, saw_off_of, is_claimed_of, saw_rest_off_of, saw_rest_idle_of, last_reads_of}
use Rattle.core_data.specs.declared.pos.Rq.{Rq}
use Rattle.core_data.specs.declared.pos.TaskReads.{TaskReads}
use Rattle.core_data.specs.declared.values.TaskVal.{TaskVal}
use Rattle.core_data.specs.declared.words.CpuWords.{CpuWords}
use Rattle.core_data.specs.declared.words.TaskWords.{TaskWords}
use Rattle.core_invariant.specs.Places.{PlacesHold, IsOpeningVal}
use Rattle.core_invariant.specs.Positions.{PositionsHold}
use Rattle.core_kinds.specs.Steps.{fresh, running, IsRunnable}
use Rattle.handoff_data.specs.Mask.{HasCpu}
use Rattle.handoff_data.specs.Shape.{IsShape}
use Rattle.handoff_data.specs.declared.mask.CpuMask.{CpuMask}
use Rattle.handoff_data.specs.declared.shape.Shape.{Shape}
use Rattle.handoff_data.specs.declared.state.State.{State}

-- a column of rows that are all alike
column-blank : {A B : Type 0} (f : A → B) (d : B) (n : ℕ) (x : A) (k : ℕ) → f x ≡ d → column f d (replicate n x) k ≡ d
column-blank f d zero x k h = refl
column-blank f d (suc n) x zero h = h
column-blank f d (suc n) x (suc k) h = column-blank f d n x k h

column-either : {A B : Type 0} (f : A → B) (d : B) (n : ℕ) (x : A) (k : ℕ) → (column f d (replicate n x) k ≡ f x) ⊎ (column f d (replicate n x) k ≡ d)
column-either f d zero x k = inr refl
column-either f d (suc n) x zero = inl refl
column-either f d (suc n) x (suc k) = column-either f d n x k

column-within : {A B : Type 0} (f : A → B) (d : B) (n : ℕ) (x : A) (k : ℕ) → k < length (replicate n x) → column f d (replicate n x) k ≡ f x
column-within f d zero x k h = absurd (omega arith)
column-within f d (suc n) x zero h = refl
column-within f d (suc n) x (suc k) h = column-within f d n x k (omega arith)

abbrev opening : Shape → CpuMask → Columns
opening shape mask = columns_of shape (replicate shape.tasks (first_task mask)) (replicate shape.cpus first_cpu) (replicate shape.conds first_cond) (replicate (shape.cpus + shape.agents) first_seat)

on_rq-start : (shape : Shape) (mask : CpuMask) (t : ℕ) → (opening shape mask).on_rq t ≡ 0
on_rq-start shape mask t = column-blank (λ (w : TaskWords). w.on_rq) 0 shape.tasks (first_task mask) t refl

changes-start : (shape : Shape) (mask : CpuMask) (t : ℕ) → (opening shape mask).changes t ≡ 0
changes-start shape mask t = column-blank (λ (w : TaskWords). w.changes) 0 shape.tasks (first_task mask) t refl

on_cpu-start : (shape : Shape) (mask : CpuMask) (t : ℕ) → (opening shape mask).on_cpu t ≡ false
on_cpu-start shape mask t = column-blank (λ (w : TaskWords). w.on_cpu) false shape.tasks (first_task mask) t refl

count-start : (shape : Shape) (mask : CpuMask) (t : ℕ) → (opening shape mask).count t ≡ 0
count-start shape mask t = column-blank (λ (w : TaskWords). w.count) 0 shape.tasks (first_task mask) t refl

lock-start : (shape : Shape) (mask : CpuMask) (t : ℕ) → (opening shape mask).lock t ≡ None
lock-start shape mask t = column-blank (λ (w : TaskWords). w.lock) None shape.tasks (first_task mask) t refl

queue_lock-start : (shape : Shape) (mask : CpuMask) (c : ℕ) → (opening shape mask).queue_lock c ≡ None
queue_lock-start shape mask c = column-blank (λ (w : CpuWords). w.queue_lock) None shape.cpus first_cpu c refl

current-start : (shape : Shape) (mask : CpuMask) (s : ℕ) → (opening shape mask).current_task s ≡ None
current-start shape mask s = column-blank current_task_of None (shape.cpus + shape.agents) first_seat s refl

seen-start : (shape : Shape) (mask : CpuMask) (s : ℕ) → (opening shape mask).seen_state s ≡ None
seen-start shape mask s = column-blank seen_state_of None (shape.cpus + shape.agents) first_seat s refl

task_out-start : (shape : Shape) (mask : CpuMask) (s t : ℕ) → (opening shape mask).task_held s t ≡ None
task_out-start shape mask s t = ap (λ f. f t) (column-blank task_held_of (λ u. None) (shape.cpus + shape.agents) first_seat s refl)

saw_off-start : (shape : Shape) (mask : CpuMask) (s t : ℕ) → (opening shape mask).saw_off s t ≡ false
saw_off-start shape mask s t = ap (λ f. f t) (column-blank saw_off_of (λ u. false) (shape.cpus + shape.agents) first_seat s refl)

claimed-start : (shape : Shape) (mask : CpuMask) (s t : ℕ) → (opening shape mask).is_claimed s t ≡ false
claimed-start shape mask s t = ap (λ f. f t) (column-blank is_claimed_of (λ u. false) (shape.cpus + shape.agents) first_seat s refl)

rest_off-start : (shape : Shape) (mask : CpuMask) (s t : ℕ) → (opening shape mask).saw_rest_off s t ≡ false
rest_off-start shape mask s t = ap (λ f. f t) (column-blank saw_rest_off_of (λ u. false) (shape.cpus + shape.agents) first_seat s refl)

rest_idle-start : (shape : Shape) (mask : CpuMask) (s t : ℕ) → (opening shape mask).saw_rest_idle s t ≡ false
rest_idle-start shape mask s t = ap (λ f. f t) (column-blank saw_rest_idle_of (λ u. false) (shape.cpus + shape.agents) first_seat s refl)

reads-start : (shape : Shape) (mask : CpuMask) (s t : ℕ) → (opening shape mask).last_reads s t ≡ no_reads t
reads-start shape mask s t = ap (λ f. f t) (column-blank last_reads_of (λ u. no_reads u) (shape.cpus + shape.agents) first_seat s refl)

state-runnable : (shape : Shape) (mask : CpuMask) (t : ℕ) → IsRunnable ((opening shape mask).state t)
state-runnable shape mask t =
    elim (column-either (λ (w : TaskWords). w.state) running shape.tasks (first_task mask) t) [
      | inl a ↦ inr (ap (λ (z : State). z.0) a)
      | inr a ↦ inl (ap (λ (z : State). z.0) a)
    ]

state-fresh : (shape : Shape) (mask : CpuMask) (t : ℕ) → t < (opening shape mask).tasks → (opening shape mask).state t ≡ fresh
state-fresh shape mask t h = column-within (λ (w : TaskWords). w.state) running shape.tasks (first_task mask) t h

abbrev first_val : CpuMask → TaskVal
first_val mask = record { mask = mask; r = 0; narrowed = None; wake_cpu = 0; pending = None; stop_queued = false; dest = 0 }

val-start : (shape : Shape) (mask : CpuMask) (t : ℕ) (v : TaskVal) → (opening shape mask).val t ≡ Some v → v ≡ first_val mask
val-start shape mask t v h =
    elim (column-either (λ (w : TaskWords). w.val) None shape.tasks (first_task mask) t) [
      | inl a ↦ cc
      | inr a ↦ absurd (grind (arith, a, h))
    ]

first_val-opening : (shape : Shape) (mask : CpuMask) → ((c : ℕ) → HasCpu mask c ↔ (c < shape.cpus)) → IsOpeningVal (opening shape mask).cpus (first_val mask)
first_val-opening shape mask all =
    record { mask = λ c. subst (λ n. HasCpu mask c ↔ (c < n)) (sym (length-replicate shape.cpus first_cpu)) (all c); pending = refl; stop_queued = refl }

PlacesHold-opening : (shape : Shape) (mask : CpuMask) → ((c : ℕ) → HasCpu mask c ↔ (c < shape.cpus)) → PlacesHold (opening shape mask)
PlacesHold-opening shape mask all =
    record {
      on_rq = λ t. omega (arith, on_rq-start shape mask t);
      new = record { off = λ t h. on_rq-start shape mask t; idle = λ t h. on_cpu-start shape mask t; level = λ t h. count-start shape mask t };
      new_states = record { free = λ t b h l. state-fresh shape mask t b; held = λ t s b h l e. state-fresh shape mask t b; runnable = λ t h. state-runnable shape mask t };
      new_values = record {
        at_home = λ t v h e. subst (IsOpeningVal (opening shape mask).cpus) (sym (val-start shape mask t v e)) (first_val-opening shape mask all);
        taken = λ s t v h e. absurd (grind (arith, task_out-start shape mask s t, e));
      };
      off = λ t h e. absurd (h (changes-start shape mask t));
      current = λ s t h e. absurd (grind (arith, current-start shape mask s, h));
      waiting = λ t e idle. absurd (grind (arith, on_rq-start shape mask t, e));
      moving = record {
        runnable = λ t e. state-runnable shape mask t;
        idle = λ t e. on_cpu-start shape mask t;
        locked = λ t e. absurd (grind (arith, on_rq-start shape mask t, e));
      };
    }

PositionsHold-opening : (shape : Shape) (mask : CpuMask) → PositionsHold (opening shape mask)
PositionsHold-opening shape mask =
    record {
      matched = record {
        started = λ s t l h. absurd (locked t s l);
        alive = λ s t l h. absurd (locked t s l);
        stands = λ s t l h. absurd (locked t s l);
        saw_after = λ s t h. absurd (grind (arith, saw_off-start shape mask s t, h));
        off = λ s t l h. on_rq-start shape mask t;
      };
      made_runnable = λ s t l h q c. absurd (locked t s l);
      claimed = record {
        locked = λ s t h. absurd (claims s t h);
        off = λ s t h. on_rq-start shape mask t;
        awaits = λ s t h. absurd (claims s t h);
        idle = λ s t h c. on_cpu-start shape mask t;
      };
      resting = record {
        rests = λ s t l h. absurd (locked t s l);
        off_after = λ s t h. absurd (grind (arith, rest_off-start shape mask s t, h));
        off = λ s t l h. on_rq-start shape mask t;
        idle_after = λ s t h. absurd (grind (arith, rest_idle-start shape mask s t, h));
        idle = λ s t l h. on_cpu-start shape mask t;
      };
      seen = record {
        locked = λ s x h. absurd (grind (arith, seen-start shape mask s, h));
        is = λ s t x h o e. absurd (grind (arith, seen-start shape mask s, e));
      };
      idle = record { read = λ s c t l h e here. inl (on_cpu-start shape mask t); put = λ s c t l h e here. inl (on_cpu-start shape mask t) };
      cpu = λ s t c l e. absurd (locked t s l);
      reads = record {
        queued = λ s t rq l e on. absurd (locked t s l);
        off = λ s t rq l e on some. absurd (locked t s l);
        still = λ s t rq l e on. absurd (locked t s l);
        busy = λ s t rq l e on b. absurd (locked t s l);
        number = λ s t rq e. absurd (no_rq s t rq e);
        past = λ s t m e. absurd (no_number s t m e);
      };
      waking_stored = λ s t l e w. absurd (locked t s l);
      moving_stored = λ s t l e. absurd (locked t s l);
    }
  where
    locked : (t s : ℕ) → (opening shape mask).lock t ≡ Some s → ⊥
    locked t s h = grind (arith, lock-start shape mask t, h)

    no_rq : (s t : ℕ) (rq : Rq) → ((opening shape mask).last_reads s t).rq ≡ Some rq → ⊥
    no_rq s t rq e = let none = ap (λ (x : TaskReads). x.rq) (reads-start shape mask s t) in grind (arith, none, e)

    no_number : (s t m : ℕ) → ((opening shape mask).last_reads s t).number ≡ Some m → ⊥
    no_number s t m e = let none = ap (λ (x : TaskReads). x.number) (reads-start shape mask s t) in grind (arith, none, e)

    claims : (s t : ℕ) → (opening shape mask).is_claimed s t ≡ true → ⊥
    claims s t h = grind (arith, claimed-start shape mask s t, h)

pub PlacesHold-start : (shape : Shape) (core : Columns) → IsShape shape → IsStart shape core → PlacesHold core
PlacesHold-start shape core is start = subst PlacesHold (sym start.rows) (PlacesHold-opening shape start.mask start.all)

pub PositionsHold-start : (shape : Shape) (core : Columns) → IsShape shape → IsStart shape core → PositionsHold core
PositionsHold-start shape core is start = subst PositionsHold (sym start.rows) (PositionsHold-opening shape start.mask)
