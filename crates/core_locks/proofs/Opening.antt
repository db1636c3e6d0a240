-- The opening core: locks, queues, busy words and what words name.
use Rattle.std.proofs.Common.{◌≡◌, ◌≢◌, ℕ, ◌+◌, ◌<◌, List, [], Bool, true, false, Some, None, Option, refl, sym, subst, length, arith}
use Rattle.std.specs.Prelude.{if◌then◌else◌, replicate, IsSome}
use Rattle.std.proofs.lemmas.List.{length-replicate}
use Rattle.std.proofs.lemmas.Bool.Decides.{nat_tests}
use Rattle.core_data.specs.Opening.{IsStart, first_task, first_cpu, first_cond, first_seat, no_tasks}
use Rattle.core_data.specs.Queue.{Queue}
use Rattle.core_data.specs.Columns.{Columns, column, columns_of, current_task_of, task_to_clear_of, task_held_of, queue_held_of, list_held_of, works_held_of, wait_held_of, body_held_of, has_added_of}
use Rattle.core_data.specs.Columns.{has_dropped_of, owes_walk_of}
use Rattle.core_data.specs.declared.values.TaskVal.{TaskVal}
use Rattle.core_data.specs.declared.values.WaitEntry.{WaitEntry}
use Rattle.core_data.specs.declared.words.CondWords.{CondWords}
use Rattle.core_data.specs.declared.words.CpuWords.{CpuWords}
use Rattle.core_data.specs.declared.words.TaskWords.{TaskWords}
use Rattle.core_gives.specs.Queues.{times, is_at}
use Rattle.core_invariant.specs.Busy.{BusyHolds}
use Rattle.core_invariant.specs.Locks.{LocksHold, IsGuarded}
use Rattle.core_invariant.specs.Queues.{QueuesHold}
use Rattle.core_invariant.specs.Shapes.{ShapesHold, IsTaskVal, IsQueueVal, IsWaitVal, HoldsOfValues}
use Rattle.core_kinds.specs.Steps.{dead}
use Rattle.core_locks.proofs.Rows.{each_word, word_there}
use Rattle.handoff_data.specs.Mask.{HasCpu}
use Rattle.handoff_data.specs.Shape.{IsShape}
use Rattle.handoff_data.specs.declared.mask.CpuMask.{CpuMask}
use Rattle.handoff_data.specs.declared.shape.Shape.{Shape}

-- the opening core of a shape, where `mask` has all its processors
abbrev opening : Shape → CpuMask → Columns
opening shape mask = columns_of shape (replicate shape.tasks (first_task mask)) (replicate shape.cpus first_cpu) (replicate shape.conds first_cond) (replicate (shape.cpus + shape.agents) first_seat)

-- locks that are all free, with what they guard at home
all_free : (A : Type 0) (count seats : ℕ) (lock : ℕ → Option ℕ) (home : ℕ → Option A) (out : ℕ → ℕ → Option A) → ((k : ℕ) → lock k ≡ None) → ((k : ℕ) → k < count → IsSome (home k))
    → ((s k : ℕ) → out s k ≡ None)
    → IsGuarded A count seats lock home out
all_free A count seats lock home out free there none =
    record {
      free_home = λ k h e. there k h;
      held_seat = λ k s e. absurd (grind (arith, free k, e));
      held_away = λ k s e. absurd (grind (arith, free k, e));
      held_out = λ k s e. absurd (grind (arith, free k, e));
      out_held = λ s k e. absurd (grind (arith, none s k, e));
    }

-- a row's value is there
there : {A B : Type 0} (f : A → Option B) (n : ℕ) (x : A) → IsSome (f x) → (k : ℕ) → k < length (replicate n x) → IsSome (column f None (replicate n x) k)
there f n x h k below = subst (λ o. IsSome o) (sym (word_there f None n x k (subst (λ z. k < z) (length-replicate n x) below))) h

opening-locks : (shape : Shape) (mask : CpuMask) → LocksHold (opening shape mask)
opening-locks shape mask =
    let seats = shape.cpus + shape.agents in
    record {
      tasks = all_free _ _ _ _ _ _
          (λ t. each_word (λ o. o ≡ None) (λ (w : TaskWords). w.lock) None shape.tasks (first_task mask) t refl refl)
          (there (λ (w : TaskWords). w.val) shape.tasks (first_task mask) refl)
          (λ s t. each_word (λ (g : ℕ → Option TaskVal). g t ≡ None) task_held_of (λ k. None) seats first_seat s refl refl);
      queues = all_free _ _ _ _ _ _
          (λ c. each_word (λ o. o ≡ None) (λ (w : CpuWords). w.queue_lock) None shape.cpus first_cpu c refl refl)
          (there (λ (w : CpuWords). w.queue) shape.cpus first_cpu refl)
          (λ s c. each_word (λ g. g c ≡ None) queue_held_of (λ k. None) seats first_seat s refl refl);
      lists = all_free _ _ _ _ _ _
          (λ c. each_word (λ o. o ≡ None) (λ (w : CpuWords). w.list_lock) None shape.cpus first_cpu c refl refl)
          (there (λ (w : CpuWords). w.list) shape.cpus first_cpu refl)
          (λ s c. each_word (λ g. g c ≡ None) list_held_of (λ k. None) seats first_seat s refl refl);
      works = all_free _ _ _ _ _ _
          (λ c. each_word (λ o. o ≡ None) (λ (w : CpuWords). w.works_lock) None shape.cpus first_cpu c refl refl)
          (there (λ (w : CpuWords). w.works) shape.cpus first_cpu refl)
          (λ s c. each_word (λ g. g c ≡ None) works_held_of (λ k. None) seats first_seat s refl refl);
      waits = all_free _ _ _ _ _ _
          (λ c. each_word (λ o. o ≡ None) (λ (w : CondWords). w.wait_lock) None shape.conds first_cond c refl refl)
          (there (λ (w : CondWords). w.wait) shape.conds first_cond refl)
          (λ s c. each_word (λ g. g c ≡ None) wait_held_of (λ k. None) seats first_seat s refl refl);
    }

pub LocksHold-start : (shape : Shape) (core : Columns) → IsShape shape → IsStart shape core → LocksHold core
LocksHold-start shape core is start = subst LocksHold (sym start.rows) (opening-locks shape start.mask)

-- no task is queued, busy or current, and no seat has one to clear
no_rq : (shape : Shape) (mask : CpuMask) (t : ℕ) → (opening shape mask).on_rq t ≡ 0
no_rq shape mask t = each_word (λ n. n ≡ 0) (λ (w : TaskWords). w.on_rq) 0 shape.tasks (first_task mask) t refl refl

no_busy : (shape : Shape) (mask : CpuMask) (t : ℕ) → (opening shape mask).on_cpu t ≡ false
no_busy shape mask t = each_word (λ b. b ≡ false) (λ (w : TaskWords). w.on_cpu) false shape.tasks (first_task mask) t refl refl

no_current : (shape : Shape) (mask : CpuMask) (s : ℕ) → (opening shape mask).current_task s ≡ None
no_current shape mask s = each_word (λ o. o ≡ None) current_task_of None (shape.cpus + shape.agents) first_seat s refl refl

none_left : (shape : Shape) (mask : CpuMask) (s : ℕ) → (opening shape mask).task_to_clear s ≡ None
none_left shape mask s = each_word (λ o. o ≡ None) task_to_clear_of None (shape.cpus + shape.agents) first_seat s refl refl

no_body_out : (shape : Shape) (mask : CpuMask) (s : ℕ) → (opening shape mask).body_held s ≡ None
no_body_out shape mask s = each_word (λ o. o ≡ None) body_held_of None (shape.cpus + shape.agents) first_seat s refl refl

first_place : (shape : Shape) (mask : CpuMask) (t : ℕ) → (opening shape mask).cpu t ≡ 0
first_place shape mask t = each_word (λ n. n ≡ 0) (λ (w : TaskWords). w.cpu) 0 shape.tasks (first_task mask) t refl refl

body_home : (shape : Shape) (mask : CpuMask) (t : ℕ) → t < (opening shape mask).tasks → (opening shape mask).body t ≡ true
body_home shape mask t below =
    word_there (λ (w : TaskWords). w.body) false shape.tasks (first_task mask) t (subst (λ z. t < z) (length-replicate shape.tasks (first_task mask)) below)

alive : (shape : Shape) (mask : CpuMask) (t : ℕ) → (opening shape mask).state t ≢ dead
alive shape mask t =
    each_word (λ x. x ≢ dead) (λ (w : TaskWords). w.state) (record { 0 = 0 }) shape.tasks (first_task mask) t (λ e. grind (arith, e)) (λ e. grind (arith, e))

opening-busy : (shape : Shape) (mask : CpuMask) → BusyHolds (opening shape mask)
opening-busy shape mask =
    record {
      runner = record {
        current_busy = λ s t e. absurd (grind (arith, no_current shape mask s, e));
        current_here = λ s t e. absurd (grind (arith, no_current shape mask s, e));
        left_busy = λ s t e. absurd (grind (arith, none_left shape mask s, e));
        left_here = λ s t e. absurd (grind (arith, none_left shape mask s, e));
        clear_first = λ s t e. none_left shape mask s;
        busy_is = λ t e. absurd (grind (arith, no_busy shape mask t, e));
      };
      named = record {
        left_home = λ c t val e h. absurd (grind (arith, none_left shape mask c, e));
        left_out = λ s c t val e h. absurd (grind (arith, none_left shape mask c, e));
        cur_home = λ c t val e h. absurd (grind (arith, no_current shape mask c, e));
        cur_out = λ s c t val n e h. absurd (grind (arith, no_current shape mask c, e));
      };
      bodies = record {
        out_current = λ s t e. absurd (grind (arith, no_body_out shape mask s, e));
        out_away = λ s t e. absurd (grind (arith, no_body_out shape mask s, e));
        away_out = λ t below e. absurd (grind (arith, body_home shape mask t below, e));
      };
      ended = λ t e. absurd (alive shape mask t e);
    }

pub BusyHolds-start : (shape : Shape) (core : Columns) → IsShape shape → IsStart shape core → BusyHolds core
BusyHolds-start shape core is start = subst BusyHolds (sym start.rows) (opening-busy shape start.mask)

some_same : {A : Type 0} (x y : A) → Some x ≡ Some y → x ≡ y
some_same x y e = cc

-- what holds of a row's value holds of each, where none is out
all_home : (A B C : Type 0) (P : A → Type 0) (f : B → Option A) (n : ℕ) (x : B) (g : C → ℕ → Option A) (m : ℕ) (y : C) → ((v : A) → f x ≡ Some v → P v) → ((k : ℕ) → g y k ≡ None)
    → HoldsOfValues A P (column f None (replicate n x)) (column g (λ k. None) (replicate m y))
all_home A B C P f n x g m y p none =
    record {
      at_home = λ k v e. each_word (λ o. o ≡ Some v → P v) f None n x k (p v) (λ h. absurd (grind (arith, h))) e;
      taken = λ s k v e. absurd (each_word (λ (h : ℕ → Option A). h k ≡ Some v → ⊥) g (λ j. None) m y s (λ h. grind (arith, none k, h)) (λ h. grind (arith, h)) e);
    }

-- what the first values name
first_named : (cpus seats : ℕ) (mask : CpuMask) (val : TaskVal) → 0 < cpus → ((c : ℕ) → HasCpu mask c → c < cpus) → (first_task mask).val ≡ Some val → IsTaskVal cpus seats val
first_named cpus seats mask val some_cpu all e =
    let r : IsTaskVal cpus seats (record { mask = mask; r = 0; narrowed = None; wake_cpu = 0; pending = None; stop_queued = false; dest = 0 }) = record {
      mask = all;
      narrowed = λ c h. absurd (grind (arith, h));
      wake_cpu = some_cpu;
      pending = λ s h. absurd (grind (arith, h));
      dest = some_cpu;
    } in
    subst (IsTaskVal cpus seats) (some_same _ val e) r

no_named : (tasks : ℕ) (val : Queue) → first_cpu.queue ≡ Some val → IsQueueVal tasks val
no_named tasks val e =
    let r : IsQueueVal tasks no_tasks = record {
      waiting = λ t h. absurd (h refl);
      cur = λ t h. absurd (grind (arith, h));
      left = λ t h. absurd (grind (arith, h));
    } in
    subst (IsQueueVal tasks) (some_same _ val e) r

no_entries : (tasks : ℕ) (val : List WaitEntry) → first_cond.wait ≡ Some val → IsWaitVal tasks val
no_entries tasks val e =
    let r : IsWaitVal tasks [] = λ x h. absurd (grind (arith, h)) in
    subst (IsWaitVal tasks) (some_same _ val e) r

none_owed : (shape : Shape) (mask : CpuMask) (s k : ℕ) → (opening shape mask).owes_walk s k ≡ false
none_owed shape mask s k = each_word (λ (g : ℕ → Bool). g k ≡ false) owes_walk_of (λ l. false) (shape.cpus + shape.agents) first_seat s refl refl

opening-shapes : (shape : Shape) (mask : CpuMask) → IsShape shape → ((c : ℕ) → HasCpu mask c → c < shape.cpus) → ShapesHold (opening shape mask)
opening-shapes shape mask is all =
    let cpus : length (replicate shape.cpus first_cpu) ≡ shape.cpus = length-replicate shape.cpus first_cpu in
    let some_cpu : 0 < length (replicate shape.cpus first_cpu) = let few = is.some_cpu in omega (arith, cpus, few) in
    record {
      sized = record {
        is_shape = is;
        tasks_of = length-replicate shape.tasks (first_task mask);
        cpus_of = cpus;
        conds_of = length-replicate shape.conds first_cond;
        seats_of = length-replicate (shape.cpus + shape.agents) first_seat;
      };
      queued = λ t h. absurd (h (no_rq shape mask t));
      busy = λ t e. absurd (grind (arith, no_busy shape mask t, e));
      cpu = λ t h. subst (λ z. z < length (replicate shape.cpus first_cpu)) (sym (first_place shape mask t)) some_cpu;
      current_seat = λ s t e. absurd (grind (arith, no_current shape mask s, e));
      current = λ s t e. absurd (grind (arith, no_current shape mask s, e));
      to_clear = λ s t e. absurd (grind (arith, none_left shape mask s, e));
      task_values = all_home _ _ _ (IsTaskVal (length (replicate shape.cpus first_cpu)) (length (replicate (shape.cpus + shape.agents) first_seat)))
          (λ (w : TaskWords). w.val) shape.tasks (first_task mask) task_held_of (shape.cpus + shape.agents) first_seat
          (λ v e. first_named (length (replicate shape.cpus first_cpu)) (length (replicate (shape.cpus + shape.agents) first_seat)) mask v some_cpu (λ c h. subst (λ z. c < z) (sym cpus) (all c h)) e)
          (λ k. refl);
      queue_values = all_home _ _ _ (IsQueueVal (length (replicate shape.tasks (first_task mask))))
          (λ (w : CpuWords). w.queue) shape.cpus first_cpu queue_held_of (shape.cpus + shape.agents) first_seat
          (λ v e. no_named (length (replicate shape.tasks (first_task mask))) v e) (λ k. refl);
      wait_values = all_home _ _ _ (IsWaitVal (length (replicate shape.tasks (first_task mask)))) (λ (w : CondWords). w.wait) shape.conds first_cond wait_held_of (shape.cpus + shape.agents) first_seat
          (λ v e. no_entries (length (replicate shape.tasks (first_task mask))) v e) (λ k. refl);
      owes = λ s k e. absurd (grind (arith, none_owed shape mask s k, e));
    }

pub ShapesHold-start : (shape : Shape) (core : Columns) → IsShape shape → IsStart shape core → ShapesHold core
ShapesHold-start shape core is start = subst ShapesHold (sym start.rows) (opening-shapes shape start.mask is (λ c h. (start.all c).0 h))

no_taken : (shape : Shape) (mask : CpuMask) (s c : ℕ) → (opening shape mask).queue_held s c ≡ None
no_taken shape mask s c = each_word (λ (g : ℕ → Option Queue). g c ≡ None) queue_held_of (λ k. None) (shape.cpus + shape.agents) first_seat s refl refl

none_added : (shape : Shape) (mask : CpuMask) (s c t : ℕ) → (opening shape mask).has_added s c t ≡ false
none_added shape mask s c t = each_word (λ (g : ℕ → ℕ → Bool). g c t ≡ false) has_added_of (λ k u. false) (shape.cpus + shape.agents) first_seat s refl refl

none_dropped : (shape : Shape) (mask : CpuMask) (s c t : ℕ) → (opening shape mask).has_dropped s c t ≡ false
none_dropped shape mask s c t = each_word (λ (g : ℕ → ℕ → Bool). g c t ≡ false) has_dropped_of (λ k u. false) (shape.cpus + shape.agents) first_seat s refl refl

empty_queue : (shape : Shape) (mask : CpuMask) (c : ℕ) (val : Queue) → (opening shape mask).queue c ≡ Some val → no_tasks ≡ val
empty_queue shape mask c val =
    each_word (λ o. o ≡ Some val → no_tasks ≡ val) (λ (w : CpuWords). w.queue) None shape.cpus first_cpu c (λ e. some_same no_tasks val e) (λ e. absurd (grind (arith, e)))

empty_fits : (on_rq cpu : ℕ → ℕ) (c t : ℕ) → on_rq t ≡ 0 → times no_tasks t ≡ (if is_at on_rq cpu c t then 1 else 0)
empty_fits on_rq cpu c t off = none
  where
    none : ◌≡◌ {A = ℕ} 0 (if is_at on_rq cpu c t then 1 else 0)
    none = grind (arith, nat_tests, off)

opening-queues : (shape : Shape) (mask : CpuMask) → QueuesHold (opening shape mask)
opening-queues shape mask =
    let core = opening shape mask in
    record {
      at_home = λ c val e t. subst (λ (q : Queue). times q t ≡ (if is_at core.on_rq core.cpu c t then 1 else 0)) (empty_queue shape mask c val e)
          (empty_fits core.on_rq core.cpu c t (no_rq shape mask t));
      left = λ s c val t e a d. absurd (grind (arith, no_taken shape mask s c, e));
      dropped = λ s c t l d r. absurd (grind (arith, none_dropped shape mask s c t, d));
      added = λ s c t l a r w. absurd (grind (arith, none_added shape mask s c t, a));
    }

pub QueuesHold-start : (shape : Shape) (core : Columns) → IsShape shape → IsStart shape core → QueuesHold core
QueuesHold-start shape core is start = subst QueuesHold (sym start.rows) (opening-queues shape start.mask)
