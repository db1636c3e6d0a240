-- What a seat may do next on its way through a start.
use Rattle.std.proofs.Common.{◌≡◌, ◌∙◌, ◌<◌, ℕ, ◌∷◌, List, inl, inr, refl, sym, ap, subst, arith}
use Rattle.std.specs.Prelude.{Bool, true, false, ◌==◌, Some, None, if◌then◌else◌}
use Rattle.std.proofs.lemmas.Bool.Decides.{nat_tests}
use Rattle.core_data.proofs.QueueLemmas.{times_in-push}
use Rattle.core_data.specs.Queue.{Queue}
use Rattle.core_data.specs.declared.values.TaskVal.{TaskVal}
use Rattle.core_kinds.specs.Steps.{fresh}
use Rattle.handoff_data.specs.declared.shape.Shape.{Shape}
use Rattle.handoff_data.specs.declared.state.State.{State}
use Rattle.run_queue.proofs.Apart.{apart_again, took_task_apart, gave_task_apart, took_queue_apart, gave_queue_apart, queued_apart, rq_apart, made_runnable_apart, state_apart, placed_apart}
use Rattle.run_queue.specs.Queueing.{pushed, placed}
use Rattle.run_queue.specs.Rests.{Rests, IsApart}
use Rattle.run_queue.specs.Starts.{queued_new}
use Rattle.word_rule.proofs.Uses.{gives_put}
use Rattle.word_rule.specs.May.{MayGiveQueueVal, MayGiveTaskVal}
use Rattle.word_rule.specs.Told.{TakenQueue}
use Rattle.word_steps.specs.Folds.{task_held, queue_held, current_task, task_to_clear, is_claimed}
use Rattle.word_steps.specs.Records.{Rec, Took, Gave, Queued, MadeRunnable, LoadedState, LoadedRq, LoadedCpu, StoredCpu}
use Rattle.word_steps.specs.declared.val.Val.TheVariants as val

module _ (shape : Shape) (s t c : ℕ) (v : Queue) (rs : List Rec) where
  pub give_new_may : TakenQueue shape s (MadeRunnable t ∷ rs) c v
      → MayGiveQueueVal s (Queued t c 0 0 ∷ Took c (val.Queue v) ∷ MadeRunnable t ∷ rs) shape c (pushed t v)
  give_new_may told =
      gives_put shape s c v (MadeRunnable t ∷ rs) told t 0 0 (pushed t v) (inl refl) (λ u. grind (arith, nat_tests, times_in-push v.waiting t u)) refl refl

-- the lock of the task is still held after the start
pub held_started : (t c from on : ℕ) (v : TaskVal) (q : Queue) (rs : List Rec)
    → task_held (queued_new t c q (placed t from c (LoadedRq t on 0 ∷ LoadedState t None fresh ∷ Took t (val.Task v) ∷ rs))) t ≡ Some v
held_started t c from on v q rs = grind (arith, nat_tests)

-- What a start leaves as it was

either_current : (same : Bool) (s t c from : ℕ) (trace : List Rec)
    → current_task s (if same then LoadedCpu t from ∷ trace else StoredCpu t c ∷ LoadedCpu t from ∷ trace) ≡ current_task s trace
either_current true s t c from trace = refl
either_current false s t c from trace = refl

pub placed_current : (s t c from : ℕ) (trace : List Rec) → current_task s (placed t from c trace) ≡ current_task s trace
placed_current s t c from trace = either_current (from == c) s t c from trace

either_clear : (same : Bool) (s t c from : ℕ) (trace : List Rec)
    → task_to_clear s (if same then LoadedCpu t from ∷ trace else StoredCpu t c ∷ LoadedCpu t from ∷ trace) ≡ task_to_clear s trace
either_clear true s t c from trace = refl
either_clear false s t c from trace = refl

pub placed_clear : (s t c from : ℕ) (trace : List Rec) → task_to_clear s (placed t from c trace) ≡ task_to_clear s trace
placed_clear s t c from trace = either_clear (from == c) s t c from trace

-- what was read before the task was placed
abbrev pub first_reads : ℕ → ℕ → TaskVal → List Rec → List Rec
first_reads t on v old = LoadedRq t on 0 ∷ LoadedState t None fresh ∷ Took t (val.Task v) ∷ old

first_apart : (t on : ℕ) (v : TaskVal) (old : List Rec) → IsApart old (first_reads t on v old)
first_apart t on v old =
    let a = Took t (val.Task v) ∷ old in
    let b = LoadedState t None fresh ∷ a in
    apart_again old b (LoadedRq t on 0 ∷ b)
    (apart_again old a b (took_task_apart old t v) (state_apart a t None fresh)) (rq_apart b t on 0)

queued_new_apart : (t c : ℕ) (q : Queue) (old : List Rec) → IsApart old (queued_new t c q old)
queued_new_apart t c q old =
    let a = MadeRunnable t ∷ old in
    let b = Took c (val.Queue q) ∷ a in
    let d = Queued t c 0 0 ∷ b in
    apart_again old d (Gave c (val.Queue q) (val.Queue (pushed t q)) ∷ d)
    (apart_again old b d (apart_again old a b (made_runnable_apart old t) (took_queue_apart a c q)) (queued_apart b t c 0 0))
    (gave_queue_apart d c q (pushed t q))

started_apart : (t c from on : ℕ) (v w given : TaskVal) (q : Queue) (old : List Rec)
    → IsApart old (Gave t (val.Task w) (val.Task given) ∷ queued_new t c q (placed t from c (first_reads t on v old)))
started_apart t c from on v w given q old =
    let a = first_reads t on v old in
    let b = placed t from c a in
    let d = queued_new t c q b in
    apart_again old d (Gave t (val.Task w) (val.Task given) ∷ d)
    (apart_again old b d (apart_again old a b (first_apart t on v old) (placed_apart t c from a)) (queued_new_apart t c q b))
    (gave_task_apart d t w given)

pub started_rests : (s t c from on : ℕ) (v w given : TaskVal) (q : Queue) (old new : List Rec)
    → new ≡ Gave t (val.Task w) (val.Task given)
    ∷ queued_new t c q (placed t from c (LoadedRq t on 0 ∷ LoadedState t None fresh ∷ Took t (val.Task v) ∷ old))
    → current_task s new ≡ current_task s old → task_to_clear s new ≡ task_to_clear s old → Rests s old new
started_rests s t c from on v w given q old new did current clear =
    record {
      tasks = λ u e. ap (λ (z : List Rec). task_held z u) did ∙ started_tasks u e;
      queues = λ f k. ap (λ (z : List Rec). queue_held z k) did ∙ started_queues k (f k);
      claimed = λ u e. ap (λ (z : List Rec). is_claimed z u) did ∙ started_claimed u e;
      current = current;
      clear = clear;
      apart = subst (λ (z : List Rec). IsApart old z) (sym did) (started_apart t c from on v w given q old);
    }
  where
    started_tasks : (u : ℕ) → task_held old u ≡ None → task_held (Gave t (val.Task w) (val.Task given)
        ∷ queued_new t c q (placed t from c (LoadedRq t on 0 ∷ LoadedState t None fresh ∷ Took t (val.Task v) ∷ old))) u ≡ None
    started_tasks u e = grind (arith, nat_tests, e)

    started_queues : (k : ℕ) → queue_held old k ≡ None → queue_held (Gave t (val.Task w) (val.Task given)
        ∷ queued_new t c q (placed t from c (LoadedRq t on 0 ∷ LoadedState t None fresh ∷ Took t (val.Task v) ∷ old))) k ≡ None
    started_queues k e = grind (arith, nat_tests, e)

    started_claimed : (u : ℕ) → is_claimed old u ≡ false → is_claimed (Gave t (val.Task w) (val.Task given)
        ∷ queued_new t c q (placed t from c (LoadedRq t on 0 ∷ LoadedState t None fresh ∷ Took t (val.Task v) ∷ old))) u ≡ false
    started_claimed u e = grind (arith, nat_tests, e)

-- the lock of the task may be given after the start
pub give_started_may : (shape : Shape) (s t c : ℕ) (v : TaskVal) (q : Queue) (rs : List Rec)
    → task_held (queued_new t c q rs) t ≡ Some v → c < shape.cpus → v.dest < shape.cpus
    → MayGiveTaskVal s (queued_new t c q rs) shape t (record v { wake_cpu = c })
give_started_may shape s t c v q rs held near dest =
    record {
      taken = v;
      held = held;
      kept = record { mask = refl; r = refl; narrowed = refl; pending = refl; stop_queued = refl };
      wake_cpu = near;
      dest = dest;
      settled = inr (grind (arith, nat_tests), grind (arith, nat_tests));
      begun = inr (inl (0, grind (arith, nat_tests)));
    }

-- What a look at a task that isn't new leaves as it was

pub other_rests : (s t : ℕ) (seen : State) (v : TaskVal) (old new : List Rec)
    → new ≡ Gave t (val.Task v) (val.Task v) ∷ LoadedState t None seen ∷ Took t (val.Task v) ∷ old → Rests s old new
other_rests s t seen v old new did =
    let a : List Rec = Took t (val.Task v) ∷ old in
    let b : List Rec = LoadedState t None seen ∷ Took t (val.Task v) ∷ old in
    subst (Rests s old) (sym did) (record {
      tasks = λ u e. free u e;
      queues = λ f k. f k;
      claimed = λ u e. e;
      current = refl;
      clear = refl;
      apart = apart_again old b (Gave t (val.Task v) (val.Task v) ∷ b)
          (apart_again old a b (took_task_apart old t v) (state_apart a t None seen)) (gave_task_apart b t v v);
    })
  where
    free : (u : ℕ) → task_held old u ≡ None
        → task_held (Gave t (val.Task v) (val.Task v) ∷ LoadedState t None seen ∷ Took t (val.Task v) ∷ old) u ≡ None
    free u e = grind (arith, nat_tests, e)

pub changed_rests : (s t on m : ℕ) (v : TaskVal) (old new : List Rec)
    → new ≡ Gave t (val.Task v) (val.Task v) ∷ LoadedRq t on m ∷ LoadedState t None fresh ∷ Took t (val.Task v) ∷ old → Rests s old new
changed_rests s t on m v old new did =
    let a : List Rec = Took t (val.Task v) ∷ old in
    let b : List Rec = LoadedState t None fresh ∷ Took t (val.Task v) ∷ old in
    subst (Rests s old) (sym did) (record {
      tasks = λ u e. free u e;
      queues = λ f k. f k;
      claimed = λ u e. e;
      current = refl;
      clear = refl;
      apart = apart_again old (LoadedRq t on m ∷ b) (Gave t (val.Task v) (val.Task v) ∷ LoadedRq t on m ∷ b)
          (apart_again old b (LoadedRq t on m ∷ b)
          (apart_again old a b (took_task_apart old t v) (state_apart a t None fresh)) (rq_apart b t on m))
          (gave_task_apart (LoadedRq t on m ∷ b) t v v);
    })
  where
    free : (u : ℕ) → task_held old u ≡ None
        → task_held (Gave t (val.Task v) (val.Task v) ∷ LoadedRq t on m ∷ LoadedState t None fresh ∷ Took t (val.Task v) ∷ old) u ≡ None
    free u e = grind (arith, nat_tests, e)
