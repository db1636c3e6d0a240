-- Values of locks, as they are put back.
use Rattle.std.proofs.Common.{◌≡◌, ℕ, ◌∷◌, List, refl, sym, ap, ◌∙◌, arith}
use Rattle.std.specs.Prelude.{Bool, true, false, Option, Some, None, is_none, unwrap_or, if◌then◌else◌}
use Rattle.std.proofs.lemmas.Bool.Decides.{nat_tests}
use Rattle.core_data.specs.Queue.{Queue}
use Rattle.core_data.specs.declared.values.TaskVal.{TaskVal}
use Rattle.core_gives.specs.Queues.{gives_up}
use Rattle.handoff_data.specs.declared.shape.Shape.{Shape}
use Rattle.word_rule.specs.Told.{TakenQueue}
use Rattle.word_steps.specs.Folds.{task_held, queue_held, current_task, task_to_clear}
use Rattle.word_steps.specs.Records.{Rec, Took, Gave}
use Rattle.word_steps.specs.declared.val.Val.TheVariants as val

-- the lock of a task is given, as it was taken
pub gave_task : (t k : ℕ) (v given : TaskVal) (trace rest : List Rec) → k ≡ t → trace ≡ rest → task_held rest t ≡ Some v
    → Gave k (val.Task (unwrap_or (task_held trace k) given)) (val.Task given) ∷ trace
    ≡ Gave t (val.Task v) (val.Task given) ∷ rest
gave_task t k v given trace rest same did held =
    ap (λ (z : ℕ × List Rec). Gave z.0 (val.Task (unwrap_or (task_held z.1 z.0) given)) (val.Task given) ∷ z.1)
    (λ i. (same i, did i))
    ∙ ap (λ (o : Option TaskVal). Gave t (val.Task (unwrap_or o given)) (val.Task given) ∷ rest) held

-- .. which was taken under this trace
pub held_there : (t : ℕ) (v : TaskVal) (rs : List Rec) → task_held (Took t (val.Task v) ∷ rs) t ≡ Some v
held_there t v rs = grind (arith, nat_tests)

-- .. and the lock of a queue
pub gave_queue : (c k : ℕ) (v given : Queue) (trace rest : List Rec) → k ≡ c → trace ≡ rest → queue_held rest c ≡ Some v
    → Gave k (val.Queue (unwrap_or (queue_held trace k) given)) (val.Queue given) ∷ trace
    ≡ Gave c (val.Queue v) (val.Queue given) ∷ rest
gave_queue c k v given trace rest same did held =
    ap (λ (z : ℕ × List Rec). Gave z.0 (val.Queue (unwrap_or (queue_held z.1 z.0) given)) (val.Queue given) ∷ z.1)
    (λ i. (same i, did i))
    ∙ ap (λ (o : Option Queue). Gave c (val.Queue (unwrap_or o given)) (val.Queue given) ∷ rest) held

pub queue_there : (c : ℕ) (v : Queue) (rs : List Rec) → queue_held (Took c (val.Queue v) ∷ rs) c ≡ Some v
queue_there c v rs = grind (arith, nat_tests)

kept_current : (b : Bool) (o : Option ℕ) → (b ≡ true → o ≡ None) → (if b then None else o) ≡ o
kept_current true o gone = sym (gone refl)
kept_current false o gone = refl

idle : (v : Queue) (o : Option ℕ) → ((u : ℕ) → o ≡ Some u → v.cur ≡ Some u) → is_none v.cur ≡ true → o ≡ None
idle v None cur e = refl
idle v (Some u) cur e = let there = cur u refl in absurd (grind (arith, e, there))

-- a queue that is given with the `cur` that it was taken with leaves the seat its current task
pub taken_current : (shape : Shape) (s c : ℕ) (v : Queue) (rs : List Rec) → TakenQueue shape s rs c v
    → (if gives_up s c v then None else current_task s rs) ≡ current_task s rs
taken_current shape s c v rs told =
    kept_current (gives_up s c v) (current_task s rs) (λ e.
    let same : s ≡ c = grind (arith, nat_tests, e) in
    let gone : is_none v.cur ≡ true = grind (arith, nat_tests, e) in
    idle v (current_task s rs) (told.current same) gone)

kept_clear : (b : Bool) (o h : Option ℕ) → (b ≡ true → o ≡ None) → (if b then (if is_none o then h else o) else h) ≡ h
kept_clear true o h gone = ap (λ (x : Option ℕ). if is_none x then h else o) (gone refl)
kept_clear false o h gone = refl

-- .. and the same busy word to clear
pub taken_clear : (shape : Shape) (s c : ℕ) (v : Queue) (rs : List Rec) → TakenQueue shape s rs c v
    → (if gives_up s c v then (if is_none (current_task s rs) then task_to_clear s rs else current_task s rs) else task_to_clear s rs)
    ≡ task_to_clear s rs
taken_clear shape s c v rs told =
    kept_clear (gives_up s c v) (current_task s rs) (task_to_clear s rs) (λ e.
    let same : s ≡ c = grind (arith, nat_tests, e) in
    let gone : is_none v.cur ≡ true = grind (arith, nat_tests, e) in
    idle v (current_task s rs) (told.current same) gone)
