use Rattle.std.proofs.Common.{arith, sym, ◌≡◌, ◌<◌, ◌∙◌, ℕ, ◌∷◌, List, None, Some, subst, ap, refl, inl, inr}
use Rattle.std.proofs.lemmas.Grind.{common_steps}
use Rattle.std.specs.Prelude.{unwrap_or}
use Rattle.core_data.specs.declared.values.TaskVal.{TaskVal}
use Rattle.core_kinds.specs.Steps.{fresh}
use Rattle.handoff_data.specs.declared.shape.Shape.{Shape}
use Rattle.handoff_data.specs.declared.state.State.{State}
use Rattle.run_queue.specs.Queueing.{placed}
use Rattle.run_queue.specs.Starts.{queued_new}
use Rattle.run_queue.proofs.Guards.{gave_task, held_there}
use Rattle.run_queue.proofs.Steps.{held_started, placed_current, placed_clear, started_rests, give_started_may, other_rests, changed_rests}
use Rattle.run_queue.proofs.Sparing.{spare_start}
use Rattle.run_queue.proofs.starting.start.Given.{Over}
use Rattle.run_queue.specs.declared.answer.Start.TheVariants as start
use Rattle.word_rule.specs.May.{MayGiveTaskVal}
use Rattle.word_steps.specs.Folds.{task_held, current_task, task_to_clear}
use Rattle.run_queue.proofs.starting.start.Goals as goal
use Rattle.run_queue.proofs.starting.start.Goals.{then-ne-via-then-ne, then-ne-via-else-ne+then-load_rq-ne0}
use Rattle.handoff_data.specs.declared.entry.Entry.TheVariants as entry
use Rattle.task_words.specs.Views.{PassView, logged}
use Rattle.word_steps.specs.Records.{Rec, Took, Gave, LoadedState, LoadedRq}
use Rattle.word_steps.specs.declared.val.Val.TheVariants as val

pub returns-then-ne-clause-did : goal.returns-then-ne-clause-did
returns-then-ne-clause-did g c =
    let t = c.args.t in
    let v = c.lock_task-task.result.val in
    let seen = c.load_state-seen.result in
    let old = c.args.pass.now in
    let taken = Took t (val.Task v) ∷ old.trace in
    let read : c.load_state-seen.new.pass.trace ≡ LoadedState t None seen ∷ taken =
    c.load_state-seen.ensures.trace ∙ ap (λ (z : List Rec). LoadedState t None seen ∷ z) c.lock_task-task.ensures.trace in
    let still : c.load_state-seen.new.pass.turn ≡ old.turn =
    c.load_state-seen.ensures.same.same_turn ∙ c.lock_task-task.ensures.same.same_turn in
    elim c.then-ne.branch [
      | then-ne-via-then-ne w ↦ inl (record {
        task = v;
        other = grind (arith, common_steps, w.if-ne.true, c.ne.ensures);
        did = c.give.ensures.trace
            ∙ gave_task t c.lock_task-task.result.task v v c.then-ne.pass.trace (LoadedState t None seen ∷ taken)
            c.lock_task-task.ensures.task (ap (λ (p : PassView). p.trace) w.pass-is ∙ read) (held_there t v old.trace);
        turn = c.give.ensures.same.same_turn ∙ ap (λ (p : PassView). p.turn) w.pass-is ∙ still;
      })
      | then-ne-via-else-ne+then-load_rq-ne0 w ↦
          let on = w.load_rq.result.on in
          let m = w.load_rq.result.m in
          let is_fresh : seen ≡ fresh = grind (arith, common_steps, w.if-ne.false, c.ne.ensures) in
          inr (record {
            task = v;
            on = on;
            m = m;
            unstarted = is_fresh;
            changed = grind (arith, common_steps, w.if-load_rq-ne0.true);
            did = c.give.ensures.trace
                ∙ gave_task t c.lock_task-task.result.task v v c.then-ne.pass.trace (LoadedRq t on m ∷ LoadedState t None fresh ∷ taken)
                c.lock_task-task.ensures.task
                (ap (λ (p : PassView). p.trace) w.pass-is ∙ w.load_rq.ensures.trace
                ∙ ap (λ (z : List Rec). LoadedRq t on m ∷ z) (read ∙ ap (λ (z : State). LoadedState t None z ∷ taken) is_fresh))
                (held_there t v old.trace);
            turn = c.give.ensures.same.same_turn ∙ ap (λ (p : PassView). p.turn) w.pass-is ∙ w.load_rq.ensures.same.same_turn ∙ still;
          })
    ]

-- what was read before the task was placed
reads_of : (g : Over) → goal.After-give-2 g → List Rec
reads_of g c =
    LoadedRq c.args.t c.load_rq.result.on 0 ∷ LoadedState c.args.t None fresh ∷ Took c.args.t (val.Task c.lock_task-task.result.val) ∷ c.args.pass.now.trace

-- .. and then
placed_did : (g : Over) (c : goal.After-give-2 g)
    → c.place.new.pass.trace ≡ placed c.args.t c.place.result c.args.c (reads_of g c)
unfolding reads_of
placed_did g c =
    let t = c.args.t in
    let v = c.lock_task-task.result.val in
    let on = c.load_rq.result.on in
    let is_fresh : c.load_state-seen.result ≡ fresh = grind (arith, common_steps, c.if-ne.false, c.ne.ensures) in
    let first : c.load_rq.result.m ≡ 0 = grind (arith, common_steps, c.if-load_rq-ne0.false) in
    let read : c.load_state-seen.new.pass.trace ≡ LoadedState t None fresh ∷ Took t (val.Task v) ∷ c.args.pass.now.trace =
    c.load_state-seen.ensures.trace
    ∙ ap (λ (z : State × List Rec). LoadedState t None z.0 ∷ z.1) (λ i. (is_fresh i, c.lock_task-task.ensures.trace i)) in
    let looked : c.load_rq.new.pass.trace ≡ LoadedRq t on 0 ∷ LoadedState t None fresh ∷ Took t (val.Task v) ∷ c.args.pass.now.trace =
    c.load_rq.ensures.trace ∙ ap (λ (z : ℕ × List Rec). LoadedRq t on z.0 ∷ z.1) (λ i. (first i, read i)) in
    c.place.ensures.trace
    ∙ ap (λ (z : ℕ × List Rec). placed z.0 c.place.result c.args.c z.1) (λ i. (c.lock_task-task.ensures.task i, looked i))

-- .. and all
still_held : (g : Over) (c : goal.After-give-2 g)
    → task_held (queued_new c.args.t c.args.c c.queue_new.ensures.did.queue (placed c.args.t c.place.result c.args.c (reads_of g c))) c.args.t
    ≡ Some c.lock_task-task.result.val
unfolding reads_of
still_held g c =
    held_started c.args.t c.args.c c.place.result c.load_rq.result.on c.lock_task-task.result.val c.queue_new.ensures.did.queue c.args.pass.now.trace

started_did : (g : Over) (c : goal.After-give-2 g)
    → c.give-2.new.pass.trace
    ≡ Gave c.args.t (val.Task c.lock_task-task.result.val) (val.Task (record c.lock_task-task.result.val { wake_cpu = c.args.c }))
    ∷ queued_new c.args.t c.args.c c.queue_new.ensures.did.queue (placed c.args.t c.place.result c.args.c (reads_of g c))
started_did g c =
    let t = c.args.t in
    let v = c.lock_task-task.result.val in
    let q = c.queue_new.ensures.did.queue in
    let last = c.queue_new.new.pass.trace in
    c.give-2.ensures.trace
    ∙ (λ i. let k : ℕ = c.set_wake_cpu.ensures.task i in let z = c.set_wake_cpu.ensures.value i in
    Gave k (val.Task (unwrap_or (task_held last k) z)) (val.Task z) ∷ last)
    ∙ gave_task t c.lock_task-task.result.task v (record v { wake_cpu = c.args.c }) c.queue_new.new.pass.trace
    (queued_new t c.args.c q (placed t c.place.result c.args.c (reads_of g c)))
    c.lock_task-task.ensures.task (c.queue_new.ensures.did.did ∙ ap (queued_new t c.args.c q) (placed_did g c))
    (still_held g c)

pub give-requires-2-clause-may : goal.give-requires-2-clause-may
give-requires-2-clause-may g c κs within =
    let t = c.args.t in
    let v = c.lock_task-task.result.val in
    let on = c.load_rq.result.on in
    let old = c.args.pass.now.trace in
    let q = c.queue_new.ensures.did.queue in
    let is_fresh : c.load_state-seen.result ≡ fresh = grind (arith, common_steps, c.if-ne.false, c.ne.ensures) in
    let first : c.load_rq.result.m ≡ 0 = grind (arith, common_steps, c.if-load_rq-ne0.false) in
    let read : c.load_state-seen.new.pass.trace ≡ LoadedState t None fresh ∷ Took t (val.Task v) ∷ old =
    c.load_state-seen.ensures.trace
    ∙ ap (λ (z : State × List Rec). LoadedState t None z.0 ∷ z.1) (λ i. (is_fresh i, c.lock_task-task.ensures.trace i)) in
    let looked : c.load_rq.new.pass.trace ≡ LoadedRq t on 0 ∷ LoadedState t None fresh ∷ Took t (val.Task v) ∷ old =
    c.load_rq.ensures.trace ∙ ap (λ (z : ℕ × List Rec). LoadedRq t on z.0 ∷ z.1) (λ i. (first i, read i)) in
    let rs = placed t c.place.result c.args.c (LoadedRq t on 0 ∷ LoadedState t None fresh ∷ Took t (val.Task v) ∷ old) in
    let put : c.place.new.pass.trace ≡ rs =
    c.place.ensures.trace
    ∙ ap (λ (z : ℕ × List Rec). placed z.0 c.place.result c.args.c z.1) (λ i. (c.lock_task-task.ensures.task i, looked i)) in
    let last : c.queue_new.new.pass.trace ≡ queued_new t c.args.c q rs =
    c.queue_new.ensures.did.did ∙ ap (queued_new t c.args.c q) put in
    let task : c.set_wake_cpu.new.self.task ≡ t = c.set_wake_cpu.ensures.task ∙ c.lock_task-task.ensures.task in
    let dest : v.dest < c.args.wk.now.shape.cpus =
    subst (λ (z : Shape). v.dest < z.cpus) c.requires.of.same_shape c.lock_task-task.ensures.taken.dest in
    subst (λ (z : ℕ × TaskVal × List Rec). MayGiveTaskVal c.queue_new.new.pass.seat z.2 c.args.wk.now.shape z.0 z.1)
    (λ i. (sym task i, sym c.set_wake_cpu.ensures.value i, sym last i))
    (give_started_may c.args.wk.now.shape c.queue_new.new.pass.seat t c.args.c v q rs
    (held_started t c.args.c c.place.result on v q old) c.requires.processor dest)

-- what was taken is given back where the task isn't new
pub returns-then-ne-clause-rests : goal.returns-then-ne-clause-rests
returns-then-ne-clause-rests g c = elim (returns-then-ne-clause-did g c) [
  | inl x ↦ other_rests c.args.pass.now.seat c.args.t c.load_state-seen.result x.task c.args.pass.now.trace c.give.new.pass.trace x.did
  | inr y ↦ changed_rests c.args.pass.now.seat c.args.t y.on y.m y.task c.args.pass.now.trace c.give.new.pass.trace y.did
]

pub returns-clause-did : goal.returns-clause-did
unfolding reads_of
returns-clause-did g c = (
  refl,
  record {
    task = c.lock_task-task.result.val;
    on = c.load_rq.result.on;
    from = c.place.result;
    queue = c.queue_new.ensures.did.queue;
    did = started_did g c;
    turn = c.give-2.ensures.same.same_turn ∙ c.queue_new.ensures.did.turn
        ∙ ap (logged (entry.New c.args.t 1 c.args.c)) (c.place.ensures.same.same_turn ∙ c.load_rq.ensures.same.same_turn
        ∙ c.load_state-seen.ensures.same.same_turn ∙ c.lock_task-task.ensures.same.same_turn);
  },
)

pub returns-clause-rests : goal.returns-clause-rests
unfolding reads_of
returns-clause-rests g c =
    let t = c.args.t in
    let s = c.args.pass.now.seat in
    let v = c.lock_task-task.result.val in
    let on = c.load_rq.result.on in
    let old = c.args.pass.now.trace in
    let seatp : c.place.new.pass.seat ≡ s = c.place.ensures.same.same.same_seat ∙ c.load_rq.ensures.same.same.same_seat
    ∙ c.load_state-seen.ensures.same.same.same_seat ∙ c.lock_task-task.ensures.same.same.same_seat in
    let seatq : c.queue_new.new.pass.seat ≡ s = c.queue_new.ensures.same.same_seat ∙ seatp in
    let kept : current_task s c.queue_new.new.pass.trace ≡ current_task s c.place.new.pass.trace =
    subst (λ (z : ℕ × ℕ). current_task z.0 c.queue_new.new.pass.trace ≡ current_task z.1 c.place.new.pass.trace)
    (λ i. (seatq i, seatp i)) c.queue_new.ensures.current in
    let cleared : task_to_clear s c.queue_new.new.pass.trace ≡ task_to_clear s c.place.new.pass.trace =
    subst (λ (z : ℕ × ℕ). task_to_clear z.0 c.queue_new.new.pass.trace ≡ task_to_clear z.1 c.place.new.pass.trace)
    (λ i. (seatq i, seatp i)) c.queue_new.ensures.clear in
    started_rests s t c.args.c c.place.result on v v (record v { wake_cpu = c.args.c }) c.queue_new.ensures.did.queue old
    c.give-2.new.pass.trace (started_did g c)
    (ap (current_task s) c.give-2.ensures.trace ∙ kept ∙ ap (current_task s) (placed_did g c)
    ∙ placed_current s t c.args.c c.place.result (reads_of g c))
    (ap (task_to_clear s) c.give-2.ensures.trace ∙ cleared ∙ ap (task_to_clear s) (placed_did g c)
    ∙ placed_clear s t c.args.c c.place.result (reads_of g c))

pub returns-then-ne-clause-spare : goal.returns-then-ne-clause-spare
returns-then-ne-clause-spare g c =
    spare_start c.args.t c.args.c c.args.pass.now c.give.new.pass (start.NotNew c.load_state-seen.result) (returns-then-ne-clause-did g c)

pub returns-clause-spare : goal.returns-clause-spare
returns-clause-spare g c =
    spare_start c.args.t c.args.c c.args.pass.now c.give-2.new.pass (start.Started 1) (returns-clause-did g c)
