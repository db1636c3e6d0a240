use Rattle.std.proofs.Common.{rules, ◌≡◌, ◌<◌, ◌∙◌, ℕ, ◌∷◌, List, Bool, false, Some, refl, sym, subst, ap}
use Rattle.std.specs.Prelude.{Option, unwrap_or}
use Rattle.core_data.specs.declared.values.TaskVal.{TaskVal}
use Rattle.core_stores.proofs.Columns.{put_there}
use Rattle.ttwu_core.proofs.Resting.{keeps_again, placed_keeps, placed_claimed, placed_moving, placed_numbers, queued_others, queued_unclaimed, woken_may_give, rests_after}
use Rattle.ttwu_core.proofs.Sparing.{spare_wake}
use Rattle.ttwu_core.proofs.waking.wake.Goals as goal
use Rattle.run_queue.specs.Rests.{Rests}
use Rattle.run_queue.proofs.Guards.{held_there}
use Rattle.run_queue.specs.Queueing.{placed}
use Rattle.handoff_data.specs.declared.shape.Shape.{Shape}
use Rattle.ttwu_core.specs.Claims.{IsChosen, queued_woken, awaited_clear}
use Rattle.ttwu_core.specs.Finds.{DidFind, off_reads}
use Rattle.word_rule.specs.May.{MayGiveTaskVal}
use Rattle.ttwu_core.specs.Keeps.{Keeps}
use Rattle.ttwu_core.specs.Wakes.{tested}
use Rattle.ttwu_core.specs.declared.answers.How.TheVariants as how
use Rattle.ttwu_core.specs.declared.answers.Wake.TheVariants as wake
use Rattle.word_steps.specs.Folds.{task_held, is_claimed, is_moving, number_read}
use Rattle.word_steps.specs.Records.{Rec, Gave, Claimed, LoadedState}
use Rattle.word_steps.specs.declared.val.Val.TheVariants as val

pub returns-clause-rests : goal.returns-clause-rests
returns-clause-rests g c =
    let t = c.args.t in
    let s = c.args.pass.now.seat in
    let old = c.args.pass.now.trace in
    let v = c.lock_task-task.result.val in
    let seen = c.match_state-seen.result in
    let cpu = c.choose-c.result in
    let given : TaskVal = c.set_wake_cpu.new.self.val in
    let q = c.queue_woken.ensures.did.queue in
    let test : c.match_state-seen.new.pass.trace ≡ tested t v c.args.mask seen old =
    c.match_state-seen.ensures.trace ∙ ap (λ (z : List Rec). LoadedState t (Some c.args.mask) seen ∷ z) c.lock_task-task.ensures.trace in
    let seat1 : c.match_state-seen.new.pass.seat ≡ s = c.match_state-seen.ensures.same.same_seat ∙ c.lock_task-task.ensures.same.same.same_seat in
    let seat2 : c.find.new.pass.seat ≡ s = c.find.ensures.same.same.same_seat ∙ seat1 in
    let seat3 : c.place.new.pass.seat ≡ s = c.place.ensures.same.same.same_seat ∙ c.claim.ensures.same.same_seat ∙ seat2 in
    let found : Keeps s (tested t v c.args.mask seen old) c.find.new.pass.trace =
    subst (λ (z : ℕ × List Rec). Keeps z.0 z.1 c.find.new.pass.trace) (λ i. (seat1 i, test i)) c.find.ensures.keeps in
    let claimed : Keeps s c.find.new.pass.trace c.claim.new.pass.trace =
    subst (λ (z : ℕ). Keeps z c.find.new.pass.trace c.claim.new.pass.trace) seat2 c.claim.ensures.keeps in
    let put : Keeps s c.claim.new.pass.trace c.place.new.pass.trace =
    subst (λ (z : List Rec). Keeps s c.claim.new.pass.trace z) (sym c.place.ensures.trace)
    (placed_keeps s c.lock_task-task.result.task cpu c.place.result c.claim.new.pass.trace) in
    let queued : Keeps s c.place.new.pass.trace c.queue_woken.new.pass.trace =
    subst (λ (z : ℕ). Keeps z c.place.new.pass.trace c.queue_woken.new.pass.trace) seat3 c.queue_woken.ensures.keeps in
    let all : Keeps s (tested t v c.args.mask seen old) c.queue_woken.new.pass.trace =
    keeps_again s (tested t v c.args.mask seen old) c.find.new.pass.trace c.queue_woken.new.pass.trace found
    (keeps_again s c.find.new.pass.trace c.claim.new.pass.trace c.queue_woken.new.pass.trace claimed
    (keeps_again s c.claim.new.pass.trace c.place.new.pass.trace c.queue_woken.new.pass.trace put queued)) in
    let last : c.give-2.new.pass.trace
    ≡ Gave t (val.Task (unwrap_or (task_held c.queue_woken.new.pass.trace c.lock_task-task.result.task) given)) (val.Task given) ∷ c.queue_woken.new.pass.trace =
    c.give-2.ensures.trace
    ∙ ap (λ (k : ℕ). Gave k (val.Task (unwrap_or (task_held c.queue_woken.new.pass.trace k) given)) (val.Task given) ∷ c.queue_woken.new.pass.trace)
    c.set_wake_cpu.ensures.task
    ∙ ap (λ (k : ℕ). Gave k (val.Task (unwrap_or (task_held c.queue_woken.new.pass.trace c.lock_task-task.result.task) given)) (val.Task given) ∷ c.queue_woken.new.pass.trace)
    c.lock_task-task.ensures.task in
    subst (λ (z : List Rec). Rests s old z) (sym last)
    (rests_after s t c.args.mask seen v (unwrap_or (task_held c.queue_woken.new.pass.trace c.lock_task-task.result.task) given) given old
    c.queue_woken.new.pass.trace all
    (λ u apart. ap (λ (z : List Rec). is_claimed z u) c.queue_woken.ensures.did.did
    ∙ queued_others t cpu c.in-Off.m q c.place.new.pass.trace u apart
    ∙ ap (λ (z : List Rec). is_claimed z u) c.place.ensures.trace
    ∙ ap (λ (h : ℕ → Bool). h u) (placed_claimed c.lock_task-task.result.task cpu c.place.result c.claim.new.pass.trace)
    ∙ c.claim.ensures.others u apart
    ∙ ap (λ (h : ℕ → Bool). h u) (c.find.ensures.claimed ∙ ap is_claimed test))
    (ap (λ (z : List Rec). is_claimed z t) c.queue_woken.ensures.did.did
    ∙ queued_unclaimed t cpu c.in-Off.m q c.place.new.pass.trace))

pub give-requires-2-clause-may : goal.give-requires-2-clause-may
give-requires-2-clause-may g c κs within =
    let t = c.args.t in
    let s = c.args.pass.now.seat in
    let old = c.args.pass.now.trace in
    let v = c.lock_task-task.result.val in
    let seen = c.match_state-seen.result in
    let cpu = c.choose-c.result in
    let q = c.queue_woken.ensures.did.queue in
    let test : c.match_state-seen.new.pass.trace ≡ tested t v c.args.mask seen old =
    c.match_state-seen.ensures.trace ∙ ap (λ (z : List Rec). LoadedState t (Some c.args.mask) seen ∷ z) c.lock_task-task.ensures.trace in
    let seat1 : c.match_state-seen.new.pass.seat ≡ s = c.match_state-seen.ensures.same.same_seat ∙ c.lock_task-task.ensures.same.same.same_seat in
    let seat2 : c.find.new.pass.seat ≡ s = c.find.ensures.same.same.same_seat ∙ seat1 in
    let seat3 : c.place.new.pass.seat ≡ s = c.place.ensures.same.same.same_seat ∙ c.claim.ensures.same.same_seat ∙ seat2 in
    let found : Keeps s (tested t v c.args.mask seen old) c.find.new.pass.trace =
    subst (λ (z : ℕ × List Rec). Keeps z.0 z.1 c.find.new.pass.trace) (λ i. (seat1 i, test i)) c.find.ensures.keeps in
    let claimed : Keeps s c.find.new.pass.trace c.claim.new.pass.trace =
    subst (λ (z : ℕ). Keeps z c.find.new.pass.trace c.claim.new.pass.trace) seat2 c.claim.ensures.keeps in
    let put : Keeps s c.claim.new.pass.trace c.place.new.pass.trace =
    subst (λ (z : List Rec). Keeps s c.claim.new.pass.trace z) (sym c.place.ensures.trace)
    (placed_keeps s c.lock_task-task.result.task cpu c.place.result c.claim.new.pass.trace) in
    let queued : Keeps s c.place.new.pass.trace c.queue_woken.new.pass.trace =
    subst (λ (z : ℕ). Keeps z c.place.new.pass.trace c.queue_woken.new.pass.trace) seat3 c.queue_woken.ensures.keeps in
    let all : Keeps s (tested t v c.args.mask seen old) c.queue_woken.new.pass.trace =
    keeps_again s (tested t v c.args.mask seen old) c.find.new.pass.trace c.queue_woken.new.pass.trace found
    (keeps_again s c.find.new.pass.trace c.claim.new.pass.trace c.queue_woken.new.pass.trace claimed
    (keeps_again s c.claim.new.pass.trace c.place.new.pass.trace c.queue_woken.new.pass.trace put queued)) in
    let given : TaskVal = record v { wake_cpu = cpu } in
    let is : c.set_wake_cpu.new.self.val ≡ given = c.set_wake_cpu.ensures.value ∙ ap (λ (z : TaskVal). record z { wake_cpu = cpu }) c.val_mut.ensures.value in
    let task : c.set_wake_cpu.new.self.task ≡ t = c.set_wake_cpu.ensures.task ∙ c.lock_task-task.ensures.task in
    let last = c.queue_woken.new.pass.trace in
    let held : task_held last t ≡ Some v = ap (λ (h : ℕ → Option TaskVal). h t) all.held ∙ held_there t v old in
    let dest : v.dest < c.args.wk.now.shape.cpus =
    subst (λ (z : Shape). v.dest < z.cpus) c.requires.of.same_shape c.lock_task-task.ensures.taken.dest in
    subst (λ (z : ℕ × TaskVal). MayGiveTaskVal c.queue_woken.new.pass.seat last c.args.wk.now.shape z.0 z.1)
    (λ i. (sym task i, sym is i))
    (woken_may_give c.args.wk.now.shape c.queue_woken.new.pass.seat t cpu c.in-Off.m v q c.place.new.pass.trace last
    c.queue_woken.ensures.did.did held dest c.choose-c.ensures.processor)

pub returns-clause-did : goal.returns-clause-did
returns-clause-did g c =
    let t = c.args.t in
    let s = c.args.pass.now.seat in
    let old = c.args.pass.now.trace in
    let v = c.lock_task-task.result.val in
    let seen = c.match_state-seen.result in
    let cpu = c.choose-c.result in
    let q = c.queue_woken.ensures.did.queue in
    let test : c.match_state-seen.new.pass.trace ≡ tested t v c.args.mask seen old =
    c.match_state-seen.ensures.trace ∙ ap (λ (z : List Rec). LoadedState t (Some c.args.mask) seen ∷ z) c.lock_task-task.ensures.trace in
    let seat1 : c.match_state-seen.new.pass.seat ≡ s = c.match_state-seen.ensures.same.same_seat ∙ c.lock_task-task.ensures.same.same.same_seat in
    let seat2 : c.find.new.pass.seat ≡ s = c.find.ensures.same.same.same_seat ∙ seat1 in
    let seat3 : c.place.new.pass.seat ≡ s = c.place.ensures.same.same.same_seat ∙ c.claim.ensures.same.same_seat ∙ seat2 in
    let found : Keeps s (tested t v c.args.mask seen old) c.find.new.pass.trace =
    subst (λ (z : ℕ × List Rec). Keeps z.0 z.1 c.find.new.pass.trace) (λ i. (seat1 i, test i)) c.find.ensures.keeps in
    let claimed : Keeps s c.find.new.pass.trace c.claim.new.pass.trace =
    subst (λ (z : ℕ). Keeps z c.find.new.pass.trace c.claim.new.pass.trace) seat2 c.claim.ensures.keeps in
    let put : Keeps s c.claim.new.pass.trace c.place.new.pass.trace =
    subst (λ (z : List Rec). Keeps s c.claim.new.pass.trace z) (sym c.place.ensures.trace)
    (placed_keeps s c.lock_task-task.result.task cpu c.place.result c.claim.new.pass.trace) in
    let queued : Keeps s c.place.new.pass.trace c.queue_woken.new.pass.trace =
    subst (λ (z : ℕ). Keeps z c.place.new.pass.trace c.queue_woken.new.pass.trace) seat3 c.queue_woken.ensures.keeps in
    let all : Keeps s (tested t v c.args.mask seen old) c.queue_woken.new.pass.trace =
    keeps_again s (tested t v c.args.mask seen old) c.find.new.pass.trace c.queue_woken.new.pass.trace found
    (keeps_again s c.find.new.pass.trace c.claim.new.pass.trace c.queue_woken.new.pass.trace claimed
    (keeps_again s c.claim.new.pass.trace c.place.new.pass.trace c.queue_woken.new.pass.trace put queued)) in
    let given : TaskVal = record v { wake_cpu = cpu } in
    let is : c.set_wake_cpu.new.self.val ≡ given = c.set_wake_cpu.ensures.value ∙ ap (λ (z : TaskVal). record z { wake_cpu = cpu }) c.val_mut.ensures.value in
    let task : c.set_wake_cpu.new.self.task ≡ t = c.set_wake_cpu.ensures.task ∙ c.lock_task-task.ensures.task in
    let last = c.queue_woken.new.pass.trace in
    let held : task_held last t ≡ Some v = ap (λ (h : ℕ → Option TaskVal). h t) all.held ∙ held_there t v old in
    let off = subst (DidFind t c.match_state-seen.new.pass.trace c.find.new.pass.trace) c.in-Off.is c.find.ensures.did in
    let taken = c.claim.ensures.did in record {
      task = v;
      seen = seen;
      left = off.left;
      m = c.in-Off.m;
      n = taken.n;
      waits = taken.waits;
      from = c.place.result;
      queue = q;
      matched = search rules;
      changed = off.changed;
      left_so = off.left_so;
      chosen = subst (λ (z : TaskVal). IsChosen z c.args.wk.now.shape cpu) (c.get.ensures ∙ c.val_mut.ensures.value) c.choose-c.ensures.chosen;
      did = c.give-2.ensures.trace
          ∙ (λ i. Gave (task i) (val.Task (unwrap_or (task_held last (task i)) (is i))) (val.Task (is i)) ∷ last)
          ∙ ap (λ (o : Option TaskVal). Gave t (val.Task (unwrap_or o given)) (val.Task given) ∷ last) held
          ∙ ap (λ (z : List Rec). Gave t (val.Task v) (val.Task given) ∷ z) (c.queue_woken.ensures.did.did
          ∙ ap (queued_woken t cpu c.in-Off.m q) (c.place.ensures.trace
          ∙ (λ i. placed (c.lock_task-task.ensures.task i) c.place.result cpu c.claim.new.pass.trace)
          ∙ ap (placed t c.place.result cpu) (taken.did
          ∙ ap (λ (z : List Rec). awaited_clear t taken.n taken.waits (Claimed t c.in-Off.m ∷ z)) (off.did
          ∙ ap (off_reads t off.left c.in-Off.m) test))));
      turn = search rules;
    }

-- the number that was read is still known, and the task isn't moved
pub queue_woken-requires-clause-number : goal.queue_woken-requires-clause-number
queue_woken-requires-clause-number g c κs within =
    let t = c.args.t in
    let off = subst (DidFind t c.match_state-seen.new.pass.trace c.find.new.pass.trace) c.in-Off.is c.find.ensures.did in
    ap (λ (z : List Rec). number_read z t) c.place.ensures.trace
    ∙ ap (λ (h : ℕ → Option ℕ). h t) (placed_numbers c.lock_task-task.result.task c.choose-c.result c.place.result c.claim.new.pass.trace
    ∙ c.claim.ensures.numbers)
    ∙ off.number

pub queue_woken-requires-clause-unmoved : goal.queue_woken-requires-clause-unmoved
queue_woken-requires-clause-unmoved g c κs within =
    let t = c.args.t in
    let v = c.lock_task-task.result.val in
    let old = c.args.pass.now.trace in
    let test = c.match_state-seen.ensures.trace
    ∙ ap (λ (z : List Rec). LoadedState t (Some c.args.mask) c.match_state-seen.result ∷ z) c.lock_task-task.ensures.trace in
    ap (λ (z : List Rec). is_moving z t) c.place.ensures.trace
    ∙ ap (λ (h : ℕ → Bool). h t) (placed_moving c.lock_task-task.result.task c.choose-c.result c.place.result c.claim.new.pass.trace
    ∙ c.claim.ensures.moving ∙ c.find.ensures.moving ∙ ap is_moving test)
    ∙ put_there (is_moving old) t false t refl

pub returns-clause-spare : goal.returns-clause-spare
returns-clause-spare g c =
    spare_wake c.args.t c.args.mask c.args.wk.now.shape c.args.pass.now c.give-2.new.pass (wake.Woke (how.Queued c.choose-c.result))
    (returns-clause-did g c)
