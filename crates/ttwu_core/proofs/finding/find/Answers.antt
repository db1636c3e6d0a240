use Rattle.std.proofs.Common.{◌≡◌, ◌∙◌, ℕ, ◌∷◌, List, Some, sym, subst, ap}
use Rattle.handoff_data.specs.declared.shape.Shape.{Shape}
use Rattle.run_queue.proofs.Guards.{gave_queue, queue_there, taken_current, taken_clear}
use Rattle.ttwu_core.proofs.Steps.{give_looked_may}
use Rattle.ttwu_core.proofs.Waiting.{IsLeftAlone, off_keeps, off_claimed, off_moving, off_seen, off_number}
use Rattle.ttwu_core.proofs.finding.find.Given.{Over}
use Rattle.ttwu_core.proofs.finding.find.Goals as goal
use Rattle.ttwu_core.specs.Finds.{Look, Left, looked, off_reads, rq_reads}
use Rattle.ttwu_core.specs.Keeps.{Keeps}
use Rattle.word_rule.proofs.Uses.{gives_made_runnable}
use Rattle.word_rule.specs.May.{MayGiveQueueVal}
use Rattle.word_rule.specs.Told.{TakenQueue}
use Rattle.word_steps.specs.Folds.{is_claimed, is_moving, saw_off, number_read}
use Rattle.word_steps.specs.Records.{Rec, Took, Gave, MadeRunnable, LoadedRq, LoadedCpu}
use Rattle.word_steps.specs.declared.val.Val.TheVariants as val

-- what was seen where the task had left its queue
left_of : (g : Over) → goal.After-await_off-m g → Left
left_of g c = record {
  look = record {
    first = c.load_rq-first.result;
    cpu = c.load_cpu-c.result;
    queue = c.lock_queue-queue.result.val;
    second = c.load_rq.result;
  };
  waits = c.await_off-m.ensures.did.waits;
}

left_did : (g : Over) (c : goal.After-await_off-m g)
    → c.await_off-m.new.pass.trace ≡ off_reads c.args.t (Some (left_of g c)) c.await_off-m.result c.args.pass.now.trace
unfolding left_of
left_did g c =
    let t = c.args.t in
    let cpu = c.load_cpu-c.result in
    let v = c.lock_queue-queue.result.val in
    let look : Look = record { first = c.load_rq-first.result; cpu = cpu; queue = v; second = c.load_rq.result } in
    let old = c.args.pass.now.trace in
    let seen : c.load_rq.new.pass.trace ≡ looked t look old =
    c.load_rq.ensures.trace ∙ ap (λ (z : List Rec). LoadedRq t look.second.on look.second.m ∷ z)
    (c.lock_queue-queue.ensures.trace ∙ ap (λ (z : List Rec). Took cpu (val.Queue v) ∷ z)
    (c.load_cpu-c.ensures.trace ∙ ap (λ (z : List Rec). LoadedCpu t cpu ∷ z) c.load_rq-first.ensures.trace)) in
    let back : c.give-2.new.pass.trace ≡ Gave cpu (val.Queue v) (val.Queue v) ∷ looked t look old =
    c.give-2.ensures.trace
    ∙ gave_queue cpu c.lock_queue-queue.result.cpu v v c.load_rq.new.pass.trace (looked t look old)
    c.lock_queue-queue.ensures.processor seen
    (queue_there cpu v (LoadedCpu t cpu ∷ LoadedRq t look.first.on look.first.m ∷ old)) in
    c.await_off-m.ensures.did.did
    ∙ ap (λ (z : List Rec). LoadedRq t 0 c.await_off-m.result ∷ rq_reads t c.await_off-m.ensures.did.waits z) back

pub give-requires-clause-may : goal.give-requires-clause-may
give-requires-clause-may g c κs within =
    let t = c.args.t in
    let cpu = c.load_cpu-c.result in
    let v = c.lock_queue-queue.result.val in
    let before = c.load_cpu-c.new.pass in
    let m = c.load_rq.result.m in
    let shape = c.load_cpu-c.ensures.same.same.same_shape ∙ c.load_rq-first.ensures.same.same.same_shape ∙ c.requires.of.same_shape in
    let seat = c.make_runnable.ensures.same.same.same_seat ∙ c.load_rq.ensures.same.same.same_seat
    ∙ c.lock_queue-queue.ensures.same.same.same_seat in
    let trace = c.make_runnable.ensures.trace ∙ ap (λ (z : List Rec). MadeRunnable t ∷ z) (c.load_rq.ensures.trace
    ∙ ap (λ (z : ℕ × List Rec). LoadedRq t z.0 m ∷ z.1) (λ i. (c.if-load_rq-eq1.true i, c.lock_queue-queue.ensures.trace i))) in
    let told = subst (λ (z : Shape). TakenQueue z before.seat before.trace cpu v) shape c.lock_queue-queue.ensures.taken in
    subst (λ (z : ℕ × List Rec × ℕ). MayGiveQueueVal z.0 z.1 c.args.wk.now.shape z.2 v)
    (λ i. (sym seat i, sym trace i, sym c.lock_queue-queue.ensures.processor i))
    (gives_made_runnable c.args.wk.now.shape before.seat cpu v before.trace told t m)

pub returns-then-load_rq-eq1-clause-did : goal.returns-then-load_rq-eq1-clause-did
returns-then-load_rq-eq1-clause-did g c =
    let t = c.args.t in
    let cpu = c.load_cpu-c.result in
    let v = c.lock_queue-queue.result.val in
    let look : Look = record { first = c.load_rq-first.result; cpu = cpu; queue = v; second = c.load_rq.result } in
    let old = c.args.pass.now.trace in
    let seen : c.load_rq.new.pass.trace ≡ looked t look old =
    c.load_rq.ensures.trace ∙ ap (λ (z : List Rec). LoadedRq t look.second.on look.second.m ∷ z)
    (c.lock_queue-queue.ensures.trace ∙ ap (λ (z : List Rec). Took cpu (val.Queue v) ∷ z)
    (c.load_cpu-c.ensures.trace ∙ ap (λ (z : List Rec). LoadedCpu t cpu ∷ z) c.load_rq-first.ensures.trace)) in
    record {
      look = look;
      queued = c.if-first-eq0.false;
      there = c.if-load_rq-eq1.true;
      did = c.give.ensures.trace
          ∙ gave_queue cpu c.lock_queue-queue.result.cpu v v c.make_runnable.new.pass.trace (MadeRunnable t ∷ looked t look old)
          c.lock_queue-queue.ensures.processor
          (c.make_runnable.ensures.trace ∙ ap (λ (z : List Rec). MadeRunnable t ∷ z) seen)
          (queue_there cpu v (LoadedCpu t cpu ∷ LoadedRq t look.first.on look.first.m ∷ old));
    }

pub give-requires-2-clause-may : goal.give-requires-2-clause-may
give-requires-2-clause-may g c κs within =
    let t = c.args.t in
    let cpu = c.load_cpu-c.result in
    let v = c.lock_queue-queue.result.val in
    let before = c.load_cpu-c.new.pass in
    let shape = c.load_cpu-c.ensures.same.same.same_shape ∙ c.load_rq-first.ensures.same.same.same_shape ∙ c.requires.of.same_shape in
    let seat = c.load_rq.ensures.same.same.same_seat ∙ c.lock_queue-queue.ensures.same.same.same_seat in
    let trace = c.load_rq.ensures.trace
    ∙ ap (λ (z : List Rec). LoadedRq t c.load_rq.result.on c.load_rq.result.m ∷ z) c.lock_queue-queue.ensures.trace in
    let told = subst (λ (z : Shape). TakenQueue z before.seat before.trace cpu v) shape c.lock_queue-queue.ensures.taken in
    subst (λ (z : ℕ × List Rec × ℕ). MayGiveQueueVal z.0 z.1 c.args.wk.now.shape z.2 v)
    (λ i. (sym seat i, sym trace i, sym c.lock_queue-queue.ensures.processor i))
    (give_looked_may c.args.wk.now.shape before.seat cpu v before.trace t c.load_rq.result.on c.load_rq.result.m told)

pub returns-clause-did : goal.returns-clause-did
unfolding left_of
returns-clause-did g c =
    let t = c.args.t in
    let s = c.args.pass.now.seat in
    let m = c.await_off-m.result in
    let old = c.args.pass.now.trace in
    let did = left_did g c in
    let left = left_of g c in
    record {
      left = Some left;
      left_so = record { queued = c.if-first-eq0.false; gone = c.if-load_rq-eq1.false; waits = c.await_off-m.ensures.did.queued };
      did = did;
      off = ap (λ (z : List Rec). saw_off z t) did ∙ off_seen s t old (Some left) m c.requires.unstored;
      number = ap (λ (z : List Rec). number_read z t) did ∙ off_number s t old (Some left) m;
      changed = c.await_off-m.ensures.changed;
    }

-- the seat's current task stays where a queue is given as it was taken
left_alone : (g : Over) (c : goal.After-await_off-m g)
    → IsLeftAlone c.args.pass.now.seat c.load_cpu-c.result c.lock_queue-queue.result.val c.args.pass.now.trace
left_alone g c =
    let t = c.args.t in
    let s = c.args.pass.now.seat in
    let cpu = c.load_cpu-c.result in
    let v = c.lock_queue-queue.result.val in
    let before = c.load_cpu-c.new.pass in
    let read = LoadedCpu t cpu ∷ LoadedRq t c.load_rq-first.result.on c.load_rq-first.result.m ∷ c.args.pass.now.trace in
    let trace : before.trace ≡ read =
    c.load_cpu-c.ensures.trace ∙ ap (λ (z : List Rec). LoadedCpu t cpu ∷ z) c.load_rq-first.ensures.trace in
    let seat = c.load_cpu-c.ensures.same.same.same_seat ∙ c.load_rq-first.ensures.same.same.same_seat in
    let told = subst (λ (z : ℕ × List Rec). TakenQueue before.shape z.0 z.1 cpu v)
    (λ i. (seat i, trace i)) c.lock_queue-queue.ensures.taken in
    record { current = taken_current before.shape s cpu v read told; clear = taken_clear before.shape s cpu v read told }

left_keeps : (g : Over) (c : goal.After-await_off-m g)
    → Keeps c.args.pass.now.seat c.args.pass.now.trace (off_reads c.args.t (Some (left_of g c)) c.await_off-m.result c.args.pass.now.trace)
unfolding left_of
left_keeps g c =
    let s = c.args.pass.now.seat in
    let old = c.args.pass.now.trace in
    off_keeps s c.args.t old (Some (left_of g c)) c.await_off-m.result (left_alone g c)

pub returns-clause-keeps : goal.returns-clause-keeps
returns-clause-keeps g c =
    let t = c.args.t in
    let s = c.args.pass.now.seat in
    let old = c.args.pass.now.trace in
    subst (λ (z : List Rec). Keeps s old z) (sym (left_did g c)) (left_keeps g c)

pub returns-clause-claimed : goal.returns-clause-claimed
returns-clause-claimed g c =
    ap is_claimed (left_did g c)
    ∙ off_claimed c.args.pass.now.seat c.args.t c.args.pass.now.trace (Some (left_of g c)) c.await_off-m.result

pub returns-clause-moving : goal.returns-clause-moving
returns-clause-moving g c =
    ap is_moving (left_did g c)
    ∙ off_moving c.args.pass.now.seat c.args.t c.args.pass.now.trace (Some (left_of g c)) c.await_off-m.result
