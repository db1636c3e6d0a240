-- What was made after what, on the way of a wake-up.
use Rattle.std.proofs.Common.{◌≡◌, ◌∙◌, ℕ, ◌++◌, ◌∷◌, [], List, refl, sym, ap, subst}
use Rattle.std.specs.Prelude.{Bool, true, false, ◌==◌, if◌then◌else◌, Option, Some, None, unwrap_or}
use Rattle.core_data.specs.declared.pos.Rq.{Rq}
use Rattle.handoff_data.specs.declared.shape.Shape.{Shape}
use Rattle.handoff_data.specs.declared.state.State.{State}
use Rattle.run_queue.specs.Queueing.{placed}
use Rattle.task_words.specs.Views.{PassView}
use Rattle.ttwu_core.specs.Claims.{busy_reads, awaited_clear}
use Rattle.ttwu_core.specs.Finds.{Look, Left, rq_reads, looked, off_reads}
use Rattle.ttwu_core.specs.Orders.{IsSince, IsReadAndMadeRunnable, IsReadAndStored, IsClaimedAndQueued}
use Rattle.ttwu_core.specs.Own.{IsOwnWoken}
use Rattle.ttwu_core.specs.Wakes.{tested, IsRunnableStill, IsQueuedAgain}
use Rattle.word_steps.specs.Folds.{current_task}
use Rattle.word_steps.specs.Records.{Rec, Took, Gave, Claimed, MadeRunnable, LoadedState, LoadedRq, LoadedCpu, LoadedBusy, StoredCpu}
use Rattle.word_steps.specs.declared.val.Val.TheVariants as val

none : (old : List Rec) → IsSince old old
none old = record { added = []; did = refl }

more : (old new : List Rec) (r : Rec) → IsSince old new → IsSince old (r ∷ new)
more old new r x = record { added = r ∷ x.added; did = ap (λ (z : List Rec). r ∷ z) x.did }

rq_more : (t : ℕ) (old trace : List Rec) → IsSince old trace → (rs : List Rq) → IsSince old (rq_reads t rs trace)
rq_more t old trace x [] = x
rq_more t old trace x (r ∷ rs) = more old (rq_reads t rs trace) (LoadedRq t r.on r.m) (rq_more t old trace x rs)

busy_more : (t : ℕ) (old trace : List Rec) → IsSince old trace → (ns : List ℕ) → IsSince old (busy_reads t ns trace)
busy_more t old trace x [] = x
busy_more t old trace x (n ∷ ns) = more old (busy_reads t ns trace) (LoadedBusy t true n) (busy_more t old trace x ns)

either_more : (same : Bool) (t c from : ℕ) (old trace : List Rec) → IsSince old trace
    → IsSince old (if same then LoadedCpu t from ∷ trace else StoredCpu t c ∷ LoadedCpu t from ∷ trace)
either_more true t c from old trace x = more old trace (LoadedCpu t from) x
either_more false t c from old trace x =
    more old (LoadedCpu t from ∷ trace) (StoredCpu t c) (more old trace (LoadedCpu t from) x)

placed_more : (t c from : ℕ) (old trace : List Rec) → IsSince old trace → IsSince old (placed t from c trace)
placed_more t c from old trace x = either_more (from == c) t c from old trace x

looked_more : (t : ℕ) (x : Look) (old trace : List Rec) → IsSince old trace → IsSince old (looked t x trace)
looked_more t x old trace y = record {
  added = LoadedRq t x.second.on x.second.m ∷ Took x.cpu (val.Queue x.queue) ∷ LoadedCpu t x.cpu
      ∷ LoadedRq t x.first.on x.first.m ∷ y.added;
  did = ap (looked t x) y.did;
}

off_more : (t m : ℕ) (left : Option Left) (old trace : List Rec) → IsSince old trace → IsSince old (off_reads t left m trace)
off_more t m None old trace y = more old trace (LoadedRq t 0 m) y
off_more t m (Some x) old trace y =
    let back : List Rec = Gave x.look.cpu (val.Queue x.look.queue) (val.Queue x.look.queue) ∷ looked t x.look trace in
    more old (rq_reads t x.waits back) (LoadedRq t 0 m)
    (rq_more t old back (more old (looked t x.look trace) (Gave x.look.cpu (val.Queue x.look.queue) (val.Queue x.look.queue))
    (looked_more t x.look old trace y)) x.waits)

pub runnable_made : (t : ℕ) (mask : State) (old new : PassView) → IsRunnableStill t mask old new
    → IsReadAndMadeRunnable t mask old.trace new.trace
runnable_made t mask old new x =
    let before : List Rec = Took t (val.Task x.task) ∷ old.trace in
    let read : List Rec = LoadedState t (Some mask) x.seen ∷ before in
    record {
      seen = x.seen;
      matched = x.matched;
      made = record {
        before = before;
        between = looked t x.look read;
        start = more old.trace old.trace (Took t (val.Task x.task)) (none old.trace);
        middle = looked_more t x.look read read (none read);
        rest = record {
          added = Gave t (val.Task x.task) (val.Task x.task) ∷ Gave x.look.cpu (val.Queue x.look.queue) (val.Queue x.look.queue) ∷ [];
          did = x.did;
        };
      };
    }

pub queued_made : (t c : ℕ) (mask : State) (shape : Shape) (old new : PassView) → IsQueuedAgain t mask shape c old new
    → IsClaimedAndQueued t c old.trace new.trace
queued_made t c mask shape old new x =
    let before : List Rec = off_reads t x.left x.m (tested t x.task mask x.seen old.trace) in
    let claimed : List Rec = Claimed t x.m ∷ before in
    let clear : List Rec = awaited_clear t x.n x.waits claimed in
    record {
      m = x.m;
      made = record {
        before = before;
        between = Took c (val.Queue x.queue) ∷ placed t x.from c clear;
        start = off_more t x.m x.left old.trace (tested t x.task mask x.seen old.trace)
            (more old.trace (Took t (val.Task x.task) ∷ old.trace) (LoadedState t (Some mask) x.seen)
            (more old.trace old.trace (Took t (val.Task x.task)) (none old.trace)));
        middle = more claimed (placed t x.from c clear) (Took c (val.Queue x.queue))
            (placed_more t c x.from claimed clear
            (more claimed (busy_reads t x.waits claimed) (LoadedBusy t false x.n)
            (busy_more t claimed claimed (none claimed) x.waits)));
        rest = record {
          added = Gave t (val.Task x.task) (val.Task (record x.task { wake_cpu = c }))
              ∷ Gave c (val.Queue x.queue) (val.Queue (record x.queue { waiting = x.queue.waiting ++ t ∷ [] }))
              ∷ MadeRunnable t ∷ [];
          did = x.did;
        };
      };
    }

pub own_made : (t : ℕ) (mask : State) (old new : PassView) → current_task old.seat old.trace ≡ Some t
    → IsOwnWoken mask old new → IsReadAndStored t mask old.trace new.trace
own_made t mask old new current x =
    let same : x.task ≡ t = ap (λ (o : Option ℕ). unwrap_or o 0) (sym x.current ∙ current) in
    subst (λ (k : ℕ). IsReadAndStored k mask old.trace new.trace) same (record {
      seen = x.seen;
      matched = x.matched;
      made = record {
        before = old.trace;
        between = LoadedState x.task (Some mask) x.seen ∷ old.trace;
        start = none old.trace;
        middle = none (LoadedState x.task (Some mask) x.seen ∷ old.trace);
        rest = record { added = []; did = x.did };
      };
    })
