-- What words that were read again and again tell: no more than the last read.
use Rattle.std.proofs.Common.{◌≡◌, ◌≢◌, ◌∙◌, ℕ, ◌∷◌, [], List, refl, sym, ap, subst, arith}
use Rattle.std.specs.Prelude.{Bool, true, false, if◌then◌else◌, Option, Some, None, IsSome, IfSome, is_none}
use Rattle.std.proofs.lemmas.Bool.Decides.{nat_tests}
use Rattle.core_data.specs.Queue.{Queue}
use Rattle.core_data.specs.declared.pos.Rq.{Rq}
use Rattle.core_data.specs.declared.values.TaskVal.{TaskVal}
use Rattle.core_gives.specs.Queues.{gives_up}
use Rattle.handoff_data.specs.declared.shape.Shape.{Shape}
use Rattle.run_queue.proofs.Apart.{none_apart, apart_again, took_queue_apart, gave_queue_apart, queued_apart, rq_apart, busy_apart, cpu_apart, claimed_apart, made_runnable_apart}
use Rattle.run_queue.proofs.Guards.{taken_current, taken_clear}
use Rattle.run_queue.specs.Queueing.{pushed}
use Rattle.run_queue.specs.Rests.{IsApart}
use Rattle.ttwu_core.specs.Claims.{busy_reads, awaited_clear, queued_woken}
use Rattle.ttwu_core.specs.Finds.{Look, Left, rq_reads, looked, off_reads, made_runnable_there}
use Rattle.ttwu_core.specs.Keeps.{Keeps}
use Rattle.word_rule.specs.Told.{TakenQueue}
use Rattle.word_steps.specs.Folds.{put_if, task_held, queue_held, current_task, task_to_clear, has_matched, is_unstored, is_claimed, is_moving, saw_off, saw_clear, number_read}
use Rattle.word_steps.specs.Records.{Rec, Took, Gave, Queued, Claimed, MadeRunnable, LoadedRq, LoadedBusy, LoadedCpu}
use Rattle.word_steps.specs.declared.val.Val.TheVariants as val

module _ (t : ℕ) (trace : List Rec) where
  rq_held : (rs : List Rq) → task_held (rq_reads t rs trace) ≡ task_held trace
  rq_held [] = refl
  rq_held (r ∷ rs) = rq_held rs

  -- the lock of a task stays taken, and the task matched
  pub rq_locked : (rs : List Rq) → IsSome (task_held trace t) → IsSome (task_held (rq_reads t rs trace) t)
  rq_locked rs locked = subst (λ (h : ℕ → Option TaskVal). IsSome (h t)) (sym (rq_held rs)) locked

  pub rq_matched : (rs : List Rq) → has_matched (rq_reads t rs trace) ≡ has_matched trace
  rq_matched [] = refl
  rq_matched (r ∷ rs) = rq_matched rs

  rq_queues : (rs : List Rq) → queue_held (rq_reads t rs trace) ≡ queue_held trace
  rq_queues [] = refl
  rq_queues (r ∷ rs) = rq_queues rs

  rq_current : (s : ℕ) (rs : List Rq) → current_task s (rq_reads t rs trace) ≡ current_task s trace
  rq_current s [] = refl
  rq_current s (r ∷ rs) = rq_current s rs

  rq_unstored : (rs : List Rq) → is_unstored (rq_reads t rs trace) ≡ is_unstored trace
  rq_unstored [] = refl
  rq_unstored (r ∷ rs) = rq_unstored rs

  rq_clear : (s : ℕ) (rs : List Rq) → task_to_clear s (rq_reads t rs trace) ≡ task_to_clear s trace
  rq_clear s [] = refl
  rq_clear s (r ∷ rs) = rq_clear s rs

  reads_apart : (rs : List Rq) → IsApart trace (rq_reads t rs trace)
  reads_apart [] = none_apart trace
  reads_apart (r ∷ rs) =
      let before = rq_reads t rs trace in
      apart_again trace before (LoadedRq t r.on r.m ∷ before) (reads_apart rs) (rq_apart before t r.on r.m)

  rq_claimed : (rs : List Rq) → is_claimed (rq_reads t rs trace) ≡ is_claimed trace
  rq_claimed [] = refl
  rq_claimed (r ∷ rs) = rq_claimed rs

  rq_moving : (rs : List Rq) → is_moving (rq_reads t rs trace) ≡ is_moving trace
  rq_moving [] = refl
  rq_moving (r ∷ rs) = rq_moving rs

  busy_moving : (ns : List ℕ) → is_moving (busy_reads t ns trace) ≡ is_moving trace
  busy_moving [] = refl
  busy_moving (n ∷ ns) = busy_moving ns

  busy_numbers : (ns : List ℕ) → number_read (busy_reads t ns trace) ≡ number_read trace
  busy_numbers [] = refl
  busy_numbers (n ∷ ns) = busy_numbers ns

  busy_clear : (s : ℕ) (ns : List ℕ) → task_to_clear s (busy_reads t ns trace) ≡ task_to_clear s trace
  busy_clear s [] = refl
  busy_clear s (n ∷ ns) = busy_clear s ns

  busys_apart : (ns : List ℕ) → IsApart trace (busy_reads t ns trace)
  busys_apart [] = none_apart trace
  busys_apart (n ∷ ns) =
      let before = busy_reads t ns trace in
      apart_again trace before (LoadedBusy t true n ∷ before) (busys_apart ns) (busy_apart before t true n)

  busy_held : (ns : List ℕ) → task_held (busy_reads t ns trace) ≡ task_held trace
  busy_held [] = refl
  busy_held (n ∷ ns) = busy_held ns

  busy_queues : (ns : List ℕ) → queue_held (busy_reads t ns trace) ≡ queue_held trace
  busy_queues [] = refl
  busy_queues (n ∷ ns) = busy_queues ns

  busy_current : (s : ℕ) (ns : List ℕ) → current_task s (busy_reads t ns trace) ≡ current_task s trace
  busy_current s [] = refl
  busy_current s (n ∷ ns) = busy_current s ns

  busy_claimed : (ns : List ℕ) → is_claimed (busy_reads t ns trace) ≡ is_claimed trace
  busy_claimed [] = refl
  busy_claimed (n ∷ ns) = busy_claimed ns

seen_if : (b : Bool) (t : ℕ) (h : ℕ → Bool) → b ≡ true → put_if b t true h t ≡ true
seen_if true t h e = grind (arith, nat_tests)
seen_if false t h e = absurd (grind (arith, e))

-- a queue that is given as it was taken leaves the seat its current task, and the busy word that it has to clear
pub record IsLeftAlone (s c : ℕ) (q : Queue) (trace : List Rec) : Type 0 where
  pub current : (if gives_up s c q then None else current_task s trace) ≡ current_task s trace
  pub clear : (if gives_up s c q then (if is_none (current_task s trace) then task_to_clear s trace else current_task s trace) else task_to_clear s trace)
      ≡ task_to_clear s trace

-- a look under a queue's lock, which is given back as it was
abbrev given_back : ℕ → Look → List Rec → List Rec
given_back t x trace = Gave x.cpu (val.Queue x.queue) (val.Queue x.queue) ∷ looked t x trace

looked_apart : (t : ℕ) (x : Look) (trace : List Rec) → IsApart trace (looked t x trace)
looked_apart t x trace =
    let a = LoadedRq t x.first.on x.first.m ∷ trace in
    let b = LoadedCpu t x.cpu ∷ a in
    let d = Took x.cpu (val.Queue x.queue) ∷ b in
    apart_again trace d (LoadedRq t x.second.on x.second.m ∷ d)
    (apart_again trace b d (apart_again trace a b (rq_apart trace t x.first.on x.first.m) (cpu_apart a t x.cpu))
    (took_queue_apart b x.cpu x.queue))
    (rq_apart d t x.second.on x.second.m)

back_apart : (t : ℕ) (x : Look) (trace : List Rec) → IsApart trace (given_back t x trace)
back_apart t x trace =
    let a = looked t x trace in
    apart_again trace a (given_back t x trace) (looked_apart t x trace) (gave_queue_apart a x.cpu x.queue x.queue)

made_runnable_apart_there : (t : ℕ) (x : Look) (trace : List Rec) → IsApart trace (made_runnable_there t x trace)
made_runnable_apart_there t x trace =
    let a = looked t x trace in
    let b = MadeRunnable t ∷ a in
    apart_again trace b (made_runnable_there t x trace) (apart_again trace a b (looked_apart t x trace) (made_runnable_apart a t))
    (gave_queue_apart b x.cpu x.queue x.queue)

off_apart : (t : ℕ) (left : Option Left) (m : ℕ) (trace : List Rec) → IsApart trace (off_reads t left m trace)
off_apart t None m trace = rq_apart trace t 0 m
off_apart t (Some x) m trace =
    let a = given_back t x.look trace in
    let b = rq_reads t x.waits a in
    apart_again trace b (LoadedRq t 0 m ∷ b)
    (apart_again trace a b (back_apart t x.look trace) (reads_apart t a x.waits)) (rq_apart b t 0 m)

queued_woken_apart : (t c m : ℕ) (q : Queue) (trace : List Rec) → IsApart trace (queued_woken t c m q trace)
queued_woken_apart t c m q trace =
    let a = Took c (val.Queue q) ∷ trace in
    let b = Queued t c 0 m ∷ a in
    let d = MadeRunnable t ∷ b in
    apart_again trace d (queued_woken t c m q trace)
    (apart_again trace b d (apart_again trace a b (took_queue_apart trace c q) (queued_apart a t c 0 m)) (made_runnable_apart b t))
    (gave_queue_apart d c q (pushed t q))

claim_apart : (t m n : ℕ) (ns : List ℕ) (trace : List Rec) → IsApart trace (awaited_clear t n ns (Claimed t m ∷ trace))
claim_apart t m n ns trace =
    let a = Claimed t m ∷ trace in
    let b = busy_reads t ns a in
    apart_again trace b (LoadedBusy t false n ∷ b)
    (apart_again trace a b (claimed_apart trace t m) (busys_apart t a ns)) (busy_apart b t false n)

module _ (s t : ℕ) (trace : List Rec) where
  back_free : (x : Look) → ((c : ℕ) → queue_held trace c ≡ None)
      → (c : ℕ) → queue_held (given_back t x trace) c ≡ None
  back_free x free c = grind (arith, nat_tests, free c)

  pub off_keeps : (left : Option Left) (m : ℕ)
      → IfSome left (λ x. IsLeftAlone s x.look.cpu x.look.queue trace)
      → Keeps s trace (off_reads t left m trace)
  off_keeps None m same = record { held = refl; free = λ f c. f c; current = refl; clear = refl; apart = off_apart t None m trace }
  off_keeps (Some x) m same = record {
    held = rq_held t (given_back t x.look trace) x.waits;
    free = λ f c. ap (λ (h : ℕ → Option Queue). h c) (rq_queues t (given_back t x.look trace) x.waits) ∙ back_free x.look f c;
    current = rq_current t (given_back t x.look trace) s x.waits ∙ same.current;
    clear = rq_clear t (given_back t x.look trace) s x.waits ∙ same.clear;
    apart = off_apart t (Some x) m trace;
  }

  pub off_claimed : (left : Option Left) (m : ℕ) → is_claimed (off_reads t left m trace) ≡ is_claimed trace
  off_claimed None m = refl
  off_claimed (Some x) m = rq_claimed t (given_back t x.look trace) x.waits

  pub off_moving : (left : Option Left) (m : ℕ) → is_moving (off_reads t left m trace) ≡ is_moving trace
  off_moving None m = refl
  off_moving (Some x) m = rq_moving t (given_back t x.look trace) x.waits

  pub made_runnable_keeps : (x : Look)
      → IsLeftAlone s x.cpu x.queue trace → Keeps s trace (made_runnable_there t x trace)
  made_runnable_keeps x same = record {
    held = refl;
    free = λ f c. back_free x f c;
    current = same.current;
    clear = same.clear;
    apart = made_runnable_apart_there t x trace;
  }

  pub queued_keeps : (shape : Shape) (c m : ℕ) (q : Queue) → TakenQueue shape s trace c q
      → Keeps s trace (queued_woken t c m q trace)
  queued_keeps shape c m q told = record {
    held = refl;
    free = λ f k. let none : queue_held trace k ≡ None = f k in grind (arith, nat_tests, none);
    current = taken_current shape s c q trace told;
    clear = taken_clear shape s c q trace told;
    apart = queued_woken_apart t c m q trace;
  }

  pub off_seen : (left : Option Left) (m : ℕ) → is_unstored trace t ≡ true → saw_off (off_reads t left m trace) t ≡ true
  off_seen None m unstored = grind (arith, nat_tests, unstored)
  off_seen (Some x) m unstored =
      seen_if (is_unstored (rq_reads t x.waits (given_back t x.look trace)) t) t
      (saw_off (rq_reads t x.waits (given_back t x.look trace)))
      (ap (λ (h : ℕ → Bool). h t) (rq_unstored t (given_back t x.look trace) x.waits) ∙ unstored)

  pub claim_keeps : (m n : ℕ) (ns : List ℕ) → Keeps s trace (awaited_clear t n ns (Claimed t m ∷ trace))
  claim_keeps m n ns = record {
    held = busy_held t (Claimed t m ∷ trace) ns;
    free = λ f c. ap (λ (h : ℕ → Option Queue). h c) (busy_queues t (Claimed t m ∷ trace) ns) ∙ f c;
    current = busy_current t (Claimed t m ∷ trace) s ns;
    clear = busy_clear t (Claimed t m ∷ trace) s ns;
    apart = claim_apart t m n ns trace;
  }

  pub claim_others : (m n : ℕ) (ns : List ℕ) (u : ℕ) → u ≢ t
      → is_claimed (awaited_clear t n ns (Claimed t m ∷ trace)) u ≡ is_claimed trace u
  claim_others m n ns u apart =
      ap (λ (h : ℕ → Bool). h u) (busy_claimed t (Claimed t m ∷ trace) ns) ∙ grind (arith, nat_tests, apart)

  pub claim_moving : (m n : ℕ) (ns : List ℕ) → is_moving (awaited_clear t n ns (Claimed t m ∷ trace)) ≡ is_moving trace
  claim_moving m n ns = busy_moving t (Claimed t m ∷ trace) ns

  pub claim_numbers : (m n : ℕ) (ns : List ℕ) → number_read (awaited_clear t n ns (Claimed t m ∷ trace)) ≡ number_read trace
  claim_numbers m n ns = busy_numbers t (Claimed t m ∷ trace) ns

  pub claim_claimed : (m n : ℕ) (ns : List ℕ) → is_claimed (awaited_clear t n ns (Claimed t m ∷ trace)) t ≡ true
  claim_claimed m n ns = ap (λ (h : ℕ → Bool). h t) (busy_claimed t (Claimed t m ∷ trace) ns) ∙ grind (arith, nat_tests)

  pub claim_clear : (m n : ℕ) (ns : List ℕ) → saw_clear (awaited_clear t n ns (Claimed t m ∷ trace)) t ≡ true
  claim_clear m n ns = grind (arith, nat_tests)

  pub off_number : (left : Option Left) (m : ℕ) → number_read (off_reads t left m trace) t ≡ Some m
  off_number None m = grind (arith, nat_tests)
  off_number (Some x) m = grind (arith, nat_tests)
