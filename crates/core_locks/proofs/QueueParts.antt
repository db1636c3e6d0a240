-- The queues and the tasks that are queued, part by part.
use Rattle.std.proofs.Common.{◌≡◌, ◌≢◌, ℕ, Bool, true, false, Some, None, Option, arith}
use Rattle.std.specs.Prelude.{if◌then◌else◌, ◌==◌, IsSome}
use Rattle.std.proofs.lemmas.Bool.Decides.{nat_tests}
use Rattle.core_data.specs.Queue.{Queue}
use Rattle.core_data.specs.Columns.{put, put_at}
use Rattle.core_gives.specs.Queues.{IsQueueOf}
use Rattle.core_invariant.specs.Queues.{HomeQueues, LeftQueues, DroppedTasks}

pub HomeQueues-take : (on_rq cpu : ℕ → ℕ) (queue : ℕ → Option Queue) (c : ℕ) → HomeQueues on_rq cpu queue → HomeQueues on_rq cpu (put queue c None)
HomeQueues-take on_rq cpu queue c p = λ k v e. p k v (grind (arith, nat_tests, e))

pub HomeQueues-give : (on_rq cpu : ℕ → ℕ) (queue : ℕ → Option Queue) (c : ℕ) (val : Queue) → HomeQueues on_rq cpu queue → IsQueueOf on_rq cpu c val → HomeQueues on_rq cpu (put queue c (Some val))
HomeQueues-give on_rq cpu queue c val p h = λ k v e t. grind (arith, nat_tests, p k v, h t)

-- a task of a queue that is out is queued or taken off
pub HomeQueues-store : (on_rq cpu : ℕ → ℕ) (queue : ℕ → Option Queue) (c t on : ℕ) → HomeQueues on_rq cpu queue → queue c ≡ None → cpu t ≡ c → HomeQueues (put on_rq t on) cpu queue
HomeQueues-store on_rq cpu queue c t on p out here = λ k v e u. grind (arith, nat_tests, p k v e u)

-- a task that isn't queued is placed
pub HomeQueues-place : (on_rq cpu : ℕ → ℕ) (queue : ℕ → Option Queue) (t c : ℕ) → HomeQueues on_rq cpu queue → on_rq t ≢ 1 → HomeQueues on_rq (put cpu t c) queue
HomeQueues-place on_rq cpu queue t c p off = λ k v e u. grind (arith, nat_tests, p k v e u, off)

pub LeftQueues-take : (on_rq cpu : ℕ → ℕ) (queue : ℕ → Option Queue) (out : ℕ → ℕ → Option Queue) (added dropped : ℕ → ℕ → ℕ → Bool) (s c : ℕ) → LeftQueues on_rq cpu out added dropped
    → HomeQueues on_rq cpu queue
    → LeftQueues on_rq cpu (put_at out s c (queue c)) (put added s (λ d t. if d == c then false else added s d t)) (put dropped s (λ d t. if d == c then false else dropped s d t))
LeftQueues-take on_rq cpu queue out added dropped s c p home = λ u d taken t e a r. grind (arith, nat_tests, p u d taken t, home c taken)

pub LeftQueues-give : (on_rq cpu : ℕ → ℕ) (out : ℕ → ℕ → Option Queue) (added dropped : ℕ → ℕ → ℕ → Bool) (s c : ℕ) → LeftQueues on_rq cpu out added dropped
    → LeftQueues on_rq cpu (put_at out s c None) added dropped
LeftQueues-give on_rq cpu out added dropped s c p = λ u d taken t e a r. grind (arith, nat_tests, p u d taken t)

pub LeftQueues-queue : (on_rq cpu : ℕ → ℕ) (out : ℕ → ℕ → Option Queue) (added dropped : ℕ → ℕ → ℕ → Bool) (s c t : ℕ) → LeftQueues on_rq cpu out added dropped
    → ((u : ℕ) → IsSome (out u c) → u ≡ s) → cpu t ≡ c → on_rq t ≢ 1
    → LeftQueues (put on_rq t 1) cpu out (put added s (λ d u. if u == t then true else added s d u)) dropped
LeftQueues-queue on_rq cpu out added dropped s c t p only here off = λ k d taken u e a r. grind (arith, nat_tests, p k d taken u, only k, off)

pub LeftQueues-off : (on_rq cpu : ℕ → ℕ) (out : ℕ → ℕ → Option Queue) (added dropped : ℕ → ℕ → ℕ → Bool) (s c t on : ℕ) → LeftQueues on_rq cpu out added dropped
    → ((u : ℕ) → IsSome (out u c) → u ≡ s) → cpu t ≡ c → on ≢ 1
    → LeftQueues (put on_rq t on) cpu out added (put dropped s (λ d u. if u == t then true else dropped s d u))
LeftQueues-off on_rq cpu out added dropped s c t on p only here off = λ k d taken u e a r. grind (arith, nat_tests, p k d taken u, only k, off)

pub LeftQueues-place : (on_rq cpu : ℕ → ℕ) (out : ℕ → ℕ → Option Queue) (added dropped : ℕ → ℕ → ℕ → Bool) (t c : ℕ) → LeftQueues on_rq cpu out added dropped → on_rq t ≢ 1
    → LeftQueues on_rq (put cpu t c) out added dropped
LeftQueues-place on_rq cpu out added dropped t c p off = λ k d taken u e a r. grind (arith, nat_tests, p k d taken u, off)

pub DroppedTasks-take : (on_rq cpu : ℕ → ℕ) (lock : ℕ → Option ℕ) (requeued : ℕ → ℕ → Bool) (dropped : ℕ → ℕ → ℕ → Bool) (s c : ℕ) → DroppedTasks on_rq cpu lock requeued dropped
    → DroppedTasks on_rq cpu (put lock c (Some s)) requeued (put dropped s (λ d t. if d == c then false else dropped s d t))
DroppedTasks-take on_rq cpu lock requeued dropped s c p = λ k d u l r q. grind (arith, nat_tests, p k d u)

pub DroppedTasks-give : (on_rq cpu : ℕ → ℕ) (lock : ℕ → Option ℕ) (requeued : ℕ → ℕ → Bool) (dropped : ℕ → ℕ → ℕ → Bool) (c : ℕ) → DroppedTasks on_rq cpu lock requeued dropped
    → DroppedTasks on_rq cpu (put lock c None) requeued dropped
DroppedTasks-give on_rq cpu lock requeued dropped c p = λ k d u l r q. grind (arith, nat_tests, p k d u)

pub DroppedTasks-queue : (on_rq cpu : ℕ → ℕ) (lock : ℕ → Option ℕ) (requeued : ℕ → ℕ → Bool) (dropped : ℕ → ℕ → ℕ → Bool) (s c t : ℕ) → DroppedTasks on_rq cpu lock requeued dropped
    → lock c ≡ Some s → cpu t ≡ c → DroppedTasks (put on_rq t 1) cpu lock (put requeued s (λ u. if u == t then true else requeued s u)) dropped
DroppedTasks-queue on_rq cpu lock requeued dropped s c t p locked here = λ k d u l r q. grind (arith, nat_tests, p k d u)

pub DroppedTasks-off : (on_rq cpu : ℕ → ℕ) (lock : ℕ → Option ℕ) (requeued : ℕ → ℕ → Bool) (dropped : ℕ → ℕ → ℕ → Bool) (s t on : ℕ) → DroppedTasks on_rq cpu lock requeued dropped
    → on ≢ 1 → DroppedTasks (put on_rq t on) cpu lock (put requeued s (λ u. if u == t then false else requeued s u)) (put dropped s (λ d u. if u == t then true else dropped s d u))
DroppedTasks-off on_rq cpu lock requeued dropped s t on p off = λ k d u l r q. grind (arith, nat_tests, p k d u, off)

pub DroppedTasks-place : (on_rq cpu : ℕ → ℕ) (lock : ℕ → Option ℕ) (requeued : ℕ → ℕ → Bool) (dropped : ℕ → ℕ → ℕ → Bool) (t c : ℕ) → DroppedTasks on_rq cpu lock requeued dropped
    → on_rq t ≢ 1 → DroppedTasks on_rq (put cpu t c) lock requeued dropped
DroppedTasks-place on_rq cpu lock requeued dropped t c p off = λ k d u l r q. grind (arith, nat_tests, p k d u, off)
