-- What journals tell of remote lists: what is listed to a processor is queued by it, in the order of each waker.
use Rattle.std.specs.Prelude.{◌≡◌, ◌+◌, ◌<◌, ℕ, true}
use Rattle.handoff_data.specs.declared.entry.Entry.TheVariants as entry
use Rattle.handoff_data.specs.History.{History}
use Rattle.handoff_data.specs.Positions.{Stands}

-- At k of its journal the waker lists t, which sleeps by its change m, to c; and at the index of the journal of c that
-- processor queues t from its list, as the next change.
pub record IsHandedOver (j : History) (waker k c index : ℕ) : Type 0 where
  pub t : ℕ
  pub m : ℕ
  pub epoch : ℕ
  pub lists : Stands j waker k (entry.List t m c epoch)
  pub queues : Stands j c index (entry.Enq t (m + 1) c true)

-- Of what a waker lists to a processor, that queues first what was listed first.
pub record QueuesInOrder (j : History) : Type 0 where
  pub in_order : (waker k k' c index index' : ℕ)
      → IsHandedOver j waker k c index → IsHandedOver j waker k' c index' → k < k' → index < index'
  pub one_queueing : (waker k c index index' : ℕ)
      → IsHandedOver j waker k c index → IsHandedOver j waker k c index' → index ≡ index'
  pub one_listing : (waker waker' k k' c index : ℕ)
      → IsHandedOver j waker k c index → IsHandedOver j waker' k' c index → (waker ≡ waker') × (k ≡ k')
  pub was_listed : (seat index t m c : ℕ) → Stands j seat index (entry.Enq t m c true)
      → (seat ≡ c) × ((waker k : ℕ) × IsHandedOver j waker k c index)

-- And it queues all that is listed to it.
pub record QueuesAllInOrder (j : History) : Type 0 where
  pub all : (waker k t m c epoch : ℕ) → Stands j waker k (entry.List t m c epoch)
      → (index : ℕ) × IsHandedOver j waker k c index
  pub order : QueuesInOrder j
