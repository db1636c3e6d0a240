-- The ring that an end belongs to, as a plain value, and what went through an end that may be absent.
use Rattle.std.specs.Prelude.{ℕ, List, [], ◌∷◌, ◌++◌, Bool, true, false, Option, Some, None}
use denote.RawPtr.{Ptr}
use Rattle.rtrb.specs.Ring.{sent, received, known_items, known_free, producer_capacity, consumer_capacity}
use Rattle.rtrb.specs.Shared.{Names}
use Rattle.rtrb.specs.declared.producer.Producer.{Producer}
use Rattle.rtrb.specs.declared.consumer.Consumer.{Consumer}
use Rattle.pipe_tasks.specs.Words.{Line}
use Rattle.pipe_bodies.specs.Items.{as_texts}
use Rattle.pipe_bodies.specs.declared.item.Item.{Item}
use Rattle.pipe_bodies.specs.declared.item.Item.TheVariants.{End}

-- which ring, and how many items it has room for
pub record Ring : Type 0 where
  pub words : Ptr
  pub slots : Ptr
  pub names : Names
  pub room : ℕ

module _ {T A P : Type 0} where
  abbrev pub ring_in : Consumer T A P → Ring
  ring_in c = record { words = c.end.words; slots = c.end.slots; names = c.end.names; room = consumer_capacity c }

  abbrev pub ring_out : Producer T A P → Ring
  ring_out p = record { words = p.end.words; slots = p.end.slots; names = p.end.names; room = producer_capacity p }

  abbrev pub in_ring : Option (Consumer T A P) → Option Ring
  in_ring None = None
  in_ring (Some c) = Some (ring_in c)

  abbrev pub out_ring : Option (Producer T A P) → Option Ring
  out_ring None = None
  out_ring (Some p) = Some (ring_out p)

  abbrev pub got : Option (Consumer T A P) → List T
  got None = []
  got (Some c) = received c

  -- what a consumer knows to be in its ring
  abbrev pub known : Option (Consumer T A P) → List T
  known None = []
  known (Some c) = known_items c

  -- how many slots a producer knows to be free; where nobody reads, there is always one
  abbrev pub free_slots : Option (Producer T A P) → ℕ
  free_slots None = 1
  free_slots (Some p) = known_free p

abbrev pub end_if : Bool → List Item
end_if true = End ∷ []
end_if false = []

module _ {A P : Type 0} where
  -- what was put out: on the ring, or, where nobody reads, into the lines that are kept
  abbrev pub out_of : Option (Producer Item A P) → List Line → Bool → List Item
  out_of None kept ended = as_texts kept ++ end_if ended
  out_of (Some p) kept ended = sent p
