use Rattle.std.proofs.Common.{◌<◌, ℕ, sym, ap, ◌∙◌, length, arith}
use Rattle.std.specs.Slots.{slots_items, slots_filled, slots_counts}
use mathlib.Core.Option.{some}
use lib.ListN.{get_elem?}
use Rattle.word_table.proofs.Emptying.{one_read, one_taken}
use Rattle.word_table.specs.Layout.{BODY_SLOT, slot_at}
use Rattle.word_table.specs.declared.slot.Slot.TheVariants.{Body}
use Rattle.word_table.proofs.close.take_bodies.Goals as goal

pub take_body-requires-clause-body : goal.take_body-requires-clause-body
take_body-requires-clause-body g c κs live =
    let inv = c.loop-t.invariant in let t : ℕ = c.loop-t.t in let b = c.requires.bodies t c.loop-t-test.true in
    (b.0, ap (λ z. get_elem? z (slot_at t BODY_SLOT)) inv.items ∙ b.1)

pub loop-t-preserved : goal.loop-t-preserved
loop-t-preserved g c =
    let inv = c.loop-t.invariant in let t : ℕ = c.loop-t.t in let took = c.take_body.ensures in
    let fits : slot_at t BODY_SLOT < length (slots_filled c.loop-t.left.slots) =
    (let a = c.requires.places in let b = inv.len in let d = (slots_counts c.loop-t.left.slots).1 in
    let e = c.loop-t-test.true in omega arith) in
    record {
      items = took.items ∙ inv.items;
      len = took.len ∙ inv.len;
      words = took.words ∙ inv.words;
      filled = one_taken t (slots_filled c.args.left.now.slots) (slots_filled c.loop-t.left.slots)
          (slots_filled c.take_body.new.left.slots) fits inv.filled took.filled;
      bodies = one_read (λ b. some (Body b)) (λ (i : ℕ). get_elem? (slots_items c.args.left.now.slots)
          (slot_at i BODY_SLOT)) c.loop-t.bodies.items c.push_reserved.new.self.items c.take_body.result t inv.bodies
          c.push_reserved.ensures.items
          (sym took.body ∙ ap (λ z. get_elem? z (slot_at t BODY_SLOT)) inv.items);
      full = (let len = c.push_reserved.ensures.len in omega arith);
      room = (let more = c.push_reserved.ensures.capacity in omega arith);
    }
