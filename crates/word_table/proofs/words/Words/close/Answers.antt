use Rattle.std.proofs.Common.{◌≡◌, ◌<◌, ◌+◌, ◌*◌, ◌^◌, ℕ, length, map, subst, sym, ap, ◌∙◌, arith}
use Rattle.std.specs.Slots.{slots_items, slots_filled, slots_len, slots_counts}
use Rattle.std.proofs.lemmas.List.FromFn.{length-map-range_with_len}
use lib.ListN.{get_elem?}
use Rattle.handoff_data.specs.declared.shape.Shape.{Shape}
use Rattle.word_steps.specs.Words.{STATE, words_of}
use Rattle.word_table.proofs.Returned.{room_taken, room_gone, others_filled, last_gone, states_in, conds_in, all_read, bodies_count, bodies_last, ends}
use Rattle.word_table.specs.End.{HasRoom, HasEachSeat, IsEnd}
use Rattle.word_table.specs.Layout.{SLOTS, BODY_SLOT, rows_of, slot_at}
use Rattle.word_table.specs.Views.{TokenView}
use Rattle.word_table.proofs.words.Words.close.Goals as goal

pub end_of-left-requires-clause-all : goal.end_of-left-requires-clause-all
end_of-left-requires-clause-all g c κs live =
    subst (λ (z : Shape). HasEachSeat (z.cpus + z.agents) (map (λ (t : TokenView). t.seat) c.args.gathered.tokens))
    (sym (c.self.invariant.3 ∙ ap (λ w. w.shape) c.self.view_is)) c.requires.all

pub end_of-left-requires-clause-of : goal.end_of-left-requires-clause-of
end_of-left-requires-clause-of g c κs live =
    let seen = sym c.self.view_is in let of = c.requires.of in record {
      table = of.table ∙ ap (λ w. w.name) seen;
      same_shape = of.same_shape ∙ ap (λ w. w.shape) seen ∙ sym c.self.invariant.3;
      same_lasting = of.same_lasting ∙ ap (λ w. w.lasting) seen;
    }

pub take_room-room-requires-clause-room : goal.take_room-room-requires-clause-room
take_room-room-requires-clause-room g c κs live =
    let kept = c.self.invariant in let room = c.end_of-left.ensures.left.room in
    let rows : rows_of c.self.inside.table.shared.key.shape ≡ c.rows_of-rows.result = ap rows_of kept.3
    ∙ sym c.rows_of-rows.ensures in (
      room.0,
      ap (λ (z : ℕ). get_elem? (slots_items c.end_of-left.result.slots) (SLOTS * z)) (sym rows) ∙ room.1,
      subst (λ (z : Shape). HasRoom z.tasks room.0) kept.3 room.2,
    )

pub take_bodies-bodies-requires-clause-filled : goal.take_bodies-bodies-requires-clause-filled
take_bodies-bodies-requires-clause-filled g c κs live k low =
    let old = c.end_of-left.result.slots in let rows : ℕ = c.rows_of-rows.result in
    let len : slots_len old ≡ SLOTS * rows + 1 = (let a = c.end_of-left.ensures.counts.1 in
    let b = c.self.invariant.1 in let d = c.rows_of-rows.ensures in omega arith) in
    let past : k < SLOTS * rows = (let d = c.rows_of-rows.ensures in omega arith) in
    room_taken (slots_filled old) (slots_filled c.take_room-room.new.left.slots) (SLOTS * rows) (slots_len old) k
    c.end_of-left.ensures.slots c.take_room-room.ensures.filled past (omega arith)

pub take_bodies-bodies-requires-clause-bodies : goal.take_bodies-bodies-requires-clause-bodies
take_bodies-bodies-requires-clause-bodies g c κs live t lt =
    let b = c.end_of-left.ensures.left.bodies t (subst (λ (z : Shape). t < z.tasks) (sym c.self.invariant.3) lt) in
    (b.0, ap (λ z. get_elem? z (slot_at t BODY_SLOT)) c.take_room-room.ensures.items ∙ b.1)

pub read_states-states-requires-clause-fit : goal.read_states-states-requires-clause-fit
read_states-states-requires-clause-fit g c κs live t =
    subst (λ z. words_of (slots_items z) t STATE < 2 ^ 16)
    (sym (c.take_bodies-bodies.ensures.words ∙ c.take_room-room.ensures.words))
    (c.end_of-left.ensures.left.kept.states t)

pub drop_rest-requires-clause-filled : goal.drop_rest-requires-clause-filled
drop_rest-requires-clause-filled g c κs live k low =
    let old = c.end_of-left.result.slots in let rows : ℕ = c.rows_of-rows.result in
    let len : slots_len old ≡ SLOTS * rows + 1 = (let a = c.end_of-left.ensures.counts.1 in
    let b = c.self.invariant.1 in let d = c.rows_of-rows.ensures in omega arith) in
    let full = room_taken (slots_filled old) (slots_filled c.take_room-room.new.left.slots) (SLOTS * rows)
    (slots_len old) k c.end_of-left.ensures.slots c.take_room-room.ensures.filled low (omega arith) in
    others_filled c.self.inside.shape.tasks k (slots_filled c.take_room-room.new.left.slots)
    (slots_filled c.take_bodies-bodies.new.left.slots) (c.take_bodies-bodies.ensures.filled k) full

pub drop_rest-requires-clause-room : goal.drop_rest-requires-clause-room
drop_rest-requires-clause-room g c κs live =
    let old = c.end_of-left.result.slots in let rows : ℕ = c.rows_of-rows.result in let room = c.take_room-room in
    let fits : SLOTS * rows < length (slots_filled old) =
    (let a = c.end_of-left.ensures.counts.1 in let b = c.self.invariant.1 in let d = c.rows_of-rows.ensures in
    let e = (slots_counts old).1 in omega arith) in
    let gone = room_gone (slots_filled old) (slots_filled room.new.left.slots) (SLOTS * rows) fits room.ensures.filled
    in
    last_gone c.self.inside.shape.tasks rows (slots_filled room.new.left.slots)
    (slots_filled c.take_bodies-bodies.new.left.slots) (c.take_bodies-bodies.ensures.filled (SLOTS * rows)) gone

pub returns-clause-lasting : goal.returns-clause-lasting
returns-clause-lasting g c =
    let inner = c.self.inside in let key = inner.table.shared.key in let kept = c.self.invariant in
    let left = c.end_of-left in
    let slots = slots_items left.result.slots in let bodies = c.take_bodies-bodies.result.items in
    let read = all_read slots (slots_items c.take_room-room.new.left.slots) inner.shape key.shape bodies
    c.take_room-room.ensures.items kept.3 c.take_bodies-bodies.ensures.bodies in
    bodies_last g.B.Kept.lasting g.B.Kept.ended key c.args.gathered.tokens (slots_items left.result.words) slots
    left.ensures.left bodies read (kept.2 ∙ ap (λ (z : Shape). z.tasks) (sym kept.3))
    ∙ ap (λ w. w.lasting) c.self.view_is

pub returns-clause-sizes : goal.returns-clause-sizes
returns-clause-sizes g c =
    let inner = c.self.inside in let shape = ap (λ w. w.shape) c.self.view_is in (
      bodies_count (slots_items c.take_room-room.new.left.slots) inner.shape.tasks c.take_bodies-bodies.result.items
          c.take_bodies-bodies.ensures.bodies ∙ ap (λ (z : Shape). z.tasks) shape,
      ap length c.read_states-states.ensures ∙ length-map-range_with_len _ 0 inner.shape.tasks
          ∙ ap (λ (z : Shape). z.tasks) shape,
      ap length c.read_conds-conds.ensures ∙ length-map-range_with_len _ 0 inner.shape.conds
          ∙ ap (λ (z : Shape). z.conds) shape,
    )

pub returns-clause-end : goal.returns-clause-end
returns-clause-end g c =
    let inner = c.self.inside in let key = inner.table.shared.key in let kept = c.self.invariant in
    let left = c.end_of-left in
    let slots = slots_items left.result.slots in let bodies = c.take_bodies-bodies.result.items in
    let read = all_read slots (slots_items c.take_room-room.new.left.slots) inner.shape key.shape bodies
    c.take_room-room.ensures.items kept.3 c.take_bodies-bodies.ensures.bodies in
    let same = ap slots_items (c.take_bodies-bodies.ensures.words ∙ c.take_room-room.ensures.words) in
    let states = c.read_states-states.ensures ∙ λ j. states_in (same j) (sym kept.3 j) in
    let conds = c.read_conds-conds.ensures ∙ λ j. conds_in (same j) (sym kept.3 j) in
    subst (λ (z : Shape). IsEnd g.B.Kept.ended z c.args.gathered.tokens bodies c.read_states-states.result.items
    c.read_conds-conds.result.items) (kept.3 ∙ ap (λ w. w.shape) c.self.view_is)
    (ends g.B.Kept.lasting g.B.Kept.ended key c.args.gathered.tokens (slots_items left.result.words) slots
    left.ensures.left bodies read c.read_states-states.result.items c.read_conds-conds.result.items states conds)
