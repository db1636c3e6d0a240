use Rattle.std.proofs.Common.{rules, ◌≡◌, ◌<◌, ◌∙◌, ◌%◌, length, map, refl, sym, subst, arith}
use Rattle.std.proofs.lemmas.List.{length-set}
use Rattle.std.proofs.lemmas.List.Elements.{All-set, All-get_or}
use Rattle.std.specs.Vec.{vec_len}
use Rattle.run_script.proofs.Crews.{part_handed, has_few}
use Rattle.run_script.proofs.Rows.{none_dealt}
use Rattle.run_script.specs.Seated.{seats_of, HasRoom}
use Rattle.run_script.proofs.dealing.deal.Goals as goal

pub loop-seat-init : goal.loop-seat-init
loop-seat-init g c = record {
  part = none_dealt (length c.args.workers.now.items) c.args.seats.now.items (map seats_of c.args.workers.now.items) c.requires.none;
  room = c.requires.room;
  count = refl;
  capacity = refl;
}

pub hand-requires : goal.hand-requires
hand-requires g c = record {
  room =
      let was = c.loop-seat.invariant in
      let count : c.len-count.result ≡ length c.args.workers.now.items = search rules in
      let some : 0 < length c.args.workers.now.items = c.requires.some in
      let within : c.len-s.result % c.len-count.result < length c.loop-seat.workers.items =
      (let same = was.count in omega (arith, same, count, some)) in
      let few : length (seats_of c.index_mut.result.now) < length c.args.seats.now.items =
      has_few (length c.args.workers.now.items) some c.args.seats.now.items c.pop.new.self.items c.loop-seat.seats.items c.loop-seat.workers.items
      (c.len-s.result % c.len-count.result) c.index_mut.result.now c.in-Some.seat was.part c.in-Some.ensures.items within c.index_mut.ensures.value in
      let room : HasRoom (length c.args.seats.now.items) c.index_mut.result.now =
      subst (HasRoom (length c.args.seats.now.items)) (sym c.index_mut.ensures.value)
      (All-get_or (HasRoom (length c.args.seats.now.items)) c.loop-seat.workers.items (c.len-s.result % c.len-count.result) c.index_mut.result.now within was.room) in
      let len : vec_len c.index_mut.result.now.seats ≡ length c.index_mut.result.now.seats.items = search rules in
      omega (arith, few, room, len);
}

pub loop-seat-preserved : goal.loop-seat-preserved
loop-seat-preserved g c =
    let was = c.loop-seat.invariant in
    let i = c.len-s.result % c.len-count.result in
    let count : c.len-count.result ≡ length c.args.workers.now.items = search rules in
    let some : 0 < length c.args.workers.now.items = c.requires.some in
    let within : i < length c.loop-seat.workers.items = (let same = was.count in omega (arith, same, count, some)) in
    record {
      part = part_handed (length c.args.workers.now.items) c.args.seats.now.items c.pop.new.self.items c.loop-seat.seats.items c.loop-seat.workers.items
          c.len-s.result i c.index_mut.result.now c.hand.new.worker c.in-Some.seat was.part c.in-Some.ensures.items (search rules)
          (λ j. c.len-s.result % count j) within c.index_mut.ensures.value c.hand.ensures.seats;
      room = All-set (HasRoom (length c.args.seats.now.items)) c.loop-seat.workers.items i c.hand.new.worker
          (let room : HasRoom (length c.args.seats.now.items) c.index_mut.result.now =
          subst (HasRoom (length c.args.seats.now.items)) (sym c.index_mut.ensures.value)
          (All-get_or (HasRoom (length c.args.seats.now.items)) c.loop-seat.workers.items i c.index_mut.result.now within was.room) in
          let same = c.hand.ensures.capacity in omega (arith, room, same))
          was.room;
      count = length-set c.loop-seat.workers.items i c.hand.new.worker ∙ was.count;
      capacity = c.pop.ensures.capacity ∙ was.capacity;
    }
