use Rattle.std.proofs.Common.{rules, ◌<◌}
use Rattle.word_table.proofs.Seats.{back_at}
use Rattle.word_table.specs.Layout.{BODY_SLOT, slot_at}
use Rattle.word_table.specs.declared.slot.Slot.TheVariants.{Empty}
use Rattle.word_table.proofs.carrying.body_home.Goals as goal

pub join_seat-requires : goal.join_seat-requires
join_seat-requires g c =
    let shared = c.words.inside.table.shared in let some : 0 < shared.table_id.words = search rules in
    let seat = c.out.inside.seat in let own = c.into_seat-own.result in (
      search rules,
      search rules,
      search rules,
      some,
      back_at g.B.Kept.lasting g.B.Kept.ended shared.key seat.id own.id seat.me own.me.0 (slot_at c.out.inside.task BODY_SLOT) Empty c.out.invariant,
    )
