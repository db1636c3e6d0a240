use Rattle.std.proofs.Common.{rules, ◌<◌}
use Rattle.word_table.proofs.Seats.{over_at}
use Rattle.word_table.proofs.carrying.take.Goals as goal

pub split_seat-own-requires : goal.split_seat-own-requires
split_seat-own-requires g c =
    let shared = c.words.inside.table.shared in let some : 0 < shared.table_id.words = search rules in
    let seat = c.acquire.new.seat in
    (search rules, some, over_at g.B.Kept.lasting g.B.Kept.ended shared.key seat.id seat.me)
