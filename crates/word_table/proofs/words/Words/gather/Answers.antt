use Rattle.std.proofs.Common.{rules, ◌<◌}
use Rattle.word_table.proofs.Seats.{enters}
use Rattle.word_table.proofs.words.Words.gather.Goals as goal

pub load_new_seat-seat-requires : goal.load_new_seat-seat-requires
load_new_seat-seat-requires g c =
    let shared = c.self.inside.table.shared in let some : 0 < shared.table_id.words = search rules in
    (some, enters g.B.Kept.lasting g.B.Kept.ended shared.key shared.table_id.slots 0)
