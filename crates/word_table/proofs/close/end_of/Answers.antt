use Rattle.std.proofs.Common.{refl}
use Rattle.std.specs.Slots.{slots_items}
use Rattle.word_table.proofs.Ending.{left_of}
use Rattle.word_table.proofs.Gatherings.{gathered_me}
use Rattle.word_table.specs.Ruled.{lastings}
use Rattle.word_table.specs.Views.{WordsView}
use Rattle.word_table.proofs.close.end_of.Goals as goal

pub returns-clause-left : goal.returns-clause-left
returns-clause-left g c =
    let shared = c.args.board.shared in let key = shared.key in let seat = c.gathered.inside.seat in
    let left = c.close_with in let tokens = c.args.gathered.tokens in
    let words : WordsView =
    record { name = shared.table_id; shape = key.shape; lasting = lastings g.B.Kept.lasting key } in
    let me = gathered_me g.B.Kept.lasting key words c.args.gathered seat.table_id seat.me c.gathered.invariant
    c.gathered.view_is c.requires.of refl refl in
    left_of g.B.Kept.lasting g.B.Kept.ended key seat.id tokens (slots_items left.result.words)
    (slots_items left.result.slots) c.requires.all c.requires.idle seat.me me left.ensures.values.2
