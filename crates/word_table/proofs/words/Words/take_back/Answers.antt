use Rattle.std.proofs.Common.{rules, ◌<◌, ◌∙◌, map, sym, ap}
use Rattle.word_table.proofs.Gatherings.{gathered_me}
use Rattle.word_table.proofs.Seats.{gathers_at}
use Rattle.word_table.specs.End.{part_of}
use Rattle.word_table.specs.Gathered.{GatheredView}
use Rattle.word_table.specs.Views.{WordsView}
use Rattle.word_table.proofs.words.Words.take_back.Goals as goal

pub join_seat-requires : goal.join_seat-requires
join_seat-requires g c =
    let shared = c.self.inside.table.shared in let all = c.args.gathered.now in let seat = c.gathered.inside.seat in
    let some : 0 < shared.table_id.words = search rules in
    let name = sym (ap (λ (w : WordsView). w.name) c.self.view_is) in
    let shape = c.self.invariant.3 ∙ ap (λ (w : WordsView). w.shape) c.self.view_is in
    let me = gathered_me g.B.Kept.lasting shared.key c.args.self.now all seat.table_id seat.me c.gathered.invariant
    c.gathered.view_is c.requires.gathered shape (ap (λ (w : WordsView). w.lasting) c.self.view_is) in (
      ap (λ (v : GatheredView). v.of) c.gathered.view_is ∙ c.requires.gathered.table ∙ name,
      c.seat_of.ensures.id ∙ c.requires.of.table ∙ name,
      ap (λ m. m.1) c.seat_of.ensures.me,
      some,
      gathers_at g.B.Kept.lasting g.B.Kept.ended shared.key seat.id c.seat_of.result.id seat.me c.seat_of.result.me.0
          (map part_of all.tokens) me,
    )
