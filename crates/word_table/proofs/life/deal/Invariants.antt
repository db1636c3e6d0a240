use Rattle.std.proofs.Common.{◌≡◌, ◌-◌, []}
use Rattle.std.specs.Vec.{vec_len, vec_capacity}
use Rattle.word_table.specs.Begin.{first_tokens}
use Rattle.word_table.specs.Ruled.{fresh, known_of, lastings}
use Rattle.word_table.proofs.life.deal.Given as goal

abbrev pub invariant-loop-number : goal.invariant-loop-number
invariant-loop-number g l = record {
  id : l.seat.table_id ≡ l.initial.seat.table_id;
  me : l.seat.me ≡ (
    record {
      parts = fresh l.number (l.seats - l.number);
      known = known_of g.B.Kept.lasting
          l.board.shared.key;
    },
    [],
  );
  tokens : l.tokens.items ≡ first_tokens l.board.shared.table_id l.board.shared.key.shape
      (lastings g.B.Kept.lasting l.board.shared.key) l.number;
  full : vec_len l.tokens ≡ l.number;
  room : vec_capacity l.tokens ≡ vec_capacity l.initial.tokens;
}
