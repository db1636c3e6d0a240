use Rattle.std.proofs.Common.{rules, arith, ap, subst, ◌∙◌, ℕ, ◌<◌}
use Rattle.word_rule.specs.Sorts.{lock_of}
use Rattle.word_rule.specs.Told.{TakeTold}
use Rattle.word_table.specs.Layout.{rows_of}
use Rattle.word_table.specs.Plays.{trace_in, seat_in, Sat}
use Rattle.word_table.proofs.Carries.{take_may}
use Rattle.word_table.proofs.Moves.{lock_low}
use Rattle.word_table.proofs.Opened.{in_table}
use Rattle.word_table.proofs.Rows.{count_rows}
use Rattle.word_table.proofs.values.attempt.Goals as goal

pub compare_exchange-requires : goal.compare_exchange-requires
compare_exchange-requires g c = let m = c.args.seat.now.me in let known = m.0.known in let tr = trace_in m.0.parts in let k : ℕ = c.args.number in let n : ℕ = c.args.n in let w = c.args.words.now in
    let sort = g.L.Lock.sort in
    let row : n < rows_of w.shape = (let h = count_rows sort w.shape in let lt = c.requires.row in omega (arith, h, lt)) in (
      search rules,
      in_table w.shape _ _ n (lock_of sort) _ c.words.invariant.0 (ap (λ z. z.shape) c.words.view_is) row (lock_low sort) (c.word_of.ensures),
      take_may g.B.Kept.lasting g.B.Kept.ended c.words.inside.table.shared.key _ _ k known tr _ w.shape (c.words.invariant.3 ∙ ap (λ z. z.shape) c.words.view_is) sort n _ c.word_of.ensures
          c.requires.row _ (omega arith) c.requires.rest,
    )

pub returns-clause-took : goal.returns-clause-took
returns-clause-took g c hit = let m = c.args.seat.now.me in let known = m.0.known in let tr = trace_in m.0.parts in let n : ℕ = c.args.n in let sort = g.L.Lock.sort in
    let z = (c.compare_exchange.ensures.2 n c.word_of.ensures).0 hit in
    (z.0, z.1, subst (λ q. TakeTold known.shape q tr sort n z.0) (ap (λ (y : Sat g.row.B.Denot). seat_in y.0.parts) c.requires.rest) z.2, z.3)

pub returns-clause-missed : goal.returns-clause-missed
returns-clause-missed g c miss = (c.compare_exchange.ensures.2 c.args.n c.word_of.ensures).1 miss
