use Rattle.std.proofs.Common.{rules, arith, ◌≡◌, ◌∙◌, ℕ, ◌<◌, sym, subst}
use Rattle.word_rule.specs.Sorts.{IsOf}
use Rattle.word_rule.specs.Told.{TakeTold}
use Rattle.word_steps.specs.Records.{Took}
use Rattle.word_steps.specs.declared.val.Val.{Val}
use Rattle.word_table.specs.Layout.{rows_of, slot_of, slot_at}
use Rattle.word_table.specs.Plays.{IsRest, push, lift, trace_in, Sat}
use Rattle.word_table.specs.declared.slot.Slot.TheVariants.{Held}
use Rattle.word_table.proofs.Moves.{lock_low}
use Rattle.word_table.proofs.Rows.{count_rows}
use Rattle.word_table.proofs.values.contend.Goals as goal

pub attempt-found-requires-clause-rest : goal.attempt-found-requires-clause-rest
attempt-found-requires-clause-rest g c κs within = subst (λ (z : Sat g.row.B.Denot). IsRest z c.args.number) (sym c.loop.invariant.1) c.requires.rest

pub returns-then-found-eq0-2-clause-took : goal.returns-then-found-eq0-2-clause-took
returns-then-found-eq0-2-clause-took g c = let n : ℕ = c.args.n in let sort = g.L.Lock.sort in
    subst (λ (y : Sat g.row.B.Denot). (v : Val) × IsOf sort v × TakeTold y.0.known.shape c.args.number (trace_in y.0.parts) sort n v
    × (c.attempt-found.new.seat.me ≡ lift (slot_at n (slot_of sort)) (Held v) (push (Took n v) y))) c.loop.invariant.1 (c.attempt-found.ensures.took c.if-found-eq0-2.true)

pub loop-preserved-else-found-eq0-2 : goal.loop-preserved-else-found-eq0-2
loop-preserved-else-found-eq0-2 g c = (c.attempt-found.ensures.id ∙ c.loop.invariant.0, c.attempt-found.ensures.missed c.if-found-eq0-2.false ∙ c.loop.invariant.1)

pub rest-requires : goal.rest-requires
rest-requires g c = let n : ℕ = c.args.n in let w = c.args.words.now in let sort = g.L.Lock.sort in
    let row : n < rows_of w.shape = (let h = count_rows sort w.shape in let lt = c.requires.row in omega (arith, h, lt)) in
    (search rules, (row, (let low = lock_low sort in let is = c.column.ensures in omega (arith, low, is))))
