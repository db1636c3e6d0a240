use Rattle.std.proofs.Common.{rules, arith, sym, ap, ◌∙◌, ℕ, ◌<◌}
use Rattle.std.specs.Prelude.{unwrap_or}
use Rattle.word_rule.specs.Sorts.{lock_of, held_of}
use Rattle.word_steps.specs.Records.{Gave}
use Rattle.word_table.specs.Layout.{rows_of, slot_of, slot_at}
use Rattle.word_table.specs.Plays.{push, lay, trace_in}
use Rattle.word_table.specs.Taken.{val_in_hand}
use Rattle.word_table.specs.declared.slot.Slot.TheVariants.{Held}
use Rattle.word_table.proofs.Carries.{give_may}
use Rattle.word_table.proofs.Moves.{lock_low}
use Rattle.word_table.proofs.Opened.{in_table, in_hand, has_value}
use Rattle.word_table.proofs.Rows.{count_rows}
use Rattle.word_table.proofs.values.release.Goals as goal

pub store-requires : goal.store-requires
store-requires g c = let m = c.args.seat.now.me in let known = m.0.known in let tr = trace_in m.0.parts in let k : ℕ = c.args.number in let n : ℕ = c.args.n in let w = c.args.words.now in
    let sort = g.L.Lock.sort in
    let row : n < rows_of w.shape = (let h = count_rows sort w.shape in let lt = c.requires.row in omega (arith, h, lt)) in
    let v = has_value (held_of sort tr n) c.requires.held in (
      search rules,
      in_table w.shape _ _ n (lock_of sort) _ c.words.invariant.0 (ap (λ z. z.shape) c.words.view_is) row (lock_low sort) c.word_of.ensures,
      give_may g.B.Kept.lasting g.B.Kept.ended c.words.inside.table.shared.key _ _ k known tr _ w.shape (c.words.invariant.3 ∙ ap (λ z. z.shape) c.words.view_is) sort n _ c.word_of.ensures
          c.requires.row v.0 (val_in_hand m.1) c.requires.hand v.1 c.requires.may,
    )

pub returns-clause-seat : goal.returns-clause-seat
returns-clause-seat g c = let m = c.args.seat.now.me in let known = m.0.known in let tr = trace_in m.0.parts in let k : ℕ = c.args.number in let n : ℕ = c.args.n in let sort = g.L.Lock.sort in
    let val = val_in_hand m.1 in let v = has_value (held_of sort tr n) c.requires.held in let j : ℕ = slot_at n (slot_of sort) in
    c.store.ensures.2 n v.0 val c.word_of.ensures v.1 (in_hand m known k j tr (Held val) c.requires.hand) ∙ λ h. lay (push (Gave n (unwrap_or (sym v.1 h) val) val) m)
