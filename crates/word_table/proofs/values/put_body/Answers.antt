use Rattle.std.proofs.Common.{rules, arith, refl, sym, ap, ◌∙◌, ℕ, ◌<◌}
use Rattle.std.specs.Prelude.{[], slice_index_or}
use Rattle.word_steps.specs.Records.{HomeBody}
use Rattle.word_steps.specs.Words.{BODY}
use Rattle.word_table.specs.Layout.{BODY_SLOT, rows_of, slot_at}
use Rattle.word_table.specs.Plays.{push, lay, trace_in}
use Rattle.word_table.specs.declared.slot.Slot.TheVariants.{Empty, Body}
use Rattle.word_table.proofs.Carries.{come_may}
use Rattle.word_table.proofs.Opened.{in_table, swapped, in_hand, laid_from}
use Rattle.word_table.proofs.Rows.{tasks_rows}
use Rattle.word_table.proofs.values.put_body.Goals as goal

pub exchange-slot-requires : goal.exchange-slot-requires
exchange-slot-requires g c = let m = c.args.seat.now.me in let known = m.0.known in let tr = trace_in m.0.parts in let k : ℕ = c.args.number in let t : ℕ = c.args.t in
    let j : ℕ = slot_at t BODY_SLOT in
    (search rules, (Empty, in_hand m known k j tr Empty c.requires.hand))

pub unreachable-requires : goal.unreachable-requires
unreachable-requires g c = let m = c.args.seat.now.me in let known = m.0.known in let tr = trace_in m.0.parts in let k : ℕ = c.args.number in let t : ℕ = c.args.t in let j : ℕ = slot_at t BODY_SLOT in
    let e = swapped m c.exchange-slot.new.seat.me known k j tr Empty c.exchange-slot.result (Body c.args.body) c.requires.hand c.exchange-slot.ensures.2 c.exchange-slot.ensures.3 in
    c.in_default.not-Empty e.0

pub load-requires : goal.load-requires
load-requires g c = let m = c.args.seat.now.me in let known = m.0.known in let tr = trace_in m.0.parts in let k : ℕ = c.args.number in let t : ℕ = c.args.t in let j : ℕ = slot_at t BODY_SLOT in
    let w = c.args.words.now in
    let row : t < rows_of w.shape = (let h = tasks_rows w.shape in let lt = c.requires.row in omega (arith, h, lt)) in
    let e = swapped m c.exchange-slot.new.seat.me known k j tr Empty c.exchange-slot.result (Body c.args.body) c.requires.hand c.exchange-slot.ensures.2 c.exchange-slot.ensures.3 in (
      search rules,
      in_table w.shape _ _ t (BODY) _ c.words.invariant.0 (ap (λ z. z.shape) c.words.view_is) row (omega arith) (refl),
      come_may g.B.Kept.lasting g.B.Kept.ended c.words.inside.table.shared.key _ _ k known tr _ w.shape (c.words.invariant.3 ∙ ap (λ z. z.shape) c.words.view_is) _ t c.args.body refl e.1
          c.requires.row c.requires.may (c.requires.lasting ∙ ap (λ z. slice_index_or z.lasting t []) (sym c.words.view_is)),
    )

pub returns-clause-seat : goal.returns-clause-seat
returns-clause-seat g c = let m = c.args.seat.now.me in let known = m.0.known in let tr = trace_in m.0.parts in let k : ℕ = c.args.number in let t : ℕ = c.args.t in let j : ℕ = slot_at t BODY_SLOT in
    let e = swapped m c.exchange-slot.new.seat.me known k j tr Empty c.exchange-slot.result (Body c.args.body) c.requires.hand c.exchange-slot.ensures.2 c.exchange-slot.ensures.3 in
    let r = HomeBody t (g.B.Kept.ended c.args.body) in
    let came = c.load.ensures.2 t c.args.body refl (in_hand c.exchange-slot.new.seat.me known k j tr (Body c.args.body) e.1) in
    laid_from c.exchange-slot.new.seat.me c.load.new.seat.me known k tr j (Body c.args.body) r e.1 came ∙ λ h. lay (push r (sym c.requires.hand h))
