use Rattle.std.proofs.Common.{rules, arith, refl, sym, ap, ◌∙◌, ℕ, ◌<◌, ◌≡◌, ◌∷◌}
use Rattle.word_steps.specs.Records.{OutBody}
use Rattle.word_steps.specs.Words.{BODY}
use Rattle.word_table.specs.Layout.{BODY_SLOT, rows_of, slot_at}
use Rattle.word_table.specs.Plays.{lift, push, trace_in}
use Rattle.word_table.specs.declared.slot.Slot.TheVariants.{Empty, Body}
use Rattle.word_table.proofs.Carries.{leave_may}
use Rattle.word_table.proofs.Opened.{in_table, took_from, swapped, in_hand, body_same}
use Rattle.word_table.proofs.Rows.{tasks_rows}
use Rattle.word_table.proofs.values.take_body.Goals as goal

pub load-requires : goal.load-requires
load-requires g c = let m = c.args.seat.now.me in let known = m.0.known in let tr = trace_in m.0.parts in let k : ℕ = c.args.number in
    let t : ℕ = c.args.t in let j : ℕ = slot_at t BODY_SLOT in let w = c.args.words.now in
    let row : t < rows_of w.shape = (let h = tasks_rows w.shape in let lt = c.requires.row in omega (arith, h, lt)) in (
      search rules,
      in_table w.shape _ _ t (BODY) _ c.words.invariant.0 (ap (λ z. z.shape) c.words.view_is) row (omega arith) (refl),
      leave_may g.B.Kept.lasting g.B.Kept.ended c.words.inside.table.shared.key _ _ k known tr _ w.shape (c.words.invariant.3 ∙ ap (λ z. z.shape) c.words.view_is) _ t refl c.requires.rest
          c.requires.row c.requires.may,
    )

pub exchange-slot-requires : goal.exchange-slot-requires
exchange-slot-requires g c = let m = c.args.seat.now.me in let known = m.0.known in let tr = trace_in m.0.parts in let k : ℕ = c.args.number in
    let t : ℕ = c.args.t in let j : ℕ = slot_at t BODY_SLOT in let w = c.args.words.now in
    let row : t < rows_of w.shape = (let h = tasks_rows w.shape in let lt = c.requires.row in omega (arith, h, lt)) in
    let z = c.load.ensures.2 t refl in let r = OutBody t (g.B.Kept.ended z.0) in
    let is = took_from m c.load.new.seat.me known k tr j j (Body z.0) r c.requires.rest z.1 refl in
    (search rules, (Body z.0, in_hand c.load.new.seat.me known k j (r ∷ tr) (Body z.0) is))

pub unreachable-requires : goal.unreachable-requires
unreachable-requires g c = let m = c.args.seat.now.me in let known = m.0.known in let tr = trace_in m.0.parts in let k : ℕ = c.args.number in
    let t : ℕ = c.args.t in let j : ℕ = slot_at t BODY_SLOT in let w = c.args.words.now in
    let row : t < rows_of w.shape = (let h = tasks_rows w.shape in let lt = c.requires.row in omega (arith, h, lt)) in
    let z = c.load.ensures.2 t refl in let r = OutBody t (g.B.Kept.ended z.0) in
    let is = took_from m c.load.new.seat.me known k tr j j (Body z.0) r c.requires.rest z.1 refl in
    let e = swapped c.load.new.seat.me c.exchange-slot.new.seat.me known k j (r ∷ tr) (Body z.0) c.exchange-slot.result Empty is c.exchange-slot.ensures.2 c.exchange-slot.ensures.3 in
    c.in_default.not-Body z.0 e.0

pub returns-clause-seat : goal.returns-clause-seat
returns-clause-seat g c = let m = c.args.seat.now.me in let known = m.0.known in let tr = trace_in m.0.parts in let k : ℕ = c.args.number in
    let t : ℕ = c.args.t in let j : ℕ = slot_at t BODY_SLOT in let w = c.args.words.now in
    let row : t < rows_of w.shape = (let h = tasks_rows w.shape in let lt = c.requires.row in omega (arith, h, lt)) in
    let z = c.load.ensures.2 t refl in let r = OutBody t (g.B.Kept.ended z.0) in
    let is = took_from m c.load.new.seat.me known k tr j j (Body z.0) r c.requires.rest z.1 refl in
    let e = swapped c.load.new.seat.me c.exchange-slot.new.seat.me known k j (r ∷ tr) (Body z.0) c.exchange-slot.result Empty is c.exchange-slot.ensures.2 c.exchange-slot.ensures.3 in
    let body : z.0 ≡ c.in-Body.body = sym (body_same c.in-Body.body z.0 (sym c.in-Body.is ∙ e.0)) in
    e.1 ∙ (λ h. lift j Empty (push r (sym c.requires.rest h))) ∙ ap (λ b. lift j Empty (push (OutBody t (g.B.Kept.ended b)) m)) body

pub returns-clause-lasting : goal.returns-clause-lasting
returns-clause-lasting g c = let m = c.args.seat.now.me in let known = m.0.known in let tr = trace_in m.0.parts in let k : ℕ = c.args.number in
    let t : ℕ = c.args.t in let j : ℕ = slot_at t BODY_SLOT in let w = c.args.words.now in
    let row : t < rows_of w.shape = (let h = tasks_rows w.shape in let lt = c.requires.row in omega (arith, h, lt)) in
    let z = c.load.ensures.2 t refl in let r = OutBody t (g.B.Kept.ended z.0) in
    let is = took_from m c.load.new.seat.me known k tr j j (Body z.0) r c.requires.rest z.1 refl in
    let e = swapped c.load.new.seat.me c.exchange-slot.new.seat.me known k j (r ∷ tr) (Body z.0) c.exchange-slot.result Empty is c.exchange-slot.ensures.2 c.exchange-slot.ensures.3 in
    let body : z.0 ≡ c.in-Body.body = sym (body_same c.in-Body.body z.0 (sym c.in-Body.is ∙ e.0)) in ap g.B.Kept.lasting (sym body) ∙ z.2
