use Rattle.std.proofs.Common.{◌≡◌, ◌*◌, ◌∷◌, [], ℕ, length, rules, arith, sym, ap, ◌∙◌, length-append, subst}
use Rattle.word_table.specs.Begin.{AreRows}
use Rattle.word_table.specs.Layout.{SLOTS, rows_of}
use Rattle.word_table.proofs.Laying.{body_laid, bare_laid, all_laid}
use Rattle.word_table.proofs.life.lay_slots.Goals as goal

pub loop-body-preserved : goal.loop-body-preserved
loop-body-preserved g c =
    let inv = c.loop-body.invariant in let bodies = c.loop-body.yielded in
    let more = length-append bodies (c.in-Some.body ∷ []) in
    let long : length c.loop-body.slots.items ≡ SLOTS * c.loop-body.laid = search rules in
    record {
      can_next = tt;
      is_finite = tt;
      count = omega arith;
      rows = body_laid c.args.shape.now c.args.mask c.loop-body.laid bodies c.in-Some.body c.loop-body.slots.items
          c.lay_row.new.slots.items (sym inv.count) long inv.rows c.in_ok-lay_row.ensures.row;
      full = (let len = c.in_ok-lay_row.ensures.len in omega arith);
      space = c.lay_row.ensures.room ∙ inv.space;
    }

pub loop-n-preserved : goal.loop-n-preserved
loop-n-preserved g c =
    let inv = c.loop-n.invariant in let test = c.loop-n-test.true in
    let long : length c.loop-n.slots.items ≡ SLOTS * c.loop-n.n = search rules in
    record {
      low = omega arith;
      high = omega arith;
      all = omega arith;
      rows = bare_laid c.args.shape.now c.args.mask c.loop-n.n c.args.bodies.items c.loop-n.slots.items
          c.lay_row-in-loop-n.new.slots.items inv.all long inv.rows c.in_ok-lay_row-2.ensures.row;
      full = (let len = c.in_ok-lay_row-2.ensures.len in omega arith);
      space = c.lay_row-in-loop-n.ensures.room ∙ inv.space;
    }

pub returns : goal.returns
returns g c =
    let inv = c.loop-n.invariant in let bodies = c.args.bodies.items in let slots = c.loop-n.slots.items in
    let end : c.loop-n.n ≡ rows_of c.args.shape.now = omega arith in
    let long : length slots ≡ SLOTS * rows_of c.args.shape.now = (let l : length slots ≡ SLOTS * c.loop-n.n = search
    rules in l ∙ ap (λ (z : ℕ). SLOTS * z) end) in
    all_laid c.args.shape.now c.args.mask bodies slots c.push_reserved.new.self.items c.in_ok-room.room long
    (subst (λ (z : ℕ). AreRows c.args.shape.now c.args.mask z bodies slots) end inv.rows)
    c.in_ok-room.ensures.items (omega (arith, c.in_ok-room.ensures.capacity)) c.push_reserved.ensures.items
