use Rattle.std.proofs.Common.{rules, arith, subst, ap, ◌∙◌, ◌+◌, ◌*◌, ◌<◌}
use Rattle.word_table.specs.Layout.{rows_of}
use Rattle.word_table.proofs.Opened.{in_table, known_by, opened, closing, tried_from}
use Rattle.word_table.proofs.Ways.{try_may}
use Rattle.word_table.proofs.steps.exchange.Goals as goal

pub compare_exchange-found-requires : goal.compare_exchange-found-requires
compare_exchange-found-requires g c = let p = c.args.token.now in let s = c.into_seat-seat in let K = g.K.Kind in
    let is = opened c.token.inside p c.replace.result.views s.result.me c.token.invariant c.token.view_is (ap (λ b. b.views) c.replace.ensures.value) s.ensures.2 s.ensures.3 in
    let L = g.met.K.Kind in let w = c.args.words.now in
    let row : c.args.n < rows_of w.shape = (let h = L.rows w.shape in let lt = c.requires.row in omega (arith, h, lt)) in (
      search rules,
      in_table w.shape _ _ c.args.n K.col _ c.words.invariant.0 (ap (λ z. z.shape) c.words.view_is) row L.low (ap (λ z. 64 * c.args.n + z) c.column.ensures),
      try_may g.B.Kept.lasting g.B.Kept.ended c.words.inside.table.shared.key _ _ p.seat (known_by p) p.trace s.result.me is c.args.n K.col K.bound K.note K.may K.told L.low L.rows L.quiet L.keep
          w.shape (c.words.invariant.3 ∙ ap (λ w. w.shape) c.words.view_is) c.requires.row _ (ap (λ z. 64 * c.args.n + z) c.column.ensures) c.args.old c.args.new c.requires.may,
    )

pub into_badge-requires : goal.into_badge-requires
into_badge-requires g c = let p = c.args.token.now in let s = c.into_seat-seat in let K = g.K.Kind in
    let is = opened c.token.inside p c.replace.result.views s.result.me c.token.invariant c.token.view_is (ap (λ b. b.views) c.replace.ensures.value) s.ensures.2 s.ensures.3 in
    let t = tried_from K.told K.note c.compare_exchange-found.result c.args.old c.args.n c.args.new s.result.me
    c.compare_exchange-found.new.seat.me (known_by p) p.seat p.trace is
    (c.compare_exchange-found.ensures.2 c.args.n (ap (λ z. 64 * c.args.n + z) c.column.ensures)) in
    ap (λ m. m.1) t.1

pub invariant_of-token : goal.invariant_of-token
invariant_of-token g c = let p = c.args.token.now in let s = c.into_seat-seat in let K = g.K.Kind in
    let is = opened c.token.inside p c.replace.result.views s.result.me c.token.invariant c.token.view_is (ap (λ b. b.views) c.replace.ensures.value) s.ensures.2 s.ensures.3 in
    let t = tried_from K.told K.note c.compare_exchange-found.result c.args.old c.args.n c.args.new s.result.me
    c.compare_exchange-found.new.seat.me (known_by p) p.seat p.trace is
    (c.compare_exchange-found.ensures.2 c.args.n (ap (λ z. 64 * c.args.n + z) c.column.ensures)) in
    (closing c.token.inside p c.into_badge.result.views c.into_badge.result.table_id _ _ _ c.compare_exchange-found.new.seat.me t.0 c.token.view_is c.into_badge.ensures.0
    c.compare_exchange-found.ensures.0 s.ensures.0 (ap (λ b. b.table_id) c.replace.ensures.value) c.into_badge.ensures.2 t.1).is

pub returns-clause-same : goal.returns-clause-same
returns-clause-same g c = let p = c.args.token.now in let s = c.into_seat-seat in let K = g.K.Kind in
    let is = opened c.token.inside p c.replace.result.views s.result.me c.token.invariant c.token.view_is (ap (λ b. b.views) c.replace.ensures.value) s.ensures.2 s.ensures.3 in
    let t = tried_from K.told K.note c.compare_exchange-found.result c.args.old c.args.n c.args.new s.result.me
    c.compare_exchange-found.new.seat.me (known_by p) p.seat p.trace is
    (c.compare_exchange-found.ensures.2 c.args.n (ap (λ z. 64 * c.args.n + z) c.column.ensures)) in
    (closing c.token.inside p c.into_badge.result.views c.into_badge.result.table_id _ _ _ c.compare_exchange-found.new.seat.me t.0 c.token.view_is c.into_badge.ensures.0
    c.compare_exchange-found.ensures.0 s.ensures.0 (ap (λ b. b.table_id) c.replace.ensures.value) c.into_badge.ensures.2 t.1).same

pub returns-clause-hit : goal.returns-clause-hit
returns-clause-hit g c = let p = c.args.token.now in let s = c.into_seat-seat in let K = g.K.Kind in
    let is = opened c.token.inside p c.replace.result.views s.result.me c.token.invariant c.token.view_is (ap (λ b. b.views) c.replace.ensures.value) s.ensures.2 s.ensures.3 in
    let t = tried_from K.told K.note c.compare_exchange-found.result c.args.old c.args.n c.args.new s.result.me
    c.compare_exchange-found.new.seat.me (known_by p) p.seat p.trace is
    (c.compare_exchange-found.ensures.2 c.args.n (ap (λ z. 64 * c.args.n + z) c.column.ensures)) in
    λ h.
    (closing c.token.inside p c.into_badge.result.views c.into_badge.result.table_id _ _ _ c.compare_exchange-found.new.seat.me t.0 c.token.view_is c.into_badge.ensures.0
    c.compare_exchange-found.ensures.0 s.ensures.0 (ap (λ b. b.table_id) c.replace.ensures.value) c.into_badge.ensures.2 t.1).trace_is ∙ t.2 h

pub returns-clause-told : goal.returns-clause-told
returns-clause-told g c = let p = c.args.token.now in let s = c.into_seat-seat in let K = g.K.Kind in
    let is = opened c.token.inside p c.replace.result.views s.result.me c.token.invariant c.token.view_is (ap (λ b. b.views) c.replace.ensures.value) s.ensures.2 s.ensures.3 in
    let t = tried_from K.told K.note c.compare_exchange-found.result c.args.old c.args.n c.args.new s.result.me
    c.compare_exchange-found.new.seat.me (known_by p) p.seat p.trace is
    (c.compare_exchange-found.ensures.2 c.args.n (ap (λ z. 64 * c.args.n + z) c.column.ensures)) in
    λ h. subst (λ z. K.told z p.seat p.trace c.args.n c.args.old) c.requires.of.same_shape (t.3 h)

pub returns-clause-miss : goal.returns-clause-miss
returns-clause-miss g c = let p = c.args.token.now in let s = c.into_seat-seat in let K = g.K.Kind in
    let is = opened c.token.inside p c.replace.result.views s.result.me c.token.invariant c.token.view_is (ap (λ b. b.views) c.replace.ensures.value) s.ensures.2 s.ensures.3 in
    let t = tried_from K.told K.note c.compare_exchange-found.result c.args.old c.args.n c.args.new s.result.me
    c.compare_exchange-found.new.seat.me (known_by p) p.seat p.trace is
    (c.compare_exchange-found.ensures.2 c.args.n (ap (λ z. 64 * c.args.n + z) c.column.ensures)) in
    λ h.
    (closing c.token.inside p c.into_badge.result.views c.into_badge.result.table_id _ _ _ c.compare_exchange-found.new.seat.me t.0 c.token.view_is c.into_badge.ensures.0
    c.compare_exchange-found.ensures.0 s.ensures.0 (ap (λ b. b.table_id) c.replace.ensures.value) c.into_badge.ensures.2 t.1).trace_is ∙ t.4 h
