use Rattle.std.proofs.Common.{rules, arith, ap, ◌∙◌, ◌+◌, ◌*◌, ◌<◌, ◌∷◌}
use Rattle.word_table.specs.Layout.{rows_of}
use Rattle.word_table.proofs.Opened.{in_table, known_by, opened, closing, noted_from}
use Rattle.word_table.proofs.Ways.{store_may}
use Rattle.word_table.proofs.steps.store.Goals as goal

pub store-requires : goal.store-requires
store-requires g c = let p = c.args.token.now in let s = c.into_seat-seat in let K = g.K.Kind in
    let is = opened c.token.inside p c.replace.result.views s.result.me c.token.invariant c.token.view_is (ap (λ b. b.views) c.replace.ensures.value) s.ensures.2 s.ensures.3 in
    let L = g.met.K.Kind in let w = c.args.words.now in
    let row : c.args.n < rows_of w.shape = (let h = L.rows w.shape in let lt = c.requires.row in omega (arith, h, lt)) in (
      search rules,
      in_table w.shape _ _ c.args.n K.col _ c.words.invariant.0 (ap (λ z. z.shape) c.words.view_is) row L.low (ap (λ z. 64 * c.args.n + z) c.column.ensures),
      store_may g.B.Kept.lasting g.B.Kept.ended c.words.inside.table.shared.key _ _ p.seat (known_by p) p.trace s.result.me is c.args.n K.col K.bound K.note K.may K.told L.low L.rows L.quiet L.keep
          w.shape (c.words.invariant.3 ∙ ap (λ w. w.shape) c.words.view_is) c.requires.row _ (ap (λ z. 64 * c.args.n + z) c.column.ensures) c.args.new c.requires.may c.requires.plain,
    )

pub into_badge-requires : goal.into_badge-requires
into_badge-requires g c = let p = c.args.token.now in let s = c.into_seat-seat in let K = g.K.Kind in
    let is = opened c.token.inside p c.replace.result.views s.result.me c.token.invariant c.token.view_is (ap (λ b. b.views) c.replace.ensures.value) s.ensures.2 s.ensures.3 in
    let now = noted_from K.note s.result.me c.store.new.seat.me (known_by p) p.seat p.trace c.args.n c.args.new c.args.new is
    (c.store.ensures.2 c.args.n (ap (λ z. 64 * c.args.n + z) c.column.ensures)) in
    ap (λ m. m.1) now

pub invariant_of-token : goal.invariant_of-token
invariant_of-token g c = let p = c.args.token.now in let s = c.into_seat-seat in let K = g.K.Kind in
    let is = opened c.token.inside p c.replace.result.views s.result.me c.token.invariant c.token.view_is (ap (λ b. b.views) c.replace.ensures.value) s.ensures.2 s.ensures.3 in
    let now = noted_from K.note s.result.me c.store.new.seat.me (known_by p) p.seat p.trace c.args.n c.args.new c.args.new is
    (c.store.ensures.2 c.args.n (ap (λ z. 64 * c.args.n + z) c.column.ensures)) in
    (closing c.token.inside p c.into_badge.result.views c.into_badge.result.table_id _ _ _ c.store.new.seat.me (K.note p.seat p.trace c.args.n c.args.new c.args.new
    ∷ p.trace) c.token.view_is c.into_badge.ensures.0 c.store.ensures.0 s.ensures.0 (ap (λ b. b.table_id) c.replace.ensures.value) c.into_badge.ensures.2 now).is

pub returns-clause-same : goal.returns-clause-same
returns-clause-same g c = let p = c.args.token.now in let s = c.into_seat-seat in let K = g.K.Kind in
    let is = opened c.token.inside p c.replace.result.views s.result.me c.token.invariant c.token.view_is (ap (λ b. b.views) c.replace.ensures.value) s.ensures.2 s.ensures.3 in
    let now = noted_from K.note s.result.me c.store.new.seat.me (known_by p) p.seat p.trace c.args.n c.args.new c.args.new is
    (c.store.ensures.2 c.args.n (ap (λ z. 64 * c.args.n + z) c.column.ensures)) in
    (closing c.token.inside p c.into_badge.result.views c.into_badge.result.table_id _ _ _ c.store.new.seat.me (K.note p.seat p.trace c.args.n c.args.new c.args.new
    ∷ p.trace) c.token.view_is c.into_badge.ensures.0 c.store.ensures.0 s.ensures.0 (ap (λ b. b.table_id) c.replace.ensures.value) c.into_badge.ensures.2 now).same

pub returns-clause-trace : goal.returns-clause-trace
returns-clause-trace g c = let p = c.args.token.now in let s = c.into_seat-seat in let K = g.K.Kind in
    let is = opened c.token.inside p c.replace.result.views s.result.me c.token.invariant c.token.view_is (ap (λ b. b.views) c.replace.ensures.value) s.ensures.2 s.ensures.3 in
    let now = noted_from K.note s.result.me c.store.new.seat.me (known_by p) p.seat p.trace c.args.n c.args.new c.args.new is
    (c.store.ensures.2 c.args.n (ap (λ z. 64 * c.args.n + z) c.column.ensures)) in
    (closing c.token.inside p c.into_badge.result.views c.into_badge.result.table_id _ _ _ c.store.new.seat.me (K.note p.seat p.trace c.args.n c.args.new c.args.new
    ∷ p.trace) c.token.view_is c.into_badge.ensures.0 c.store.ensures.0 s.ensures.0 (ap (λ b. b.table_id) c.replace.ensures.value) c.into_badge.ensures.2 now).trace_is
