use Rattle.std.proofs.Common.{rules, arith, subst, ap, ◌∙◌, ◌+◌, ◌%◌, ◌*◌, ◌^◌, ◌<◌, ◌∷◌}
use Rattle.word_table.specs.Layout.{rows_of}
use Rattle.word_table.specs.Plays.{seat_in, trace_in}
use Rattle.word_table.proofs.Opened.{in_table, known_by, opened, closing, noted_from}
use Rattle.word_table.proofs.Ways.{become_may}
use Rattle.word_table.proofs.steps.fetch_add.Goals as goal

pub fetch_add-found-requires : goal.fetch_add-found-requires
fetch_add-found-requires g c = let p = c.args.token.now in let s = c.into_seat-seat in let K = g.K.Kind in
    let is = opened c.token.inside p c.replace.result.views s.result.me c.token.invariant c.token.view_is (ap (λ b. b.views) c.replace.ensures.value) s.ensures.2 s.ensures.3 in
    let L = g.met.K.Kind in let w = c.args.words.now in
    let row : c.args.n < rows_of w.shape = (let h = L.rows w.shape in let lt = c.requires.row in omega (arith, h, lt)) in (
      search rules,
      in_table w.shape _ _ c.args.n K.col _ c.words.invariant.0 (ap (λ z. z.shape) c.words.view_is) row L.low (ap (λ z. 64 * c.args.n + z) c.column.ensures),
      become_may g.B.Kept.lasting g.B.Kept.ended c.words.inside.table.shared.key _ _ p.seat (known_by p) p.trace s.result.me is c.args.n K.col K.bound K.note K.may K.told L.low L.rows L.quiet L.keep
          w.shape (c.words.invariant.3 ∙ ap (λ w. w.shape) c.words.view_is) c.requires.row _ (ap (λ z. 64 * c.args.n + z) c.column.ensures) (λ x. (x + 1) % 2 ^ 64) 1 c.requires.may,
    )

pub into_badge-requires : goal.into_badge-requires
into_badge-requires g c = let p = c.args.token.now in let s = c.into_seat-seat in let K = g.K.Kind in
    let is = opened c.token.inside p c.replace.result.views s.result.me c.token.invariant c.token.view_is (ap (λ b. b.views) c.replace.ensures.value) s.ensures.2 s.ensures.3 in
    let now = noted_from K.note s.result.me c.fetch_add-found.new.seat.me (known_by p) p.seat p.trace c.args.n ((c.fetch_add-found.result + 1) % 2 ^ 64) c.fetch_add-found.result is
    (c.fetch_add-found.ensures.2 c.args.n (ap (λ z. 64 * c.args.n + z) c.column.ensures)).1 in
    ap (λ m. m.1) now

pub invariant_of-token : goal.invariant_of-token
invariant_of-token g c = let p = c.args.token.now in let s = c.into_seat-seat in let K = g.K.Kind in
    let is = opened c.token.inside p c.replace.result.views s.result.me c.token.invariant c.token.view_is (ap (λ b. b.views) c.replace.ensures.value) s.ensures.2 s.ensures.3 in
    let now = noted_from K.note s.result.me c.fetch_add-found.new.seat.me (known_by p) p.seat p.trace c.args.n ((c.fetch_add-found.result + 1) % 2 ^ 64) c.fetch_add-found.result is
    (c.fetch_add-found.ensures.2 c.args.n (ap (λ z. 64 * c.args.n + z) c.column.ensures)).1 in
    (closing c.token.inside p c.into_badge.result.views c.into_badge.result.table_id _ _ _ c.fetch_add-found.new.seat.me
    (K.note p.seat p.trace c.args.n ((c.fetch_add-found.result + 1) % 2 ^ 64) c.fetch_add-found.result ∷ p.trace) c.token.view_is c.into_badge.ensures.0 c.fetch_add-found.ensures.0 s.ensures.0
    (ap (λ b. b.table_id) c.replace.ensures.value) c.into_badge.ensures.2 now).is

pub returns-clause-same : goal.returns-clause-same
returns-clause-same g c = let p = c.args.token.now in let s = c.into_seat-seat in let K = g.K.Kind in
    let is = opened c.token.inside p c.replace.result.views s.result.me c.token.invariant c.token.view_is (ap (λ b. b.views) c.replace.ensures.value) s.ensures.2 s.ensures.3 in
    let now = noted_from K.note s.result.me c.fetch_add-found.new.seat.me (known_by p) p.seat p.trace c.args.n ((c.fetch_add-found.result + 1) % 2 ^ 64) c.fetch_add-found.result is
    (c.fetch_add-found.ensures.2 c.args.n (ap (λ z. 64 * c.args.n + z) c.column.ensures)).1 in
    (closing c.token.inside p c.into_badge.result.views c.into_badge.result.table_id _ _ _ c.fetch_add-found.new.seat.me
    (K.note p.seat p.trace c.args.n ((c.fetch_add-found.result + 1) % 2 ^ 64) c.fetch_add-found.result ∷ p.trace) c.token.view_is c.into_badge.ensures.0 c.fetch_add-found.ensures.0 s.ensures.0
    (ap (λ b. b.table_id) c.replace.ensures.value) c.into_badge.ensures.2 now).same

pub returns-clause-trace : goal.returns-clause-trace
returns-clause-trace g c = let p = c.args.token.now in let s = c.into_seat-seat in let K = g.K.Kind in
    let is = opened c.token.inside p c.replace.result.views s.result.me c.token.invariant c.token.view_is (ap (λ b. b.views) c.replace.ensures.value) s.ensures.2 s.ensures.3 in
    let now = noted_from K.note s.result.me c.fetch_add-found.new.seat.me (known_by p) p.seat p.trace c.args.n ((c.fetch_add-found.result + 1) % 2 ^ 64) c.fetch_add-found.result is
    (c.fetch_add-found.ensures.2 c.args.n (ap (λ z. 64 * c.args.n + z) c.column.ensures)).1 in
    (closing c.token.inside p c.into_badge.result.views c.into_badge.result.table_id _ _ _ c.fetch_add-found.new.seat.me
    (K.note p.seat p.trace c.args.n ((c.fetch_add-found.result + 1) % 2 ^ 64) c.fetch_add-found.result ∷ p.trace) c.token.view_is c.into_badge.ensures.0 c.fetch_add-found.ensures.0 s.ensures.0
    (ap (λ b. b.table_id) c.replace.ensures.value) c.into_badge.ensures.2 now).trace_is

pub returns-clause-told : goal.returns-clause-told
returns-clause-told g c = let p = c.args.token.now in let s = c.into_seat-seat in let K = g.K.Kind in
    let is = opened c.token.inside p c.replace.result.views s.result.me c.token.invariant c.token.view_is (ap (λ b. b.views) c.replace.ensures.value) s.ensures.2 s.ensures.3 in
    subst (λ z. K.told z p.seat p.trace c.args.n c.fetch_add-found.result) c.requires.of.same_shape
    (subst (λ m. K.told m.0.known.shape (seat_in m.0.parts) (trace_in m.0.parts) c.args.n c.fetch_add-found.result) is
    (c.fetch_add-found.ensures.2 c.args.n (ap (λ z. 64 * c.args.n + z) c.column.ensures)).0)
