use Rattle.std.proofs.Common.{rules, refl, sym, [], arith, ap, ◌∙◌, ◌≡◌, ℕ, ◌+◌, ◌-◌}
use Rattle.word_table.specs.Begin.{first_tokens}
use Rattle.word_table.specs.Plays.{sat}
use Rattle.word_table.specs.Ruled.{lastings}
use Rattle.word_table.proofs.Seats.{deals_at, dealt, dealt_from}
use Rattle.word_table.proofs.Tokens.{token_dealt, token_is}
use Rattle.word_table.proofs.life.deal.Goals as goal

pub split_seat-other-requires : goal.split_seat-other-requires
split_seat-other-requires g c =
    let inv = c.loop-number.invariant in let k : ℕ = c.loop-number.number in let n : ℕ = c.args.seats - k - 1 in (
      search rules,
      search rules,
      deals_at g.B.Kept.lasting g.B.Kept.ended c.args.board.now.shared.key _ k n (c.args.seats - k)
          c.loop-number.seat.me.0 (omega arith) (ap (λ m. m.0) inv.me),
    )

pub token_of-requires-clause-seat : goal.token_of-requires-clause-seat
token_of-requires-clause-seat g c κs live =
    let k : ℕ = c.loop-number.number in let other = c.split_seat-other in
    let is = dealt g.B.Kept.lasting c.args.board.now.shared.key k (c.args.seats - k - 1) (c.args.seats - k)
    c.loop-number.seat.me other.result.me (omega arith) c.loop-number.invariant.me other.ensures.4 in
    is ∙ ap (λ m. sat m.0.known k []) (sym is)

pub loop-number-preserved : goal.loop-number-preserved
loop-number-preserved g c =
    let inv = c.loop-number.invariant in let k : ℕ = c.loop-number.number in let n : ℕ = c.args.seats - k - 1 in
    let other = c.split_seat-other in
    let key = c.args.board.now.shared.key in let name = c.args.board.now.shared.table_id in
    let is = dealt g.B.Kept.lasting key k n (c.args.seats - k) c.loop-number.seat.me other.result.me (omega arith)
    inv.me other.ensures.4 in
    let token = token_is g.B.Kept.lasting key name other.result.table_id k k other.result.me.0.known c.token_of.result
    (other.ensures.3 ∙ inv.id ∙ c.requires.id) (ap (λ m. m.0.known) is) refl c.token_of.ensures in
    record {
      id = other.ensures.0 ∙ inv.id;
      me = dealt_from g.B.Kept.lasting key k n (c.args.seats - k) (c.args.seats - (k + 1)) c.loop-number.seat.me
          other.new.seat.me (omega arith) (omega arith) inv.me other.ensures.2;
      tokens = token_dealt name key.shape (lastings g.B.Kept.lasting key) k c.loop-number.tokens.items
          c.push_reserved.new.self.items c.token_of.result inv.tokens token c.push_reserved.ensures.items;
      full = (let len = c.push_reserved.ensures.len in omega arith);
      room = (let more = c.push_reserved.ensures.capacity in omega arith);
    }

pub returns : goal.returns
returns g c =
    let inv = c.loop-number.invariant in let k : ℕ = c.loop-number.number in let key = c.args.board.now.shared.key in
    let ls = lastings g.B.Kept.lasting key in
    let name = c.args.board.now.shared.table_id in let last : c.args.seats - 1 ≡ k = omega arith in
    let all : k + 1 ≡ c.args.seats = omega arith in
    let seat = c.loop-number.seat in
    let token = token_is g.B.Kept.lasting key name seat.table_id (c.args.seats - 1) k seat.me.0.known
    c.token_of-2.result (inv.id ∙ c.requires.id) (ap (λ m. m.0.known) inv.me) last c.token_of-2.ensures in
    token_dealt name key.shape ls k c.loop-number.tokens.items c.push_reserved-2.new.self.items c.token_of-2.result
    inv.tokens token c.push_reserved-2.ensures.items ∙ ap (first_tokens name key.shape ls) all
