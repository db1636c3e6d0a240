use Rattle.std.proofs.Common.{ℕ, nat_eq, sym, arith}
use Rattle.std.proofs.lemmas.List.Sums.{position_or_len_is}
use Rattle.journal_text.proofs.fields.find_byte.Goals as goal

pub returns-then-byte-sought-clause-value : goal.returns-then-byte-sought-clause-value
returns-then-byte-sought-clause-value c =
    sym (position_or_len_is (λ (b : ℕ). nat_eq b c.args.sought) c.args.bytes.now c.loop-i.i 0 (omega arith) c.loop-i.invariant (λ _. grind arith))

pub returns-clause-value : goal.returns-clause-value
returns-clause-value c =
    sym (position_or_len_is (λ (b : ℕ). nat_eq b c.args.sought) c.args.bytes.now _ 0 (omega arith) (λ k less. c.loop-i.invariant k (omega arith)) (λ less. absurd (omega arith)))
