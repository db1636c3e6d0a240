use Rattle.std.proofs.Common.{◌+◌, ◌*◌, ℕ, sym, arith}
use Rattle.std.specs.Slots.{slots_items}
use Rattle.word_steps.specs.Words.{COND, words_of}
use Rattle.word_table.proofs.Emptying.{one_plain}
use Rattle.word_table.proofs.Opening.{read_at}
use Rattle.word_table.proofs.close.read_conds.Goals as goal

pub loop-k-preserved : goal.loop-k-preserved
loop-k-preserved g c =
    let inv = c.loop-k.invariant in let k : ℕ = c.loop-k.k in let words = slots_items c.args.left.now.words in
    record {
      conds = one_plain (λ (i : ℕ). words_of words i COND) c.loop-k.conds.items c.push_reserved.new.self.items
          c.word.result k inv.conds c.push_reserved.ensures.items
          (sym (read_at words (64 * k + 41) c.word.result 0 c.word.ensures));
      full = (let len = c.push_reserved.ensures.len in omega arith);
      room = (let more = c.push_reserved.ensures.capacity in omega arith);
    }
