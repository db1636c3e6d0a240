use Rattle.std.proofs.Common.{◌<◌, ◌^◌, ◌+◌, ◌*◌, ℕ, rules, sym, subst, arith}
use Rattle.std.specs.Slots.{slots_items}
use Rattle.handoff_data.specs.declared.state.State.{State}
use Rattle.word_steps.specs.Words.{STATE, words_of}
use Rattle.word_table.proofs.Emptying.{one_plain}
use Rattle.word_table.proofs.Opening.{read_at}
use Rattle.word_table.proofs.close.read_states.Goals as goal

pub overflow_cast-word : goal.overflow_cast-word
overflow_cast-word g c =
    let t : ℕ = c.loop-t.t in let words = slots_items c.args.left.now.words in
    let small : c.word.result < 2 ^ 16 = subst (λ (z : ℕ). z < 2 ^ 16)
    (read_at words (64 * t + 10) c.word.result 0 c.word.ensures) (c.requires.fit t) in
    search rules

pub loop-t-preserved : goal.loop-t-preserved
loop-t-preserved g c =
    let inv = c.loop-t.invariant in let t : ℕ = c.loop-t.t in let words = slots_items c.args.left.now.words in
    let read : State → State = λ s. s in
    record {
      states = one_plain (λ (i : ℕ). let s : State = record { 0 = words_of words i STATE } in s) c.loop-t.states.items
          c.push_reserved.new.self.items (record { 0 = c.word.result }) t inv.states c.push_reserved.ensures.items
          (λ j. record { 0 = sym (read_at words (64 * t + 10) c.word.result 0 c.word.ensures) j });
      full = (let len = c.push_reserved.ensures.len in omega arith);
      room = (let more = c.push_reserved.ensures.capacity in omega arith);
    }
