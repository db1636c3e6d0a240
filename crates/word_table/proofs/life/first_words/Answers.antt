use Rattle.std.proofs.Common.{◌≡◌, ◌*◌, ℕ, rules, arith, ap, ◌∙◌}
use Rattle.std.specs.Prelude.{replicate}
use Rattle.word_steps.specs.Words.{words_of}
use Rattle.word_table.specs.Begin.{words_with}
use Rattle.word_table.proofs.Laying.{zero_words, task_stored, cpu_stored}
use Rattle.word_table.proofs.life.first_words.Goals as goal

pub loop-t-init : goal.loop-t-init
loop-t-init c =
    let zeros : c.in_ok-words.words.items ≡ replicate (64 * c.args.rows) 0 = search rules in
    record { words = ap words_of zeros ∙ zero_words (64 * c.args.rows); long = search rules }

pub loop-t-preserved : goal.loop-t-preserved
loop-t-preserved c =
    let inv = c.loop-t.invariant in let t : ℕ = c.loop-t.t in
    record { words = task_stored c.loop-t.words.items t 0 inv.words (omega arith); long = search rules }

pub loop-c-preserved : goal.loop-c-preserved
loop-c-preserved c =
    let inv = c.loop-c.invariant in let p : ℕ = c.loop-c.c in
    record {
      words = cpu_stored c.loop-c.words.items c.args.shape.now.tasks p inv.words (omega arith);
      long = search
          rules;
    }

pub returns-clause-words : goal.returns-clause-words
returns-clause-words c = c.loop-c.invariant.words ∙ ap (words_with c.args.shape.now.tasks) (omega arith)
