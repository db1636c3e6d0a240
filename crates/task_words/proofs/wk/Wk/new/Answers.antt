use Rattle.std.proofs.Common.{◌≡◌, ◌+◌, ◌∙◌, ℕ, [], List, map, sym, ap, subst}
use Rattle.std.specs.List.{All}
use Rattle.task_words.proofs.Firsts.{tokens_begun, tokens_sized, pass_with, passes_are, firsts_of, firsts_each, firsts_done}
use Rattle.task_words.specs.Closing.{IsDone}
use Rattle.task_words.specs.Views.{PassView, IsOf}
use Rattle.word_table.specs.End.{HasEachSeat}
use Rattle.word_table.specs.Views.{TokenView}
use Rattle.task_words.proofs.wk.Wk.new.Goals as goal

pub passes_of-requires-clause-traces : goal.passes_of-requires-clause-traces
passes_of-requires-clause-traces g c =
    let words = c.in_ok-words.words in let n : ℕ = c.args.shape.now.cpus + c.args.shape.now.agents in
    subst (All (λ (t : TokenView). t.trace ≡ [])) (sym c.in_ok-words.ensures.tokens)
    (tokens_begun words.name words.shape words.lasting n)

pub passes_of-requires-clause-tasks : goal.passes_of-requires-clause-tasks
passes_of-requires-clause-tasks g c =
    let words = c.in_ok-words.words in let n : ℕ = c.args.shape.now.cpus + c.args.shape.now.agents in
    subst (λ (z : List TokenView × ℕ). All (λ (t : TokenView). t.shape.tasks ≡ z.1) z.0)
    (λ j. (sym c.in_ok-words.ensures.tokens j, (c.in_ok-words.ensures.shape j).tasks))
    (tokens_sized words.name words.shape words.lasting n)

pub returns-clause-passes : goal.returns-clause-passes
returns-clause-passes g c =
    let words = c.in_ok-words.words in let n : ℕ = c.args.shape.now.cpus + c.args.shape.now.agents in
    let are = c.in_ok-passes.ensures
    ∙ ap (map (pass_with words.name words.shape words.lasting)) c.in_ok-words.ensures.tokens
    ∙ passes_are words.name words.shape words.lasting n in
    are

pub returns-clause-of : goal.returns-clause-of
returns-clause-of g c =
    let words = c.in_ok-words.words in let n : ℕ = c.args.shape.now.cpus + c.args.shape.now.agents in
    let are = c.in_ok-passes.ensures
    ∙ ap (map (pass_with words.name words.shape words.lasting)) c.in_ok-words.ensures.tokens
    ∙ passes_are words.name words.shape words.lasting n in
    subst (All (IsOf words)) (sym are) (firsts_of words.name words.shape words.lasting n)

pub returns-clause-each : goal.returns-clause-each
returns-clause-each g c =
    let words = c.in_ok-words.words in let n : ℕ = c.args.shape.now.cpus + c.args.shape.now.agents in
    let are = c.in_ok-passes.ensures
    ∙ ap (map (pass_with words.name words.shape words.lasting)) c.in_ok-words.ensures.tokens
    ∙ passes_are words.name words.shape words.lasting n in
    subst (λ (z : List PassView). HasEachSeat n (map (λ (p : PassView). p.seat) z)) (sym are)
    (firsts_each words.name words.shape words.lasting n)

pub returns-clause-done : goal.returns-clause-done
returns-clause-done g c =
    let words = c.in_ok-words.words in let n : ℕ = c.args.shape.now.cpus + c.args.shape.now.agents in
    let are = c.in_ok-passes.ensures
    ∙ ap (map (pass_with words.name words.shape words.lasting)) c.in_ok-words.ensures.tokens
    ∙ passes_are words.name words.shape words.lasting n in
    subst (All IsDone) (sym are) (firsts_done words.name words.shape words.lasting n)
