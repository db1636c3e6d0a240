use Rattle.std.proofs.Common.{◌+◌, ◌∙◌, List, map, sym, ap, subst}
use Rattle.std.specs.List.{All}
use Rattle.task_words.proofs.Ends.{all_tokens, seats_same, same_end, rules, legal, bodies_ended, deaths}
use Rattle.task_words.proofs.Sleepers.{sleepers_slept, none_missed}
use Rattle.task_words.specs.Closing.{token_of}
use Rattle.word_table.proofs.Ending.{all_each}
use Rattle.word_table.specs.End.{HasEachSeat, IsIdle}
use Rattle.word_table.specs.Views.{WordsView, TokenView}
use Rattle.task_words.proofs.wk.Wk.close.Goals as goal

pub close-requires-clause-all : goal.close-requires-clause-all
close-requires-clause-all g c κs live =
    subst (λ (z : WordsView × List TokenView).
    HasEachSeat (z.0.shape.cpus + z.0.shape.agents) (map (λ (t : TokenView). t.seat) z.1))
    (λ j. (sym c.self.view_is j, sym c.gather-gathered.ensures.tokens j))
    (subst (HasEachSeat (c.args.self.shape.cpus + c.args.self.shape.agents)) (sym (seats_same c.args.passes.items))
    c.requires.all)

pub close-requires-clause-idle : goal.close-requires-clause-idle
close-requires-clause-idle g c κs live =
    subst (All IsIdle) (sym c.gather-gathered.ensures.tokens) (all_tokens IsIdle c.args.passes.items c.requires.done)

pub returns-clause-end : goal.returns-clause-end
returns-clause-end g c = same_end c.self.view_is c.gather-gathered.ensures.tokens c.close.ensures.end

pub returns-clause-ended : goal.returns-clause-ended
returns-clause-ended g c =
    let end = same_end c.self.view_is c.gather-gathered.ensures.tokens c.close.ensures.end in
    bodies_ended end (c.close.ensures.sizes.1 ∙ ap (λ (z : WordsView). z.shape.tasks) c.self.view_is)

pub returns-clause-rules : goal.returns-clause-rules
returns-clause-rules g c = rules (same_end c.self.view_is c.gather-gathered.ensures.tokens c.close.ensures.end)

pub returns-clause-legal : goal.returns-clause-legal
returns-clause-legal g c =
    let passes = c.args.passes.items in
    legal (same_end c.self.view_is c.gather-gathered.ensures.tokens c.close.ensures.end)
    (all_each IsIdle (map token_of passes) (all_tokens IsIdle passes c.requires.done))

pub returns-clause-dead : goal.returns-clause-dead
returns-clause-dead g c = deaths (same_end c.self.view_is c.gather-gathered.ensures.tokens c.close.ensures.end)

pub returns-clause-slept : goal.returns-clause-slept
returns-clause-slept g c =
    let passes = c.args.passes.items in
    sleepers_slept (same_end c.self.view_is c.gather-gathered.ensures.tokens c.close.ensures.end)
    (all_each IsIdle (map token_of passes) (all_tokens IsIdle passes c.requires.done))
    (c.close.ensures.sizes.1 ∙ ap (λ (z : WordsView). z.shape.tasks) c.self.view_is)

pub returns-clause-sleepers : goal.returns-clause-sleepers
returns-clause-sleepers g c =
    let passes = c.args.passes.items in
    let end = same_end c.self.view_is c.gather-gathered.ensures.tokens c.close.ensures.end in
    let idle = all_each IsIdle (map token_of passes) (all_tokens IsIdle passes c.requires.done) in
    let tasks = c.close.ensures.sizes.1 ∙ ap (λ (z : WordsView). z.shape.tasks) c.self.view_is in
    let count = c.close.ensures.sizes.2 ∙ ap (λ (z : WordsView). z.shape.conds) c.self.view_is in
    λ s t k v value state is sleeps has sleeper.
    none_missed end idle tasks count s t k v value state is sleeps has sleeper.seat sleeper.asleep sleeper.test
