use Rattle.std.proofs.Common.{ℕ, ◌+◌, ◌∷◌, [], map, sym, subst, List}
use Rattle.std.specs.List.{All}
use Rattle.task_words.specs.Closing.{IsDone}
use Rattle.task_words.specs.End.{HasEachSeat}
use Rattle.task_words.specs.Views.{PassView, IsOf}
use Rattle.uses_words.proofs.Closes.{one_all, one_each, done_between}
use Rattle.uses_words.proofs.closing.close_one.Goals as goal

pub close-requires-clause-of : goal.close-requires-clause-of
close-requires-clause-of g c κs within = let a = c.args in
    subst (λ (xs : List PassView). All (IsOf a.wk) xs) (sym c.in_ok-passes.ensures)
    (one_all (IsOf a.wk) a.pass c.requires.of)

pub close-requires-clause-all : goal.close-requires-clause-all
close-requires-clause-all g c κs within = let a = c.args in
    subst (λ (xs : List PassView). HasEachSeat (a.wk.shape.cpus + a.wk.shape.agents) (map (λ (p : PassView). p.seat) xs)) (sym c.in_ok-passes.ensures)
    (subst (λ (n : ℕ). HasEachSeat n (map (λ (p : PassView). p.seat) (a.pass ∷ []))) (λ i. sym c.requires.cpus i + sym c.requires.agents i)
    (one_each a.pass c.requires.first))

pub close-requires-clause-done : goal.close-requires-clause-done
close-requires-clause-done g c κs within = let a = c.args in
    subst (λ (xs : List PassView). All IsDone xs) (sym c.in_ok-passes.ensures)
    (one_all IsDone a.pass (done_between a.pass c.requires.between))
