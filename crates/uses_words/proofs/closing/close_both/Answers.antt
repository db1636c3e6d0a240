use Rattle.std.proofs.Common.{ℕ, ◌+◌, ◌∷◌, [], map, sym, subst, List}
use Rattle.std.specs.List.{All}
use Rattle.task_words.specs.Closing.{IsDone}
use Rattle.task_words.specs.Views.{PassView, IsOf}
use Rattle.uses_words.proofs.Closes.{both_all, both_seats, done_between}
use Rattle.uses_words.proofs.closing.close_both.Goals as goal
use Rattle.word_table.specs.End.{HasEachSeat}

pub close-requires-clause-of : goal.close-requires-clause-of
close-requires-clause-of g c κs within = let a = c.args in
    subst (λ (xs : List PassView). All (IsOf a.wk) xs) (sym c.in_ok-passes.ensures)
    (both_all (IsOf a.wk) a.first a.second c.requires.of.0 c.requires.of.1)

pub close-requires-clause-all : goal.close-requires-clause-all
close-requires-clause-all g c κs within = let a = c.args in
    subst (λ (xs : List PassView). HasEachSeat (a.wk.shape.cpus + a.wk.shape.agents) (map (λ (p : PassView). p.seat) xs)) (sym c.in_ok-passes.ensures)
    (subst (λ (n : ℕ). HasEachSeat n (map (λ (p : PassView). p.seat) (a.first ∷ a.second ∷ []))) (λ i. sym c.requires.cpus i + sym c.requires.agents i)
    (both_seats a.first a.second c.requires.seats.0 c.requires.seats.1))

pub close-requires-clause-done : goal.close-requires-clause-done
close-requires-clause-done g c κs within = let a = c.args in
    subst (λ (xs : List PassView). All IsDone xs) (sym c.in_ok-passes.ensures)
    (both_all IsDone a.first a.second (done_between a.first c.requires.between.0) (done_between a.second c.requires.between.1))
