use Rattle.std.proofs.Common.{◌≡◌, ◌<◌, ℕ, ◌+◌, map, sym, subst, List, length, true}
use Rattle.std.specs.Prelude.{IfSome, slice_index_or}
use Rattle.std.specs.List.{All}
use Rattle.task_words.specs.Closing.{IsDone}
use Rattle.task_words.specs.Views.{PassView, IsOf}
use Rattle.uses_words.proofs.Closes.{all_map, seats_kept, same_of, done_between}
use Rattle.uses_wake.specs.declared.random_tests.Worked.{Worked}
use Rattle.uses_wake.proofs.random_tests.run_threads.Goals as goal
use Rattle.word_table.specs.End.{HasEachSeat}

abbrev pass_of : Worked → PassView
pass_of w = w.pass

pub close-requires-clause-of : goal.close-requires-clause-of
close-requires-clause-of g c κs = let wk = c.args.wk in let old = c.args.passes.items in let done = c.in_ok-done.done.items in
    let is : c.in-Some.passes.items ≡ map pass_of done = subst (λ o. IfSome o (λ r. r.0.items ≡ map pass_of done)) c.in-Some.is c.in_ok-passes.ensures.passes in
    subst (λ (xs : List PassView). All (IsOf wk) xs) (sym is)
    (all_map pass_of (IsOf wk) done (λ i e low. let lt : i < length old = subst (λ (n : ℕ). i < n) c.in_ok-done.ensures.len low in
    same_of wk (slice_index_or old i e.pass) (slice_index_or done i e).pass (c.requires.of i e.pass lt) (c.in_ok-done.ensures.same i e.pass e lt)))

pub close-requires-clause-all : goal.close-requires-clause-all
close-requires-clause-all g c κs = let wk = c.args.wk in let old = c.args.passes.items in let done = c.in_ok-done.done.items in
    let is : c.in-Some.passes.items ≡ map pass_of done = subst (λ o. IfSome o (λ r. r.0.items ≡ map pass_of done)) c.in-Some.is c.in_ok-passes.ensures.passes in
    subst (λ (xs : List PassView). HasEachSeat (wk.shape.cpus + wk.shape.agents) (map (λ (p : PassView). p.seat) xs)) (sym is)
    (subst (λ (ns : List ℕ). HasEachSeat (wk.shape.cpus + wk.shape.agents) ns) (sym (seats_kept pass_of old done c.in_ok-done.ensures.len c.in_ok-done.ensures.same)) c.requires.each)

pub close-requires-clause-done : goal.close-requires-clause-done
close-requires-clause-done g c κs = let old = c.args.passes.items in let done = c.in_ok-done.done.items in
    let is : c.in-Some.passes.items ≡ map pass_of done = subst (λ o. IfSome o (λ r. r.0.items ≡ map pass_of done)) c.in-Some.is c.in_ok-passes.ensures.passes in
    let fine : All (λ (w : Worked). w.fine ≡ true) done = subst (λ o. IfSome o (λ r. All (λ (w : Worked). w.fine ≡ true) done)) c.in-Some.is c.in_ok-passes.ensures.fine in
    subst (λ (xs : List PassView). All IsDone xs) (sym is)
    (all_map pass_of IsDone done (λ i e low. let lt : i < length old = subst (λ (n : ℕ). i < n) c.in_ok-done.ensures.len low in
    done_between (slice_index_or done i e).pass (c.in_ok-done.ensures.between i e lt (fine i e low))))
