-- How tasks end.
use Rattle.std.proofs.Common.{◌≡◌, ℕ, refl, subst, arith}
use Rattle.handoff_data.specs.declared.entry.Entry.TheVariants as entry
use Rattle.handoff_data.specs.History.{History}
use Rattle.handoff_data.specs.Legal.{DiesLast, FinishesLast}
use Rattle.handoff_data.specs.Numbers.{change_of, run_of}
use Rattle.handoff_data.specs.Positions.{IsSomewhere}
use Rattle.journal_rules.specs.Order.{IsHighestOf}

module _ (j : History) (t highest : ℕ) where
  -- where the highest change is an end, the task dies last
  pub dies : IsHighestOf change_of j t highest → (c : ℕ) × IsSomewhere j (entry.Die t highest c) → DiesLast j t
  dies is end = (highest, end.0, end.1, λ e m at numbered. is.none_higher e m at numbered)

  -- and where it dies last, the highest change is its end
  pub died : IsHighestOf change_of j t highest → DiesLast j t → (c : ℕ) × IsSomewhere j (entry.Die t highest c)
  died is dies =
      let up = is.none_higher (entry.Die t dies.0 dies.1) dies.0 dies.2 refl in
      let down = dies.3 is.entry highest is.somewhere is.numbered in
      let equal : dies.0 ≡ highest = omega (arith, up, down) in
      (dies.1, subst (λ (y : ℕ). IsSomewhere j (entry.Die t y dies.1)) equal dies.2)

  -- the same of runs
  pub finishes : IsHighestOf run_of j t highest → (c : ℕ) × IsSomewhere j (entry.Finish t highest c) → FinishesLast j t
  finishes is end = (highest, end.0, end.1, λ e n at numbered. is.none_higher e n at numbered)

  pub finished : IsHighestOf run_of j t highest → FinishesLast j t → (c : ℕ) × IsSomewhere j (entry.Finish t highest c)
  finished is ends =
      let up = is.none_higher (entry.Finish t ends.0 ends.1) ends.0 ends.2 refl in
      let down = ends.3 is.entry highest is.somewhere is.numbered in
      let equal : ends.0 ≡ highest = omega (arith, up, down) in
      (ends.1, subst (λ (y : ℕ). IsSomewhere j (entry.Finish t y ends.1)) equal ends.2)
