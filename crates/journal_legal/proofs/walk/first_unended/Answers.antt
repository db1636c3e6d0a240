-- Each task up to this one has ended.
use Rattle.std.proofs.Common.{◌≡◌, ℕ, ◌<◌, ap, arith, subst, refl, inl, inr}
use Rattle.std.proofs.lemmas.Bool.{cases_lt}
use Rattle.handoff_data.specs.History.{History}
use Rattle.handoff_data.specs.Legal.{HasEnded}
use Rattle.journal_legal.proofs.walk.first_unended.Goals as goal

pub loop-t-preserved : goal.loop-t-preserved
loop-t-preserved c = λ lower less.
    elim (cases_lt lower c.loop-t.t) [
      | inl before ↦ c.loop-t.invariant lower before
      | inr not_before ↦
          let same : c.loop-t.t ≡ lower = omega arith in
          subst (λ (t : ℕ). HasEnded c.args.journals.now t) same (c.if-not-has_ended.ensures.0 refl)
    ]

pub returns-clause-ended : goal.returns-clause-ended
returns-clause-ended c = λ t less.
    c.loop-t.invariant t (omega (arith, ap (λ (j : History). j.tasks) c.journals.view_is))
