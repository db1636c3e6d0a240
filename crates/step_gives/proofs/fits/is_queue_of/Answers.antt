use Rattle.std.proofs.Common.{◌≡◌, ℕ, arith, subst, sym, ◌∙◌}
use Rattle.std.specs.Prelude.{IsTrue, count_by}
use Rattle.std.proofs.lemmas.Bool.Decides.{nat_tests}
use Rattle.core_gives.proofs.FitsLemmas.{fits, fits-here, fits-cur, fits-count}
use Rattle.step_gives.proofs.fits.is_queue_of.Goals as goal

pub returns-then-not-is_cur_here : goal.returns-then-not-is_cur_here
returns-then-not-is_cur_here c =
    (λ h. absurd (grind (arith, h)), λ fit. subst (λ b. IsTrue b) c.if-not-is_cur_here.true (c.is_cur_here.ensures.here.1 (fits-cur c.args.core.now c.args.c c.args.queue.now fit)))

pub returns-then-not-are_here : goal.returns-then-not-are_here
returns-then-not-are_here c =
    (λ h. absurd (grind (arith, h)), λ fit. subst (λ b. IsTrue b) c.if-not-are_here.true (c.are_here.ensures.1 (fits-here c.args.core.now c.args.c c.args.queue.now fit)))

pub returns : goal.returns
returns c =
    let core = c.args.core.now in
    let queue = c.args.queue.now in (
      λ same.
          let e : c.count_at.result ≡ c.len.result = grind (arith, nat_tests, same) in
          fits core c.args.c queue c.is_cur_here.ensures.once (c.are_here.ensures.0 c.if-not-are_here.false) (c.is_cur_here.ensures.here.0 c.if-not-is_cur_here.false)
          (sym c.count_at.ensures ∙ e ∙ c.len.ensures),
      λ fit.
          let e : c.count_at.result ≡ c.len.result = c.count_at.ensures ∙ fits-count core c.args.c queue fit ∙ sym c.len.ensures in
          grind (arith, nat_tests, e),
    )
