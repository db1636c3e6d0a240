use Rattle.std.proofs.Common.{◌≡◌, ℕ, Some, ap, sym, ◌∙◌}
use Rattle.core_data.specs.Queue.{Queue, times_in}
use Rattle.core_data.specs.Columns.{columns}
use Rattle.core_gives.proofs.FitsLemmas.{only-one, not-contained, none-waits}
use Rattle.core_gives.specs.Fits.{IsHere}
use Rattle.step_gives.proofs.fits.is_cur_here.Goals as goal

pub returns-then-is_here-clause-here : goal.returns-then-is_here-clause-here
returns-then-is_here-clause-here c =
    let queue = c.args.queue.now in
    let t = c.in-Some.t in
    let cur : queue.cur ≡ Some t = sym (ap (λ (q : Queue). q.cur) c.queue.view_is) ∙ c.in-Some.is in
    let times = times_in queue.waiting t in
    let contains = c.contains.ensures in (
      λ absent. only-one queue.cur t (λ u. IsHere (columns c.args.core.now) c.args.c u × (times_in queue.waiting u ≡ 0)) cur
          (c.is_here.ensures.0 c.if-is_here.true, none-waits c.contains.result times contains.found.1 (contains.once.at_most t) absent),
      λ all. not-contained c.contains.result times contains.found.0 (all t cur).1,
    )
