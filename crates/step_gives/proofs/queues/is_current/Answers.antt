use Rattle.std.proofs.Common.{◌≡◌, ◌∙◌, ap, sym, subst, ℕ, Bool, List, Some}
use Rattle.std.specs.Prelude.{IsTrue, ◌↔◌}
use Rattle.std.specs.List.{list_any}
use Rattle.core_data.specs.Columns.{columns}
use Rattle.core_data.specs.declared.seat.SeatCore.{SeatCore}
use Rattle.core_gives.specs.Queues.{is_some_of}
use Rattle.step_gives.proofs.Rows.{current-rows}
use Rattle.step_gives.proofs.queues.is_current.Goals as goal

pub returns : goal.returns
returns c =
    let core = c.args.core.now in
    let t = c.args.t in
    let same : c.are_current.result ≡ list_any (λ (seat : SeatCore). is_some_of seat.current t) core.seats.items =
    c.are_current.ensures ∙ ap (λ (rows : List SeatCore). list_any (λ (seat : SeatCore). is_some_of seat.current t) rows) c.deref.ensures.value in
    subst (λ (b : Bool). IsTrue b ↔ ((s : ℕ) × ((columns core).current_task s ≡ Some t))) (sym same) (current-rows core t)
