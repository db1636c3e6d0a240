use Rattle.sched_switch.proofs.SleepLaws.{found_changed}
use Rattle.sched_switch.proofs.law.law_changed.Goals as goal

pub returns : goal.returns
returns c = record { changed = λ k v now old new did. found_changed c.law_prepared.ensures.finished k v now old new did }
