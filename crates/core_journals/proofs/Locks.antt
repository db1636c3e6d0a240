-- Steps that take and give locks.
use Rattle.std.proofs.Common.{ℕ, inl, inr, Option, Some, None, List}
use Rattle.std.specs.Prelude.{◌&&◌, Bool, true, false}
use Rattle.core_data.specs.Queue.{Queue}
use Rattle.core_data.specs.Columns.{Columns, put, put_at}
use Rattle.core_data.specs.declared.values.TaskVal.{TaskVal}
use Rattle.core_data.specs.declared.values.WaitEntry.{WaitEntry}
use Rattle.core_data.specs.declared.values.WorkItem.{WorkItem}
use Rattle.core_gives.specs.Queues.{MayGiveQueue, give_queue, give_up_if, gives_up}
use Rattle.core_gives.specs.Waits.{MayGiveWait, give_wait, give_by, walked_if, is_walk}
use Rattle.core_invariant.specs.Invariant.{Holds}
use Rattle.core_invariant.specs.Journals.{JournalsHold}
use Rattle.core_journals.proofs.Columns.{LastChanges-lock, Wakes-lock}
use Rattle.core_journals.proofs.States.{unlocked-still, unlocked-settled}
use Rattle.core_kinds.specs.Locks.{MayTakeTask, take_task, MayGiveTask, give_task, MayTakeQueue, take_queue, MayTakeWorks, take_works, MayGiveWorks, give_works, MayTakeWait, take_wait}
use Rattle.core_kinds.specs.Running.{MayBodyOut, body_out, MayBodyHome, body_home}

pub JournalsHold-take_task : (core : Columns) (s t : ℕ) → Holds core → MayTakeTask core s t → JournalsHold (take_task core s t)
JournalsHold-take_task core s t holds may =
    record {
      plain = holds.journals.plain;
      rules = holds.journals.rules;
      numbered = holds.journals.numbered;
      last_changes = LastChanges-lock t (Some s) (unlocked-settled core t holds may.free) holds.journals.last_changes;
      wakes = Wakes-lock t (Some s) (unlocked-still core t holds may.free) holds.journals.wakes;
      last_runs = holds.journals.last_runs;
    }

pub JournalsHold-give_task : (core : Columns) (s t : ℕ) (val : TaskVal) (stood done : Bool) → Holds core → MayGiveTask core s t val stood done → JournalsHold (give_task core s t val)
JournalsHold-give_task core s t val stood done holds may =
    record {
      plain = holds.journals.plain;
      rules = holds.journals.rules;
      numbered = holds.journals.numbered;
      last_changes = LastChanges-lock t None may.settled.0 holds.journals.last_changes;
      wakes = Wakes-lock t None (λ off. elim (may.settled.1) [ inl a ↦ absurd (a off) | inr b ↦ b ]) holds.journals.wakes;
      last_runs = holds.journals.last_runs;
    }

pub JournalsHold-take_queue : (core : Columns) (s c : ℕ) → Holds core → MayTakeQueue core s c → JournalsHold (take_queue core s c)
JournalsHold-take_queue core s c holds may = let p = holds.journals in record {
  plain = p.plain;
  rules = p.rules;
  numbered = p.numbered;
  last_changes = p.last_changes;
  wakes = p.wakes;
  last_runs = p.last_runs;
}

given-up : (b : Bool) (core : Columns) (s : ℕ) → JournalsHold core → JournalsHold (give_up_if b core s)
given-up true core s p = record { plain = p.plain; rules = p.rules; numbered = p.numbered; last_changes = p.last_changes; wakes = p.wakes; last_runs = p.last_runs }
given-up false core s p = p

pub JournalsHold-give_queue : (core : Columns) (s c : ℕ) (queue : Queue) → Holds core → MayGiveQueue core s c queue → JournalsHold (give_queue core s c queue)
JournalsHold-give_queue core s c queue holds may =
    let given : Columns = record core {
      queue_lock = put core.queue_lock c None;
      queue = put core.queue c (Some queue);
      queue_held = put_at core.queue_held s c None;
    } in
    let q = holds.journals in
    let p = given-up (gives_up s c queue) given s (record { plain = q.plain; rules = q.rules; numbered = q.numbered; last_changes = q.last_changes; wakes = q.wakes; last_runs = q.last_runs }) in
    record { plain = p.plain; rules = p.rules; numbered = p.numbered; last_changes = p.last_changes; wakes = p.wakes; last_runs = p.last_runs }

pub JournalsHold-take_works : (core : Columns) (s c : ℕ) → Holds core → MayTakeWorks core s c → JournalsHold (take_works core s c)
JournalsHold-take_works core s c holds may = let p = holds.journals in record {
  plain = p.plain;
  rules = p.rules;
  numbered = p.numbered;
  last_changes = p.last_changes;
  wakes = p.wakes;
  last_runs = p.last_runs;
}

pub JournalsHold-give_works : (core : Columns) (s c : ℕ) (val : List WorkItem) → Holds core → MayGiveWorks core s c val → JournalsHold (give_works core s c val)
JournalsHold-give_works core s c val holds may = let p = holds.journals in record {
  plain = p.plain;
  rules = p.rules;
  numbered = p.numbered;
  last_changes = p.last_changes;
  wakes = p.wakes;
  last_runs = p.last_runs;
}

pub JournalsHold-take_wait : (core : Columns) (s k : ℕ) → Holds core → MayTakeWait core s k → JournalsHold (take_wait core s k)
JournalsHold-take_wait core s k holds may = let p = holds.journals in record {
  plain = p.plain;
  rules = p.rules;
  numbered = p.numbered;
  last_changes = p.last_changes;
  wakes = p.wakes;
  last_runs = p.last_runs;
}

walked : (b : Bool) (core : Columns) (s k : ℕ) → JournalsHold core → JournalsHold (walked_if b core s k)
walked true core s k p = record { plain = p.plain; rules = p.rules; numbered = p.numbered; last_changes = p.last_changes; wakes = p.wakes; last_runs = p.last_runs }
walked false core s k p = p

given-by : (core : Columns) (s k : ℕ) (given : List WaitEntry) (taken : Option (List WaitEntry)) → JournalsHold core → JournalsHold (give_by core s k given taken)
given-by core s k given None q = q
given-by core s k given (Some taken) q = walked (core.owes_walk s k && (core.has_retaken s k && is_walk (core.has_passed s k) taken)) _ s k
    (record { plain = q.plain; rules = q.rules; numbered = q.numbered; last_changes = q.last_changes; wakes = q.wakes; last_runs = q.last_runs })

pub JournalsHold-give_wait : (core : Columns) (s k : ℕ) (given : List WaitEntry) → Holds core → MayGiveWait core s k given → JournalsHold (give_wait core s k given)
JournalsHold-give_wait core s k given holds may = given-by core s k given (core.wait_held s k) holds.journals

pub JournalsHold-body_out : (core : Columns) (s t : ℕ) → Holds core → MayBodyOut core s t → JournalsHold (body_out core s t)
JournalsHold-body_out core s t holds may = let p = holds.journals in record {
  plain = p.plain;
  rules = p.rules;
  numbered = p.numbered;
  last_changes = p.last_changes;
  wakes = p.wakes;
  last_runs = p.last_runs;
}

pub JournalsHold-body_home : (core : Columns) (s t : ℕ) (ended : Bool) → Holds core → MayBodyHome core s t ended → JournalsHold (body_home core s t ended)
JournalsHold-body_home core s t ended holds may = let p = holds.journals in record {
  plain = p.plain;
  rules = p.rules;
  numbered = p.numbered;
  last_changes = p.last_changes;
  wakes = p.wakes;
  last_runs = p.last_runs;
}
