-- Steps that store no word of a task leave those words as they are.
use Rattle.std.proofs.Common.{ℕ, List, Bool, true, false, Some, None, Option, refl}
use Rattle.std.specs.Prelude.{◌&&◌}
use Rattle.core_data.specs.Queue.{Queue}
use Rattle.core_data.specs.Columns.{Columns, put, put_at}
use Rattle.core_data.specs.declared.values.TaskVal.{TaskVal}
use Rattle.core_data.specs.declared.values.WaitEntry.{WaitEntry}
use Rattle.core_data.specs.declared.values.WorkItem.{WorkItem}
use Rattle.core_gives.specs.Queues.{give_queue, give_up_if, gives_up}
use Rattle.core_gives.specs.Waits.{give_wait, give_by, walked_if, is_walk}
use Rattle.core_kinds.specs.Locks.{take_task, give_task, take_queue, take_wait, take_works, give_works}
use Rattle.core_kinds.specs.Running.{body_out, body_home}
use Rattle.core_kinds.specs.Waking.{load_state, load_rq, load_busy, load_cpu, load_count, load_cond, bump}
use Rattle.core_law.specs.StepLaws.{HasSameWords}
use Rattle.core_locks.proofs.Branches.{IsLoadFree, load_state-keeps, load_rq-keeps, load_busy-keeps, load_cond-keeps}
use Rattle.handoff_data.specs.declared.state.State.{State}

start : (core : Columns) (u : ℕ) → HasSameWords core core u
start core u = record { state = refl; on_rq = refl; changes = refl; on_cpu = refl; cpu = refl }

load_free : (core : Columns) (u s t : ℕ) → IsLoadFree (λ next. HasSameWords core next u) s t
load_free core u s t =
    record {
      reads = λ next r p. assumption p;
      seen = λ next x p. assumption p;
      log = λ next x p. assumption p;
      matched = λ next p. assumption p;
      saw_off = λ next p. assumption p;
      saw_clear = λ next p. assumption p;
      saw_rest = λ next p. assumption p;
      saw_rest_off = λ next p. assumption p;
      saw_rest_idle = λ next p. assumption p;
      passed = λ next p. assumption p;
    }

pub same-take_task : (core : Columns) (s t u : ℕ) → HasSameWords core (take_task core s t) u
same-take_task core s t u = record { state = refl; on_rq = refl; changes = refl; on_cpu = refl; cpu = refl }

pub same-give_task : (core : Columns) (s t : ℕ) (val : TaskVal) (u : ℕ) → HasSameWords core (give_task core s t val) u
same-give_task core s t val u = record { state = refl; on_rq = refl; changes = refl; on_cpu = refl; cpu = refl }

pub same-take_queue : (core : Columns) (s c u : ℕ) → HasSameWords core (take_queue core s c) u
same-take_queue core s c u = record { state = refl; on_rq = refl; changes = refl; on_cpu = refl; cpu = refl }

given_up : (b : Bool) (core next : Columns) (s u : ℕ) → HasSameWords core next u → HasSameWords core (give_up_if b next s) u
given_up true core next s u p = assumption p
given_up false core next s u p = p

pub same-give_queue : (core : Columns) (s c : ℕ) (queue : Queue) (u : ℕ) → HasSameWords core (give_queue core s c queue) u
same-give_queue core s c queue u =
    let given = record core {
      queue_lock = put core.queue_lock c None;
      queue = put core.queue c (Some queue);
      queue_held = put_at core.queue_held s c None;
    } in
    let start : HasSameWords core given u = record { state = refl; on_rq = refl; changes = refl; on_cpu = refl; cpu = refl } in
    let p = given_up (gives_up s c queue) core given s u start in
    assumption p

pub same-take_wait : (core : Columns) (s k u : ℕ) → HasSameWords core (take_wait core s k) u
same-take_wait core s k u = record { state = refl; on_rq = refl; changes = refl; on_cpu = refl; cpu = refl }

walked : (b : Bool) (core next : Columns) (s k u : ℕ) → HasSameWords core next u → HasSameWords core (walked_if b next s k) u
walked true core next s k u p = assumption p
walked false core next s k u p = p

given_by : (o : Option (List WaitEntry)) (core : Columns) (s k : ℕ) (given : List WaitEntry) (u : ℕ) → HasSameWords core (give_by core s k given o) u
given_by None core s k given u = start core u
given_by (Some taken) core s k given u =
    walked (core.owes_walk s k && (core.has_retaken s k && is_walk (core.has_passed s k) taken)) core _ s k u (record { state = refl; on_rq = refl; changes = refl; on_cpu = refl; cpu = refl })

pub same-give_wait : (core : Columns) (s k : ℕ) (given : List WaitEntry) (u : ℕ) → HasSameWords core (give_wait core s k given) u
same-give_wait core s k given u = given_by (core.wait_held s k) core s k given u

pub same-take_works : (core : Columns) (s c u : ℕ) → HasSameWords core (take_works core s c) u
same-take_works core s c u = record { state = refl; on_rq = refl; changes = refl; on_cpu = refl; cpu = refl }

pub same-give_works : (core : Columns) (s c : ℕ) (val : List WorkItem) (u : ℕ) → HasSameWords core (give_works core s c val) u
same-give_works core s c val u = record { state = refl; on_rq = refl; changes = refl; on_cpu = refl; cpu = refl }

pub same-body_out : (core : Columns) (s t u : ℕ) → HasSameWords core (body_out core s t) u
same-body_out core s t u = record { state = refl; on_rq = refl; changes = refl; on_cpu = refl; cpu = refl }

pub same-body_home : (core : Columns) (s t : ℕ) (ended : Bool) (u : ℕ) → HasSameWords core (body_home core s t ended) u
same-body_home core s t ended u = record { state = refl; on_rq = refl; changes = refl; on_cpu = refl; cpu = refl }

pub same-load_state : (core : Columns) (s t : ℕ) (mask : Option State) (u : ℕ) → HasSameWords core (load_state core s t mask) u
same-load_state core s t mask u = load_state-keeps (λ next. HasSameWords core next u) core s t mask (load_free core u s t) (start core u)

pub same-load_rq : (core : Columns) (s t u : ℕ) → HasSameWords core (load_rq core s t) u
same-load_rq core s t u = load_rq-keeps (λ next. HasSameWords core next u) core s t (load_free core u s t) (start core u)

pub same-load_busy : (core : Columns) (s t u : ℕ) → HasSameWords core (load_busy core s t) u
same-load_busy core s t u = load_busy-keeps (λ next. HasSameWords core next u) core s t (load_free core u s t) (start core u)

pub same-load_cpu : (core : Columns) (s t u : ℕ) → HasSameWords core (load_cpu core s t) u
same-load_cpu core s t u = record { state = refl; on_rq = refl; changes = refl; on_cpu = refl; cpu = refl }

pub same-load_count : (core : Columns) (s t u : ℕ) → HasSameWords core (load_count core s t) u
same-load_count core s t u = record { state = refl; on_rq = refl; changes = refl; on_cpu = refl; cpu = refl }

pub same-bump : (core : Columns) (s k u : ℕ) → HasSameWords core (bump core s k) u
same-bump core s k u = record { state = refl; on_rq = refl; changes = refl; on_cpu = refl; cpu = refl }

pub same-load_cond : (core : Columns) (s k u : ℕ) → HasSameWords core (load_cond core s k) u
same-load_cond core s k u = load_cond-keeps (λ next. HasSameWords core next u) core s k (λ next x p. assumption p) (start core u)
