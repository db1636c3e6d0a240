-- The table after each store.
use Rattle.std.proofs.Common.{◌≡◌, ℕ, ◌<◌, List, [], ◌∷◌, ◌++◌, ◌==◌, Bool, true, false, Option, Some, None, get_or, sym, ◌∙◌, ap}
use Rattle.std.specs.Prelude.{◌&&◌, if◌then◌else◌}
use Rattle.std.specs.List.{filter}
use Rattle.std.specs.Vec.{with_item}
use Rattle.handoff_data.specs.declared.entry.Entry.{Entry}
use Rattle.handoff_data.specs.declared.state.State.{State}
use Rattle.core_data.specs.Holding.{Holding, is_other_task, is_other_queue, is_other_works, is_other_wait}
use Rattle.core_data.specs.Noted.{given_asleep}
use Rattle.core_data.specs.Position.{Position, is_other_test, is_test_of_other, is_sleep_of_other, is_reads_of_other, stays_asleep, newly_asleep}
use Rattle.core_data.specs.Queue.{Queue}
use Rattle.core_data.specs.Columns.{columns, put, put_at}
use Rattle.core_data.specs.declared.machine.Core.{Core}
use Rattle.core_data.specs.declared.pos.TaskReads.{TaskReads}
use Rattle.core_data.specs.declared.pos.Test.{Test}
use Rattle.core_data.specs.declared.seat.SeatCore.{SeatCore}
use Rattle.core_data.specs.declared.values.TaskVal.{TaskVal}
use Rattle.core_data.specs.declared.values.WaitEntry.{WaitEntry}
use Rattle.core_data.specs.declared.values.WorkItem.{WorkItem}
use Rattle.core_data.specs.declared.words.TaskWords.{TaskWords}
use Rattle.core_data.specs.declared.words.CpuWords.{CpuWords}
use Rattle.core_data.specs.declared.words.CondWords.{CondWords}
use Rattle.step_stores.proofs.FoundLemmas.{out_held_task, out_held_queue, out_held_works, out_held_wait, out_released_task, out_released_queue, out_released_works, out_released_wait, tested, untested}
use Rattle.step_stores.proofs.FoundLemmas.{woken, slept_on, read_so}
use Rattle.step_stores.proofs.Writes.{table-task, same-task, table-cpu, same-cpu, table-cond, same-cond, table-seat, same-seat, get-journal, get-task_out, get-queue_out, get-works_out, get-wait_out}
use Rattle.step_stores.proofs.Writes.{get-test, get-asleep, get-reads}

pub put_state_lem : (core : Core) (k : ℕ) (w : TaskWords) (state : State) → k < (columns core).tasks → w ≡ get_or core.tasks.items k w
    → columns (record core { tasks = with_item core.tasks k (record w { state = state }) }) ≡ record (columns core) { state = put (columns core).state k state }
put_state_lem core k w state h e = table-task core k (record w { state = state }) h ∙ (λ i. record (same-task core k w h e i) { state = put (columns core).state k state })

pub put_rq_lem : (core : Core) (k : ℕ) (w : TaskWords) (on_rq : ℕ) (changes : ℕ) → k < (columns core).tasks → w ≡ get_or core.tasks.items k w
    → columns (record core { tasks = with_item core.tasks k (record w { on_rq = on_rq; changes = changes }) })
    ≡ record (columns core) { on_rq = put (columns core).on_rq k on_rq; changes = put (columns core).changes k changes }
put_rq_lem core k w on_rq changes h e = table-task core k (record w { on_rq = on_rq; changes = changes }) h
    ∙ (λ i. record (same-task core k w h e i) { on_rq = put (columns core).on_rq k on_rq; changes = put (columns core).changes k changes })

pub put_busy_lem : (core : Core) (k : ℕ) (w : TaskWords) (on_cpu : Bool) (runs : ℕ) → k < (columns core).tasks → w ≡ get_or core.tasks.items k w
    → columns (record core { tasks = with_item core.tasks k (record w { on_cpu = on_cpu; runs = runs }) })
    ≡ record (columns core) { on_cpu = put (columns core).on_cpu k on_cpu; runs = put (columns core).runs k runs }
put_busy_lem core k w on_cpu runs h e = table-task core k (record w { on_cpu = on_cpu; runs = runs }) h
    ∙ (λ i. record (same-task core k w h e i) { on_cpu = put (columns core).on_cpu k on_cpu; runs = put (columns core).runs k runs })

pub put_cpu_lem : (core : Core) (k : ℕ) (w : TaskWords) (cpu : ℕ) → k < (columns core).tasks → w ≡ get_or core.tasks.items k w
    → columns (record core { tasks = with_item core.tasks k (record w { cpu = cpu }) }) ≡ record (columns core) { cpu = put (columns core).cpu k cpu }
put_cpu_lem core k w cpu h e = table-task core k (record w { cpu = cpu }) h ∙ (λ i. record (same-task core k w h e i) { cpu = put (columns core).cpu k cpu })

pub put_lock_lem : (core : Core) (k : ℕ) (w : TaskWords) (lock : Option ℕ) → k < (columns core).tasks → w ≡ get_or core.tasks.items k w
    → columns (record core { tasks = with_item core.tasks k (record w { lock = lock }) }) ≡ record (columns core) { lock = put (columns core).lock k lock }
put_lock_lem core k w lock h e = table-task core k (record w { lock = lock }) h ∙ (λ i. record (same-task core k w h e i) { lock = put (columns core).lock k lock })

pub put_val_lem : (core : Core) (k : ℕ) (w : TaskWords) (val : Option TaskVal) → k < (columns core).tasks → w ≡ get_or core.tasks.items k w
    → columns (record core { tasks = with_item core.tasks k (record w { val = val }) }) ≡ record (columns core) { val = put (columns core).val k val }
put_val_lem core k w val h e = table-task core k (record w { val = val }) h ∙ (λ i. record (same-task core k w h e i) { val = put (columns core).val k val })

pub take_body_lem : (core : Core) (k : ℕ) (w : TaskWords) → k < (columns core).tasks → w ≡ get_or core.tasks.items k w
    → columns (record core { tasks = with_item core.tasks k (record w { body = false }) }) ≡ record (columns core) { body = put (columns core).body k false }
take_body_lem core k w h e = table-task core k (record w { body = false }) h ∙ (λ i. record (same-task core k w h e i) { body = put (columns core).body k false })

pub put_body_lem : (core : Core) (k : ℕ) (w : TaskWords) (ended : Bool) → k < (columns core).tasks → w ≡ get_or core.tasks.items k w
    → columns (record core { tasks = with_item core.tasks k (record w { body = true; ended = ended }) })
    ≡ record (columns core) { body = put (columns core).body k true; ended = put (columns core).ended k ended }
put_body_lem core k w ended h e = table-task core k (record w { body = true; ended = ended }) h
    ∙ (λ i. record (same-task core k w h e i) { body = put (columns core).body k true; ended = put (columns core).ended k ended })

pub put_queue_lock_lem : (core : Core) (k : ℕ) (w : CpuWords) (lock : Option ℕ) → k < (columns core).cpus → w ≡ get_or core.cpus.items k w
    → columns (record core { cpus = with_item core.cpus k (record w { queue_lock = lock }) }) ≡ record (columns core) { queue_lock = put (columns core).queue_lock k lock }
put_queue_lock_lem core k w lock h e = table-cpu core k (record w { queue_lock = lock }) h ∙ (λ i. record (same-cpu core k w h e i) { queue_lock = put (columns core).queue_lock k lock })

pub put_queue_lem : (core : Core) (k : ℕ) (w : CpuWords) (val : Queue) → k < (columns core).cpus → w ≡ get_or core.cpus.items k w
    → columns (record core { cpus = with_item core.cpus k (record w { queue = (Some val) }) }) ≡ record (columns core) { queue = put (columns core).queue k (Some val) }
put_queue_lem core k w val h e = table-cpu core k (record w { queue = (Some val) }) h ∙ (λ i. record (same-cpu core k w h e i) { queue = put (columns core).queue k (Some val) })

pub put_works_lock_lem : (core : Core) (k : ℕ) (w : CpuWords) (lock : Option ℕ) → k < (columns core).cpus → w ≡ get_or core.cpus.items k w
    → columns (record core { cpus = with_item core.cpus k (record w { works_lock = lock }) }) ≡ record (columns core) { works_lock = put (columns core).works_lock k lock }
put_works_lock_lem core k w lock h e = table-cpu core k (record w { works_lock = lock }) h ∙ (λ i. record (same-cpu core k w h e i) { works_lock = put (columns core).works_lock k lock })

pub put_works_lem : (core : Core) (k : ℕ) (w : CpuWords) (val : List WorkItem) → k < (columns core).cpus → w ≡ get_or core.cpus.items k w
    → columns (record core { cpus = with_item core.cpus k (record w { works = (Some val) }) }) ≡ record (columns core) { works = put (columns core).works k (Some val) }
put_works_lem core k w val h e = table-cpu core k (record w { works = (Some val) }) h ∙ (λ i. record (same-cpu core k w h e i) { works = put (columns core).works k (Some val) })

pub put_cond_lem : (core : Core) (k : ℕ) (w : CondWords) (cond : ℕ) → k < (columns core).conds → w ≡ get_or core.conds.items k w
    → columns (record core { conds = with_item core.conds k (record w { cond = cond }) }) ≡ record (columns core) { cond = put (columns core).cond k cond }
put_cond_lem core k w cond h e = table-cond core k (record w { cond = cond }) h ∙ (λ i. record (same-cond core k w h e i) { cond = put (columns core).cond k cond })

pub put_wait_lock_lem : (core : Core) (k : ℕ) (w : CondWords) (lock : Option ℕ) → k < (columns core).conds → w ≡ get_or core.conds.items k w
    → columns (record core { conds = with_item core.conds k (record w { wait_lock = lock }) }) ≡ record (columns core) { wait_lock = put (columns core).wait_lock k lock }
put_wait_lock_lem core k w lock h e = table-cond core k (record w { wait_lock = lock }) h ∙ (λ i. record (same-cond core k w h e i) { wait_lock = put (columns core).wait_lock k lock })

pub put_wait_lem : (core : Core) (k : ℕ) (w : CondWords) (val : List WaitEntry) → k < (columns core).conds → w ≡ get_or core.conds.items k w
    → columns (record core { conds = with_item core.conds k (record w { wait = (Some val) }) }) ≡ record (columns core) { wait = put (columns core).wait k (Some val) }
put_wait_lem core k w val h e = table-cond core k (record w { wait = (Some val) }) h ∙ (λ i. record (same-cond core k w h e i) { wait = put (columns core).wait k (Some val) })

pub put_current_lem : (core : Core) (k : ℕ) (w : SeatCore) (t : Option ℕ) → k < (columns core).seats → w ≡ get_or core.seats.items k w
    → columns (record core { seats = with_item core.seats k (record w { current = t }) }) ≡ record (columns core) { current_task = put (columns core).current_task k t }
put_current_lem core k w t h e = table-seat core k (record w { current = t }) h ∙ (λ i. record (same-seat core k w h e i) { current_task = put (columns core).current_task k t })

pub take_queue_lem : (core : Core) (k : ℕ) (w : CpuWords) (v : Option Queue) → k < (columns core).cpus → w ≡ get_or core.cpus.items k w → v ≡ None
    → columns (record core { cpus = with_item core.cpus k (record w { queue = v }) }) ≡ record (columns core) { queue = put (columns core).queue k None }
take_queue_lem core k w v h e n = ap (λ o. columns (record core { cpus = with_item core.cpus k (record w { queue = o }) })) n ∙ table-cpu core k (record w { queue = None }) h
    ∙ (λ i. record (same-cpu core k w h e i) { queue = put (columns core).queue k None })

pub take_works_lem : (core : Core) (k : ℕ) (w : CpuWords) (v : Option (List WorkItem)) → k < (columns core).cpus → w ≡ get_or core.cpus.items k w → v ≡ None
    → columns (record core { cpus = with_item core.cpus k (record w { works = v }) }) ≡ record (columns core) { works = put (columns core).works k None }
take_works_lem core k w v h e n = ap (λ o. columns (record core { cpus = with_item core.cpus k (record w { works = o }) })) n ∙ table-cpu core k (record w { works = None }) h
    ∙ (λ i. record (same-cpu core k w h e i) { works = put (columns core).works k None })

pub take_wait_lem : (core : Core) (k : ℕ) (w : CondWords) (v : Option (List WaitEntry)) → k < (columns core).conds → w ≡ get_or core.conds.items k w → v ≡ None
    → columns (record core { conds = with_item core.conds k (record w { wait = v }) }) ≡ record (columns core) { wait = put (columns core).wait k None }
take_wait_lem core k w v h e n = ap (λ o. columns (record core { conds = with_item core.conds k (record w { wait = o }) })) n ∙ table-cond core k (record w { wait = None }) h
    ∙ (λ i. record (same-cond core k w h e i) { wait = put (columns core).wait k None })

pub put_body_out_lem : (core : Core) (k : ℕ) (w : SeatCore) (new : Holding) (t : Option ℕ) → k < (columns core).seats → w ≡ get_or core.seats.items k w
    → new ≡ record w.held { body = t } → columns (record core { seats = with_item core.seats k (record w { held = new }) }) ≡ record (columns core) { body_held = put (columns core).body_held k t }
put_body_out_lem core k w new t h e is =
    ap (λ x. columns (record core { seats = with_item core.seats k (record w { held = x }) })) is
    ∙ table-seat core k (record w { held = record w.held { body = t } }) h
    ∙ (λ i. record (same-seat core k w h e i) { body_held = put (columns core).body_held k t })

pub put_to_clear_lem : (core : Core) (k : ℕ) (w : SeatCore) (new : Position) (t : Option ℕ) → k < (columns core).seats → w ≡ get_or core.seats.items k w
    → new ≡ record w.pos { to_clear = t }
    → columns (record core { seats = with_item core.seats k (record w { pos = new }) }) ≡ record (columns core) { task_to_clear = put (columns core).task_to_clear k t }
put_to_clear_lem core k w new t h e is =
    ap (λ x. columns (record core { seats = with_item core.seats k (record w { pos = x }) })) is
    ∙ table-seat core k (record w { pos = record w.pos { to_clear = t } }) h
    ∙ (λ i. record (same-seat core k w h e i) { task_to_clear = put (columns core).task_to_clear k t })

pub put_seen_lem : (core : Core) (k : ℕ) (w : SeatCore) (new : Position) (state : Option State) → k < (columns core).seats → w ≡ get_or core.seats.items k w
    → new ≡ record w.pos { seen = state }
    → columns (record core { seats = with_item core.seats k (record w { pos = new }) }) ≡ record (columns core) { seen_state = put (columns core).seen_state k state }
put_seen_lem core k w new state h e is =
    ap (λ x. columns (record core { seats = with_item core.seats k (record w { pos = x }) })) is
    ∙ table-seat core k (record w { pos = record w.pos { seen = state } }) h
    ∙ (λ i. record (same-seat core k w h e i) { seen_state = put (columns core).seen_state k state })

pub put_level_known_lem : (core : Core) (k : ℕ) (w : SeatCore) (new : Position) (level : Option ℕ) → k < (columns core).seats → w ≡ get_or core.seats.items k w
    → new ≡ record w.pos { level_known = level }
    → columns (record core { seats = with_item core.seats k (record w { pos = new }) }) ≡ record (columns core) { level_known = put (columns core).level_known k level }
put_level_known_lem core k w new level h e is =
    ap (λ x. columns (record core { seats = with_item core.seats k (record w { pos = x }) })) is
    ∙ table-seat core k (record w { pos = record w.pos { level_known = level } }) h
    ∙ (λ i. record (same-seat core k w h e i) { level_known = put (columns core).level_known k level })

pub log_lem : (core : Core) (k : ℕ) (w : SeatCore) (new : List Entry) (entry : Entry) → k < (columns core).seats → w ≡ get_or core.seats.items k w → new ≡ w.journal ++ entry ∷ []
    → columns (record core { seats = with_item core.seats k (record w { journal = new }) }) ≡ record (columns core) { journal = put (columns core).journal k ((columns core).journal k ++ entry ∷ []) }
log_lem core k w new entry h e is =
    ap (λ x. columns (record core { seats = with_item core.seats k (record w { journal = x }) })) is
    ∙ table-seat core k (record w { journal = w.journal ++ entry ∷ [] }) h
    ∙ (λ i. record (same-seat core k w h e i) { journal = put (columns core).journal k (sym (get-journal core k w h e) i ++ entry ∷ []) })

pub hold_task_lem : (core : Core) (k : ℕ) (w : SeatCore) (new : Holding) (t : ℕ) (val : TaskVal) → k < (columns core).seats → w ≡ get_or core.seats.items k w
    → new ≡ record w.held { tasks = w.held.tasks ++ record { t = t; val = val } ∷ [] }
    → columns (record core { seats = with_item core.seats k (record w { held = new }) }) ≡ record (columns core) { task_held = put_at (columns core).task_held k t (Some val) }
hold_task_lem core k w new t val h e is =
    ap (λ x. columns (record core { seats = with_item core.seats k (record w { held = x }) })) is
    ∙ table-seat core k (record w { held = record w.held { tasks = w.held.tasks ++ record { t = t; val = val } ∷ [] } }) h
    ∙ (λ i. record (same-seat core k w h e i) { task_held = put (columns core).task_held k (out_held_task w.held.tasks t val ((columns core).task_held k) (get-task_out core k w h e) i) })

pub release_task_lem : (core : Core) (k : ℕ) (w : SeatCore) (new : Holding) (t : ℕ) → k < (columns core).seats → w ≡ get_or core.seats.items k w
    → new ≡ record w.held { tasks = filter (is_other_task t) w.held.tasks }
    → columns (record core { seats = with_item core.seats k (record w { held = new }) }) ≡ record (columns core) { task_held = put_at (columns core).task_held k t None }
release_task_lem core k w new t h e is =
    ap (λ x. columns (record core { seats = with_item core.seats k (record w { held = x }) })) is
    ∙ table-seat core k (record w { held = record w.held { tasks = filter (is_other_task t) w.held.tasks } }) h
    ∙ (λ i. record (same-seat core k w h e i) { task_held = put (columns core).task_held k (out_released_task w.held.tasks t ((columns core).task_held k) (get-task_out core k w h e) i) })

pub hold_queue_lem : (core : Core) (k : ℕ) (w : SeatCore) (new : Holding) (c : ℕ) (val : Queue) → k < (columns core).seats → w ≡ get_or core.seats.items k w
    → new ≡ record w.held { queues = w.held.queues ++ record { c = c; val = val } ∷ [] }
    → columns (record core { seats = with_item core.seats k (record w { held = new }) }) ≡ record (columns core) { queue_held = put_at (columns core).queue_held k c (Some val) }
hold_queue_lem core k w new c val h e is =
    ap (λ x. columns (record core { seats = with_item core.seats k (record w { held = x }) })) is
    ∙ table-seat core k (record w { held = record w.held { queues = w.held.queues ++ record { c = c; val = val } ∷ [] } }) h
    ∙ (λ i. record (same-seat core k w h e i) { queue_held = put (columns core).queue_held k (out_held_queue w.held.queues c val ((columns core).queue_held k) (get-queue_out core k w h e) i) })

pub release_queue_lem : (core : Core) (k : ℕ) (w : SeatCore) (new : Holding) (c : ℕ) → k < (columns core).seats → w ≡ get_or core.seats.items k w
    → new ≡ record w.held { queues = filter (is_other_queue c) w.held.queues }
    → columns (record core { seats = with_item core.seats k (record w { held = new }) }) ≡ record (columns core) { queue_held = put_at (columns core).queue_held k c None }
release_queue_lem core k w new c h e is =
    ap (λ x. columns (record core { seats = with_item core.seats k (record w { held = x }) })) is
    ∙ table-seat core k (record w { held = record w.held { queues = filter (is_other_queue c) w.held.queues } }) h
    ∙ (λ i. record (same-seat core k w h e i) { queue_held = put (columns core).queue_held k (out_released_queue w.held.queues c ((columns core).queue_held k) (get-queue_out core k w h e) i) })

pub hold_works_lem : (core : Core) (k : ℕ) (w : SeatCore) (new : Holding) (c : ℕ) (val : List WorkItem) → k < (columns core).seats → w ≡ get_or core.seats.items k w
    → new ≡ record w.held { works = w.held.works ++ record { c = c; val = val } ∷ [] }
    → columns (record core { seats = with_item core.seats k (record w { held = new }) }) ≡ record (columns core) { works_held = put_at (columns core).works_held k c (Some val) }
hold_works_lem core k w new c val h e is =
    ap (λ x. columns (record core { seats = with_item core.seats k (record w { held = x }) })) is
    ∙ table-seat core k (record w { held = record w.held { works = w.held.works ++ record { c = c; val = val } ∷ [] } }) h
    ∙ (λ i. record (same-seat core k w h e i) { works_held = put (columns core).works_held k (out_held_works w.held.works c val ((columns core).works_held k) (get-works_out core k w h e) i) })

pub release_works_lem : (core : Core) (k : ℕ) (w : SeatCore) (new : Holding) (c : ℕ) → k < (columns core).seats → w ≡ get_or core.seats.items k w
    → new ≡ record w.held { works = filter (is_other_works c) w.held.works }
    → columns (record core { seats = with_item core.seats k (record w { held = new }) }) ≡ record (columns core) { works_held = put_at (columns core).works_held k c None }
release_works_lem core k w new c h e is =
    ap (λ x. columns (record core { seats = with_item core.seats k (record w { held = x }) })) is
    ∙ table-seat core k (record w { held = record w.held { works = filter (is_other_works c) w.held.works } }) h
    ∙ (λ i. record (same-seat core k w h e i) { works_held = put (columns core).works_held k (out_released_works w.held.works c ((columns core).works_held k) (get-works_out core k w h e) i) })

pub hold_wait_lem : (core : Core) (k : ℕ) (w : SeatCore) (new : Holding) (l : ℕ) (val : List WaitEntry) → k < (columns core).seats → w ≡ get_or core.seats.items k w
    → new ≡ record w.held { waits = w.held.waits ++ record { k = l; val = val } ∷ [] }
    → columns (record core { seats = with_item core.seats k (record w { held = new }) }) ≡ record (columns core) { wait_held = put_at (columns core).wait_held k l (Some val) }
hold_wait_lem core k w new l val h e is =
    ap (λ x. columns (record core { seats = with_item core.seats k (record w { held = x }) })) is
    ∙ table-seat core k (record w { held = record w.held { waits = w.held.waits ++ record { k = l; val = val } ∷ [] } }) h
    ∙ (λ i. record (same-seat core k w h e i) { wait_held = put (columns core).wait_held k (out_held_wait w.held.waits l val ((columns core).wait_held k) (get-wait_out core k w h e) i) })

pub release_wait_lem : (core : Core) (k : ℕ) (w : SeatCore) (new : Holding) (l : ℕ) → k < (columns core).seats → w ≡ get_or core.seats.items k w
    → new ≡ record w.held { waits = filter (is_other_wait l) w.held.waits }
    → columns (record core { seats = with_item core.seats k (record w { held = new }) }) ≡ record (columns core) { wait_held = put_at (columns core).wait_held k l None }
release_wait_lem core k w new l h e is =
    ap (λ x. columns (record core { seats = with_item core.seats k (record w { held = x }) })) is
    ∙ table-seat core k (record w { held = record w.held { waits = filter (is_other_wait l) w.held.waits } }) h
    ∙ (λ i. record (same-seat core k w h e i) { wait_held = put (columns core).wait_held k (out_released_wait w.held.waits l ((columns core).wait_held k) (get-wait_out core k w h e) i) })

pub set_test_lem : (core : Core) (k : ℕ) (w : SeatCore) (new : Position) (test : Test) → k < (columns core).seats → w ≡ get_or core.seats.items k w
    → new ≡ record w.pos { tests = filter (is_other_test test) w.pos.tests ++ test ∷ [] }
    → columns (record core { seats = with_item core.seats k (record w { pos = new }) })
    ≡ record (columns core) { tested = put (columns core).tested k (λ t l. if (t == test.t) && (l == test.k) then Some test.v else (columns core).tested k t l) }
set_test_lem core k w new test h e is =
    ap (λ x. columns (record core { seats = with_item core.seats k (record w { pos = x }) })) is
    ∙ table-seat core k (record w { pos = record w.pos { tests = filter (is_other_test test) w.pos.tests ++ test ∷ [] } }) h
    ∙ (λ i. record (same-seat core k w h e i) { tested = put (columns core).tested k (tested w.pos.tests test ((columns core).tested k) (get-test core k w h e) i) })

pub forget_sleep_lem : (core : Core) (k : ℕ) (w : SeatCore) (new : Position) (t : ℕ) → k < (columns core).seats → w ≡ get_or core.seats.items k w
    → new ≡ record w.pos { tests = filter (is_test_of_other t) w.pos.tests; asleep = filter (is_sleep_of_other t) w.pos.asleep }
    → columns (record core { seats = with_item core.seats k (record w { pos = new }) })
    ≡ record (columns core) {
      tested = put (columns core).tested k (λ u l. if u == t then None else (columns core).tested k u l);
      is_asleep = put (columns core).is_asleep k (λ u l. if u == t then false else (columns core).is_asleep k u l);
    }
forget_sleep_lem core k w new t h e is =
    ap (λ x. columns (record core { seats = with_item core.seats k (record w { pos = x }) })) is
    ∙ table-seat core k (record w { pos = record w.pos { tests = filter (is_test_of_other t) w.pos.tests; asleep = filter (is_sleep_of_other t) w.pos.asleep } }) h
    ∙ (λ i. record (same-seat core k w h e i) {
      tested = put (columns core).tested k (untested w.pos.tests t ((columns core).tested k) (get-test core k w h e) i);
      is_asleep = put (columns core).is_asleep k (woken w.pos.asleep t ((columns core).is_asleep k) (get-asleep core k w h e) i);
    })

pub give_asleep_lem : (core : Core) (k : ℕ) (w : SeatCore) (new : Position) (l : ℕ) (taken : List WaitEntry) (given : List WaitEntry) (sleeper : Option ℕ) → k < (columns core).seats
    → w ≡ get_or core.seats.items k w → new ≡ record w.pos { asleep = filter (stays_asleep l taken given) w.pos.asleep ++ newly_asleep l sleeper }
    → columns (record core { seats = with_item core.seats k (record w { pos = new }) })
    ≡ record (columns core) { is_asleep = put (columns core).is_asleep k (given_asleep l taken given sleeper ((columns core).is_asleep k)) }
give_asleep_lem core k w new l taken given sleeper h e is =
    ap (λ x. columns (record core { seats = with_item core.seats k (record w { pos = x }) })) is
    ∙ table-seat core k (record w { pos = record w.pos { asleep = filter (stays_asleep l taken given) w.pos.asleep ++ newly_asleep l sleeper } }) h
    ∙ (λ i. record (same-seat core k w h e i) { is_asleep = put (columns core).is_asleep k (slept_on w.pos.asleep l taken given sleeper ((columns core).is_asleep k) (get-asleep core k w h e) i) })

pub set_reads_lem : (core : Core) (k : ℕ) (w : SeatCore) (new : Position) (reads : TaskReads) → k < (columns core).seats → w ≡ get_or core.seats.items k w
    → new ≡ record w.pos { reads = filter (is_reads_of_other reads.t) w.pos.reads ++ reads ∷ [] }
    → columns (record core { seats = with_item core.seats k (record w { pos = new }) }) ≡ record (columns core) { last_reads = put_at (columns core).last_reads k reads.t reads }
set_reads_lem core k w new reads h e is =
    ap (λ x. columns (record core { seats = with_item core.seats k (record w { pos = x }) })) is
    ∙ table-seat core k (record w { pos = record w.pos { reads = filter (is_reads_of_other reads.t) w.pos.reads ++ reads ∷ [] } }) h
    ∙ (λ i. record (same-seat core k w h e i) { last_reads = put (columns core).last_reads k (read_so w.pos.reads reads ((columns core).last_reads k) (get-reads core k w h e) i) })
