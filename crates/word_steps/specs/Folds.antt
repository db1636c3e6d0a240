-- What a seat's trace tells, newest step first: one fold for each column of the core that is a seat's.
-- Each ends with "any other step leaves it", so that it computes on a trace with one step more.
use Rattle.std.specs.Prelude.{ℕ, ◌+◌, ◌==◌, ◌&&◌, ◌++◌, ◌∷◌, [], Bool, true, false, List, Option, Some, None, is_none}
use Rattle.std.specs.Prelude.{is_some, if◌then◌else◌}
use mathlib.Core.Bool.{not}
use Rattle.handoff_data.specs.declared.entry.Entry.{Entry}
use Rattle.handoff_data.specs.declared.entry.Entry.TheVariants as entry
use Rattle.handoff_data.specs.declared.state.State.{State}
use Rattle.core_data.specs.Found.{no_reads}
use Rattle.core_data.specs.Noted.{given_asleep}
use Rattle.core_data.specs.Queue.{Queue}
use Rattle.core_data.specs.Columns.{put}
use Rattle.core_data.specs.declared.pos.TaskReads.{TaskReads}
use Rattle.core_data.specs.declared.values.TaskVal.{TaskVal}
use Rattle.core_data.specs.declared.values.WaitEntry.{WaitEntry}
use Rattle.core_data.specs.declared.values.WorkItem.{WorkItem}
use Rattle.core_gives.specs.Queues.{gives_up}
use Rattle.core_gives.specs.Waits.{sleeper_of, is_walk}
use Rattle.core_kinds.specs.Running.{queue_entry, dequeue_entry}
use Rattle.core_kinds.specs.Steps.{normal, is_sleep, is_match, kept_reads, numbered_reads, waking}
use Rattle.core_kinds.specs.Waking.{is_some_of, is_matched, is_refused, state_read, rq_read, busy_read, cpu_read}
use Rattle.core_kinds.specs.Waking.{level_read}
use Rattle.word_steps.specs.Records.{Rec, Took, Gave, OutBody, HomeBody, Queued, Dequeued, Moved, SetBusy, ClearedBusy}
use Rattle.word_steps.specs.Records.{StateSet, Claimed, MadeRunnable, LoadedState, LoadedRq, LoadedBusy, LoadedCpu}
use Rattle.word_steps.specs.Records.{LoadedCount, StoredCpu, Bumped, LoadedCond}
use Rattle.word_steps.specs.declared.val.Val.TheVariants as val

-- f with v at the number, where there is one
abbrev pub put_some : {A : Type 0} → Option ℕ → A → (ℕ → A) → ℕ → A
put_some None v f = f
put_some (Some n) v f = put f n v

-- f with v at k for each number of the first kind, and for each of the second
abbrev pub put_row : {A : Type 0} → (ℕ → ℕ → A) → ℕ → A → ℕ → ℕ → A
put_row f n v k t = if k == n then v else f k t

abbrev pub put_column : {A : Type 0} → (ℕ → ℕ → A) → ℕ → A → ℕ → ℕ → A
put_column f n v k t = if t == n then v else f k t

abbrev pub put_if : {A : Type 0} → Bool → ℕ → A → (ℕ → A) → ℕ → A
put_if true n v f = put f n v
put_if false n v f = f

abbrev pub put_row_if : {A : Type 0} → Bool → ℕ → A → (ℕ → ℕ → A) → ℕ → ℕ → A
put_row_if true n v f = put_row f n v
put_row_if false n v f = f

abbrev pub put_column_if : {A : Type 0} → Bool → ℕ → A → (ℕ → ℕ → A) → ℕ → ℕ → A
put_column_if true n v f = put_column f n v
put_column_if false n v f = f

-- the task whose lock is taken
abbrev pub taken_task : Rec → Option ℕ
taken_task (Took t (val.Task v)) = Some t
taken_task r = None

-- the task that has a word stored
abbrev pub stored_task : Rec → Option ℕ
stored_task (Queued t c on m) = Some t
stored_task (Dequeued t c m) = Some t
stored_task (Moved t c m) = Some t
stored_task (SetBusy t c n) = Some t
stored_task (ClearedBusy t n) = Some t
stored_task (StateSet t state) = Some t
stored_task (Claimed t m) = Some t
stored_task (MadeRunnable t) = Some t
stored_task (StoredCpu t c) = Some t
stored_task r = None

-- the task of which nothing read before counts any more
abbrev pub renewed_task : Rec → Option ℕ
renewed_task (Took t (val.Task v)) = Some t
renewed_task r = stored_task r

-- Locks and bodies

-- the values of the locks that the seat holds, as they were taken
abbrev pub task_after : Rec → (ℕ → Option TaskVal) → ℕ → Option TaskVal
task_after (Took t (val.Task v)) h = put h t (Some v)
task_after (Gave t (val.Task v) given) h = put h t None
task_after r h = h

abbrev pub task_held : List Rec → ℕ → Option TaskVal
task_held [] = λ t. None
task_held (r ∷ rs) = task_after r (task_held rs)

abbrev pub queue_after : Rec → (ℕ → Option Queue) → ℕ → Option Queue
queue_after (Took c (val.Queue v)) h = put h c (Some v)
queue_after (Gave c (val.Queue v) given) h = put h c None
queue_after r h = h

abbrev pub queue_held : List Rec → ℕ → Option Queue
queue_held [] = λ c. None
queue_held (r ∷ rs) = queue_after r (queue_held rs)

abbrev pub works_after : Rec → (ℕ → Option (List WorkItem)) → ℕ → Option (List WorkItem)
works_after (Took c (val.Works v)) h = put h c (Some v)
works_after (Gave c (val.Works v) given) h = put h c None
works_after r h = h

abbrev pub works_held : List Rec → ℕ → Option (List WorkItem)
works_held [] = λ c. None
works_held (r ∷ rs) = works_after r (works_held rs)

abbrev pub wait_after : Rec → (ℕ → Option (List WaitEntry)) → ℕ → Option (List WaitEntry)
wait_after (Took k (val.Wait v)) h = put h k (Some v)
wait_after (Gave k (val.Wait v) given) h = put h k None
wait_after r h = h

abbrev pub wait_held : List Rec → ℕ → Option (List WaitEntry)
wait_held [] = λ k. None
wait_held (r ∷ rs) = wait_after r (wait_held rs)

-- the task whose body the seat has out
abbrev pub body_after : Rec → Option ℕ → Option ℕ
body_after (OutBody t ended) h = Some t
body_after (HomeBody t ended) h = None
body_after r h = h

abbrev pub body_held : List Rec → Option ℕ
body_held [] = None
body_held (r ∷ rs) = body_after r (body_held rs)

-- whether the body of its current task has ended, as the seat took it out or put it home since the pick
abbrev pub ended_after : Rec → (ℕ → Option Bool) → ℕ → Option Bool
ended_after (OutBody t ended) h = put h t (Some ended)
ended_after (HomeBody t ended) h = put h t (Some ended)
ended_after (SetBusy t c n) h = put h t None
ended_after r h = h

abbrev pub ended_known : List Rec → ℕ → Option Bool
ended_known [] = λ t. None
ended_known (r ∷ rs) = ended_after r (ended_known rs)

-- Of the seat s itself

-- the current task
abbrev pub current_after : ℕ → Rec → Option ℕ → Option ℕ
current_after s (SetBusy t c n) h = Some t
current_after s (Gave c (val.Queue taken) (val.Queue given)) h = if gives_up s c given then None else h
current_after s r h = h

abbrev pub current_task : ℕ → List Rec → Option ℕ
current_task s [] = None
current_task s (r ∷ rs) = current_after s r (current_task s rs)

-- the seat hasn't taken its current task off its queue since it picked it
abbrev pub stays_after : Rec → Bool → Bool
stays_after (SetBusy t c n) h = true
stays_after (Dequeued t c m) h = false
stays_after r h = h

abbrev pub stays_queued : List Rec → Bool
stays_queued [] = false
stays_queued (r ∷ rs) = stays_after r (stays_queued rs)

-- the task whose busy word is left to clear
abbrev pub to_clear_after : ℕ → Rec → Option ℕ → Option ℕ → Option ℕ
to_clear_after s (ClearedBusy t n) current h = None
to_clear_after s (Gave c (val.Queue taken) (val.Queue given)) current h =
    if gives_up s c given then (if is_none current then h else current) else h
to_clear_after s r current h = h

abbrev pub task_to_clear : ℕ → List Rec → Option ℕ
task_to_clear s [] = None
task_to_clear s (r ∷ rs) = to_clear_after s r (current_task s rs) (task_to_clear s rs)

-- the state of its current task that it has read under its own queue's lock
abbrev pub seen_after : ℕ → Rec → Option ℕ → Bool → Option State → Option State
seen_after s (Took c (val.Queue v)) current own h = if s == c then None else h
seen_after s (Gave c (val.Queue taken) (val.Queue given)) current own h = if s == c then None else h
seen_after s (SetBusy t c n) current own h = None
seen_after s (StateSet t state) current own h = None
seen_after s (LoadedState t mask state) current own h = if is_some_of current t && own then Some state else h
seen_after s r current own h = h

abbrev pub seen_state : ℕ → List Rec → Option State
seen_state s [] = None
seen_state s (r ∷ rs) = seen_after s r (current_task s rs) (is_some (queue_held rs s)) (seen_state s rs)

-- the level of its current task, as it has read it since the pick
abbrev pub level_after : Rec → Option ℕ → Option ℕ → Option ℕ
level_after (SetBusy t c n) current h = None
level_after (LoadedCount t level) current h = level_read current t level h
level_after r current h = h

abbrev pub level_known : ℕ → List Rec → Option ℕ
level_known s [] = None
level_known s (r ∷ rs) = level_after r (current_task s rs) (level_known s rs)

-- Of each task

abbrev pub matched_after : Rec → (ℕ → Bool) → ℕ → Bool
matched_after (LoadedState t mask state) h = put_if (is_matched state mask) t true h
matched_after r h = put_some (taken_task r) false h

abbrev pub has_matched : List Rec → ℕ → Bool
has_matched [] = λ t. false
has_matched (r ∷ rs) = matched_after r (has_matched rs)

abbrev pub unstored_after : Rec → (ℕ → Bool) → ℕ → Bool
unstored_after (LoadedState t mask state) h = put_if (is_matched state mask) t true h
unstored_after r h = put_some (renewed_task r) false h

abbrev pub is_unstored : List Rec → ℕ → Bool
is_unstored [] = λ t. false
is_unstored (r ∷ rs) = unstored_after r (is_unstored rs)

abbrev pub off_after : Rec → (ℕ → Bool) → (ℕ → Bool) → ℕ → Bool
off_after (LoadedRq t on m) unstored h = put_if ((on == 0) && unstored t) t true h
off_after r unstored h = put_some (renewed_task r) false h

abbrev pub saw_off : List Rec → ℕ → Bool
saw_off [] = λ t. false
saw_off (r ∷ rs) = off_after r (is_unstored rs) (saw_off rs)

abbrev pub rest_after : Rec → (ℕ → Bool) → ℕ → Bool
rest_after (LoadedState t mask state) h = put_if (not (state.0 == waking.0)) t true h
rest_after r h = put_some (renewed_task r) false h

abbrev pub saw_rest : List Rec → ℕ → Bool
saw_rest [] = λ t. false
saw_rest (r ∷ rs) = rest_after r (saw_rest rs)

abbrev pub rest_off_after : Rec → (ℕ → Bool) → (ℕ → Bool) → ℕ → Bool
rest_off_after (LoadedRq t on m) rests h = put_if ((on == 0) && rests t) t true h
rest_off_after r rests h = put_some (renewed_task r) false h

abbrev pub saw_rest_off : List Rec → ℕ → Bool
saw_rest_off [] = λ t. false
saw_rest_off (r ∷ rs) = rest_off_after r (saw_rest rs) (saw_rest_off rs)

abbrev pub rest_idle_after : Rec → (ℕ → Bool) → (ℕ → Bool) → ℕ → Bool
rest_idle_after (LoadedBusy t busy n) rests h = put_if (not busy && rests t) t true h
rest_idle_after r rests h = put_some (renewed_task r) false h

abbrev pub saw_rest_idle : List Rec → ℕ → Bool
saw_rest_idle [] = λ t. false
saw_rest_idle (r ∷ rs) = rest_idle_after r (saw_rest_off rs) (saw_rest_idle rs)

abbrev pub claimed_after : Rec → (ℕ → Bool) → ℕ → Bool
claimed_after (Claimed t m) h = put h t true
claimed_after (Queued t c on m) h = put h t false
claimed_after r h = h

abbrev pub is_claimed : List Rec → ℕ → Bool
is_claimed [] = λ t. false
is_claimed (r ∷ rs) = claimed_after r (is_claimed rs)

abbrev pub clear_after : Rec → (ℕ → Bool) → ℕ → Bool
clear_after (Claimed t m) h = put h t false
clear_after (LoadedBusy t busy n) h = put_if (not busy) t true h
clear_after r h = h

abbrev pub saw_clear : List Rec → ℕ → Bool
saw_clear [] = λ t. false
saw_clear (r ∷ rs) = clear_after r (saw_clear rs)

abbrev pub stored_after : Rec → (ℕ → Bool) → ℕ → Bool
stored_after (Took t (val.Task v)) h = put h t false
stored_after r h = put_some (stored_task r) true h

abbrev pub has_stored : List Rec → ℕ → Bool
has_stored [] = λ t. false
has_stored (r ∷ rs) = stored_after r (has_stored rs)

abbrev pub slept_after : Rec → (ℕ → Bool) → ℕ → Bool
slept_after (StateSet t state) h = put_if (is_sleep state) t true h
slept_after (SetBusy t c n) h = put h t false
slept_after r h = h

abbrev pub has_slept : List Rec → ℕ → Bool
has_slept [] = λ t. false
has_slept (r ∷ rs) = slept_after r (has_slept rs)

abbrev pub requeued_after : Rec → (ℕ → Bool) → ℕ → Bool
requeued_after (Queued t c on m) h = put h t true
requeued_after (Dequeued t c m) h = put h t false
requeued_after (Moved t c m) h = put h t false
requeued_after r h = h

abbrev pub is_requeued : List Rec → ℕ → Bool
is_requeued [] = λ t. false
is_requeued (r ∷ rs) = requeued_after r (is_requeued rs)

-- the seat has taken t off a queue to move it, and hasn't queued it since
abbrev pub moving_after : Rec → (ℕ → Bool) → ℕ → Bool
moving_after (Took t (val.Task v)) h = put h t false
moving_after (Gave t (val.Task v) given) h = put h t false
moving_after (Queued t c on m) h = put h t false
moving_after (Dequeued t c m) h = put h t false
moving_after (Moved t c m) h = put h t true
moving_after r h = h

abbrev pub is_moving : List Rec → ℕ → Bool
is_moving [] = λ t. false
is_moving (r ∷ rs) = moving_after r (is_moving rs)

-- the number of the changes of t that the seat last read or made
abbrev pub number_after : Rec → (ℕ → Option ℕ) → ℕ → Option ℕ
number_after (Took t (val.Task v)) h = put h t None
number_after (LoadedRq t on m) h = put h t (Some m)
number_after (Queued t c on m) h = put h t (Some (m + 1))
number_after (Dequeued t c m) h = put h t (Some (m + 1))
number_after (Moved t c m) h = put h t (Some (m + 1))
number_after r h = h

abbrev pub number_read : List Rec → ℕ → Option ℕ
number_read [] = λ t. None
number_read (r ∷ rs) = number_after r (number_read rs)

-- the last reads in their order
abbrev pub reads_after : Rec → (ℕ → TaskReads) → ℕ → TaskReads
reads_after (Took t (val.Task v)) h = put h t (no_reads t)
reads_after (Queued t c on m) h = put h t (numbered_reads t (m + 1) (h t))
reads_after (Dequeued t c m) h = put h t (numbered_reads t (m + 1) (h t))
reads_after (Moved t c m) h = put h t (numbered_reads t (m + 1) (h t))
reads_after (SetBusy t c n) h = put h t (kept_reads t (h t))
reads_after (ClearedBusy t n) h = put h t (kept_reads t (h t))
reads_after (StateSet t state) h = put h t (kept_reads t (h t))
reads_after (Claimed t m) h = put h t (kept_reads t (h t))
reads_after (MadeRunnable t) h = put h t (kept_reads t (h t))
reads_after (StoredCpu t c) h = put h t (kept_reads t (cpu_read t c (h t)))
reads_after (LoadedState t mask state) h = put h t (state_read t state (h t))
reads_after (LoadedRq t on m) h = put h t (rq_read t on m (h t))
reads_after (LoadedBusy t busy n) h = put h t (busy_read t busy (h t))
reads_after (LoadedCpu t c) h = put h t (cpu_read t c (h t))
reads_after r h = h

abbrev pub last_reads : List Rec → ℕ → TaskReads
last_reads [] = λ t. no_reads t
last_reads (r ∷ rs) = reads_after r (last_reads rs)

-- Of each processor and task, since the lock of the processor's queue was taken

abbrev pub idle_after : Rec → (ℕ → ℕ → Bool) → ℕ → ℕ → Bool
idle_after (Took c (val.Queue v)) h = put_row h c false
idle_after (LoadedBusy t busy n) h = put_column_if (not busy) t true h
idle_after r h = h

abbrev pub saw_idle : List Rec → ℕ → ℕ → Bool
saw_idle [] = λ c t. false
saw_idle (r ∷ rs) = idle_after r (saw_idle rs)

abbrev pub added_after : Rec → (ℕ → ℕ → Bool) → ℕ → ℕ → Bool
added_after (Took c (val.Queue v)) h = put_row h c false
added_after (Queued t c on m) h = put_column h t true
added_after r h = h

abbrev pub has_added : List Rec → ℕ → ℕ → Bool
has_added [] = λ c t. false
has_added (r ∷ rs) = added_after r (has_added rs)

abbrev pub dropped_after : Rec → (ℕ → ℕ → Bool) → ℕ → ℕ → Bool
dropped_after (Took c (val.Queue v)) h = put_row h c false
dropped_after (Dequeued t c m) h = put_column h t true
dropped_after (Moved t c m) h = put_column h t true
dropped_after r h = h

abbrev pub has_dropped : List Rec → ℕ → ℕ → Bool
has_dropped [] = λ c t. false
has_dropped (r ∷ rs) = dropped_after r (has_dropped rs)

-- `on_rq` of t was read as 1 since the locks of t and of the queue were taken, and t neither left a queue nor moved
-- since
abbrev pub queued_after : Rec → (ℕ → ℕ → Bool) → ℕ → ℕ → Bool
queued_after (Took t (val.Task v)) h = put_column h t false
queued_after (Took c (val.Queue v)) h = put_row h c false
queued_after (LoadedRq t on m) h = put_column_if (on == 1) t true h
queued_after (Dequeued t c m) h = put_column h t false
queued_after (Moved t c m) h = put_column h t false
queued_after (StoredCpu t c) h = put_column h t false
queued_after r h = h

abbrev pub saw_queued : List Rec → ℕ → ℕ → Bool
saw_queued [] = λ c t. false
saw_queued (r ∷ rs) = queued_after r (saw_queued rs)

-- f with v at t for n
abbrev pub put_both : {A : Type 0} → (ℕ → ℕ → A) → ℕ → ℕ → A → ℕ → ℕ → A
put_both f n t v k u = if (k == n) && (u == t) then v else f k u

-- the seat put t on this queue since it took the queue's lock, and didn't take it off since
abbrev pub put_after : Rec → (ℕ → ℕ → Bool) → ℕ → ℕ → Bool
put_after (Took c (val.Queue v)) h = put_row h c false
put_after (Queued t c on m) h = put_both h c t true
put_after (Dequeued t c m) h = put_column h t false
put_after (Moved t c m) h = put_column h t false
put_after r h = h

abbrev pub has_put : List Rec → ℕ → ℕ → Bool
has_put [] = λ c t. false
has_put (r ∷ rs) = put_after r (has_put rs)

-- Of each condition, and task, since the lock of its wait queue was taken

abbrev pub passed_after : Rec → (ℕ → ℕ → Bool) → ℕ → ℕ → Bool
passed_after (Took k (val.Wait v)) h = put_row h k false
passed_after (StateSet t state) h = put_column_if (state.0 == 0) t true h
passed_after (Claimed t m) h = put_column h t true
passed_after (MadeRunnable t) h = put_column h t true
passed_after (LoadedState t mask state) h = put_column_if (not (is_match state normal)) t true h
passed_after r h = h

abbrev pub has_passed : List Rec → ℕ → ℕ → Bool
has_passed [] = λ k t. false
has_passed (r ∷ rs) = passed_after r (has_passed rs)

abbrev pub own_stored_after : Rec → (ℕ → ℕ → Bool) → ℕ → ℕ → Bool
own_stored_after (Took k (val.Wait v)) h = put_row h k false
own_stored_after (StateSet t state) h = put_column h t true
own_stored_after r h = h

abbrev pub has_own_stored : List Rec → ℕ → ℕ → Bool
has_own_stored [] = λ k t. false
has_own_stored (r ∷ rs) = own_stored_after r (has_own_stored rs)

abbrev pub slept_in_after : Rec → (ℕ → ℕ → Bool) → ℕ → ℕ → Bool
slept_in_after (Took k (val.Wait v)) h = put_row h k false
slept_in_after (StateSet t state) h = put_column_if (is_sleep state) t true h
slept_in_after r h = h

abbrev pub has_slept_in : List Rec → ℕ → ℕ → Bool
has_slept_in [] = λ k t. false
has_slept_in (r ∷ rs) = slept_in_after r (has_slept_in rs)

abbrev pub retaken_after : Rec → (ℕ → Bool) → ℕ → Bool
retaken_after (Took k (val.Wait v)) h = put h k true
retaken_after (Bumped k v) h = put h k false
retaken_after r h = h

abbrev pub has_retaken : List Rec → ℕ → Bool
has_retaken [] = λ k. false
has_retaken (r ∷ rs) = retaken_after r (has_retaken rs)

-- a bump owes the condition a walk of all that waited when the lock was taken after it
abbrev pub owes_after : Rec → (ℕ → Bool) → (ℕ → ℕ → Bool) → (ℕ → Bool) → ℕ → Bool
owes_after (Bumped k v) retaken passed h = put h k true
owes_after (Gave k (val.Wait taken) (val.Wait given)) retaken passed h =
    put_if (h k && (retaken k && is_walk (passed k) taken)) k false h
owes_after r retaken passed h = h

abbrev pub owes_walk : List Rec → ℕ → Bool
owes_walk [] = λ k. false
owes_walk (r ∷ rs) = owes_after r (has_retaken rs) (has_passed rs) (owes_walk rs)

-- what a current task that has slept tested
abbrev pub put_test_if : Bool → ℕ → ℕ → ℕ → (ℕ → ℕ → Option ℕ) → ℕ → ℕ → Option ℕ
put_test_if true t k v h = λ u l. if (u == t) && (l == k) then Some v else h u l
put_test_if false t k v h = h

abbrev pub put_test : Option ℕ → (ℕ → Bool) → ℕ → ℕ → (ℕ → ℕ → Option ℕ) → ℕ → ℕ → Option ℕ
put_test None slept k v h = h
put_test (Some t) slept k v h = put_test_if (slept t) t k v h

abbrev pub test_after : Rec → Option ℕ → (ℕ → Bool) → (ℕ → ℕ → Option ℕ) → ℕ → ℕ → Option ℕ
test_after (SetBusy t c n) current slept h = put_row h t None
test_after (StateSet t state) current slept h = put_row_if (is_sleep state) t None h
test_after (LoadedCond k v) current slept h = put_test current slept k v h
test_after r current slept h = h

abbrev pub tested : ℕ → List Rec → ℕ → ℕ → Option ℕ
tested s [] = λ t k. None
tested s (r ∷ rs) = test_after r (current_task s rs) (has_slept rs) (tested s rs)

-- who was put to sleep where
abbrev pub asleep_after : Rec → Option ℕ → (ℕ → ℕ → Bool) → (ℕ → ℕ → Bool) → ℕ → ℕ → Bool
asleep_after (SetBusy t c n) current slept h = put_row h t false
asleep_after (StateSet t state) current slept h = put_row_if (is_sleep state) t false h
asleep_after (Gave k (val.Wait taken) (val.Wait given)) current slept h =
    given_asleep k taken given (sleeper_of current (slept k) given) h
asleep_after r current slept h = h

abbrev pub is_asleep : ℕ → List Rec → ℕ → ℕ → Bool
is_asleep s [] = λ t k. false
is_asleep s (r ∷ rs) = asleep_after r (current_task s rs) (has_slept_in rs) (is_asleep s rs)

-- The journal, oldest entry first

abbrev pub log_if : Bool → Entry → List Entry → List Entry
log_if true e h = h ++ e ∷ []
log_if false e h = h

abbrev pub journal_after : ℕ → Rec → Option State → List Entry → List Entry
journal_after s (Queued t c on m) seen h = h ++ queue_entry m on t c ∷ []
journal_after s (Dequeued t c m) seen h = h ++ dequeue_entry seen m t c ∷ []
journal_after s (Moved t c m) seen h = h ++ entry.Out t (m + 1) c ∷ []
journal_after s (SetBusy t c n) seen h = h ++ entry.Pick t (n + 1) c ∷ []
journal_after s (ClearedBusy t n) seen h = h ++ entry.Finish t (n + 1) s ∷ []
journal_after s (Claimed t m) seen h = h ++ entry.Wake t m ∷ []
journal_after s (LoadedState t mask state) seen h = log_if (is_refused state mask) (entry.Refused t state) h
journal_after s r seen h = h

abbrev pub journal : ℕ → List Rec → List Entry
journal s [] = []
journal s (r ∷ rs) = journal_after s r (seen_state s rs) (journal s rs)
