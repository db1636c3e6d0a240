-- What each step may and may not change, by its kind.
use Rattle.std.proofs.Common.{ℕ, inl, refl, ◌∙◌}
use Rattle.core_data.specs.Columns.{Columns}
use Rattle.core_invariant.specs.Invariant.{Holds}
use Rattle.core_law.proofs.SameWords.{same-take_task, same-give_task, same-take_queue, same-give_queue, same-take_wait, same-give_wait, same-take_works, same-give_works, same-body_out, same-body_home}
use Rattle.core_law.proofs.SameWords.{same-load_state, same-load_rq, same-load_busy, same-load_cpu, same-load_count, same-bump, same-load_cond}
use Rattle.core_law.proofs.Stores.{ends-queue_task, ends-dequeue_task, ends-move_task, ends-set_busy, ends-clear_busy, ends-set_state, ends-claim, ends-make_runnable, ends-store_cpu, stores-set_state}
use Rattle.core_law.proofs.Stores.{stores-claim, stores-make_runnable, dead-set_state, dead-claim, dead-make_runnable}
use Rattle.core_law.proofs.Tests.{tests-give_queue, tests-give_wait, tests-set_busy, tests-set_state, tests-load_state, tests-load_rq, tests-load_busy, tests-load_cond}
use Rattle.core_law.specs.StepLaws.{KeepsTests, KeepsTheDead, StoresItsStates, EndsReads}
use Rattle.core_law.specs.Steps.{May, after}
use Rattle.core_law.specs.declared.step.StepKind.{StepKind}
use Rattle.core_law.specs.declared.step.StepKind.TheVariants.{TakeTask, GiveTask, TakeQueue, GiveQueue, TakeWait, GiveWait, TakeWorks, GiveWorks, BodyOut, BodyHome, QueueTask, DequeueTask, MoveTask}
use Rattle.core_law.specs.declared.step.StepKind.TheVariants.{SetBusy, ClearBusy, SetState, ClaimTask, MakeRunnable, LoadState, LoadRq, LoadBusy, LoadCpu, LoadCount, StoreCpu, Bump, LoadCond}

pub Ends-after : (core : Columns) (s : ℕ) (step : StepKind) → May core s step → EndsReads s core (after core s step)
Ends-after core s (TakeTask t) may = λ u. inl (same-take_task core s t u)
Ends-after core s (GiveTask t val stood done) may = λ u. inl (same-give_task core s t val u)
Ends-after core s (TakeQueue c) may = λ u. inl (same-take_queue core s c u)
Ends-after core s (GiveQueue c val) may = λ u. inl (same-give_queue core s c val u)
Ends-after core s (TakeWait k) may = λ u. inl (same-take_wait core s k u)
Ends-after core s (GiveWait k val) may = λ u. inl (same-give_wait core s k val u)
Ends-after core s (TakeWorks c) may = λ u. inl (same-take_works core s c u)
Ends-after core s (GiveWorks c val) may = λ u. inl (same-give_works core s c val u)
Ends-after core s (BodyOut t) may = λ u. inl (same-body_out core s t u)
Ends-after core s (BodyHome t ended) may = λ u. inl (same-body_home core s t ended u)
Ends-after core s (QueueTask c t) may = ends-queue_task core s c t
Ends-after core s (DequeueTask c t) may = ends-dequeue_task core s c t
Ends-after core s (MoveTask c t val) may = ends-move_task core s c t
Ends-after core s (SetBusy c t val) may = ends-set_busy core s c t
Ends-after core s (ClearBusy t) may = ends-clear_busy core s t
Ends-after core s (SetState t state) may = ends-set_state core s t state
Ends-after core s (ClaimTask t) may = ends-claim core s t
Ends-after core s (MakeRunnable t) may = ends-make_runnable core s t
Ends-after core s (LoadState t mask) may = λ u. inl (same-load_state core s t mask u)
Ends-after core s (LoadRq t) may = λ u. inl (same-load_rq core s t u)
Ends-after core s (LoadBusy t) may = λ u. inl (same-load_busy core s t u)
Ends-after core s (LoadCpu t) may = λ u. inl (same-load_cpu core s t u)
Ends-after core s (LoadCount t) may = λ u. inl (same-load_count core s t u)
Ends-after core s (StoreCpu t c) may = ends-store_cpu core s t c
Ends-after core s (Bump k) may = λ u. inl (same-bump core s k u)
Ends-after core s (LoadCond k) may = λ u. inl (same-load_cond core s k u)

pub Stores-after : (core : Columns) (s : ℕ) (step : StepKind) → May core s step → StoresItsStates s core (after core s step)
Stores-after core s (TakeTask t) may = λ u. inl (same-take_task core s t u).state
Stores-after core s (GiveTask t val stood done) may = λ u. inl (same-give_task core s t val u).state
Stores-after core s (TakeQueue c) may = λ u. inl (same-take_queue core s c u).state
Stores-after core s (GiveQueue c val) may = λ u. inl (same-give_queue core s c val u).state
Stores-after core s (TakeWait k) may = λ u. inl (same-take_wait core s k u).state
Stores-after core s (GiveWait k val) may = λ u. inl (same-give_wait core s k val u).state
Stores-after core s (TakeWorks c) may = λ u. inl (same-take_works core s c u).state
Stores-after core s (GiveWorks c val) may = λ u. inl (same-give_works core s c val u).state
Stores-after core s (BodyOut t) may = λ u. inl (same-body_out core s t u).state
Stores-after core s (BodyHome t ended) may = λ u. inl (same-body_home core s t ended u).state
Stores-after core s (QueueTask c t) may = λ u. inl refl
Stores-after core s (DequeueTask c t) may = λ u. inl refl
Stores-after core s (MoveTask c t val) may = λ u. inl refl
Stores-after core s (SetBusy c t val) may = λ u. inl refl
Stores-after core s (ClearBusy t) may = λ u. inl refl
Stores-after core s (SetState t state) may = stores-set_state core s t state may
Stores-after core s (ClaimTask t) may = stores-claim core s t may
Stores-after core s (MakeRunnable t) may = stores-make_runnable core s t may
Stores-after core s (LoadState t mask) may = λ u. inl (same-load_state core s t mask u).state
Stores-after core s (LoadRq t) may = λ u. inl (same-load_rq core s t u).state
Stores-after core s (LoadBusy t) may = λ u. inl (same-load_busy core s t u).state
Stores-after core s (LoadCpu t) may = λ u. inl (same-load_cpu core s t u).state
Stores-after core s (LoadCount t) may = λ u. inl (same-load_count core s t u).state
Stores-after core s (StoreCpu t c) may = λ u. inl refl
Stores-after core s (Bump k) may = λ u. inl (same-bump core s k u).state
Stores-after core s (LoadCond k) may = λ u. inl (same-load_cond core s k u).state

pub Dead-after : (core : Columns) (s : ℕ) (step : StepKind) → Holds core → May core s step → KeepsTheDead s core (after core s step)
Dead-after core s (TakeTask t) holds may = λ u dead other. (same-take_task core s t u).state ∙ dead
Dead-after core s (GiveTask t val stood done) holds may = λ u dead other. (same-give_task core s t val u).state ∙ dead
Dead-after core s (TakeQueue c) holds may = λ u dead other. (same-take_queue core s c u).state ∙ dead
Dead-after core s (GiveQueue c val) holds may = λ u dead other. (same-give_queue core s c val u).state ∙ dead
Dead-after core s (TakeWait k) holds may = λ u dead other. (same-take_wait core s k u).state ∙ dead
Dead-after core s (GiveWait k val) holds may = λ u dead other. (same-give_wait core s k val u).state ∙ dead
Dead-after core s (TakeWorks c) holds may = λ u dead other. (same-take_works core s c u).state ∙ dead
Dead-after core s (GiveWorks c val) holds may = λ u dead other. (same-give_works core s c val u).state ∙ dead
Dead-after core s (BodyOut t) holds may = λ u dead other. (same-body_out core s t u).state ∙ dead
Dead-after core s (BodyHome t ended) holds may = λ u dead other. (same-body_home core s t ended u).state ∙ dead
Dead-after core s (QueueTask c t) holds may = λ u dead other. dead
Dead-after core s (DequeueTask c t) holds may = λ u dead other. dead
Dead-after core s (MoveTask c t val) holds may = λ u dead other. dead
Dead-after core s (SetBusy c t val) holds may = λ u dead other. dead
Dead-after core s (ClearBusy t) holds may = λ u dead other. dead
Dead-after core s (SetState t state) holds may = dead-set_state core s t state may
Dead-after core s (ClaimTask t) holds may = dead-claim core s t holds may
Dead-after core s (MakeRunnable t) holds may = dead-make_runnable core s t holds may
Dead-after core s (LoadState t mask) holds may = λ u dead other. (same-load_state core s t mask u).state ∙ dead
Dead-after core s (LoadRq t) holds may = λ u dead other. (same-load_rq core s t u).state ∙ dead
Dead-after core s (LoadBusy t) holds may = λ u dead other. (same-load_busy core s t u).state ∙ dead
Dead-after core s (LoadCpu t) holds may = λ u dead other. (same-load_cpu core s t u).state ∙ dead
Dead-after core s (LoadCount t) holds may = λ u dead other. (same-load_count core s t u).state ∙ dead
Dead-after core s (StoreCpu t c) holds may = λ u dead other. dead
Dead-after core s (Bump k) holds may = λ u dead other. (same-bump core s k u).state ∙ dead
Dead-after core s (LoadCond k) holds may = λ u dead other. (same-load_cond core s k u).state ∙ dead

pub Tests-after : (core : Columns) (s : ℕ) (step : StepKind) → May core s step → KeepsTests s core (after core s step)
Tests-after core s (TakeTask t) may = λ x u l. inl refl
Tests-after core s (GiveTask t val stood done) may = λ x u l. inl refl
Tests-after core s (TakeQueue c) may = λ x u l. inl refl
Tests-after core s (GiveQueue c val) may = tests-give_queue core s c val
Tests-after core s (TakeWait k) may = λ x u l. inl refl
Tests-after core s (GiveWait k val) may = tests-give_wait core s k val
Tests-after core s (TakeWorks c) may = λ x u l. inl refl
Tests-after core s (GiveWorks c val) may = λ x u l. inl refl
Tests-after core s (BodyOut t) may = λ x u l. inl refl
Tests-after core s (BodyHome t ended) may = λ x u l. inl refl
Tests-after core s (QueueTask c t) may = λ x u l. inl refl
Tests-after core s (DequeueTask c t) may = λ x u l. inl refl
Tests-after core s (MoveTask c t val) may = λ x u l. inl refl
Tests-after core s (SetBusy c t val) may = tests-set_busy core s c t
Tests-after core s (ClearBusy t) may = λ x u l. inl refl
Tests-after core s (SetState t state) may = tests-set_state core s t state may
Tests-after core s (ClaimTask t) may = λ x u l. inl refl
Tests-after core s (MakeRunnable t) may = λ x u l. inl refl
Tests-after core s (LoadState t mask) may = tests-load_state core s t mask
Tests-after core s (LoadRq t) may = tests-load_rq core s t
Tests-after core s (LoadBusy t) may = tests-load_busy core s t
Tests-after core s (LoadCpu t) may = λ x u l. inl refl
Tests-after core s (LoadCount t) may = λ x u l. inl refl
Tests-after core s (StoreCpu t c) may = λ x u l. inl refl
Tests-after core s (Bump k) may = λ x u l. inl refl
Tests-after core s (LoadCond k) may = tests-load_cond core s k
