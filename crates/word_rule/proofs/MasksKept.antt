-- Each task may run on some processor: kept by each kind of step.
use Rattle.std.proofs.Common.{◌≡◌, ℕ, ◌<◌, ◌≤◌, inl, inr, refl, sym, ap, subst, ◌∙◌, List, [], ◌∷◌, arith}
use Rattle.std.specs.Prelude.{◌↔◌, ◌&&◌, Bool, true, false, nat_lt, Option, Some, None, unwrap_or, IsSome, if◌then◌else◌}
use Rattle.std.proofs.lemmas.Bool.{cases_eq}
use Rattle.core_data.specs.Queue.{Queue}
use Rattle.core_data.specs.Columns.{Columns, put, put_at}
use Rattle.core_data.specs.declared.values.TaskVal.{TaskVal}
use Rattle.core_data.specs.declared.values.WaitEntry.{WaitEntry}
use Rattle.core_gives.specs.Queues.{give_up_if, gives_up}
use Rattle.core_gives.specs.Waits.{give_by, walked_if, is_walk}
use Rattle.core_kinds.specs.Locks.{IsKept, unseen}
use Rattle.core_law.specs.Steps.{May, after}
use Rattle.core_law.specs.declared.step.StepKind.{StepKind}
use Rattle.core_law.specs.declared.step.StepKind.TheVariants as step
use Rattle.core_locks.proofs.Branches.{IsLoadFree, load_state-keeps, load_rq-keeps, load_busy-keeps, load_cond-keeps, IsOwnFree, set_state-keeps}
use Rattle.core_stores.proofs.Columns.{put_there, put_other}
use Rattle.handoff_data.specs.Mask.{HasCpu}
use Rattle.handoff_data.specs.declared.mask.CpuMask.{CpuMask}
use Rattle.handoff_data.specs.declared.shape.Shape.{Shape}
use Rattle.word_rule.specs.Masks.{HasSome, HaveSome, MasksHold}
use Rattle.word_steps.specs.Decode.{Homes, core_of}
use Rattle.word_steps.specs.Events.{IsEvent}
use Rattle.word_steps.specs.Opening.{first_homes, first_val}
use Rattle.word_steps.specs.Records.{Rec}

same_value : (v w : TaskVal) → ◌≡◌ {A = Option TaskVal} (Some v) (Some w) → v ≡ w
same_value v w e = ap (λ (o : Option TaskVal). unwrap_or o v) e

-- the opening mask has processor 0
pub masks_start : (shape : Shape) (mask : CpuMask) (homes : Homes) → homes.task ≡ (first_homes shape mask).task
    → 1 ≤ shape.cpus → ((c : ℕ) → HasCpu mask c ↔ (c < shape.cpus)) → MasksHold homes (λ s. [])
masks_start shape mask homes same some all = record {
  at_home = λ t v e. first (nat_lt t shape.tasks) v (ap (λ (f : ℕ → Option TaskVal). f t) (sym same) ∙ e);
  taken = λ s t v e. absurd (grind (arith, e));
}
  where
    first : (b : Bool) (v : TaskVal) → (if b then Some (first_val mask) else None) ≡ Some v → HasSome v
    first true v e = subst HasSome (same_value (first_val mask) v e) (0, (all 0).1 (omega (arith, some)))
    first false v e = absurd (grind (arith, e))

-- a value where one was put, or as it was
of_put : (h : ℕ → Option TaskVal) (n : ℕ) (o : Option TaskVal) → ((v : TaskVal) → o ≡ Some v → HasSome v)
    → ((t : ℕ) (v : TaskVal) → h t ≡ Some v → HasSome v) → (t : ℕ) (v : TaskVal) → put h n o t ≡ Some v → HasSome v
of_put h n o now was t v e = elim (cases_eq t n) [
  | inl q ↦ now v (sym (put_there h n o t q) ∙ e)
  | inr apart ↦ was t v (sym (put_other h n o t apart) ∙ e)
]

-- .. of the values that the seats have out
of_put_at : (h : ℕ → ℕ → Option TaskVal) (s n : ℕ) (o : Option TaskVal) → ((v : TaskVal) → o ≡ Some v → HasSome v)
    → ((j t : ℕ) (v : TaskVal) → h j t ≡ Some v → HasSome v) → (j t : ℕ) (v : TaskVal) → put_at h s n o j t ≡ Some v → HasSome v
of_put_at h s n o now was j t v e = elim (cases_eq j s) [
  | inl q ↦ of_put (h s) n o now (was s) t v
      (ap (λ (f : ℕ → Option TaskVal). f t) (sym (put_there h s (put (h s) n o) j q)) ∙ e)
  | inr apart ↦ was j t v (ap (λ (f : ℕ → Option TaskVal). f t) (sym (put_other h s (put (h s) n o) j apart)) ∙ e)
]

-- of a core
abbrev Masks : Columns → Type 0
Masks core = HaveSome core.val core.task_held

-- no load takes or gives a task's lock
load_free : (s t : ℕ) → IsLoadFree Masks s t
load_free s t =
    record {
      reads = λ core r p. assumption (p);
      seen = λ core x p. assumption (p);
      log = λ core x p. assumption (p);
      matched = λ core p. assumption (p);
      saw_off = λ core p. assumption (p);
      saw_clear = λ core p. assumption (p);
      saw_rest = λ core p. assumption (p);
      saw_rest_off = λ core p. assumption (p);
      saw_rest_idle = λ core p. assumption (p);
      passed = λ core p. assumption (p);
    }

own_free : (s t : ℕ) → IsOwnFree Masks s t
own_free s t =
    record {
      forget = λ core x y p. assumption (p);
      slept = λ core p. assumption (p);
      passed = λ core p. assumption (p);
    }

given_queue : (b : Bool) (core : Columns) (s c : ℕ) (queue : Queue) → Masks core
    → Masks (unseen (give_up_if b (record core { queue_lock = put core.queue_lock c None; queue = put core.queue c (Some queue); queue_held = put_at core.queue_held s c None }) s) s c)
given_queue true core s c queue masks = assumption (masks)
given_queue false core s c queue masks = assumption (masks)

walked : (b : Bool) (core : Columns) (s k : ℕ) → Masks core → Masks (walked_if b core s k)
walked true core s k masks = assumption (masks)
walked false core s k masks = masks

given_wait : (core : Columns) (s k : ℕ) (given : List WaitEntry) (o : Option (List WaitEntry)) → Masks core
    → Masks (give_by core s k given o)
given_wait core s k given None masks = masks
given_wait core s k given (Some taken) masks =
    walked (core.owes_walk s k && (core.has_retaken s k && is_walk (core.has_passed s k) taken)) _ s k (assumption (masks))

same_mask : (taken given : TaskVal) → IsKept taken given → HasSome taken → HasSome given
same_mask taken given kept some = (some.0, subst (λ (m : CpuMask). HasCpu m some.0) (sym kept.mask) some.1)

-- the value that the seat has out is there
some_value : (o : Option TaskVal) → ((v : TaskVal) → o ≡ Some v → HasSome v) → IsSome o → (given : TaskVal)
    → ((v : TaskVal) → o ≡ Some v → IsKept v given) → HasSome given
some_value None some there given kept = absurd (grind (arith, there))
some_value (Some v) some there given kept = same_mask v given (kept v refl) (some v refl)

masks_after : (core : Columns) (s : ℕ) (kind : StepKind) → May core s kind → Masks core → Masks (after core s kind)
masks_after core s (step.TakeTask t) may masks = record {
  at_home = of_put core.val t None (λ v e. absurd (grind (arith, e))) masks.at_home;
  taken = of_put_at core.task_held s t (core.val t) (masks.at_home t) masks.taken;
}
masks_after core s (step.GiveTask t given stood done) may masks = record {
  at_home = of_put core.val t (Some given)
      (λ v e. subst HasSome (same_value given v e) (some_value (core.task_held s t) (masks.taken s t) may.out given may.kept))
      masks.at_home;
  taken = of_put_at core.task_held s t None (λ v e. absurd (grind (arith, e))) masks.taken;
}
masks_after core s (step.TakeQueue c) may masks = assumption (masks)
masks_after core s (step.GiveQueue c queue) may masks = given_queue (gives_up s c queue) core s c queue masks
masks_after core s (step.TakeWait k) may masks = assumption (masks)
masks_after core s (step.GiveWait k given) may masks = given_wait core s k given (core.wait_held s k) masks
masks_after core s (step.TakeWorks c) may masks = assumption (masks)
masks_after core s (step.GiveWorks c works) may masks = assumption (masks)
masks_after core s (step.BodyOut t) may masks = assumption (masks)
masks_after core s (step.BodyHome t ended) may masks = assumption (masks)
masks_after core s (step.QueueTask c t) may masks = assumption (masks)
masks_after core s (step.DequeueTask c t) may masks = assumption (masks)
masks_after core s (step.MoveTask c t queue) may masks = assumption (masks)
masks_after core s (step.SetBusy c t queue) may masks = assumption (masks)
masks_after core s (step.ClearBusy t) may masks = assumption (masks)
masks_after core s (step.SetState t state) may masks = set_state-keeps Masks core s t state (own_free s t) (assumption (masks))
masks_after core s (step.ClaimTask t) may masks = assumption (masks)
masks_after core s (step.MakeRunnable t) may masks = assumption (masks)
masks_after core s (step.LoadState t mask) may masks = load_state-keeps Masks core s t mask (load_free s t) masks
masks_after core s (step.LoadRq t) may masks = load_rq-keeps Masks core s t (load_free s t) masks
masks_after core s (step.LoadBusy t) may masks = load_busy-keeps Masks core s t (load_free s t) masks
masks_after core s (step.LoadCpu t) may masks = assumption (masks)
masks_after core s (step.LoadCount t) may masks = assumption (masks)
masks_after core s (step.StoreCpu t c) may masks = assumption (masks)
masks_after core s (step.Bump k) may masks = assumption (masks)
masks_after core s (step.LoadCond k) may masks = load_cond-keeps Masks core s k (λ next x p. assumption (p)) masks

pub masks_event : (shape : Shape) (words : ℕ → ℕ → ℕ) (homes : Homes) (traces : ℕ → List Rec) (s : ℕ) (r : Rec)
    (words' : ℕ → ℕ → ℕ) (homes' : Homes) → IsEvent shape words homes traces s r words' homes' → MasksHold homes traces
    → MasksHold homes' (put traces s (r ∷ traces s))
masks_event shape words homes traces s r words' homes' event masks =
    subst Masks (sym event.event.next_is) (masks_after (core_of shape words homes traces) s event.kind event.event.possible masks)
