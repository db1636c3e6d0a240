-- What a whole wake-up leaves as it was, by what its parts leave.
use Rattle.std.proofs.Common.{◌≡◌, ◌≢◌, ◌<◌, ◌∙◌, ℕ, suc, ◌∷◌, List, inl, inr, refl, sym, ap, subst, arith}
use Rattle.std.specs.Prelude.{Bool, true, false, ◌==◌, if◌then◌else◌, Option, Some}
use Rattle.std.proofs.lemmas.Bool.{cases_eq}
use Rattle.std.proofs.lemmas.Bool.Decides.{nat_tests}
use Rattle.core_data.specs.Queue.{Queue}
use Rattle.core_data.specs.declared.values.TaskVal.{TaskVal}
use Rattle.handoff_data.specs.declared.shape.Shape.{Shape}
use Rattle.handoff_data.specs.declared.state.State.{State}
use Rattle.run_queue.proofs.Apart.{apart_again, took_task_apart, gave_task_apart, state_apart, placed_apart}
use Rattle.run_queue.specs.Queueing.{placed}
use Rattle.ttwu_core.specs.Claims.{queued_woken}
use Rattle.run_queue.specs.Rests.{Rests, IsApart}
use Rattle.ttwu_core.specs.Keeps.{Keeps}
use Rattle.ttwu_core.specs.Wakes.{tested}
use Rattle.word_rule.specs.May.{MayGiveTaskVal}
use Rattle.word_steps.specs.Folds.{task_held, is_claimed, is_moving, number_read}
use Rattle.word_steps.specs.Records.{Rec, Took, Gave, LoadedCpu, StoredCpu}
use Rattle.word_steps.specs.declared.val.Val.TheVariants as val

pub keeps_again : (s : ℕ) (a b c : List Rec) → Keeps s a b → Keeps s b c → Keeps s a c
keeps_again s a b c x y = record {
  held = y.held ∙ x.held;
  free = λ f. y.free (x.free f);
  current = y.current ∙ x.current;
  clear = y.clear ∙ x.clear;
  apart = apart_again a b c x.apart y.apart;
}

either_keeps : (same : Bool) (s t c from : ℕ) (trace : List Rec)
    → IsApart trace (if same then LoadedCpu t from ∷ trace else StoredCpu t c ∷ LoadedCpu t from ∷ trace)
    → Keeps s trace (if same then LoadedCpu t from ∷ trace else StoredCpu t c ∷ LoadedCpu t from ∷ trace)
either_keeps true s t c from trace x = record { held = refl; free = λ f. f; current = refl; clear = refl; apart = x }
either_keeps false s t c from trace x = record { held = refl; free = λ f. f; current = refl; clear = refl; apart = x }

pub placed_keeps : (s t c from : ℕ) (trace : List Rec) → Keeps s trace (placed t from c trace)
placed_keeps s t c from trace = either_keeps (from == c) s t c from trace (placed_apart t c from trace)

either_claimed : (same : Bool) (t c from : ℕ) (trace : List Rec)
    → is_claimed (if same then LoadedCpu t from ∷ trace else StoredCpu t c ∷ LoadedCpu t from ∷ trace) ≡ is_claimed trace
either_claimed true t c from trace = refl
either_claimed false t c from trace = refl

pub placed_claimed : (t c from : ℕ) (trace : List Rec) → is_claimed (placed t from c trace) ≡ is_claimed trace
placed_claimed t c from trace = either_claimed (from == c) t c from trace

either_moving : (b : Bool) (t c from : ℕ) (trace : List Rec)
    → is_moving (if b then LoadedCpu t from ∷ trace else StoredCpu t c ∷ LoadedCpu t from ∷ trace) ≡ is_moving trace
either_moving true t c from trace = refl
either_moving false t c from trace = refl

pub placed_moving : (t c from : ℕ) (trace : List Rec) → is_moving (placed t from c trace) ≡ is_moving trace
placed_moving t c from trace = either_moving (from == c) t c from trace

either_numbers : (b : Bool) (t c from : ℕ) (trace : List Rec)
    → number_read (if b then LoadedCpu t from ∷ trace else StoredCpu t c ∷ LoadedCpu t from ∷ trace) ≡ number_read trace
either_numbers true t c from trace = refl
either_numbers false t c from trace = refl

pub placed_numbers : (t c from : ℕ) (trace : List Rec) → number_read (placed t from c trace) ≡ number_read trace
placed_numbers t c from trace = either_numbers (from == c) t c from trace

pub queued_others : (t c m : ℕ) (q : Queue) (trace : List Rec) (u : ℕ) → u ≢ t
    → is_claimed (queued_woken t c m q trace) u ≡ is_claimed trace u
queued_others t c m q trace u apart = grind (arith, nat_tests, apart)

pub queued_unclaimed : (t c m : ℕ) (q : Queue) (trace : List Rec) → is_claimed (queued_woken t c m q trace) t ≡ false
queued_unclaimed t c m q trace = grind (arith, nat_tests)

queued_unmoving : (t c m : ℕ) (q : Queue) (trace : List Rec) → is_moving (queued_woken t c m q trace) t ≡ false
queued_unmoving t c m q trace = grind (arith, nat_tests)

queued_number : (t c m : ℕ) (q : Queue) (trace : List Rec) → number_read (queued_woken t c m q trace) t ≡ Some (suc m)
queued_number t c m q trace = grind (arith, nat_tests)

-- the lock of a task that was queued under it may be given, with where the task was woken
pub woken_may_give : (shape : Shape) (s t c m : ℕ) (v : TaskVal) (q : Queue) (trace new : List Rec)
    → new ≡ queued_woken t c m q trace → task_held new t ≡ Some v → v.dest < shape.cpus → c < shape.cpus
    → MayGiveTaskVal s new shape t (record v { wake_cpu = c })
woken_may_give shape s t c m v q trace new did held dest woken = record {
  taken = v;
  held = held;
  kept = record { mask = refl; r = refl; narrowed = refl; pending = refl; stop_queued = refl };
  wake_cpu = woken;
  dest = dest;
  settled = inr (
    ap (λ (z : List Rec). is_claimed z t) did ∙ queued_unclaimed t c m q trace,
    ap (λ (z : List Rec). is_moving z t) did ∙ queued_unmoving t c m q trace,
  );
  begun = inr (inl (m, ap (λ (z : List Rec). number_read z t) did ∙ queued_number t c m q trace));
}

-- the lock of t was taken, and is given
pub rests_after : (s t : ℕ) (mask seen : State) (v w given : TaskVal) (old new : List Rec)
    → Keeps s (tested t v mask seen old) new
    → ((u : ℕ) → u ≢ t → is_claimed new u ≡ is_claimed old u) → is_claimed new t ≡ false
    → Rests s old (Gave t (val.Task w) (val.Task given) ∷ new)
rests_after s t mask seen v w given old new x others unclaimed = record {
  tasks = λ u e. elim (cases_eq u t) [
    | inl same ↦ grind (arith, nat_tests, same)
    | inr apart ↦ let held : task_held new u ≡ task_held (tested t v mask seen old) u = ap (λ (h : ℕ → Option TaskVal). h u) x.held in
        grind (arith, nat_tests, apart, held, e)
  ];
  queues = x.free;
  claimed = λ u e. elim (cases_eq u t) [
    | inl same ↦ subst (λ (k : ℕ). is_claimed new k ≡ false) (sym same) unclaimed
    | inr apart ↦ others u apart ∙ e
  ];
  current = x.current;
  clear = x.clear;
  apart =
      let a = Took t (val.Task v) ∷ old in
      let b = tested t v mask seen old in
      apart_again old new (Gave t (val.Task w) (val.Task given) ∷ new)
      (apart_again old b new (apart_again old a b (took_task_apart old t v) (state_apart a t (Some mask) seen)) x.apart)
      (gave_task_apart new t w given);
}
