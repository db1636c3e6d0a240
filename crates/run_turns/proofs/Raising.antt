-- Which conditions each call raises.
use Rattle.std.proofs.Common.{◌≡◌, ◌≢◌, ◌∙◌, ℕ, ◌+◌, ◌*◌, ◌++◌, ◌∷◌, [], List, refl, sym, ap, subst, inl, inr, arith, append_assoc}
use Rattle.std.specs.Prelude.{Bool, true, false, Option, Some, None, ◌==◌, ◌⊎◌, if◌then◌else◌}
use Rattle.std.specs.Option.{option_to_list}
use Rattle.std.proofs.lemmas.Bool.{cases_eq}
use Rattle.std.proofs.lemmas.List.{append-nil}
use Rattle.core_kinds.specs.Steps.{normal}
use Rattle.handoff_data.specs.declared.shape.Shape.{Shape}
use Rattle.handoff_data.specs.declared.state.State.{State}
use Rattle.pipe_bodies.specs.declared.verdict.Then.{Then}
use Rattle.pipe_bodies.specs.declared.verdict.Then.TheVariants as verdict
use Rattle.pipe_bodies.specs.declared.verdict.Verdict.{Verdict}
use Rattle.run_cells.specs.NetMaps.{side_of}
use Rattle.run_cells.specs.declared.net_map.Inputs.{Inputs}
use Rattle.run_turns.specs.Conds.{taken_from, read_cond, wrote_cond, wait_cond, wait_value, load_of, loads_of}
use Rattle.run_turns.specs.Laws.{raised_by, raised_in, HasRaised, for_taken, for_read, for_wrote, raises_of}
use Rattle.run_turns.specs.Turns.{WasSwitched, WereRaised, Sleeps, IsMarked, GoesAs, GoesOnAfter, HasLeftCond, HadTurn, HasRun}
use Rattle.run_turns.specs.declared.loads.Values.{Values}
use Rattle.sched_switch.specs.Sleeps.{DidSleep, IsTested}
use Rattle.sched_switch.specs.Switches.{HasLeft, IsPicked, DidSwitch}
use Rattle.sched_switch.specs.declared.answer.Next.{Next}
use Rattle.sched_switch.specs.declared.answer.Next.TheVariants as asked
use Rattle.sched_switch.specs.declared.answer.Slept.{Slept}
use Rattle.sched_switch.specs.declared.answer.Slept.TheVariants as slept
use Rattle.sched_switch.specs.declared.answer.Switch.{Switch}
use Rattle.sched_switch.specs.declared.answer.Switch.TheVariants as switch
use Rattle.task_words.specs.Rq.{Rq}
use Rattle.task_words.specs.Views.{PassView}
use Rattle.ttwu_core.specs.Claims.{busy_reads}
use Rattle.ttwu_core.specs.Finds.{rq_reads, Left, off_reads}
use Rattle.run_queue.specs.Queueing.{placed}
use Rattle.ttwu_core.specs.Own.{DidWakeOwn}
use Rattle.ttwu_core.specs.Wakes.{DidWake}
use Rattle.ttwu_core.specs.declared.answers.How.TheVariants as how
use Rattle.ttwu_core.specs.declared.answers.Wake.{Wake}
use Rattle.ttwu_core.specs.declared.answers.Wake.TheVariants as wake
use Rattle.wait_queue.specs.Entering.{IsFinished}
use Rattle.wait_queue.specs.Meets.{Meeting, DidWakeTask, HasMet}
use Rattle.wait_queue.specs.Walks.{IsRaisedAndWalked}
use Rattle.word_steps.specs.Folds.{current_task}
use Rattle.word_steps.specs.Records.{Rec, Bumped, LoadedCpu, StoredCpu}

-- Steps one after the other

raised_append : (xs ys : List Rec) → raised_in (xs ++ ys) ≡ raised_in ys ++ raised_in xs
raised_append [] ys = sym (append-nil (raised_in ys))
raised_append (x ∷ xs) ys =
    ap (λ (z : List ℕ). z ++ raised_by x) (raised_append xs ys) ∙ append_assoc (raised_in ys) (raised_in xs) (raised_by x)

pub raises_none : {a : List Rec} → HasRaised [] a a
raises_none = record { added = []; did = refl; raised = refl }

pub raises_then : {xs ys : List ℕ} {a b c : List Rec} → HasRaised xs a b → HasRaised ys b c → HasRaised (xs ++ ys) a c
raises_then {xs} {ys} {a} {b} {c} x y = record {
  added = y.added ++ x.added;
  did = y.did ∙ ap (λ (z : List Rec). y.added ++ z) x.did ∙ sym (append_assoc y.added x.added a);
  raised = raised_append y.added x.added
      ∙ ap (λ (z : List ℕ). z ++ raised_in y.added) x.raised ∙ ap (λ (z : List ℕ). xs ++ z) y.raised;
}

-- .. which raise none
pub then_none : {xs : List ℕ} {a b c : List Rec} → HasRaised xs a b → HasRaised [] b c → HasRaised xs a c
then_none {xs} {a} {b} {c} x y = subst (λ (z : List ℕ). HasRaised z a c) (append-nil xs) (raises_then x y)

pub more : {r : Rec} {xs : List ℕ} {a b : List Rec} → raised_by r ≡ [] → HasRaised xs a b → HasRaised xs a (r ∷ b)
more {r} {xs} {a} {b} none x = then_none x (record { added = r ∷ []; did = refl; raised = none })

-- the trace is this one
by_trace : {xs : List ℕ} {a b c : List Rec} → c ≡ b → HasRaised xs a b → HasRaised xs a c
by_trace {xs} {a} {b} {c} is x = subst (λ (z : List Rec). HasRaised xs a z) (sym is) x

-- A wake-up

module _ (xs : List ℕ) (a : List Rec) (t : ℕ) where
  rq_raise : (rs : List Rq) (b : List Rec) → HasRaised xs a b → HasRaised xs a (rq_reads t rs b)
  rq_raise [] b x = x
  rq_raise (r ∷ rs) b x = more refl (rq_raise rs b x)

  busy_raise : (ns : List ℕ) (b : List Rec) → HasRaised xs a b → HasRaised xs a (busy_reads t ns b)
  busy_raise [] b x = x
  busy_raise (n ∷ ns) b x = more refl (busy_raise ns b x)

  off_raise : (left : Option Left) (m : ℕ) (b : List Rec) → HasRaised xs a b → HasRaised xs a (off_reads t left m b)
  off_raise None m b x = more refl x
  off_raise (Some l) m b x = more refl (rq_raise l.waits _ (more refl (more refl (more refl (more refl (more refl x))))))

  placed_raise : (from c : ℕ) (b : List Rec) → HasRaised xs a b → HasRaised xs a (placed t from c b)
  placed_raise from c b x =
      elim (from == c) as (λ e. HasRaised xs a (if e then LoadedCpu t from ∷ b else StoredCpu t c ∷ LoadedCpu t from ∷ b)) [
        | true ↦ more refl x
        | false ↦ more refl (more refl x)
      ]

wake_raise : (t : ℕ) (mask : State) (shape : Shape) (old new : PassView) (answer : Wake) → DidWake t mask shape old new answer
    → HasRaised [] old.trace new.trace
wake_raise t mask shape old new (wake.NoMatch seen) did = by_trace did.did (more refl (more refl (more refl raises_none)))
wake_raise t mask shape old new (wake.Woke how.Runnable) did =
    by_trace did.did
    (more refl (more refl (more refl (more refl (more refl (more refl (more refl (more refl (more refl raises_none)))))))))
wake_raise t mask shape old new (wake.Woke how.Own) did = absurd did
wake_raise t mask shape old new (wake.Woke (how.Queued c)) did =
    by_trace did.did
    (more refl (more refl (more refl (more refl (more refl
    (placed_raise [] old.trace t did.from c _ (more refl (busy_raise [] old.trace t did.waits _ (more refl
    (off_raise [] old.trace t did.left did.m _ (more refl (more refl raises_none))))))))))))

own_raise : (mask : State) (old new : PassView) (answer : Wake) → DidWakeOwn mask old new answer → HasRaised [] old.trace new.trace
own_raise mask old new (wake.Woke how.Own) did = by_trace did.did (more refl (more refl raises_none))
own_raise mask old new (wake.Woke how.Runnable) did = absurd did
own_raise mask old new (wake.Woke (how.Queued c)) did = absurd did
own_raise mask old new (wake.NoMatch seen) did = by_trace did.did (more refl raises_none)

is_or_not : (o : Option ℕ) (t : ℕ) → (o ≡ Some t) ⊎ (o ≢ Some t)
is_or_not None t = inr (λ e. cc)
is_or_not (Some j) t = elim (cases_eq j t) [ inl e ↦ inl (ap Some e) | inr e ↦ inr (λ f. grind (arith, e, f)) ]

task_raise : (t : ℕ) (shape : Shape) (old new : PassView) (answer : Wake) → DidWakeTask t shape old new answer
    → HasRaised [] old.trace new.trace
task_raise t shape old new answer did =
    elim (is_or_not (current_task old.seat old.trace) t) [
      | inl is ↦ own_raise normal old new answer (did.own is)
      | inr other ↦ wake_raise t normal shape old new answer (did.other other)
    ]

-- A walk, and a raise

met_raise : (shape : Shape) (ms : List Meeting) (old new : PassView) → HasMet shape ms old new → HasRaised [] old.trace new.trace
met_raise shape [] old new met = by_trace (ap (λ (p : PassView). p.trace) met) raises_none
met_raise shape (x ∷ xs) old new met =
    then_none (task_raise x.entry.t shape old met.0 x.answer met.1.0) (met_raise shape xs met.0 new met.1.1)

walk_raise : (shape : Shape) (k woken : ℕ) (old new : PassView) → IsRaisedAndWalked shape k old new woken
    → HasRaised (k ∷ []) old.trace new.trace
walk_raise shape k woken old new did =
    by_trace (ap (λ (p : PassView). p.trace) did.walked.did)
    (more refl (then_none {xs = k ∷ []} (more refl (record { added = Bumped k did.value ∷ []; did = refl; raised = refl }))
    (met_raise shape did.walked.meetings _ did.walked.after did.walked.met)))

pub were_raised : (shape : Shape) (o : Option ℕ) (old new : PassView) → WereRaised shape o old new
    → HasRaised (option_to_list o) old.trace new.trace
were_raised shape None old new did = by_trace (ap (λ (p : PassView). p.trace) did) raises_none
were_raised shape (Some k) old new did =
    by_trace (ap (λ (p : PassView). p.trace) did.is_told) (walk_raise shape k did.woken old did.made did.did)

-- A switch

left_raise : (next : Next) (old mid : PassView) → HasLeft next old mid → HasRaised [] old.trace mid.trace
left_raise next old mid (inl left) = by_trace (ap (λ (p : PassView). p.trace) left.1) raises_none
left_raise next old mid (inr (inl left)) =
    by_trace left.2.did (more refl (more refl (more refl (more refl (more refl raises_none)))))
left_raise next old mid (inr (inr left)) =
    by_trace left.3.did (more refl (more refl (more refl (more refl (more refl (more refl raises_none))))))

picked_raise : (t : ℕ) (old new : PassView) → IsPicked t old new → HasRaised [] old.trace new.trace
picked_raise t old new (inl first) = by_trace first.did (more refl (more refl (more refl raises_none)))
picked_raise t old new (inr next) = by_trace next.did (more refl (more refl (more refl raises_none)))

switch_raise : (next : Next) (old new : PassView) (answer : Switch) → DidSwitch next old new answer → HasRaised [] old.trace new.trace
switch_raise asked.Task old new (switch.Running t) (inl kept) =
    by_trace kept.did (more refl (more refl (more refl (more refl raises_none))))
switch_raise asked.Task old new (switch.Running t) (inr left) =
    then_none (left_raise asked.Task old left.0 left.1) (picked_raise t left.0 new left.2)
switch_raise asked.Task old new switch.Idle left =
    then_none (left_raise asked.Task old left.0 left.1) (by_trace left.2.did (more refl (more refl raises_none)))
switch_raise asked.Task old new switch.Nobody did = absurd did
switch_raise asked.Nobody old new (switch.Running t) did = absurd did
switch_raise asked.Nobody old new switch.Idle did = absurd did
switch_raise asked.Nobody old new switch.Nobody did = left_raise asked.Nobody old new did

pub switched_raise : (next : Next) (answer : Switch) (old new : PassView) → WasSwitched next answer old new
    → HasRaised [] old.trace new.trace
switched_raise next answer old new did =
    by_trace (ap (λ (p : PassView). p.trace) did.is_told) (switch_raise next old did.made answer did.did)

-- A sleep

finished_raise : (k s : ℕ) (old new : List Rec) → IsFinished k s old new → HasRaised [] old new
finished_raise k s old new finished = by_trace finished.did (more refl (more refl (more refl raises_none)))

tested_raise : (k w : ℕ) (old new : PassView) → IsTested k w old new → HasRaised [] old.trace new.trace
tested_raise k w old new tested =
    by_trace tested.did (more refl (by_trace tested.entered.did (more refl (more refl (more refl raises_none)))))

sleep_raise : (k v : ℕ) (old new : PassView) (answer : Slept) → DidSleep k v old new answer → HasRaised [] old.trace new.trace
sleep_raise k v old new (slept.Slept m) did =
    then_none (tested_raise k v old did.between did.tested)
    (by_trace did.gone.did (more refl (more refl (more refl (more refl (more refl (more refl raises_none)))))))
sleep_raise k v old new slept.Woken did =
    then_none (tested_raise k v old did.between did.tested)
    (by_trace did.back.did (more refl (more refl (more refl (more refl (more refl raises_none))))))
sleep_raise k v old new (slept.Changed now) did =
    then_none (tested_raise k now old did.between did.tested)
    (finished_raise k did.between.seat did.between.trace new.trace did.finished)

sleeps_raise : (o : Option ℕ) (v : ℕ) (old new : PassView) → Sleeps o v old new → HasRaised [] old.trace new.trace
sleeps_raise None v old new did = by_trace (ap (λ (p : PassView). p.trace) did) raises_none
sleeps_raise (Some k) v old new did =
    by_trace (ap (λ (p : PassView). p.trace) did.is_told) (sleep_raise k v old did.made did.answer did.did)

-- A turn

pub marked_raise : (t : ℕ) (old new : PassView) → IsMarked t old new → HasRaised [] old.trace new.trace
marked_raise t old new marks = by_trace marks.did (more refl (more refl (more refl raises_none)))

goes_raise : (inputs : Inputs) (values : Values) (t : ℕ) (on : Then) (old new : PassView) → GoesAs inputs values t on old new
    → HasRaised [] old.trace new.trace
goes_raise inputs values t verdict.More old new did = sleeps_raise None 0 old new did
goes_raise inputs values t (verdict.WaitIn side) old new did =
    sleeps_raise (wait_cond inputs t (verdict.WaitIn side)) (wait_value values (verdict.WaitIn side)) old new did
goes_raise inputs values t verdict.WaitOut old new did = sleeps_raise (Some (2 * t + 1)) values.out old new did
goes_raise inputs values t verdict.Exit old new did =
    then_none (marked_raise t old did.marked did.marks) (switched_raise asked.Nobody did.answer did.marked new did.left)

pub left_cond_raise : (t : ℕ) (old new : PassView) → HasLeftCond t old new → HasRaised [] old.trace new.trace
left_cond_raise t old new did =
    elim did.left [
      | inl looked ↦ by_trace looked (more refl (more refl raises_none))
      | inr left ↦ then_none (more refl (more refl raises_none)) (finished_raise left.0 old.seat _ new.trace left.1)
    ]

pub load_raise : (side : Option ℕ) (v : ℕ) (a b : List Rec) → HasRaised [] a b → HasRaised [] a (load_of side v b)
load_raise None v a b x = x
load_raise (Some k) v a b x = more refl x

pub load_side_raise : (side : Option ℕ) (v : ℕ) (a : List Rec) → HasRaised [] a (load_of side v a)
load_side_raise side v a = load_raise side v a a raises_none

pub loads_raise : (t : ℕ) (inputs : Inputs) (values : Values) (a : List Rec) → HasRaised [] a (loads_of t inputs values a)
loads_raise t inputs values a = more refl (load_raise inputs.right values.right a _ (load_side_raise inputs.left values.left a))

pub had_raise : (t : ℕ) (old new : PassView) → HadTurn t old new → HasRaised [] old.trace new.trace
had_raise t old new had = by_trace had.did (more refl (more refl raises_none))

taken_raises : (o : Option ℕ) → option_to_list (taken_from o) ≡ for_taken o
taken_raises None = refl
taken_raises (Some x) = refl

read_raises : (inputs : Inputs) (side : Option ℕ) → option_to_list (read_cond inputs side) ≡ for_read inputs side
read_raises inputs None = refl
read_raises inputs (Some side) = taken_raises (side_of inputs side)

wrote_raises : (t : ℕ) (wrote : Bool) → option_to_list (wrote_cond t wrote) ≡ for_wrote t wrote
wrote_raises t true = refl
wrote_raises t false = refl

-- .. up to the sleep or the death
pub raised_after : (shape : Shape) (inputs : Inputs) (values : Values) (t : ℕ) (v : Verdict) (old new : PassView)
    → (after : GoesOnAfter shape inputs values t v old new) → HasRaised (raises_of inputs t v) old.trace after.wrote.trace
raised_after shape inputs values t v old new after =
    raises_then
    (subst (λ (z : List ℕ). HasRaised z old.trace after.read.trace) (read_raises inputs v.read)
    (were_raised shape (read_cond inputs v.read) old after.read after.raised_read))
    (subst (λ (z : List ℕ). HasRaised z after.read.trace after.wrote.trace) (wrote_raises t v.wrote)
    (were_raised shape (wrote_cond t v.wrote) after.read after.wrote after.raised_wrote))

pub after_raise : (shape : Shape) (inputs : Inputs) (values : Values) (t : ℕ) (v : Verdict) (old new : PassView)
    → GoesOnAfter shape inputs values t v old new → HasRaised (raises_of inputs t v) old.trace new.trace
after_raise shape inputs values t v old new did =
    then_none (raised_after shape inputs values t v old new did)
    (goes_raise inputs values t v.then did.wrote new did.goes)

-- before the body's turn
pub before_raise : (shape : Shape) (inputs : Inputs) (t : ℕ) (v : Verdict) (old new : PassView) → (run : HasRun shape inputs t v old new)
    → HasRaised [] old.trace run.loaded.trace
before_raise shape inputs t v old new run =
    then_none (left_cond_raise t old run.left run.leaves) (by_trace run.loads (loads_raise t inputs run.values run.left.trace))

pub run_raise : (shape : Shape) (inputs : Inputs) (t : ℕ) (v : Verdict) (old new : PassView) → HasRun shape inputs t v old new
    → HasRaised (raises_of inputs t v) old.trace new.trace
run_raise shape inputs t v old new run =
    raises_then {xs = []} (then_none (before_raise shape inputs t v old new run) (had_raise t run.loaded run.turned run.had))
    (after_raise shape inputs run.values t v run.turned new run.after)
