-- The opening core, whose journals are empty.
use Rattle.std.proofs.Common.{◌≡◌, ℕ, zero, suc, [], None, refl, sym, subst, ap, ◌∙◌, arith}
use Rattle.std.specs.Prelude.{◌+◌, false, replicate, slice_get}
use Rattle.core_data.specs.Opening.{IsStart, first_task, first_cpu, first_cond, first_seat}
use Rattle.core_data.specs.Columns.{Columns, column, columns_of, journal_of}
use Rattle.core_data.specs.declared.words.TaskWords.{TaskWords}
use Rattle.core_invariant.proofs.Logs.{of_stands}
use Rattle.core_invariant.specs.Journals.{JournalsHold}
use Rattle.core_journals.proofs.Running.{past}
use Rattle.handoff_data.specs.Positions.{Stands}
use Rattle.handoff_data.specs.Shape.{IsShape}
use Rattle.handoff_data.specs.declared.entry.Entry.{Entry}
use Rattle.handoff_data.specs.declared.mask.CpuMask.{CpuMask}
use Rattle.handoff_data.specs.declared.shape.Shape.{Shape}

-- a core in which nothing has happened
record Unmoved (core : Columns) : Type 0 where
  journal : (s : ℕ) → core.journal s ≡ []
  on_rq : (t : ℕ) → core.on_rq t ≡ 0
  changes : (t : ℕ) → core.changes t ≡ 0
  on_cpu : (t : ℕ) → core.on_cpu t ≡ false
  runs : (t : ℕ) → core.runs t ≡ 0
  lock : (t : ℕ) → core.lock t ≡ None

nothing : (core : Columns) → Unmoved core → (s i : ℕ) (e : Entry) → Stands (past core) s i e → ⊥
nothing core u s i e h =
    let r = (of_stands core.cpus core.tasks core.seats core.journal s i e h).1 in
    let q = ap (λ xs. slice_get xs i) (sym (u.journal s)) ∙ r in
    grind (arith, q)

unmoved-holds : (core : Columns) → Unmoved core → JournalsHold core
unmoved-holds core u =
    record {
      plain = λ s i e h. absurd (nothing core u s i e h);
      rules = record {
        in_range = λ s i e h. absurd (nothing core u s i e h);
        not_repeated = λ s i e h. absurd (nothing core u s i e h);
        chained = λ s i e h. absurd (nothing core u s i e h);
        caused = λ s i e h. absurd (nothing core u s i e h);
        rises_in_journal = λ s i e h. absurd (nothing core u s i e h);
        runs_alternate = λ s i e h. absurd (nothing core u s i e h);
        leaves_while_running = λ s i e h. absurd (nothing core u s i e h);
      };
      numbered = record {
        change = λ s i e t m h is. absurd (nothing core u s i e h);
        run = λ s i e t m h is. absurd (nothing core u s i e h);
        changes_end = λ t. let r = u.changes t in omega (arith, r);
        runs_end = λ t. let r = u.runs t in omega (arith, r);
      };
      last_changes = record {
        queued = λ t h. absurd (let r = u.on_rq t in omega (arith, r, h));
        moving = λ t s h q. absurd (let r = u.on_rq t in omega (arith, r, h));
        ended = λ t m h d. absurd (m (u.changes t));
        off = λ t m h d. absurd (m (u.changes t));
        leaving = λ t h b. absurd (let r = u.on_cpu t in grind (arith, r, b));
        asleep = λ t m h d w. absurd (m (u.changes t));
      };
      wakes = record {
        past = λ s i t m h. absurd (nothing core u s i _ h);
        present = λ t s h w q. absurd (let r = u.lock t in grind (arith, r, q));
        listed = λ s i t m c e h. absurd (nothing core u s i _ h);
      };
      last_runs = record {
        busy_odd = λ t b. absurd (let r = u.on_cpu t in grind (arith, r, b));
        busy = λ t b. absurd (let r = u.on_cpu t in grind (arith, r, b));
        idle_even = λ t b. let r = u.runs t in omega (arith, r);
        idle = λ t b m. absurd (m (u.runs t));
      };
    }

-- a column of equal rows, which have the value that is read past its end
blank : {A B : Type 0} (f : A → B) (d : B) (x : A) (n : ℕ) → f x ≡ d → (k : ℕ) → column f d (replicate n x) k ≡ d
blank f d x zero h k = refl
blank f d x (suc n) h zero = h
blank f d x (suc n) h (suc k) = blank f d x n h k

rows-unmoved : (shape : Shape) (mask : CpuMask)
    → Unmoved (columns_of shape (replicate shape.tasks (first_task mask)) (replicate shape.cpus first_cpu) (replicate shape.conds first_cond) (replicate (shape.cpus + shape.agents) first_seat))
rows-unmoved shape mask =
    record {
      journal = blank journal_of [] first_seat (shape.cpus + shape.agents) refl;
      on_rq = blank (λ (w : TaskWords). w.on_rq) 0 (first_task mask) shape.tasks refl;
      changes = blank (λ (w : TaskWords). w.changes) 0 (first_task mask) shape.tasks refl;
      on_cpu = blank (λ (w : TaskWords). w.on_cpu) false (first_task mask) shape.tasks refl;
      runs = blank (λ (w : TaskWords). w.runs) 0 (first_task mask) shape.tasks refl;
      lock = blank (λ (w : TaskWords). w.lock) None (first_task mask) shape.tasks refl;
    }

pub JournalsHold-start : (shape : Shape) (core : Columns) → IsShape shape → IsStart shape core → JournalsHold core
JournalsHold-start shape core is start = unmoved-holds core (subst Unmoved (sym start.rows) (rows-unmoved shape start.mask))
