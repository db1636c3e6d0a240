-- The scripts of the tests.
use Rattle.std.proofs.Common.{◌≡◌, ℕ, zero, suc, ◌<◌, List, [], ◌∷◌, ◌++◌, length, sym, ap, ◌∙◌, subst, arith, All}
use Rattle.std.specs.Prelude.{◌≢◌, AllPairs, slice_index_or}
use Rattle.std.proofs.lemmas.List.Elements.{All-nil, All-cons}
use Rattle.task_script.specs.Plan.{sides}
use Rattle.task_script.specs.Forest.{IsForest}
use Rattle.task_script.specs.Script.{IsScript}
use Rattle.task_script.specs.declared.script.Script.{Script}
use Rattle.task_script.specs.declared.script.TaskDef.{TaskDef}

pub some_script : (customs : ℕ) (bytes : List ℕ) (s : Script) → IsScript customs bytes s → (b : List ℕ) × IsScript customs b s
some_script customs bytes s i = (bytes, i)

abbrev Differ : ℕ → ℕ → Type 0
Differ s t = s ≢ t

alone : AllPairs Differ (0 ∷ [])
alone i j d l m = absurd (omega arith)

-- a source, and a task that reads it
pub one_reader : (a b : TaskDef) → a.from ≡ [] → sides a.plan ≡ 0 → b.from ≡ 0 ∷ [] → sides b.plan ≡ 1 → IsForest (a ∷ b ∷ [])
one_reader a b from none reads_it one = record {
  inputs = All-cons (λ (d : TaskDef). length d.from ≡ sides d.plan) a (b ∷ []) (ap length from ∙ sym none)
      (All-cons (λ (d : TaskDef). length d.from ≡ sides d.plan) b [] (ap length reads_it ∙ sym one) (All-nil (λ (d : TaskDef). length d.from ≡ sides d.plan)));
  earlier = before;
  once = subst (λ z. AllPairs Differ (z ++ (b.from ++ []))) (sym from) (subst (λ z. AllPairs Differ (z ++ [])) (sym reads_it) alone);
} where
  before : (t : ℕ) (d : TaskDef) → t < length (a ∷ b ∷ []) → All (λ s. s < t) (slice_index_or (a ∷ b ∷ []) t d).from
  before zero d l = subst (λ z. All (λ s. s < 0) z) (sym from) (All-nil (λ s. s < 0))
  before (suc zero) d l = subst (λ z. All (λ s. s < 1) z) (sym reads_it) (All-cons (λ s. s < 1) 0 [] (omega arith) (All-nil (λ s. s < 1)))
  before (suc (suc t)) d l = absurd (omega arith)
