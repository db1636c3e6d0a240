-- The forests of the tests.
use Rattle.std.proofs.Common.{◌≡◌, ℕ, zero, suc, ◌<◌, ◌≤◌, List, [], ◌∷◌, ◌++◌, length, true, false, Bool, refl, sym, ap, ◌∙◌, subst, arith, append-nil, length-append, All}
use Rattle.std.specs.Prelude.{AllPairs, slice_index_or, nat_lt}
use Rattle.std.proofs.lemmas.Bool.Decides.{nat_tests}
use Rattle.std.proofs.lemmas.Grind.{flat_map-append}
use Rattle.std.proofs.lemmas.List.{get_or_append_left}
use Rattle.std.proofs.lemmas.List.Elements.{All-nil, All-cons, All-push}
use Rattle.std.proofs.Math.Seq.{get_or-append_seam}
use Rattle.task_script.specs.Plan.{sides}
use Rattle.task_script.specs.Forest.{IsForest, reads}
use Rattle.task_script.specs.declared.script.TaskDef.{TaskDef}
use Rattle.pipe_tasks.proofs.ForestLaws.{Differ}

pub no_tasks : IsForest []
no_tasks = record { inputs = All-nil (λ (d : TaskDef). length d.from ≡ sides d.plan); earlier = λ t d l. absurd (omega arith); once = λ i j d l m. absurd (omega arith) }

module _ (done : List TaskDef) (d : TaskDef) (forest : IsForest done) (earlier : All (λ s. s < length done) d.from) where
  reads_earlier : (t : ℕ) (below : Bool) → nat_lt t (length done) ≡ below → (e : TaskDef) → t < length (done ++ d ∷ []) → All (λ s. s < t) (slice_index_or (done ++ d ∷ []) t e).from
  reads_earlier t true test e within =
      let inside : t < length done = grind (arith, nat_tests) in
      subst (λ z. All (λ s. s < t) z.from) (sym (get_or_append_left done (d ∷ []) e t inside)) (forest.earlier t e inside)
  reads_earlier t false test e within =
      let above : length done ≤ t = grind (arith, nat_tests) in
      let more = length-append done (d ∷ []) in
      let at : length done ≡ t = omega arith in
      subst (λ k. All (λ s. s < k) (slice_index_or (done ++ d ∷ []) k e).from) at
      (subst (λ z. All (λ s. s < length done) z.from) (sym (get_or-append_seam done d [] e)) earlier)

  one_more : length d.from ≡ sides d.plan → AllPairs Differ (reads done ++ d.from) → IsForest (done ++ d ∷ [])
  one_more inputs once = record {
    inputs = All-push (λ (e : TaskDef). length e.from ≡ sides e.plan) done d forest.inputs inputs;
    earlier = λ t e within. reads_earlier t (nat_lt t (length done)) refl e within;
    once = subst (λ z. AllPairs Differ z) (ap (λ z. reads done ++ z) (sym (append-nil d.from)) ∙ sym (flat_map-append (λ (e : TaskDef). e.from) done (d ∷ []))) once;
  }

alone : (s : ℕ) → AllPairs Differ (s ∷ [])
alone s i j d l m = absurd (omega arith)

-- a source
source : (a : TaskDef) → a.from ≡ [] → sides a.plan ≡ 0 → IsForest (a ∷ [])
source a from none = one_more [] a no_tasks (subst (λ z. All (λ s. s < 0) z) (sym from) (All-nil (λ s. s < 0))) (ap length from ∙ sym none)
    (subst (λ z. AllPairs Differ z) (sym from) (λ i j d l m. absurd (omega arith)))

pub one_reader : (a b : TaskDef) → a.from ≡ [] → sides a.plan ≡ 0 → b.from ≡ 0 ∷ [] → sides b.plan ≡ 1 → IsForest (a ∷ b ∷ [])
one_reader a b from none reads_it one = one_more (a ∷ []) b (source a from none)
    (subst (λ z. All (λ s. s < 1) z) (sym reads_it) (All-cons (λ s. s < 1) 0 [] (omega arith) (All-nil (λ s. s < 1)))) (ap length reads_it ∙ sym one)
    (subst (λ z. AllPairs Differ ((z ++ []) ++ b.from)) (sym from) (subst (λ z. AllPairs Differ z) (sym reads_it) (alone 0)))

two_sources : (a b : TaskDef) → a.from ≡ [] → sides a.plan ≡ 0 → b.from ≡ [] → sides b.plan ≡ 0 → IsForest (a ∷ b ∷ [])
two_sources a b from none from' none' = one_more (a ∷ []) b (source a from none)
    (subst (λ z. All (λ s. s < 1) z) (sym from') (All-nil (λ s. s < 1))) (ap length from' ∙ sym none')
    (subst (λ z. AllPairs Differ ((z ++ []) ++ b.from)) (sym from) (subst (λ z. AllPairs Differ z) (sym from') (λ i j d l m. absurd (omega arith))))

first_two : AllPairs Differ (0 ∷ 1 ∷ [])
first_two zero (suc zero) d l m = λ e. omega arith
first_two zero zero d l m = absurd (omega arith)
first_two zero (suc (suc j)) d l m = absurd (omega arith)
first_two (suc i) j d l m = absurd (omega arith)

pub two_read : (a b c : TaskDef) → a.from ≡ [] → sides a.plan ≡ 0 → b.from ≡ [] → sides b.plan ≡ 0 → c.from ≡ 0 ∷ 1 ∷ [] → sides c.plan ≡ 2 → IsForest (a ∷ b ∷ c ∷ [])
two_read a b c from none from' none' reads_them two = one_more (a ∷ b ∷ []) c (two_sources a b from none from' none')
    (subst (λ z. All (λ s. s < 2) z) (sym reads_them) (All-cons (λ s. s < 2) 0 (1 ∷ []) (omega arith) (All-cons (λ s. s < 2) 1 [] (omega arith) (All-nil (λ s. s < 2))))) (ap length reads_them
    ∙ sym two)
    (subst
    (λ z. AllPairs Differ ((z ++ (b.from ++ [])) ++ c.from)) (sym from)
    (subst (λ z. AllPairs Differ ((z ++ []) ++ c.from)) (sym from') (subst (λ z. AllPairs Differ z) (sym reads_them) first_two)))
