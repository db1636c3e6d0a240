-- The map of a script is one of its table.
use Rattle.std.proofs.Common.{zero, suc, ◌<◌, ◌∙◌, ◌*◌, ℕ, List, [], ◌∷◌, map, length, get_or, sym, ap, subst, All, arith}
use Rattle.std.specs.Prelude.{IfSome}
use Rattle.std.proofs.lemmas.List.{length-map}
use Rattle.pipe_bodies.specs.Nets.{first_of, others}
use Rattle.run_cells.specs.NetMaps.{inputs_of, AreWithin, IsNetMap}
use Rattle.task_script.specs.Forest.{IsForest}
use Rattle.task_script.specs.Valid.{IsMachine}
use Rattle.task_script.specs.declared.script.Script.{Script}
use Rattle.task_script.specs.declared.script.TaskDef.{TaskDef}

others_all : (xs : List ℕ) (t : ℕ) → All (λ s. s < t) xs → All (λ s. s < t) (others xs)
others_all [] t all k d lt = absurd (omega (arith, lt))
others_all (x ∷ xs) t all k d lt = all (suc k) d (omega (arith, lt))

first_within : (xs : List ℕ) (t n : ℕ) → t < n → All (λ s. s < t) xs → IfSome (first_of xs) (λ x. x < n)
first_within [] t n low all = tt
first_within (x ∷ xs) t n low all = let first : x < t = all 0 x (omega arith) in omega (arith, low, first)

within_map : (n : ℕ) (xs : List TaskDef) → ((k : ℕ) (d : TaskDef) → k < length xs → AreWithin n (inputs_of (get_or xs k d)))
    → All (AreWithin n) (map inputs_of xs)
within_map n [] each k d lt = absurd (omega (arith, lt))
within_map n (x ∷ xs) each zero d lt = each 0 x (omega arith)
within_map n (x ∷ xs) each (suc k) d lt = within_map n xs (λ j e low. each (suc j) e (omega (arith, low))) k d (omega (arith, lt))

pub net_map_of : (s : Script) → IsForest s.tasks → IsMachine s.shape s.tasks → IsNetMap (map inputs_of s.tasks) s.shape
net_map_of s forest machine = record {
  count = length-map s.tasks inputs_of ∙ sym machine.counted;
  conds = machine.conds ∙ ap (λ (n : ℕ). 2 * n) (sym machine.counted);
  within = within_map s.shape.tasks s.tasks (λ k d low.
      let few : k < s.shape.tasks = subst (λ (n : ℕ). k < n) (sym machine.counted) low in
      record {
        left = first_within (get_or s.tasks k d).from k s.shape.tasks few (forest.earlier k d low);
        right = first_within (others (get_or s.tasks k d).from) k s.shape.tasks few
            (others_all (get_or s.tasks k d).from k (forest.earlier k d low));
      });
}
