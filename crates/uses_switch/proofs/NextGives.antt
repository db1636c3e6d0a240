-- A seat without a current task may give its queue with the first task that waited as the next.
use Rattle.std.proofs.Common.{◌≡◌, ◌∙◌, ℕ, ◌∷◌, List, refl, sym, ap, inl, arith}
use Rattle.std.specs.Prelude.{◌+◌, ◌==◌, Option, Some, None, if◌then◌else◌}
use Rattle.std.proofs.lemmas.Bool.Decides.{nat_tests}
use Rattle.core_data.proofs.QueueLemmas.{times_in-cons}
use Rattle.core_data.specs.Queue.{Queue, times_in}
use Rattle.core_gives.specs.Queues.{is_some_of}
use Rattle.handoff_data.specs.declared.shape.Shape.{Shape}
use Rattle.word_rule.specs.May.{MayGiveQueueVal}
use Rattle.word_rule.specs.Told.{TakenQueue}
use Rattle.word_steps.specs.Folds.{current_task, task_to_clear}
use Rattle.word_steps.specs.Records.{Rec, Took}
use Rattle.word_steps.specs.declared.val.Val.TheVariants as val

counted : (w : ℕ) (o o' : Option ℕ) (u : ℕ) → o' ≡ o
    → w + (if is_some_of o' u then 1 else 0) ≡ w + (if is_some_of o u then 1 else 0)
counted w o o' u e = ap (λ (z : Option ℕ). w + (if is_some_of z u then 1 else 0)) e

one_more : (xs ys : List ℕ) (t u : ℕ) → ys ≡ t ∷ xs → times_in ys u ≡ times_in xs u + (if t == u then 1 else 0)
one_more xs ys t u e =
    let more = times_in-cons t xs u in
    ap (λ (zs : List ℕ). times_in zs u) e ∙ grind (arith, nat_tests, more)

same_some : (x y : ℕ) → Some x ≡ Some y → x ≡ y
same_some x y e = cc

none_some : (o : Option ℕ) (u : ℕ) → o ≡ None → o ≡ Some u → ⊥
none_some o u none some = let no : None ≡ Some u = sym none ∙ some in cc

module _ (shape : Shape) (s : ℕ) (v : Queue) (rs : List Rec) (told : TakenQueue shape s rs s v) where
  pub next_gives : (t : ℕ) (given : Queue) → current_task s rs ≡ None → task_to_clear s rs ≡ None → v.cur ≡ None
      → v.waiting ≡ t ∷ given.waiting → given.cur ≡ Some t → given.left ≡ v.left
      → MayGiveQueueVal s (Took s (val.Queue v) ∷ rs) shape s given
  next_gives t given idle clear none first cur left = record {
    taken = v;
    held = grind (arith, nat_tests);
    stands = λ u. let more = one_more given.waiting v.waiting t u first in
        counted (times_in given.waiting u) (Some t) given.cur u cur ∙ grind (arith, nat_tests, more)
        ∙ sym (counted (times_in v.waiting u) None v.cur u none) ∙ grind (arith, nat_tests);
    waits = λ u w. let more = one_more given.waiting v.waiting t u first in grind (arith, nat_tests, w, more);
    next = λ u e. let more = one_more given.waiting v.waiting t u first in
        let same = same_some t u (sym cur ∙ e) in inl (grind (arith, nat_tests, more, same));
    others = λ ne. absurd (ne refl);
    own = λ own u e. absurd (none_some (current_task s rs) u idle e);
    clear = λ own u e. absurd (none_some (task_to_clear s rs) u clear e);
    left = λ u e. told.left u (sym left ∙ e);
  }
