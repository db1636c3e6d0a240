-- The passes of a new table stand at rest.
use Rattle.std.proofs.Common.{zero, suc, ◌≡◌, ◌++◌, ℕ, List, [], ◌∷◌, map, refl, sym, subst, All, arith}
use Rattle.std.specs.Prelude.{Option, Some, None, IfSome}
use Rattle.std.specs.Option.{option_to_list}
use Rattle.std.proofs.lemmas.List.Elements.{All-contains, Contains-push}
use Rattle.std.specs.List.{Contains, range_with_len}
use Rattle.atomic_table.specs.Seated.{TableId}
use Rattle.handoff_data.specs.declared.shape.Shape.{Shape}
use Rattle.run_turns.specs.Standing.{IsAtRest}
use Rattle.task_words.specs.Closing.{new_pass, first_passes}
use Rattle.task_words.specs.Views.{PassView}

all_map : {A B : Type 0} (P : B → Type 0) (f : A → B) → ((x : A) → P (f x)) → (xs : List A) → All P (map f xs)
all_map P f each [] k d lt = absurd (omega (arith, lt))
all_map P f each (x ∷ xs) zero d lt = each x
all_map P f each (x ∷ xs) (suc k) d lt = all_map P f each xs k d (omega (arith, lt))

rest_new : (name : TableId) (shape : Shape) (lasting : List (List ℕ)) (s : ℕ) → IsAtRest (new_pass name shape lasting s)
rest_new name shape lasting s = record {
  steady = record {
    tasks = λ t. refl;
    queues = λ c. refl;
    works = λ c. refl;
    waits = λ k. refl;
    body = refl;
    claimed = λ t. refl;
    clear = refl;
    stays = λ t current. absurd (grind (arith, current));
  };
  turn = refl;
  paid = λ k. refl;
}

pub firsts_rest : (name : TableId) (shape : Shape) (lasting : List (List ℕ)) (n : ℕ) → All IsAtRest (first_passes name shape lasting n)
firsts_rest name shape lasting n = all_map IsAtRest (new_pass name shape lasting) (rest_new name shape lasting) (range_with_len 0 n)

-- what holds of all passes holds of the last
pub popped : (P : PassView → Type 0) (xs ys : List PassView) (o : Option PassView) → xs ≡ ys ++ option_to_list o → All P xs → IfSome o P
popped P xs ys None is all = tt
popped P xs ys (Some x) is all = All-contains P xs x all (subst (λ (zs : List PassView). Contains zs x) (sym is) (Contains-push ys x))

all_front : (P : PassView → Type 0) (ys zs : List PassView) → All P (ys ++ zs) → All P ys
all_front P [] zs all k d lt = absurd (omega (arith, lt))
all_front P (y ∷ ys) zs all zero d lt = all 0 d (omega arith)
all_front P (y ∷ ys) zs all (suc k) d lt = all_front P ys zs (λ i e l. all (suc i) e (omega (arith, l))) k d (omega (arith, lt))

-- .. and of the others
pub unpopped : (P : PassView → Type 0) (xs ys : List PassView) (o : Option PassView) → xs ≡ ys ++ option_to_list o → All P xs → All P ys
unpopped P xs ys o is all = all_front P ys (option_to_list o) (subst (All P) is all)
