-- Gates get their lists, one by one.
use Rattle.std.proofs.Common.{zero, suc, ◌≡◌, ◌∙◌, ◌++◌, ◌∷◌, [], ℕ, List, length, refl, sym, ap, subst}
use Rattle.std.specs.Prelude.{Option, Some, None}
use Rattle.std.specs.Option.{option_to_list}
use Rattle.std.proofs.lemmas.List.{nil_from_length}
use Rattle.std.specs.Global.{Global}
use Rattle.std.specs.Vec.Iter.{into_iter_items, into_iter_len, into_iter_steps}
use Rattle.std.specs.declared.vec.IntoIter.{IntoIter}
use Rattle.run_trace.specs.Keeping.{Keeping, fresh}
use Rattle.run_trace.specs.Wrapped.{firsts, gates_left}

module _ {G : Type 0} where
  -- none comes where none is left
  pub no_gate : (s t : IntoIter G Global) (o : Option G) → into_iter_steps s o t → into_iter_len s ≡ length (into_iter_items s) → o ≡ None
      → into_iter_items s ≡ []
  no_gate s t None steps len is = nil_from_length (into_iter_items s) (sym len ∙ steps.0)
  no_gate s t (Some x) steps len is = absurd (cc)

  -- the next gate, if there is one, stands at the front
  pub one_first : (n : ℕ) (gs more : List G) (o : Option G) → gs ≡ option_to_list o ++ more → (o ≡ None → gs ≡ [])
      → fresh o ∷ firsts n more ≡ firsts (suc n) gs
  one_first n gs more None is none =
      subst (λ (hs : List G). fresh None ∷ firsts n more ≡ firsts (suc n) hs) (sym (none refl))
      (ap (λ (hs : List G). fresh None ∷ firsts n hs) (sym is ∙ none refl))
  one_first n gs more (Some h) is none = subst (λ (hs : List G). fresh (Some h) ∷ firsts n more ≡ firsts (suc n) hs) (sym is) refl

  pub one_left : (n : ℕ) (gs more : List G) (o : Option G) → gs ≡ option_to_list o ++ more → (o ≡ None → gs ≡ [])
      → gates_left n more ≡ gates_left (suc n) gs
  one_left n gs more None is none =
      subst (λ (hs : List G). gates_left n more ≡ gates_left (suc n) hs) (sym (none refl))
      (subst (λ (hs : List G). gates_left n hs ≡ []) (sym (sym is ∙ none refl)) (none_left n))
    where
      none_left : (m : ℕ) → gates_left {G = G} m [] ≡ []
      none_left zero = refl
      none_left (suc m) = refl
  one_left n gs more (Some h) is none = subst (λ (hs : List G). gates_left n more ≡ gates_left (suc n) hs) (sym is) refl
