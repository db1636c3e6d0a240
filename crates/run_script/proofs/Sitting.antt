-- Passes and gates become seats, one by one.
use Rattle.std.proofs.Common.{◌≡◌, ◌∙◌, ◌++◌, ◌∷◌, [], List, length, refl, sym, subst}
use Rattle.std.specs.Prelude.{Option, Some, None}
use Rattle.std.specs.Option.{option_to_list}
use Rattle.std.proofs.lemmas.List.{nil_from_length}
use Rattle.std.specs.Global.{Global}
use Rattle.std.specs.Vec.Iter.{into_iter_items, into_iter_len, into_iter_steps}
use Rattle.std.specs.declared.vec.IntoIter.{IntoIter}
use Rattle.run_rounds.specs.declared.seat.Seat.{Seat}
use Rattle.run_script.specs.Seated.{AreSeated, gates_left}
use Rattle.task_words.specs.Views.{PassView}

module _ {G : Type 0} where
  -- none comes where none is left
  pub no_gate : (s t : IntoIter G Global) (o : Option G) → into_iter_steps s o t → into_iter_len s ≡ length (into_iter_items s) → o ≡ None
      → into_iter_items s ≡ []
  no_gate s t None steps len is = nil_from_length (into_iter_items s) (sym len ∙ steps.0)
  no_gate s t (Some x) steps len is = absurd (cc)

  -- the next gate, if there is one, goes to the next seat
  pub one_seated : (p : PassView) (ps : List PassView) (gs more : List G) (o : Option G) (x : Seat G) (xs : List (Seat G))
      → gs ≡ option_to_list o ++ more → (o ≡ None → gs ≡ []) → x.pass ≡ p → x.gate ≡ o → x.dead.items ≡ []
      → AreSeated ps more xs → AreSeated (p ∷ ps) gs (x ∷ xs)
  one_seated p ps gs more None x xs is none pass gate dead rest =
      subst (λ (hs : List G). AreSeated (p ∷ ps) hs (x ∷ xs)) (sym (none refl))
      (pass, gate, dead, subst (λ (hs : List G). AreSeated ps hs xs) (sym is ∙ none refl) rest)
  one_seated p ps gs more (Some h) x xs is none pass gate dead rest =
      subst (λ (hs : List G). AreSeated (p ∷ ps) hs (x ∷ xs)) (sym is) (pass, gate, dead, rest)

  pub one_left : (p : PassView) (ps : List PassView) (gs more : List G) (o : Option G) → gs ≡ option_to_list o ++ more → (o ≡ None → gs ≡ [])
      → gates_left ps more ≡ gates_left (p ∷ ps) gs
  one_left p ps gs more None is none =
      subst (λ (hs : List G). gates_left ps more ≡ gates_left (p ∷ ps) hs) (sym (none refl))
      (subst (λ (hs : List G). gates_left ps hs ≡ []) (sym (sym is ∙ none refl)) (none_left ps))
    where
      none_left : (qs : List PassView) → gates_left {G = G} qs [] ≡ []
      none_left [] = refl
      none_left (q ∷ qs) = refl
  one_left p ps gs more (Some h) is none = subst (λ (hs : List G). gates_left ps more ≡ gates_left (p ∷ ps) hs) (sym is) refl
