-- Gates go to seats, and come back to their places.
use Rattle.std.proofs.Common.{zero, suc, ◌≡◌, ◌<◌, ◌+◌, ◌∙◌, ℕ, ◌++◌, ◌∷◌, [], List, map, length, get_or, refl, sym, subst, ap, All, arith}
use Rattle.std.specs.Prelude.{Option, Some, None, is_some, slice_get, true, false}
use Rattle.std.specs.Option.{option_to_list}
use Rattle.std.proofs.lemmas.List.{length-map, get_or-map, get_or_default, append-nil}
use Rattle.std.proofs.lemmas.List.FromFn.{get_or-map-range_with_len, length-map-range_with_len}
use Rattle.std.proofs.lemmas.List.Elements.{All-nil}
use Rattle.handoff_data.specs.declared.entry.Entry.{Entry}
use Rattle.run_cells.specs.Telling.{told_after, list_of}
use Rattle.run_rounds.specs.Seats.{number_of, IsReady, IsKept, GoOn}
use Rattle.run_rounds.specs.declared.seat.Seat.{Seat}
use Rattle.run_script.specs.Seated.{pass_of, gates_in, AreSeated, gates_left, gates_by}
use Rattle.run_script.specs.Told.{AreTold}
use Rattle.run_turns.proofs.Beginning.{firsts_rest}
use Rattle.run_turns.specs.Deaths.{HasDied}
use Rattle.run_turns.specs.Standing.{IsAtRest}
use Rattle.task_words.specs.Closing.{new_pass, first_passes}
use Rattle.task_words.specs.Views.{PassView, IsOf}
use Rattle.word_table.specs.Views.{WordsView}

-- ---- seats as they are made

module _ {G : Type 0} where
  pub passes_are : (ps : List PassView) (gs : List G) (xs : List (Seat G)) → AreSeated ps gs xs → map pass_of xs ≡ ps
  passes_are [] gs [] are = refl
  passes_are [] gs (x ∷ xs) are = absurd are
  passes_are (p ∷ ps) gs [] are = absurd are
  passes_are (p ∷ ps) [] (x ∷ xs) are = λ j. are.0 j ∷ passes_are ps [] xs are.3 j
  passes_are (p ∷ ps) (g ∷ gs) (x ∷ xs) are = λ j. are.0 j ∷ passes_are ps gs xs are.3 j

  gate_at : (ps : List PassView) (gs : List G) (xs : List (Seat G)) → AreSeated ps gs xs → (k : ℕ) (d : Seat G) → k < length xs
      → (get_or xs k d).gate ≡ slice_get gs k
  gate_at [] gs [] are k d lt = absurd (omega (arith, lt))
  gate_at [] gs (x ∷ xs) are k d lt = absurd are
  gate_at (p ∷ ps) gs [] are k d lt = absurd are
  gate_at (p ∷ ps) [] (x ∷ xs) are zero d lt = are.1
  gate_at (p ∷ ps) [] (x ∷ xs) are (suc k) d lt = gate_at ps [] xs are.3 k d (omega (arith, lt))
  gate_at (p ∷ ps) (g ∷ gs) (x ∷ xs) are zero d lt = are.1
  gate_at (p ∷ ps) (g ∷ gs) (x ∷ xs) are (suc k) d lt = gate_at ps gs xs are.3 k d (omega (arith, lt))

  none_dead : (ps : List PassView) (gs : List G) (xs : List (Seat G)) → AreSeated ps gs xs → (k : ℕ) (d : Seat G) → k < length xs
      → (get_or xs k d).dead.items ≡ []
  none_dead [] gs [] are k d lt = absurd (omega (arith, lt))
  none_dead [] gs (x ∷ xs) are k d lt = absurd are
  none_dead (p ∷ ps) gs [] are k d lt = absurd are
  none_dead (p ∷ ps) [] (x ∷ xs) are zero d lt = are.2
  none_dead (p ∷ ps) [] (x ∷ xs) are (suc k) d lt = none_dead ps [] xs are.3 k d (omega (arith, lt))
  none_dead (p ∷ ps) (g ∷ gs) (x ∷ xs) are zero d lt = are.2
  none_dead (p ∷ ps) (g ∷ gs) (x ∷ xs) are (suc k) d lt = none_dead ps gs xs are.3 k d (omega (arith, lt))

told_nothing : (o : Option (List Entry)) → told_after o [] ≡ o
told_nothing None = refl
told_nothing (Some list) = ap (λ (l : List Entry). Some l) (append-nil list)

module _ {G : Type 0} (wk : WordsView) (n : ℕ) (ps : List PassView) (gs : List G) (xs : List (Seat G))
    (firsts : ps ≡ first_passes wk.name wk.shape wk.lasting n) (are : AreSeated ps gs xs) where
  pub seats_count : length xs ≡ n
  seats_count = sym (length-map xs pass_of) ∙ ap length (passes_are ps gs xs are ∙ firsts)
      ∙ length-map-range_with_len (new_pass wk.name wk.shape wk.lasting) 0 n

  first_at : (k : ℕ) (d : Seat G) → k < length xs → (get_or xs k d).pass ≡ new_pass wk.name wk.shape wk.lasting k
  first_at k d lt =
      sym (get_or-map pass_of xs k d d.pass lt) ∙ ap (λ (qs : List PassView). get_or qs k d.pass) (passes_are ps gs xs are ∙ firsts)
      ∙ get_or-map-range_with_len (new_pass wk.name wk.shape wk.lasting) 0 n k k d.pass (subst (λ (m : ℕ). k < m) seats_count lt) (omega arith)

  -- each is ready, if these are the processors
  pub firsts_ready : n ≡ wk.shape.cpus → All (IsReady wk) xs
  firsts_ready all k d lt = record {
    of = subst (IsOf wk) (sym (first_at k d lt)) (record { table = refl; same_shape = refl; same_lasting = refl });
    processor = subst (λ (p : PassView). p.seat < wk.shape.cpus) (sym (first_at k d lt))
        (subst (λ (m : ℕ). k < m) (seats_count ∙ all) lt);
    rest = subst IsAtRest (sym (sym (get_or-map pass_of xs k d d.pass lt) ∙ ap (λ (qs : List PassView). get_or qs k d.pass) (passes_are ps gs xs are ∙ firsts)))
        (firsts_rest wk.name wk.shape wk.lasting n k d.pass
        (subst (λ (m : ℕ). k < m) (seats_count ∙ sym (length-map-range_with_len (new_pass wk.name wk.shape wk.lasting) 0 n)) lt));
  }

  -- .. and has told its gate nothing
  pub firsts_kept : (told : G → Option (List Entry)) → All (IsKept told (gates_by told gs)) xs
  firsts_kept told k d lt =
      let at : (get_or xs k d).pass ≡ new_pass wk.name wk.shape wk.lasting k = first_at k d lt in
      let gate : (get_or xs k d).gate ≡ slice_get gs k = gate_at ps gs xs are k d lt in record {
        there = λ j. is_some ((gate ∙ ap (λ (p : PassView). slice_get gs p.seat) (sym at)) j);
        telling = ap (list_of told) (gate ∙ ap (λ (p : PassView). slice_get gs p.seat) (sym at))
            ∙ sym (told_nothing (list_of told (slice_get gs (get_or xs k d).pass.seat)))
            ∙ ap (told_after (list_of told (slice_get gs (get_or xs k d).pass.seat))) (ap (λ (p : PassView). p.told) (sym at));
        died = subst (All (HasDied (get_or xs k d).pass.told)) (sym (none_dead ps gs xs are k d lt)) (All-nil (HasDied (get_or xs k d).pass.told));
      }

  -- the number of a seat that went on is its place
  pub number_at : (told : G → Option (List Entry)) (ys : List (Seat G)) → GoOn told xs ys → (k : ℕ) (d : Seat G) → k < length ys
      → (get_or ys k d).pass.seat ≡ k
  number_at told ys goes k d lt =
      let low : k < length xs =
      subst (λ (m : ℕ). k < m) (sym (length-map ys number_of) ∙ ap length goes.numbers ∙ length-map xs number_of) lt in
      sym (get_or-map number_of ys k d 0 lt) ∙ ap (λ (ms : List ℕ). get_or ms k 0) goes.numbers ∙ get_or-map number_of xs k d 0 low
      ∙ ap (λ (p : PassView). p.seat) (first_at k d low)

-- ---- gates on their way home

module _ {G : Type 0} where
  with_gate : Option G → List G → List G
  with_gate o gs = option_to_list o ++ gs

  -- a seat has a gate where there is one for it
  abbrev pub AreThere : List G → List (Seat G) → Type 0
  AreThere gs xs = (k : ℕ) (d : Seat G) → k < length xs → is_some (get_or xs k d).gate ≡ is_some (slice_get gs k)

  one_home : (o : Option G) → is_some o ≡ true → (g : G) × (o ≡ Some g)
  one_home None is = absurd (cc)
  one_home (Some g) is = (g, refl)

  none_home : (o : Option G) → is_some o ≡ false → o ≡ None
  none_home None is = refl
  none_home (Some g) is = absurd (cc)

  pub as_many_home : (ps : List PassView) (gs : List G) (xs : List (Seat G)) → length xs ≡ length ps → AreThere gs xs
      → length (gates_in xs) + length (gates_left ps gs) ≡ length gs
  as_many_home [] gs [] same there = omega arith
  as_many_home [] gs (x ∷ xs) same there = absurd (omega (arith, same))
  as_many_home (p ∷ ps) gs [] same there = absurd (omega (arith, same))
  as_many_home (p ∷ ps) [] (x ∷ xs) same there =
      let none : x.gate ≡ None = none_home x.gate (there 0 x (omega arith)) in
      let rest : length (gates_in xs) + length (gates_left ps []) ≡ 0 =
      as_many_home ps [] xs (omega (arith, same)) (λ k d lt. there (suc k) d (omega (arith, lt))) in
      let left : length (gates_in (x ∷ xs)) ≡ length (gates_in xs) = ap (λ (o : Option G). length (option_to_list o ++ gates_in xs)) none in
      omega (arith, left, rest)
  as_many_home (p ∷ ps) (g ∷ gs) (x ∷ xs) same there =
      let one = one_home x.gate (there 0 x (omega arith)) in
      let rest : length (gates_in xs) + length (gates_left ps gs) ≡ length gs =
      as_many_home ps gs xs (omega (arith, same)) (λ k d lt. there (suc k) d (omega (arith, lt))) in
      let left : length (gates_in (x ∷ xs)) ≡ suc (length (gates_in xs)) = ap (λ (o : Option G). length (option_to_list o ++ gates_in xs)) one.1 in
      omega (arith, left, rest)

  abbrev told_of : Seat G → List Entry
  told_of seat = seat.pass.told

  -- .. and it was told what the seat has told
  abbrev pub AreTelling : (G → Option (List Entry)) → List G → List (Seat G) → Type 0
  AreTelling told gs xs =
      (k : ℕ) (d : Seat G) → k < length xs
      → list_of told (get_or xs k d).gate ≡ told_after (list_of told (slice_get gs k)) (get_or xs k d).pass.told

  pub told_home : (told : G → Option (List Entry)) (ps : List PassView) (gs : List G) (xs : List (Seat G)) → length xs ≡ length ps → AreThere gs xs
      → AreTelling told gs xs → AreTold told (map told_of xs) gs (gates_in xs ++ gates_left ps gs)
  told_home told [] gs [] same there tells i d e lt = ap told (get_or_default gs i e d lt)
  told_home told [] gs (x ∷ xs) same there tells i d e lt = absurd (omega (arith, same))
  told_home told (p ∷ ps) gs [] same there tells i d e lt = absurd (omega (arith, same))
  told_home told (p ∷ ps) [] (x ∷ xs) same there tells i d e lt = absurd (omega (arith, lt))
  told_home told (p ∷ ps) (g ∷ gs) (x ∷ xs) same there tells zero d e lt =
      let one = one_home x.gate (there 0 x (omega arith)) in
      ap (λ (o : Option G). told (get_or ((option_to_list o ++ gates_in xs) ++ gates_left ps gs) 0 e)) one.1
      ∙ ap (list_of told) (sym one.1) ∙ tells 0 x (omega arith)
  told_home told (p ∷ ps) (g ∷ gs) (x ∷ xs) same there tells (suc i) d e lt =
      let one = one_home x.gate (there 0 x (omega arith)) in
      ap (λ (o : Option G). told (get_or ((option_to_list o ++ gates_in xs) ++ gates_left ps gs) (suc i) e)) one.1
      ∙ told_home told ps gs xs (omega (arith, same)) (λ k d' lt'. there (suc k) d' (omega (arith, lt')))
      (λ k d' lt'. tells (suc k) d' (omega (arith, lt'))) i d e (omega (arith, lt))

-- what is kept of seats by their number is so of the gates at these places
module _ {G : Type 0} (told : G → Option (List Entry)) (gs : List G) (ys : List (Seat G)) (places : (k : ℕ) (d : Seat G) → k < length ys → (get_or ys k d).pass.seat ≡ k)
    (kept : All (IsKept told (gates_by told gs)) ys) where
  pub are_there : AreThere gs ys
  are_there k d lt = (kept k d lt).there ∙ ap (λ (s : ℕ). is_some (slice_get gs s)) (places k d lt)

  pub are_telling : AreTelling told gs ys
  are_telling k d lt =
      (kept k d lt).telling ∙ ap (λ (s : ℕ). told_after (list_of told (slice_get gs s)) (get_or ys k d).pass.told) (places k d lt)
