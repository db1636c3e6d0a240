-- Gates come back from beside their lists, and their lists are the journals.
use Rattle.std.proofs.Common.{zero, suc, ◌≡◌, ◌<◌, ◌+◌, ◌∙◌, ℕ, ◌++◌, ◌∷◌, [], List, Vec, map, length, get_or, refl, sym, subst, ap, All, arith}
use Rattle.std.specs.Prelude.{Option, Some, None, is_some, slice_get, true, false}
use Rattle.std.specs.Global.{Global}
use Rattle.std.specs.Option.{option_to_list}
use Rattle.std.proofs.lemmas.List.{get_or_default, length-append, length-map}
use Rattle.handoff_data.specs.declared.entry.Entry.{Entry}
use Rattle.run_cells.specs.Telling.{told_after, list_of}
use Rattle.run_script.specs.Told.{told_for, AreTold, WereTold, TellsRun}
use Rattle.run_trace.specs.Keeping.{Keeping, Follows, fresh, begun_of, mark, spelled_begun, spelled_told}
use Rattle.run_trace.specs.Traces.{TellsJournals}
use Rattle.run_trace.specs.Wrapped.{firsts, gates_left, gates_in, entries_of, items_of}
use Rattle.run_trace.proofs.Spelling.{kept_apart, begun_first, begun_more}
use Rattle.task_script.specs.declared.script.Script.{Script}

-- the entries of a journal that may be missing
abbrev list_or : Option (List Entry) → List Entry
list_or None = []
list_or (Some list) = list

module _ {G : Type 0} where
  -- ---- as they were at first

  pub length_firsts : (n : ℕ) (gs : List G) → length (firsts n gs) ≡ n
  length_firsts zero gs = refl
  length_firsts (suc n) [] = ap suc (length_firsts n [])
  length_firsts (suc n) (g ∷ gs) = ap suc (length_firsts n gs)

  at_first : (n : ℕ) (gs : List G) (k : ℕ) (d : Keeping G) → k < n → get_or (firsts n gs) k d ≡ fresh (slice_get gs k)
  at_first zero gs k d low = absurd (omega (arith, low))
  at_first (suc n) [] zero d low = refl
  at_first (suc n) (g ∷ gs) zero d low = refl
  at_first (suc n) [] (suc k) d low = at_first n [] k d (omega (arith, low))
  at_first (suc n) (g ∷ gs) (suc k) d low = at_first n gs k d (omega (arith, low))

  -- ---- on their way home

  -- there is a gate where there was one
  abbrev pub AreThere : List G → List (Keeping G) → Type 0
  AreThere gs xs = (k : ℕ) (d : Keeping G) → k < length xs → is_some (get_or xs k d).gate ≡ is_some (slice_get gs k)

  -- .. and it was told what was kept
  abbrev pub AreTelling : (G → Option (List Entry)) → List G → List (Keeping G) → Type 0
  AreTelling told gs xs =
      (k : ℕ) (d : Keeping G) → k < length xs
      → list_of told (get_or xs k d).gate ≡ told_after (list_of told (slice_get gs k)) (get_or xs k d).entries

  one_home : (o : Option G) → is_some o ≡ true → (g : G) × (o ≡ Some g)
  one_home None is = absurd (cc)
  one_home (Some g) is = (g, refl)

  none_home : (o : Option G) → is_some o ≡ false → o ≡ None
  none_home None is = refl
  none_home (Some g) is = absurd (cc)

  pub as_many_home : (n : ℕ) (gs : List G) (xs : List (Keeping G)) → length xs ≡ n → AreThere gs xs
      → length (gates_in xs) + length (gates_left n gs) ≡ length gs
  as_many_home zero gs [] same there = omega arith
  as_many_home zero gs (x ∷ xs) same there = absurd (omega (arith, same))
  as_many_home (suc n) gs [] same there = absurd (omega (arith, same))
  as_many_home (suc n) [] (x ∷ xs) same there =
      let none : x.gate ≡ None = none_home x.gate (there 0 x (omega arith)) in
      let rest : length (gates_in xs) + length (gates_left {G = G} n []) ≡ 0 =
      as_many_home n [] xs (omega (arith, same)) (λ k d lt. there (suc k) d (omega (arith, lt))) in
      let nobody : length (gates_left {G = G} n []) ≡ 0 = none_left n in
      let left : length (gates_in (x ∷ xs)) ≡ length (gates_in xs) = ap (λ (o : Option G). length (option_to_list o ++ gates_in xs)) none in
      omega (arith, left, rest, nobody)
    where
      none_left : (m : ℕ) → length (gates_left {G = G} m []) ≡ 0
      none_left zero = refl
      none_left (suc m) = refl
  as_many_home (suc n) (g ∷ gs) (x ∷ xs) same there =
      let one = one_home x.gate (there 0 x (omega arith)) in
      let rest : length (gates_in xs) + length (gates_left n gs) ≡ length gs =
      as_many_home n gs xs (omega (arith, same)) (λ k d lt. there (suc k) d (omega (arith, lt))) in
      let left : length (gates_in (x ∷ xs)) ≡ suc (length (gates_in xs)) = ap (λ (o : Option G). length (option_to_list o ++ gates_in xs)) one.1 in
      omega (arith, left, rest)

  told_home : (told : G → Option (List Entry)) (n : ℕ) (gs : List G) (xs : List (Keeping G)) → length xs ≡ n → AreThere gs xs
      → AreTelling told gs xs → AreTold told (map entries_of xs) gs (gates_in xs ++ gates_left n gs)
  told_home told zero gs [] same there tells i d e lt = ap told (get_or_default gs i e d lt)
  told_home told zero gs (x ∷ xs) same there tells i d e lt = absurd (omega (arith, same))
  told_home told (suc n) gs [] same there tells i d e lt = absurd (omega (arith, same))
  told_home told (suc n) [] (x ∷ xs) same there tells i d e lt = absurd (omega (arith, lt))
  told_home told (suc n) (g ∷ gs) (x ∷ xs) same there tells zero d e lt =
      let one = one_home x.gate (there 0 x (omega arith)) in
      ap (λ (o : Option G). told (get_or ((option_to_list o ++ gates_in xs) ++ gates_left n gs) 0 e)) one.1
      ∙ ap (list_of told) (sym one.1) ∙ tells 0 x (omega arith)
  told_home told (suc n) (g ∷ gs) (x ∷ xs) same there tells (suc i) d e lt =
      let one = one_home x.gate (there 0 x (omega arith)) in
      ap (λ (o : Option G). told (get_or ((option_to_list o ++ gates_in xs) ++ gates_left n gs) (suc i) e)) one.1
      ∙ told_home told n gs xs (omega (arith, same)) (λ k d' lt'. there (suc k) d' (omega (arith, lt')))
      (λ k d' lt'. tells (suc k) d' (omega (arith, lt'))) i d e (omega (arith, lt))

  same_entries : (xs : List (Keeping G)) (js : List (List Entry)) → length xs ≡ length js
      → ((k : ℕ) (d : Keeping G) → k < length xs → (get_or xs k d).entries ≡ list_or (slice_get js k)) → map entries_of xs ≡ js
  same_entries [] [] same each = refl
  same_entries [] (j ∷ js) same each = absurd (omega (arith, same))
  same_entries (x ∷ xs) [] same each = absurd (omega (arith, same))
  same_entries (x ∷ xs) (j ∷ js) same each =
      let rest : map entries_of xs ≡ js = same_entries xs js (omega (arith, same)) (λ k d lt. each (suc k) d (omega (arith, lt))) in
      let first : x.entries ≡ j = each 0 x (omega arith) in
      λ i. first i ∷ rest i

-- one list more, in the place of what was kept
pub one_list : {G : Type 0} (vs : List (Vec Entry Global)) (v : Vec Entry Global) (one : Keeping G) (rest : List (Keeping G)) → v.items ≡ one.entries
    → map items_of (vs ++ v ∷ []) ++ map entries_of rest ≡ map items_of vs ++ map entries_of (one ∷ rest)
one_list [] v one rest is = λ j. is j ∷ map entries_of rest
one_list (w ∷ vs) v one rest is = ap (λ (z : List (List Entry)). w.items ∷ z) (one_list vs v one rest is)

module _ {G : Type 0} (told : G → Option (List Entry)) where
  pub record Comes (kept : Keeping G) (gate : Option G) (journal : Option (List Entry)) : Type 0 where
    pub there : is_some kept.gate ≡ is_some gate
    pub begun : begun_of (list_of told kept.gate) kept.entries ≡ list_of told gate
    pub entries : kept.entries ≡ list_or journal

  comes : (kept : Keeping G) (gate : Option G) (journal : Option (List Entry))
      → spelled_told told kept ≡ told_for journal (spelled_told told (fresh gate)) → Comes kept gate journal
  comes kept gate None is =
      let apart = kept_apart (is_some kept.gate) (is_some gate) (begun_of (list_of told kept.gate) kept.entries) (begun_of (list_of told gate) [])
      kept.entries [] is in
      record { there = apart.0; begun = apart.1 ∙ begun_first (list_of told gate); entries = apart.2 }
  comes kept gate (Some journal) is =
      let apart = kept_apart (is_some kept.gate) (is_some gate) (begun_of (list_of told kept.gate) kept.entries) (begun_of (list_of told gate) [])
      kept.entries journal
      (is ∙ ap (λ (z : List Entry). Some (mark (is_some gate) ∷ z)) (begun_more (begun_of (list_of told gate) []) [] journal)) in
      record { there = apart.0; begun = apart.1 ∙ begun_first (list_of told gate); entries = apart.2 }

  module _ (n : ℕ) (gs : List G) (ks xs : List (Keeping G)) (firstly : ks ≡ firsts n gs) (many : length xs ≡ length ks) where
    pub seats : length xs ≡ n
    seats = many ∙ ap length firstly ∙ length_firsts n gs

    comes_at : (js : List (List Entry)) → AreTold (spelled_told told) js ks xs → (k : ℕ) (d : Keeping G) → k < length xs
        → Comes (get_or xs k d) (slice_get gs k) (slice_get js k)
    comes_at js each k d lt =
        let low : k < length ks = subst (λ (m : ℕ). k < m) many lt in
        let at : get_or ks k d ≡ fresh (slice_get gs k) =
        ap (λ (zs : List (Keeping G)). get_or zs k d) firstly ∙ at_first n gs k d (subst (λ (m : ℕ). k < m) seats lt) in
        comes (get_or xs k d) (slice_get gs k) (slice_get js k)
        (each k d d low ∙ ap (λ (x : Keeping G). told_for (slice_get js k) (spelled_told told x)) at)

    -- as many gates come back, whatever came of the run
    pub gates_home : {m : ℕ} → WereTold (spelled_told told) m ks xs → length (gates_in xs) + length (gates_left n gs) ≡ length gs
    gates_home part = as_many_home n gs xs seats (λ k d lt. (comes_at part.entries part.each k d lt).there)

    -- what was kept, each gate at its place was told
    home : (js : List (List Entry)) → AreTold (spelled_told told) js ks xs → All (Follows told) xs
        → AreTold told (map entries_of xs) gs (gates_in xs ++ gates_left n gs)
    home js each follows = told_home told n gs xs seats (λ k d lt. (comes_at js each k d lt).there) (λ k d lt.
        follows k d lt ∙ ap (λ (o : Option (List Entry)). told_after o (get_or xs k d).entries) (comes_at js each k d lt).begun)

    -- so it is whatever came of the run
    pub were_told : {m : ℕ} → WereTold (spelled_told told) m ks xs → All (Follows told) xs → (new : List G)
        → new ≡ gates_in xs ++ gates_left n gs → WereTold told n gs new
    were_told part follows new is = record {
      entries = map entries_of xs;
      few = (let count = length-map xs entries_of in omega (arith, count, seats));
      each = subst (AreTold told (map entries_of xs) gs) (sym is) (home part.entries part.each follows);
    }

    module _ (script : Script) (run : TellsRun (spelled_told told) script ks xs) (seats_are : n ≡ script.shape.cpus + script.shape.agents)
        (follows : All (Follows told) xs) where
      lists_are : map entries_of xs ≡ run.journals.seats
      lists_are = same_entries xs run.journals.seats (seats ∙ seats_are ∙ sym run.seats_are)
          (λ k d lt. (comes_at run.journals.seats run.each k d lt).entries)

      -- the gates were told the run, and its journals were kept
      pub traced : (new : List G) (lists : List (List Entry)) → new ≡ gates_in xs ++ gates_left n gs → lists ≡ map entries_of xs
          → (t : TellsRun told script gs new) × (t.journals.seats ≡ lists)
      traced new lists is kept = (
        record {
          journals = run.journals;
          cpus_are = run.cpus_are;
          tasks_are = run.tasks_are;
          seats_are = run.seats_are;
          legal = run.legal;
          each = subst (λ (z : List (List Entry) × List G). AreTold told z.0 gs z.1) (λ j. (lists_are j, sym is j))
              (home run.journals.seats run.each follows);
        },
        sym lists_are ∙ sym kept,
      )

-- these are the journals
pub traced_journals : {G : Type 0} (told : G → Option (List Entry)) (script : Script) (old new : List G) (tells : TellsRun told script old new)
    (lists : List (List Entry)) → tells.journals.seats ≡ lists
    → TellsJournals told script (record { cpus = script.shape.cpus; tasks = script.shape.tasks; seats = lists }) old new
traced_journals told script old new tells lists is = record {
  tells = tells;
  these = λ j. record { cpus = tells.cpus_are j; tasks = tells.tasks_are j; seats = is j };
}
