-- The journals of passes that stand in the order of their seats.
use Rattle.std.proofs.Common.{zero, suc, ◌≡◌, ◌<◌, ◌+◌, ◌∙◌, ℕ, ◌∷◌, [], List, map, length, get_or, eq-eqb, ne_eqb, refl, sym, subst, ap, All, arith}
use Rattle.std.specs.Prelude.{Some, slice_get}
use Rattle.std.specs.List.{Contains}
use Rattle.std.specs.Option.{option_and_then}
use Rattle.std.proofs.lemmas.List.{length-map, get_or-map}
use Rattle.std.proofs.lemmas.Option.{slice_get-get_or}
use Rattle.core_invariant.specs.Histories.{first_journals, history}
use Rattle.handoff_data.specs.Positions.{IsSomewhere}
use Rattle.handoff_data.specs.declared.entry.Entry.{Entry}
use Rattle.handoff_data.specs.declared.shape.Shape.{Shape}
use Rattle.task_words.specs.Closing.{traces_in, journals_in}
use Rattle.task_words.specs.Views.{PassView}
use Rattle.word_steps.specs.Folds.{journal}
use Rattle.word_table.specs.End.{HasEachSeat}

-- the places of these are their numbers, from s on
abbrev AreAt : ℕ → List PassView → Type 0
AreAt s ps = (k : ℕ) (d : PassView) → k < length ps → (get_or ps k d).seat ≡ s + k

trace_at : (s : ℕ) (ps : List PassView) → AreAt s ps → (k : ℕ) (d : PassView) → k < length ps → traces_in ps (s + k) ≡ (get_or ps k d).trace
trace_at s [] at k d lt = absurd (omega (arith, lt))
trace_at s (p ∷ ps) at zero d lt =
    let e : p.seat ≡ s + 0 = at 0 p (omega arith) in
    let is : traces_in (p ∷ ps) (s + 0) ≡ p.trace = rw (eq-eqb p.seat (s + 0) e) in is
trace_at s (p ∷ ps) at (suc k) d lt =
    let e : p.seat ≡ s + 0 = at 0 p (omega arith) in
    let is : traces_in (p ∷ ps) (s + suc k) ≡ traces_in ps (s + suc k) = rw (ne_eqb p.seat (s + suc k) (λ same. omega (arith, e, same))) in
    is ∙ ap (traces_in ps) (let same : s + suc k ≡ suc s + k = omega arith in same)
    ∙ trace_at (suc s) ps (λ i d' lt'. at (suc i) d' (omega (arith, lt')) ∙ (let same : s + suc i ≡ suc s + i = omega arith in same)) k d (omega (arith, lt))

firsts_are : (f : ℕ → List Entry) (g : PassView → List Entry) (ps : List PassView)
    → ((k : ℕ) (d : PassView) → k < length ps → f k ≡ g (get_or ps k d)) → first_journals (length ps) f ≡ map g ps
firsts_are f g [] each = refl
firsts_are f g (p ∷ ps) each = λ j.
    each 0 p (omega arith) j ∷ firsts_are (λ k. f (suc k)) g ps (λ k d lt. each (suc k) d (omega (arith, lt))) j

module _ (shape : Shape) (ps : List PassView) (all : length ps ≡ shape.cpus + shape.agents)
    (places : (k : ℕ) (d : PassView) → k < length ps → (get_or ps k d).seat ≡ k)
    (spoken : All (λ p. journal p.seat p.trace ≡ p.told) ps) where
  told_in : PassView → List Entry
  told_in p = p.told

  journal_at : (k : ℕ) (d : PassView) → k < length ps → journal k (traces_in ps k) ≡ (get_or ps k d).told
  journal_at k d lt =
      let none : 0 + k ≡ k = omega arith in
      ap (λ (s : ℕ). journal s (traces_in ps s)) (sym none)
      ∙ ap (journal (0 + k)) (trace_at 0 ps (λ i d' lt'. places i d' lt' ∙ (let same : i ≡ 0 + i = omega arith in same)) k d lt)
      ∙ ap (λ (s : ℕ). journal s (get_or ps k d).trace) (none ∙ sym (places k d lt)) ∙ spoken k d lt

  pub journals_are : (journals_in shape ps).seats ≡ map (λ p. p.told) ps
  unfolding history
  journals_are =
      ap (λ (n : ℕ). first_journals n (λ s. journal s (traces_in ps s))) (sym all)
      ∙ firsts_are (λ s. journal s (traces_in ps s)) (λ p. p.told) ps journal_at

  -- an entry that a pass has told stands in a journal
  pub told_somewhere : (p : PassView) (e : Entry) → Contains ps p → Contains p.told e → IsSomewhere (journals_in shape ps) e
  told_somewhere p e within at = (
    within.0,
    (
      at.0,
      record {
        at = ap (λ (js : List (List Entry)). option_and_then (λ (es : List Entry). slice_get es at.0) (slice_get js within.0)) journals_are
            ∙ ap (option_and_then (λ (es : List Entry). slice_get es at.0))
            (slice_get-get_or (map (λ (q : PassView). q.told) ps) within.0 p.told (subst (λ (n : ℕ). within.0 < n) (sym (length-map ps (λ (q : PassView). q.told))) within.1))
            ∙ ap (λ (js : List Entry). slice_get js at.0)
            (get_or-map (λ (q : PassView). q.told) ps within.0 p p.told within.1 ∙ ap (λ (q : PassView). q.told) within.2)
            ∙ slice_get-get_or p.told at.0 e at.1 ∙ ap (λ (x : Entry). Some x) at.2;
      },
    ),
  )

  pub all_seats : HasEachSeat (shape.cpus + shape.agents) (map (λ p. p.seat) ps)
  all_seats = record {
    each = λ s lt.
        let low : s < length ps = subst (λ (n : ℕ). s < n) (sym all) lt in
        (s, subst (λ (n : ℕ). s < n) (sym (length-map ps (λ (p : PassView). p.seat))) low, seat_is s low);
  }
    where
      seat_of_map : (qs : List PassView) (s : ℕ) → s < length qs → ((d : PassView) → (get_or qs s d).seat ≡ s) → get_or (map (λ (p : PassView). p.seat) qs) s s ≡ s
      seat_of_map [] s lt is = absurd (omega (arith, lt))
      seat_of_map (q ∷ qs) s lt is = get_or-map (λ (p : PassView). p.seat) (q ∷ qs) s q s lt ∙ is q

      seat_is : (s : ℕ) → s < length ps → get_or (map (λ (p : PassView). p.seat) ps) s s ≡ s
      seat_is s low = seat_of_map ps s low (λ d. places s d low)

module _ (shape : Shape) (ps : List PassView) where
  pub cpus_are : (journals_in shape ps).cpus ≡ shape.cpus
  unfolding history
  cpus_are = refl

  pub tasks_are : (journals_in shape ps).tasks ≡ shape.tasks
  unfolding history
  tasks_are = refl

  length_firsts : (n : ℕ) (f : ℕ → List Entry) → length (first_journals n f) ≡ n
  length_firsts zero f = refl
  length_firsts (suc n) f = ap suc (length_firsts n (λ s. f (suc s)))

  pub seats_are : length (journals_in shape ps).seats ≡ shape.cpus + shape.agents
  unfolding history
  seats_are = length_firsts (shape.cpus + shape.agents) (λ s. journal s (traces_in ps s))
