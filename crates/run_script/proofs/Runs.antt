-- A whole run of seats, as its gates and passes tell it.
use Rattle.std.proofs.Common.{◌≡◌, ◌<◌, ◌+◌, ◌∙◌, ℕ, ◌++◌, ◌∷◌, [], List, map, length, get_or, refl, sym, subst, ap, All, arith}
use Rattle.std.specs.Prelude.{Option}
use Rattle.std.specs.List.{Contains}
use Rattle.std.proofs.lemmas.List.{append-nil, length-map, get_or-map, get_or_default}
use Rattle.std.proofs.lemmas.List.Elements.{All-map, All-contains}
use Rattle.handoff_data.specs.declared.entry.Entry.{Entry}
use Rattle.handoff_data.specs.declared.entry.Entry.TheVariants as entry
use Rattle.run_cells.specs.Ends.{AllDied}
use Rattle.run_rounds.specs.Seats.{IsReady, IsKept, IsIdle, GoOn, HasDiedAt}
use Rattle.run_rounds.specs.declared.seat.Seat.{Seat}
use Rattle.run_script.proofs.Driving.{as_many}
use Rattle.run_script.proofs.Homes.{passes_are, seats_count, firsts_kept, number_at, AreThere, as_many_home, told_home, are_there, are_telling}
use Rattle.run_script.proofs.Journals.{journals_are, told_somewhere, all_seats}
use Rattle.run_script.specs.Ran.{HasRun}
use Rattle.run_script.specs.Seated.{pass_of, gates_in, AreSeated, gates_left, gates_by, AreOver}
use Rattle.run_script.specs.Told.{AreTold, WereTold}
use Rattle.run_turns.specs.Deaths.{HasDied}
use Rattle.task_words.specs.Closing.{first_passes, IsDone, journals_in}
use Rattle.task_words.specs.Views.{PassView, TurnView, IsOf}
use Rattle.word_steps.specs.Folds.{journal}
use Rattle.word_table.specs.Views.{WordsView}

-- a seat that rests and has no current task has given all back
done_of : {G : Type 0} (wk : WordsView) (seat : Seat G) → IsReady wk seat → IsIdle seat → IsDone seat.pass
done_of wk seat ready idle = record {
  tasks = ready.rest.steady.tasks;
  queues = ready.rest.steady.queues;
  works = ready.rest.steady.works;
  waits = ready.rest.steady.waits;
  body = ready.rest.steady.body;
  current = idle;
  clear = ready.rest.steady.clear;
}

-- nobody was told anything
pub none_told : {G : Type 0} (told : G → Option (List Entry)) (seats : ℕ) (gs : List G) → WereTold told seats gs gs
none_told told seats gs = record { entries = []; few = omega arith; each = λ i d e lt. ap told (get_or_default gs i e d lt) }

module _ {G : Type 0} (told : G → Option (List Entry)) (wk : WordsView) (ps : List PassView) (gs : List G) (xs ys : List (Seat G))
    (firsts : ps ≡ first_passes wk.name wk.shape wk.lasting wk.shape.cpus) (are : AreSeated ps gs xs) (goes : GoOn told xs ys) where
  kept : All (IsKept told (gates_by told gs)) ys
  kept = goes.kept (gates_by told gs) (firsts_kept wk wk.shape.cpus ps gs xs firsts are told)

  places : (k : ℕ) (d : Seat G) → k < length ys → (get_or ys k d).pass.seat ≡ k
  places = number_at wk wk.shape.cpus ps gs xs firsts are told ys goes

  pub many_seats : length ys ≡ length ps
  many_seats = as_many told xs ys goes ∙ sym (length-map xs pass_of) ∙ ap length (passes_are ps gs xs are)

  there : AreThere gs ys
  there = are_there told gs ys places kept

  pub many_gates : length (gates_in ys) + length (gates_left ps gs) ≡ length gs
  many_gates = as_many_home ps gs ys many_seats there

  -- whatever came of the run
  pub were_told : (new : List G) → new ≡ gates_in ys ++ gates_left ps gs → WereTold told (wk.shape.cpus + wk.shape.agents) gs new
  were_told new is = record {
    entries = map (λ (seat : Seat G). seat.pass.told) ys;
    few = (let many : length (map (λ (seat : Seat G). seat.pass.told) ys) ≡ wk.shape.cpus =
        length-map ys (λ (seat : Seat G). seat.pass.told) ∙ as_many told xs ys goes ∙ seats_count wk wk.shape.cpus ps gs xs firsts are in
        omega (arith, many));
    each = subst (AreTold told (map (λ (seat : Seat G). seat.pass.told) ys) gs) (sym is)
        (told_home told ps gs ys many_seats there (are_telling told gs ys places kept));
  }

  module _ (agents : wk.shape.agents ≡ 0) (ready : All (IsReady wk) ys) (over : AreOver wk.shape.tasks ys)
      (tied : All (λ p. journal p.seat p.trace ≡ p.told ++ p.turn.entries) (map pass_of ys)) where
    all : length (map pass_of ys) ≡ wk.shape.cpus + wk.shape.agents
    all =
        let cpus : length (map pass_of ys) ≡ wk.shape.cpus =
        length-map ys pass_of ∙ as_many told xs ys goes ∙ seats_count wk wk.shape.cpus ps gs xs firsts are in
        omega (arith, cpus, agents)

    pass_places : (k : ℕ) (d : PassView) → k < length (map pass_of ys) → (get_or (map pass_of ys) k d).seat ≡ k
    pass_places k d lt = at ys places k d (subst (λ (n : ℕ). k < n) (length-map ys pass_of) lt)
      where
        at : (zs : List (Seat G)) → ((i : ℕ) (e : Seat G) → i < length zs → (get_or zs i e).pass.seat ≡ i) → (i : ℕ) (e : PassView) → i < length zs
            → (get_or (map pass_of zs) i e).seat ≡ i
        at [] is i e low = absurd (omega (arith, low))
        at (z ∷ zs) is i e low = ap (λ (p : PassView). p.seat) (get_or-map pass_of (z ∷ zs) i z e low) ∙ is i z low

    spoken : All (λ (p : PassView). journal p.seat p.trace ≡ p.told) (map pass_of ys)
    spoken k d lt =
        tied k d lt ∙ ap (λ (es : List Entry). (get_or (map pass_of ys) k d).told ++ es) (empty k d lt) ∙ append-nil (get_or (map pass_of ys) k d).told
      where
        empty : All (λ (p : PassView). p.turn.entries ≡ []) (map pass_of ys)
        empty = All-map (λ (p : PassView). p.turn.entries ≡ []) pass_of ys (λ i e low. ap (λ (t : TurnView). t.entries) (ready i e low).rest.turn)

    has_pass : (seat : Seat G) → Contains ys seat → Contains (map pass_of ys) seat.pass
    has_pass seat within = (
      within.0,
      subst (λ (n : ℕ). within.0 < n) (sym (length-map ys pass_of)) within.1,
      get_or-map pass_of ys within.0 seat seat.pass within.1 ∙ ap pass_of within.2,
    )

    died : AllDied (journals_in wk.shape (map pass_of ys)) wk.shape.tasks
    died t lt =
        let at : HasDiedAt ys t = over.dead t lt in
        let death : HasDied at.seat.pass.told t =
        All-contains (HasDied at.seat.pass.told) at.seat.dead.items t (All-contains (IsKept told (gates_by told gs)) ys at.seat kept at.within).died at.dead in (
          death.m,
          death.c,
          told_somewhere wk.shape (map pass_of ys) all pass_places spoken at.seat.pass (entry.Die t death.m death.c)
              (has_pass at.seat at.within) death.within,
        )

    told_by : map (λ (p : PassView). p.told) (map pass_of ys) ≡ map (λ (seat : Seat G). seat.pass.told) ys
    told_by = twice ys
      where
        twice : (zs : List (Seat G)) → map (λ (p : PassView). p.told) (map pass_of zs) ≡ map (λ (seat : Seat G). seat.pass.told) zs
        twice [] = refl
        twice (z ∷ zs) = λ j. z.pass.told ∷ twice zs j

    pub has_run : (new : List G) → new ≡ gates_in ys ++ gates_left ps gs → HasRun told wk gs new (map pass_of ys)
    has_run new is = record {
      of = All-map (IsOf wk) pass_of ys (λ k d lt. (ready k d lt).of);
      all = all_seats wk.shape (map pass_of ys) all pass_places spoken;
      done = All-map IsDone pass_of ys (λ k d lt. done_of wk (get_or ys k d) (ready k d lt) (over.idle k d lt));
      died = died;
      each = subst (λ (z : List (List Entry) × List G). AreTold told z.0 gs z.1)
          (λ j. (sym (journals_are wk.shape (map pass_of ys) all pass_places spoken ∙ told_by) j, sym is j))
          (told_home told ps gs ys many_seats there (are_telling told gs ys places kept));
    }
