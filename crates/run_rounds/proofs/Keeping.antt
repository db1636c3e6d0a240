-- What turns leave of seats.
use Rattle.std.proofs.Common.{zero, suc, refl, ◌≡◌, ◌<◌, ◌∙◌, ℕ, ◌++◌, ◌∷◌, [], List, Option, length, get_or, set, sym, subst, ap, All, arith}
use Rattle.std.specs.List.{Contains}
use Rattle.std.specs.Prelude.{is_some}
use Rattle.std.proofs.lemmas.List.Elements.{All-set, All-push}
use Rattle.std.proofs.Math.Seq.{map-set_same}
use Rattle.handoff_data.specs.declared.entry.Entry.{Entry}
use Rattle.pipe_bodies.specs.declared.verdict.Then.{Then}
use Rattle.pipe_bodies.specs.declared.verdict.Then.TheVariants as verdict
use Rattle.run_cells.specs.Telling.{list_of, GoesOn, Grows, IsTold}
use Rattle.run_rounds.specs.Seats.{number_of, HasDiedAt, HasDiedSomewhere, dead_when, dead_after, IsKept, Goes, GoOn, AllGoOn}
use Rattle.run_rounds.specs.declared.seat.Seat.{Seat}
use Rattle.run_rounds.specs.declared.seat.Worker.{Worker}
use Rattle.run_turns.proofs.TurnLaws.{died_still}
use Rattle.run_turns.specs.Deaths.{HasDied, DiedBy}
use Rattle.run_turns.specs.declared.turn.Turned.{Turned}
use Rattle.run_turns.specs.declared.turn.Turned.TheVariants as turned

get_or_any : {X : Type 0} (xs : List X) (i : ℕ) (d e : X) → i < length xs → get_or xs i d ≡ get_or xs i e
get_or_any [] i d e lt = absurd (omega (arith, lt))
get_or_any (x ∷ xs) zero d e lt = refl
get_or_any (x ∷ xs) (suc i) d e lt = get_or_any xs i d e (omega (arith, lt))

-- found on a list
module _ {G : Type 0} where
  pub found_at : (seats : List (Seat G)) (i : ℕ) (seat : Seat G) (t : ℕ) → i < length seats → seat ≡ get_or seats i seat
      → Contains seat.dead.items t → HasDiedAt seats t
  found_at seats i seat t lt at dead = record { seat = seat; within = (i, lt, sym at); dead = dead }

  pub found_somewhere : (workers : List (Worker G)) (i : ℕ) (worker : Worker G) (t : ℕ) → i < length workers
      → worker ≡ get_or workers i worker → HasDiedAt worker.seats.items t → HasDiedSomewhere workers t
  found_somewhere workers i worker t lt at died = record { worker = worker; within = (i, lt, sym at); at = died }

module _ {G : Type 0} (told : G → Option (List Entry)) where
  died_all : (old new : List Entry) (dead : List ℕ) → Grows old new → All (HasDied old) dead → All (HasDied new) dead
  died_all old new dead grows all k d lt = died_still (get_or dead k d) old new grows (all k d lt)

  -- a turn after which these tasks are on the list of the dead
  goes_with : (old new : Seat G) → is_some new.gate ≡ is_some old.gate
      → GoesOn (list_of told old.gate) (list_of told new.gate) old.pass new.pass
      → (All (HasDied new.pass.told) old.dead.items → All (HasDied new.pass.told) new.dead.items) → Goes told old new
  goes_with old new there goes dead = record {
    same = goes.same;
    kept = λ gates is. record {
      there = there ∙ is.there ∙ ap gates.there (sym goes.same.same_seat);
      telling = goes.told (gates.list new.pass.seat)
          (subst (λ (s : ℕ). IsTold (gates.list s) (list_of told old.gate) old.pass) (sym goes.same.same_seat) is.telling);
      died = dead (died_all old.pass.told new.pass.told old.dead.items goes.grows is.died);
    };
  }

  -- a turn in which no task died
  pub goes_by : (old new : Seat G) → is_some new.gate ≡ is_some old.gate → new.dead.items ≡ old.dead.items
      → GoesOn (list_of told old.gate) (list_of told new.gate) old.pass new.pass → Goes told old new
  goes_by old new there dead goes =
      goes_with old new there goes (λ all. subst (λ (ts : List ℕ). All (HasDied new.pass.told) ts) (sym dead) all)

  -- .. in which t died
  pub goes_dead : (old new : Seat G) (t : ℕ) → is_some new.gate ≡ is_some old.gate → new.dead.items ≡ old.dead.items ++ t ∷ []
      → GoesOn (list_of told old.gate) (list_of told new.gate) old.pass new.pass → HasDied new.pass.told t → Goes told old new
  goes_dead old new t there dead goes died =
      goes_with old new there goes
      (λ all. subst (λ (ts : List ℕ). All (HasDied new.pass.told) ts) (sym dead) (All-push (HasDied new.pass.told) old.dead.items t all died))

  -- .. by what it answered and left on the list
  goes_ran : (old new : Seat G) (t : ℕ) (then : Then) → is_some new.gate ≡ is_some old.gate
      → new.dead.items ≡ dead_when then t old.dead.items
      → GoesOn (list_of told old.gate) (list_of told new.gate) old.pass new.pass
      → (then ≡ verdict.Exit → HasDied new.pass.told t) → Goes told old new
  goes_ran old new t verdict.More there dead goes died = goes_by old new there dead goes
  goes_ran old new t (verdict.WaitIn side) there dead goes died = goes_by old new there dead goes
  goes_ran old new t verdict.WaitOut there dead goes died = goes_by old new there dead goes
  goes_ran old new t verdict.Exit there dead goes died = goes_dead old new t there dead goes (died refl)

  pub goes_noted : (old new : Seat G) (answer : Turned) → is_some new.gate ≡ is_some old.gate
      → new.dead.items ≡ dead_after answer old.dead.items
      → GoesOn (list_of told old.gate) (list_of told new.gate) old.pass new.pass
      → DiedBy answer new.pass.told → Goes told old new
  goes_noted old new turned.Idle there dead goes died = goes_by old new there dead goes
  goes_noted old new (turned.Ran t v) there dead goes died = goes_ran old new t v.then there dead goes died

  pub goes_again : (a b c : Seat G) → Goes told a b → Goes told b c → Goes told a c
  goes_again a b c x y = record {
    same = record {
      table = y.same.table ∙ x.same.table;
      same_shape = y.same.same_shape ∙ x.same.same_shape;
      same_lasting = y.same.same_lasting ∙ x.same.same_lasting;
      same_seat = y.same.same_seat ∙ x.same.same_seat;
    };
    kept = λ gates is. y.kept gates (x.kept gates is);
  }

  pub goes_none : (a : Seat G) → Goes told a a
  goes_none a = record { same = record { table = refl; same_shape = refl; same_lasting = refl; same_seat = refl }; kept = λ gates is. is }

  pub go_on_none : (a : List (Seat G)) → GoOn told a a
  go_on_none a = record { numbers = refl; kept = λ gates is. is }

  pub go_on_again : (a b c : List (Seat G)) → GoOn told a b → GoOn told b c → GoOn told a c
  go_on_again a b c x y = record { numbers = y.numbers ∙ x.numbers; kept = λ gates is. y.kept gates (x.kept gates is) }

  pub go_on_one : (xs : List (Seat G)) (i : ℕ) (x y : Seat G) → i < length xs → x ≡ get_or xs i x → Goes told x y
      → GoOn told xs (set xs i y)
  go_on_one xs i x y within at goes = record {
    numbers = map-set_same number_of _ _ _ x (goes.same.same_seat ∙ ap number_of at);
    kept = λ gates all. All-set (IsKept told gates) xs i y (goes.kept gates (subst (IsKept told gates) (sym at) (all i x within))) all;
  }

  -- all workers

  pub go_all_none : (a : List (Worker G)) → AllGoOn told a a
  go_all_none a i d e lt =
      subst (λ (w : Worker G). GoOn told (get_or a i d).seats.items w.seats.items) (get_or_any a i d e lt) (go_on_none (get_or a i d).seats.items)

  pub go_all_again : (a b c : List (Worker G)) → length b ≡ length a → AllGoOn told a b → AllGoOn told b c → AllGoOn told a c
  go_all_again a b c same x y i d e lt =
      go_on_again (get_or a i d).seats.items (get_or b i d).seats.items (get_or c i e).seats.items (x i d d lt)
      (y i d e (subst (λ (n : ℕ). i < n) (sym same) lt))
