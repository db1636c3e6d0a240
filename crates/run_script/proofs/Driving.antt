-- Seats that were dealt to workers, driven, and taken back.
use Rattle.std.proofs.Common.{suc, min, ◌≡◌, ◌<◌, ◌≤◌, ◌∙◌, ℕ, ◌∷◌, [], List, map, length, replicate, refl, sym, subst, ap, All, arith}
use Rattle.std.specs.Prelude.{Option}
use Rattle.std.specs.List.{Contains}
use Rattle.std.proofs.lemmas.List.{length-map, length-replicate, get_or-map}
use Rattle.std.proofs.lemmas.List.Elements.{All-map, All-contains, All-contains_itself}
use Rattle.handoff_data.specs.declared.entry.Entry.{Entry}
use Rattle.run_rounds.specs.Seats.{number_of, IsKept, GoOn, AllGoOn, IsIdle, HasDiedAt, HasDiedSomewhere, IsOver}
use Rattle.run_rounds.specs.declared.seat.Seat.{Seat}
use Rattle.run_rounds.specs.declared.seat.Worker.{Worker}
use Rattle.run_script.proofs.Rows.{AreDealt, are_dealt, map_dealt, All-dealt, all_from_dealt}
use Rattle.run_script.specs.Dealt.{dealt}
use Rattle.run_script.specs.Seated.{seats_of, AreOver}

from_map : {A B : Type 0} (P : B → Type 0) (f : A → B) (xs : List A) → All P (map f xs) → All (λ x. P (f x)) xs
from_map P f xs all k d lt = subst P (get_or-map f xs k d (f d) lt) (all k (f d) (subst (λ (n : ℕ). k < n) (sym (length-map xs f)) lt))

pub as_many : {G : Type 0} (told : G → Option (List Entry)) (xs ys : List (Seat G)) → GoOn told xs ys → length ys ≡ length xs
as_many told xs ys goes = sym (length-map ys number_of) ∙ ap length goes.numbers ∙ length-map xs number_of

-- as many workers as were asked for
pub crew_is : {G : Type 0} (ws : List (Worker G)) (n : ℕ) → map seats_of ws ≡ replicate n [] → length ws ≡ n
crew_is ws n is = sym (length-map ws seats_of) ∙ ap length is ∙ length-replicate n []

-- .. and one at least
pub crew_some : {G : Type 0} (ws : List (Worker G)) (n workers count cpus : ℕ) → map seats_of ws ≡ replicate n [] → n ≡ min workers count
    → count ≡ cpus → 1 ≤ cpus → 0 < workers → 0 < length ws
crew_some ws n workers count cpus is least many some asked = let crew = crew_is ws n is in omega (arith, crew, least, many, some, asked)

-- ---- what holds of each seat

module _ {G : Type 0} (count : ℕ) (some : 0 < count) (ws : List (Worker G)) (xs : List (Seat G)) (is : map seats_of ws ≡ dealt count 0 xs) where
  pub to_workers : (P : Seat G → Type 0) → All P xs → All (λ (w : Worker G). All P w.seats.items) ws
  to_workers P all = from_map (All P) seats_of ws (subst (All (All P)) (sym is) (All-dealt count P some 0 xs all))

  pub from_workers : (P : Seat G → Type 0) → All (λ (w : Worker G). All P w.seats.items) ws → All P xs
  from_workers P all = all_from_dealt count P some 0 xs (subst (All (All P)) is (All-map (All P) seats_of ws all))

  -- who has died somewhere has died at one of the seats
  died_at : (t : ℕ) → HasDiedSomewhere ws t → HasDiedAt xs t
  died_at t died = record {
    seat = died.at.seat;
    within = All-contains (Contains xs) died.worker.seats.items died.at.seat
        (All-contains (λ (w : Worker G). All (Contains xs) w.seats.items) ws died.worker (to_workers (Contains xs) (All-contains_itself xs)) died.within)
        died.at.within;
    dead = died.at.dead;
  }

  pub over_all : (tasks : ℕ) → IsOver tasks ws → AreOver tasks xs
  over_all tasks over = record { dead = λ t lt. died_at t (over.dead t lt); idle = from_workers IsIdle over.idle }

-- ---- and of their rounds

module _ {G : Type 0} (told : G → Option (List Entry)) where
  same_numbers : (old new : List (Worker G)) → length new ≡ length old → AllGoOn told old new
      → map (map number_of) (map seats_of new) ≡ map (map number_of) (map seats_of old)
  same_numbers [] [] same goes = refl
  same_numbers [] (v ∷ vs) same goes = absurd (omega (arith, same))
  same_numbers (w ∷ ws) [] same goes = absurd (omega (arith, same))
  same_numbers (w ∷ ws) (v ∷ vs) same goes = λ j.
      (goes 0 w v (omega arith)).numbers j
      ∷ same_numbers ws vs (omega (arith, same)) (λ i d e lt. goes (suc i) d e (omega (arith, lt))) j

  -- the workers have seats with the numbers that were dealt
  pub still_dealt : (count : ℕ) → 0 < count → (old new : List (Worker G)) (xs : List (Seat G)) → length new ≡ length old → AllGoOn told old new
      → map seats_of old ≡ dealt count 0 xs → AreDealt number_of count 0 (map seats_of new) (map number_of xs)
  still_dealt count some old new xs same goes is =
      are_dealt number_of count some 0 (map seats_of new) (map number_of xs)
      (same_numbers old new same goes ∙ ap (map (map number_of)) is ∙ map_dealt number_of count some 0 xs)

  pub go_on_all : (count : ℕ) → 0 < count → (old new : List (Worker G)) (xs ys : List (Seat G)) → length new ≡ length old → AllGoOn told old new
      → map seats_of old ≡ dealt count 0 xs → map seats_of new ≡ dealt count 0 ys → map number_of ys ≡ map number_of xs → GoOn told xs ys
  go_on_all count some old new xs ys same goes dealt_old dealt_new numbers = record {
    numbers = numbers;
    kept = λ gates all.
        from_workers count some new ys dealt_new (IsKept told gates)
        (λ k d lt.
        let low : k < length old = subst (λ (n : ℕ). k < n) same lt in
        (goes k d d low).kept gates (to_workers count some old xs dealt_old (IsKept told gates) all k d low));
  }

  -- what a worker's rounds make of the seats that were dealt
  pub record IsDriven (old new : List (Worker G)) (xs : List (Seat G)) : Type 0 where
    pub list : List (Seat G)
    pub many : length list ≡ length xs
    pub rows_are : map seats_of new ≡ dealt (length new) 0 list
    pub goes : GoOn told xs list

  pub driven : (count : ℕ) → 0 < count → (old new : List (Worker G)) (xs : List (Seat G)) → length old ≡ count → length new ≡ length old
      → AllGoOn told old new → map seats_of old ≡ dealt count 0 xs → IsDriven old new xs
  driven count some old new xs many same goes is =
      let after : AreDealt number_of count 0 (map seats_of new) (map number_of xs) = still_dealt count some old new xs same goes is in
      record {
        list = after.list;
        many = sym (length-map after.list number_of) ∙ ap length after.list_is ∙ length-map xs number_of;
        rows_are = after.rows_are ∙ ap (λ (n : ℕ). dealt n 0 after.list) (sym (same ∙ many));
        goes = go_on_all count some old new xs after.list same goes is after.rows_are after.list_is;
      }
