-- What the end of a table asks of the passes of its seats.
use Rattle.std.specs.Prelude.{slice_index_or}
use Rattle.std.proofs.Common.{◌≡◌, ◌<◌, ◌++◌, ◌∙◌, ℕ, zero, suc, map, refl, List, [], ◌∷◌, length, arith}
use Rattle.std.specs.List.{All, Contains}
use Rattle.task_words.specs.Closing.{IsDone}
use Rattle.task_words.specs.Seats.{IsBetween}
use Rattle.task_words.specs.Views.{PassView, IsOf, IsOneSeat}
use Rattle.word_table.specs.End.{HasEachSeat}
use Rattle.word_table.specs.Ruled.{Each}
use Rattle.word_table.specs.Views.{WordsView}

pub done_between : (pass : PassView) → IsBetween pass → IsDone pass
done_between pass is = record {
  tasks = is.free.nothing.tasks;
  queues = is.free.nothing.queues;
  works = is.free.nothing.works;
  waits = is.free.nothing.waits;
  body = is.free.nothing.body;
  current = is.idle;
  clear = is.clear;
}

-- One pass, and two

pub one_all : (P : PassView → Type 0) (a : PassView) → P a → All P (a ∷ [])
one_all P a x zero d lt = x
one_all P a x (suc k) d lt = absurd (omega (arith, lt))

pub one_each : (a : PassView) → a.seat ≡ 0 → HasEachSeat 1 (map (λ (p : PassView). p.seat) (a ∷ []))
one_each a first = record { each = each }
  where
    each : (s : ℕ) → s < 1 → Contains (map (λ (p : PassView). p.seat) (a ∷ [])) s
    each zero lt = (0, omega arith, first)
    each (suc s) lt = absurd (omega (arith, lt))

pub both_all : (P : PassView → Type 0) (a b : PassView) → P a → P b → All P (a ∷ b ∷ [])
both_all P a b x y zero d lt = x
both_all P a b x y (suc zero) d lt = y
both_all P a b x y (suc (suc k)) d lt = absurd (omega (arith, lt))

pub both_seats : (a b : PassView) → a.seat ≡ 0 → b.seat ≡ 1 → HasEachSeat 2 (map (λ (p : PassView). p.seat) (a ∷ b ∷ []))
both_seats a b first second = record { each = each }
  where
    each : (s : ℕ) → s < 2 → Contains (map (λ (p : PassView). p.seat) (a ∷ b ∷ [])) s
    each zero lt = (0, omega arith, first)
    each (suc zero) lt = (1, omega arith, second)
    each (suc (suc s)) lt = absurd (omega (arith, lt))

-- What seats leave, by the passes that they had

-- what holds of each place holds of all
pub all_map : {W : Type 0} (pass_of : W → PassView) (P : PassView → Type 0) (done : List W)
    → ((i : ℕ) (e : W) → i < length done → P (pass_of (slice_index_or done i e))) → All P (map pass_of done)
all_map pass_of P [] f k d lt = absurd (omega (arith, lt))
all_map pass_of P (w ∷ done) f zero d lt = f 0 w (omega arith)
all_map pass_of P (w ∷ done) f (suc k) d lt = all_map pass_of P done (λ i e low. f (suc i) e (omega (arith, low))) k d (omega (arith, lt))

pub seats_kept : {W : Type 0} (pass_of : W → PassView) (old : List PassView) (done : List W) → length done ≡ length old
    → ((i : ℕ) (d : PassView) (e : W) → i < length old → IsOneSeat (slice_index_or old i d) (pass_of (slice_index_or done i e)))
    → map (λ (p : PassView). p.seat) (map pass_of done) ≡ map (λ (p : PassView). p.seat) old
seats_kept pass_of [] [] len f = refl
seats_kept pass_of [] (w ∷ done) len f = absurd (omega (arith, len))
seats_kept pass_of (p ∷ old) [] len f = absurd (omega (arith, len))
seats_kept pass_of (p ∷ old) (w ∷ done) len f =
    let same : (pass_of w).seat ≡ p.seat = (f 0 p w (omega arith)).same_seat in
    let rest : map (λ (q : PassView). q.seat) (map pass_of done) ≡ map (λ (q : PassView). q.seat) old =
    seats_kept pass_of old done (omega (arith, len)) (λ i d e low. f (suc i) d e (omega (arith, low))) in
    λ j. same j ∷ rest j

pub same_of : (wk : WordsView) (old new : PassView) → IsOf wk old → IsOneSeat old new → IsOf wk new
same_of wk old new of same = record {
  table = same.table ∙ of.table;
  same_shape = same.same_shape ∙ of.same_shape;
  same_lasting = same.same_lasting ∙ of.same_lasting;
}

-- Each, as a list grows

pub each_push : {A : Type 0} (P : A → Type 0) (xs : List A) (x : A) → Each P xs → P x → Each P (xs ++ x ∷ [])
each_push P [] x all is = (is, tt)
each_push P (y ∷ xs) x all is = (all.0, each_push P xs x all.1 is)

pub each_all : {A : Type 0} (P : A → Type 0) (xs : List A) → Each P xs → All P xs
each_all P [] all k d lt = absurd (omega (arith, lt))
each_all P (x ∷ xs) all zero d lt = all.0
each_all P (x ∷ xs) all (suc k) d lt = each_all P xs all.1 k d (omega (arith, lt))
