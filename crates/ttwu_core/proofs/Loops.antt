-- Words that are read again and again.
use Rattle.std.proofs.Common.{◌≡◌, ◌≢◌, ◌∙◌, ℕ, ◌++◌, ◌∷◌, [], List, refl, sym, ap}
use Rattle.std.specs.Prelude.{true, false}
use Rattle.std.specs.List.{All}
use Rattle.std.proofs.lemmas.List.Elements.{All-nil, All-cons}
use Rattle.core_data.specs.declared.pos.Rq.{Rq}
use Rattle.task_words.specs.Views.{PassView, IsSameSeat, IsSame}
use Rattle.ttwu_core.specs.Claims.{awaited_clear, busy_reads, IsAwaitedClear}
use Rattle.ttwu_core.specs.Finds.{rq_reads}
use Rattle.word_steps.specs.Records.{Rec, LoadedRq, LoadedBusy}

pub same_seat_again : (a b c : PassView) → IsSameSeat a b → IsSameSeat b c → IsSameSeat a c
same_seat_again a b c x y = record {
  table = y.table ∙ x.table;
  same_shape = y.same_shape ∙ x.same_shape;
  same_lasting = y.same_lasting ∙ x.same_lasting;
  same_seat = y.same_seat ∙ x.same_seat;
  same_told = y.same_told ∙ x.same_told;
}

pub same_again : (a b c : PassView) → IsSame a b → IsSame b c → IsSame a c
same_again a b c x y = record { same = same_seat_again a b c x.same y.same; same_turn = y.same_turn ∙ x.same_turn }

pub same_still : (a : PassView) → IsSame a a
same_still a = record { same = record { table = refl; same_shape = refl; same_lasting = refl; same_seat = refl; same_told = refl }; same_turn = refl }

-- the queue word
pub record IsReading (t : ℕ) (old new : PassView) : Type 0 where
  pub same : IsSame old new
  pub waits : List Rq
  pub queued : All (λ r. r.on ≢ 0) waits
  pub did : new.trace ≡ rq_reads t waits old.trace

pub reading : (t : ℕ) (a : PassView) → IsReading t a a
reading t a = record { same = same_still a; waits = []; queued = All-nil (λ (r : Rq). r.on ≢ 0); did = refl }

pub reading_on : (t : ℕ) (a b c : PassView) (r : Rq) → IsReading t a b → IsSame b c → r.on ≢ 0
    → c.trace ≡ LoadedRq t r.on r.m ∷ b.trace → IsReading t a c
reading_on t a b c r x same on did = record {
  same = same_again a b c x.same same;
  waits = r ∷ x.waits;
  queued = All-cons (λ (y : Rq). y.on ≢ 0) r x.waits on x.queued;
  did = did ∙ ap (λ (z : List Rec). LoadedRq t r.on r.m ∷ z) x.did;
}

-- the busy word
pub record IsBusy (t : ℕ) (old new : PassView) : Type 0 where
  pub same : IsSame old new
  pub waits : List ℕ
  pub did : new.trace ≡ busy_reads t waits old.trace

pub busy : (t : ℕ) (a : PassView) → IsBusy t a a
busy t a = record { same = same_still a; waits = []; did = refl }

pub busy_on : (t n : ℕ) (a b c : PassView) → IsBusy t a b → IsSame b c
    → c.trace ≡ LoadedBusy t true n ∷ b.trace → IsBusy t a c
busy_on t n a b c x same did = record {
  same = same_again a b c x.same same;
  waits = n ∷ x.waits;
  did = did ∙ ap (λ (z : List Rec). LoadedBusy t true n ∷ z) x.did;
}

-- .. and once before the others
busy_before : (t n : ℕ) (ns : List ℕ) (trace : List Rec)
    → busy_reads t (ns ++ n ∷ []) trace ≡ busy_reads t ns (LoadedBusy t true n ∷ trace)
busy_before t n [] trace = refl
busy_before t n (k ∷ ns) trace = ap (λ (z : List Rec). LoadedBusy t true k ∷ z) (busy_before t n ns trace)

pub awaited_before : (t n m : ℕ) (old first new : List Rec) → first ≡ LoadedBusy t true n ∷ old
    → IsAwaitedClear t m first new → IsAwaitedClear t m old new
awaited_before t n m old first new read x = record {
  waits = x.waits ++ n ∷ [];
  did = x.did ∙ ap (awaited_clear t m x.waits) read ∙ ap (λ (z : List Rec). LoadedBusy t false m ∷ z) (sym (busy_before t n x.waits old));
}
