-- Steps that touch nothing of what `Untouched` names, one and several.
use Rattle.std.proofs.Common.{◌≡◌, ◌∙◌, ℕ, ◌∷◌, List, refl, sym}
use Rattle.std.specs.Prelude.{Bool, true, false}
use Rattle.std.proofs.lemmas.Bool.{false≢true}
use Rattle.word_steps.specs.Records.{Rec, Took, Gave, OutBody, HomeBody, Queued, Dequeued, Moved, SetBusy, ClearedBusy, StateSet, Claimed, MadeRunnable, LoadedState, LoadedRq, LoadedBusy, LoadedCpu}
use Rattle.word_steps.specs.Records.{LoadedCount, StoredCpu, Bumped, LoadedCond}
use Rattle.task_words.specs.Untouched.{Untouched}
use Rattle.word_steps.specs.declared.val.Val.TheVariants as val

pub untouched_still : (a : List Rec) → Untouched a a
untouched_still a = record { works = refl; body = refl; ended = refl; stays = refl }

pub untouched_again : (a b c : List Rec) → Untouched a b → Untouched b c → Untouched a c
untouched_again a b c x y = record {
  works = y.works ∙ x.works;
  body = y.body ∙ x.body;
  ended = y.ended ∙ x.ended;
  stays = y.stays ∙ x.stays;
}

-- works taken or given, a body out or home, a pick, and the current task off its queue
abbrev pub touches : Rec → Bool
touches (Took n (val.Works v)) = true
touches (Gave n (val.Works v) given) = true
touches (OutBody t ended) = true
touches (HomeBody t ended) = true
touches (SetBusy t c n) = true
touches (Dequeued t c m) = true
touches r = false

loud : {A : Type 0} → true ≡ false → A
loud e = absurd (false≢true (sym e))

module _ (a : List Rec) where
  -- any other step
  pub untouched_next : (r : Rec) → touches r ≡ false → Untouched a (r ∷ a)
  untouched_next (Took n (val.Task v)) e = record { works = refl; body = refl; ended = refl; stays = refl }
  untouched_next (Took n (val.Queue v)) e = record { works = refl; body = refl; ended = refl; stays = refl }
  untouched_next (Took n (val.Works v)) e = loud e
  untouched_next (Took n (val.Wait v)) e = record { works = refl; body = refl; ended = refl; stays = refl }
  untouched_next (Gave n (val.Task v) w) e = record { works = refl; body = refl; ended = refl; stays = refl }
  untouched_next (Gave n (val.Queue v) w) e = record { works = refl; body = refl; ended = refl; stays = refl }
  untouched_next (Gave n (val.Works v) w) e = loud e
  untouched_next (Gave n (val.Wait v) w) e = record { works = refl; body = refl; ended = refl; stays = refl }
  untouched_next (OutBody t ended) e = loud e
  untouched_next (HomeBody t ended) e = loud e
  untouched_next (Queued t c on m) e = record { works = refl; body = refl; ended = refl; stays = refl }
  untouched_next (Dequeued t c m) e = loud e
  untouched_next (Moved t c m) e = record { works = refl; body = refl; ended = refl; stays = refl }
  untouched_next (SetBusy t c n) e = loud e
  untouched_next (ClearedBusy t n) e = record { works = refl; body = refl; ended = refl; stays = refl }
  untouched_next (StateSet t state) e = record { works = refl; body = refl; ended = refl; stays = refl }
  untouched_next (Claimed t m) e = record { works = refl; body = refl; ended = refl; stays = refl }
  untouched_next (MadeRunnable t) e = record { works = refl; body = refl; ended = refl; stays = refl }
  untouched_next (LoadedState t mask state) e = record { works = refl; body = refl; ended = refl; stays = refl }
  untouched_next (LoadedRq t on m) e = record { works = refl; body = refl; ended = refl; stays = refl }
  untouched_next (LoadedBusy t busy n) e = record { works = refl; body = refl; ended = refl; stays = refl }
  untouched_next (LoadedCpu t c) e = record { works = refl; body = refl; ended = refl; stays = refl }
  untouched_next (LoadedCount t level) e = record { works = refl; body = refl; ended = refl; stays = refl }
  untouched_next (StoredCpu t c) e = record { works = refl; body = refl; ended = refl; stays = refl }
  untouched_next (Bumped k v) e = record { works = refl; body = refl; ended = refl; stays = refl }
  untouched_next (LoadedCond k v) e = record { works = refl; body = refl; ended = refl; stays = refl }
