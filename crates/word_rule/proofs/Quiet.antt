-- The rule is kept by one lemma, `words_hold_after`, on which the law of each kind of step builds. A sentence of `WordsHold` that few
-- steps touch has a lemma of its own over any event, and a line here; one that many touch stands in `Touched`. Then steps
-- that change little of what stands beside the invariant: what else they have to show.
use Rattle.std.proofs.Common.{◌≡◌, ◌≢◌, ℕ, ◌<◌, List, ◌∷◌, sym, subst, arith}
use Rattle.std.specs.Prelude.{◌^◌, Bool, true, Option}
use Rattle.core_data.specs.Columns.{put, put_at}
use Rattle.core_law.proofs.Reached.{Holds-step, reached_step}
use Rattle.handoff_data.specs.declared.shape.Shape.{Shape}
use Rattle.word_rule.proofs.BodiesKept.{known_still}
use Rattle.word_rule.proofs.GrownKept.{grown_beside, grown_still}
use Rattle.word_rule.proofs.MasksKept.{masks_event}
use Rattle.word_rule.proofs.OffKept.{off_beside, off_still}
use Rattle.word_rule.proofs.OwnKept.{own_event}
use Rattle.word_rule.proofs.RunsKept.{runs_still}
use Rattle.word_rule.proofs.StandingKept.{standing_beside, standing_still}
use Rattle.word_rule.proofs.WaysKept.{ways_event}
use Rattle.word_rule.specs.Bodies.{BodiesKnown}
use Rattle.word_rule.specs.WordsHold.{WordsHold}
use Rattle.word_rule.specs.Standing.{StandingHolds, RunsHold, OffHolds, GrownHolds, standing, may_run}
use Rattle.word_steps.proofs.CurrentKept.{current_quiet, current_still}
use Rattle.word_steps.proofs.EndedKept.{ended_still, counts_put}
use Rattle.word_steps.proofs.MatchedKept.{matched_beside, grows_beside, matched_still}
use Rattle.word_steps.proofs.MovingKept.{states_put}
use Rattle.word_steps.proofs.MovingSteps.{moving_beside, moving_still}
use Rattle.word_steps.proofs.NumbersKept.{numbers_beside, numbers_still}
use Rattle.word_steps.proofs.PutKept.{put_beside, put_still}
use Rattle.word_steps.proofs.QueuedKept.{queued_beside, queued_still}
use Rattle.word_steps.specs.TraceFacts.{MovingHolds, CurrentHolds, NumbersHold, MatchedHolds, QueuedHolds, PutHolds, EndedHolds, CountsZero, StatesFit}
use Rattle.word_steps.specs.Decode.{Homes, core_of, core_after}
use Rattle.word_steps.specs.Events.{IsEvent}
use Rattle.word_steps.specs.Exclusives.{ExclusivesHold}
use Rattle.word_steps.specs.Folds.{moving_after, current_task, stays_queued, number_after, number_read, has_matched, saw_queued, has_put, ended_known, body_held, saw_off}
use Rattle.word_steps.specs.Records.{Rec}
use Rattle.word_steps.specs.Words.{LOCK, QUEUE_LOCK, RQ, CPU, COUNT, STATE, BUSY, COND, WORKS_LOCK, WAIT_LOCK}

-- the record tells nothing new of moves, numbers, matches and queues
pub record IsQuiet (r : Rec) (trace : List Rec) : Type 0 where
  pub moving : (h : ℕ → Bool) → moving_after r h ≡ h
  pub numbers : (h : ℕ → Option ℕ) → number_after r h ≡ h
  pub matched : has_matched (r ∷ trace) ≡ has_matched trace
  pub queued : (c t : ℕ) → saw_queued (r ∷ trace) c t ≡ true → saw_queued trace c t ≡ true
  pub put_there : has_put (r ∷ trace) ≡ has_put trace
  pub standing : standing (r ∷ trace) ≡ standing trace
  pub off : (t : ℕ) → saw_off (r ∷ trace) t ≡ true → saw_off trace t ≡ true

-- .. of the current task
pub record IsSteady (r : Rec) (trace : List Rec) : Type 0 where
  pub current : (j : ℕ) → current_task j (r ∷ trace) ≡ current_task j trace
  pub stays : stays_queued (r ∷ trace) ≡ stays_queued trace

-- .. and of its body
pub record IsOutside (r : Rec) (trace : List Rec) : Type 0 where
  pub ended : ended_known (r ∷ trace) ≡ ended_known trace
  pub body : body_held (r ∷ trace) ≡ body_held trace

-- a column of which no sentence beside the invariant speaks, but for what is known of states
pub record IsBeside (c : ℕ) : Type 0 where
  pub lock : LOCK ≢ c
  pub queue : QUEUE_LOCK ≢ c
  pub rq : RQ ≢ c
  pub cpu : CPU ≢ c
  pub count : COUNT ≢ c

pub state_beside : IsBeside STATE
state_beside = record {
  lock = λ e. omega (arith, e);
  queue = λ e. omega (arith, e);
  rq = λ e. omega (arith, e);
  cpu = λ e. omega (arith, e);
  count = λ e. omega (arith, e);
}

pub busy_beside : IsBeside BUSY
busy_beside = record {
  lock = λ e. omega (arith, e);
  queue = λ e. omega (arith, e);
  rq = λ e. omega (arith, e);
  cpu = λ e. omega (arith, e);
  count = λ e. omega (arith, e);
}

pub cond_beside : IsBeside COND
cond_beside = record {
  lock = λ e. omega (arith, e);
  queue = λ e. omega (arith, e);
  rq = λ e. omega (arith, e);
  cpu = λ e. omega (arith, e);
  count = λ e. omega (arith, e);
}

pub works_beside : IsBeside WORKS_LOCK
works_beside = record {
  lock = λ e. omega (arith, e);
  queue = λ e. omega (arith, e);
  rq = λ e. omega (arith, e);
  cpu = λ e. omega (arith, e);
  count = λ e. omega (arith, e);
}

pub wait_beside : IsBeside WAIT_LOCK
wait_beside = record {
  lock = λ e. omega (arith, e);
  queue = λ e. omega (arith, e);
  rq = λ e. omega (arith, e);
  cpu = λ e. omega (arith, e);
  count = λ e. omega (arith, e);
}

-- the sentences that steps of many kinds touch, which each kind shows for itself
pub record Touched (words : ℕ → ℕ → ℕ) (homes : Homes) (traces : ℕ → List Rec) : Type 0 where
  pub moving : MovingHolds words traces
  pub current : CurrentHolds words traces
  pub numbers : NumbersHold words traces
  pub matched : MatchedHolds words traces
  pub queued : QueuedHolds words traces
  pub exclusives : ExclusivesHold words homes.wait traces
  pub put_there : PutHolds words traces
  pub ended : EndedHolds homes.ended traces
  pub counts : CountsZero words
  pub states : StatesFit words
  pub standing : StandingHolds words traces
  pub runs : RunsHold words traces
  pub off : OffHolds words traces
  pub grown : GrownHolds words traces
  pub known : BodiesKnown traces

module _ (shape : Shape) (words : ℕ → ℕ → ℕ) (homes : Homes) (traces : ℕ → List Rec) (s : ℕ) (kept : WordsHold shape words homes traces) where
  -- the rule after an event: the core is reached, the sentences that are touched hold, and so does each that isn't
  pub words_hold_after : (r : Rec) (words' : ℕ → ℕ → ℕ) (homes' : Homes) → IsEvent shape words homes traces s r words' homes'
      → Touched words' homes' (put traces s (r ∷ traces s)) → WordsHold shape words' homes' (put traces s (r ∷ traces s))
  words_hold_after r words' homes' event touched =
      record {
        reached = reached_step (core_of shape words homes traces) (record { seat = s; step = event.kind })
            (core_after shape words' homes' traces s r) kept.reached event.event;
        holds = Holds-step (core_of shape words homes traces) (record { seat = s; step = event.kind })
            (core_after shape words' homes' traces s r) kept.holds event.event;
        moving = touched.moving;
        current = touched.current;
        numbers = touched.numbers;
        matched = touched.matched;
        queued = touched.queued;
        exclusives = touched.exclusives;
        put_there = touched.put_there;
        ended = touched.ended;
        counts = touched.counts;
        states = touched.states;
        standing = touched.standing;
        runs = touched.runs;
        off = touched.off;
        grown = touched.grown;
        known = touched.known;
        own = own_event shape words homes traces s r words' homes' event kept.holds kept.current kept.own;
        ways = ways_event shape words homes traces s r words' homes' event kept.holds kept.moving kept.off kept.ways;
        masks = masks_event shape words homes traces s r words' homes' event kept.masks;
      }

module _ (shape : Shape) (words : ℕ → ℕ → ℕ) (homes homes' : Homes) (traces : ℕ → List Rec) (s : ℕ) where
  -- a step on a word of such a column
  pub beside_kept : WordsHold shape words homes traces → (n c x : ℕ) (r : Rec) → IsBeside c → (c ≡ STATE → x < 2 ^ 16)
      → IsQuiet r (traces s) → ExclusivesHold (put_at words n c x) homes'.wait (put traces s (r ∷ traces s))
      → IsEvent shape words homes traces s r (put_at words n c x) homes'
      → CurrentHolds (put_at words n c x) (put traces s (r ∷ traces s))
      → EndedHolds homes'.ended (put traces s (r ∷ traces s))
      → RunsHold (put_at words n c x) (put traces s (r ∷ traces s))
      → BodiesKnown (put traces s (r ∷ traces s))
      → WordsHold shape (put_at words n c x) homes' (put traces s (r ∷ traces s))
  beside_kept kept n c x r at small quiet exclusives event current ended runs known =
      let numbers = quiet.numbers (number_read (traces s)) in
      let grows = grows_beside words traces s kept.matched n c x at.rq in
      words_hold_after shape words homes traces s kept r (put_at words n c x) homes' event (record {
        moving = moving_beside shape words homes traces s kept.moving n c x r at.lock at.rq quiet.moving;
        current = current;
        numbers = numbers_beside words traces s kept.numbers n c x r at.lock at.rq quiet.numbers;
        matched = matched_beside words traces s kept.matched n c x r at.lock grows quiet.matched;
        queued = queued_beside words traces s kept.queued n c x r at.lock at.queue at.cpu at.rq quiet.queued;
        exclusives = exclusives;
        put_there = put_beside words traces s kept.put_there n c x r at.queue at.cpu at.rq quiet.put_there;
        ended = ended;
        counts = counts_put words n c x kept.counts at.count;
        states = states_put words n c x kept.states small;
        standing = standing_beside words traces s kept.standing n c x r at.queue at.cpu at.rq quiet.standing;
        runs = runs;
        off = off_beside words traces s kept.off n c x r at.lock at.rq quiet.off numbers;
        grown = grown_beside words traces s kept.grown n c x r at.rq numbers;
        known = known;
      })

  -- .. that changes neither the current task nor a body
  pub quiet_beside : WordsHold shape words homes traces → homes'.ended ≡ homes.ended → (n c x : ℕ) (r : Rec) → IsBeside c
      → (c ≡ STATE → x < 2 ^ 16) → IsQuiet r (traces s) → IsSteady r (traces s) → IsOutside r (traces s)
      → ExclusivesHold (put_at words n c x) homes'.wait (put traces s (r ∷ traces s))
      → IsEvent shape words homes traces s r (put_at words n c x) homes'
      → RunsHold (put_at words n c x) (put traces s (r ∷ traces s))
      → WordsHold shape (put_at words n c x) homes' (put traces s (r ∷ traces s))
  quiet_beside kept same n c x r at small quiet steady outside exclusives event runs =
      let before : EndedHolds homes'.ended traces
      = subst (λ (f : ℕ → Bool). EndedHolds f traces) (sym same) kept.ended in
      beside_kept kept n c x r at small quiet exclusives event
      (current_quiet words traces s kept.current n c x r at.rq steady.current steady.stays)
      (ended_still homes'.ended traces s before r steady.current outside.ended)
      runs
      (known_still traces s kept.known r outside.body outside.ended)

  -- a step that changes no word, and not the current task
  pub still_kept : WordsHold shape words homes traces → (r : Rec) → IsQuiet r (traces s) → IsSteady r (traces s)
      → may_run s (r ∷ traces s) ≡ may_run s (traces s)
      → ExclusivesHold words homes'.wait (put traces s (r ∷ traces s))
      → IsEvent shape words homes traces s r words homes'
      → EndedHolds homes'.ended (put traces s (r ∷ traces s))
      → BodiesKnown (put traces s (r ∷ traces s))
      → WordsHold shape words homes' (put traces s (r ∷ traces s))
  still_kept kept r quiet steady same exclusives event ended known =
      words_hold_after shape words homes traces s kept r words homes' event (record {
        moving = moving_still shape words homes traces s kept.moving r quiet.moving;
        current = current_still words traces s kept.current r steady.current steady.stays;
        numbers = numbers_still words traces s kept.numbers r quiet.numbers;
        matched = matched_still words traces s kept.matched r quiet.matched;
        queued = queued_still words traces s kept.queued r quiet.queued;
        exclusives = exclusives;
        put_there = put_still words traces s kept.put_there r quiet.put_there;
        ended = ended;
        counts = kept.counts;
        states = kept.states;
        standing = standing_still words traces s kept.standing r quiet.standing;
        runs = runs_still words traces s kept.runs r same (steady.current s);
        off = off_still words traces s kept.off r quiet.off (quiet.numbers (number_read (traces s)));
        grown = grown_still words traces s kept.grown r (quiet.numbers (number_read (traces s)));
        known = known;
      })
