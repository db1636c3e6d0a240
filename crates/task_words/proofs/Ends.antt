-- What the invariant says of all passes once each has given all back.
use Rattle.std.proofs.Common.{◌≡◌, ◌<◌, ℕ, zero, suc, Bool, true, false, length, List, [], ◌∷◌, eq-eqb, ne_eqb, sym, ap, ◌∙◌, subst, map, inl, inr, arith}
use Rattle.std.specs.Prelude.{Some, None, is_some, slice_get}
use Rattle.std.specs.List.{All}
use Rattle.std.proofs.lemmas.Bool.{cases_eq}
use Rattle.core_data.specs.Columns.{Columns}
use Rattle.core_invariant.proofs.Logs.{history-tasks}
use Rattle.core_journals.proofs.Chains.{dead-of_die}
use Rattle.core_journals.proofs.Lawful.{HasNoBad-journals}
use Rattle.core_journals.proofs.Legal.{IsLegal-closed}
use Rattle.core_kinds.specs.Steps.{dead}
use Rattle.core_law.specs.Laws.{journals_of}
use Rattle.handoff_data.specs.Legal.{HasNoBad, IsLegal}
use Rattle.handoff_data.specs.declared.entry.Entry.TheVariants as entry
use Rattle.handoff_data.specs.declared.shape.Shape.{Shape}
use Rattle.handoff_data.specs.declared.state.State.{State}
use Rattle.task_words.specs.Closing.{token_of, AllDead, DeadHaveEnded, DeathsAreOfDead}
use Rattle.task_words.specs.Views.{PassView}
use Rattle.word_steps.specs.Decode.{core_of}
use Rattle.word_steps.specs.Folds.{current_task, task_to_clear}
use Rattle.word_steps.specs.Records.{Rec}
use Rattle.word_table.specs.End.{IsIdle, IsEnd, traces_of}
use Rattle.word_table.specs.Ruled.{Each}
use Rattle.word_table.specs.Views.{WordsView, TokenView}

-- what holds of each token, and of a trace with no step, holds of all traces
pub each_trace : (P : ℕ → List Rec → Type 0) → ((s : ℕ) → P s []) → (tokens : List TokenView)
    → Each (λ t. P t.seat t.trace) tokens → (s : ℕ) → P s (traces_of tokens s)
each_trace P none [] all s = none s
each_trace P none (token ∷ tokens) all s = elim (cases_eq token.seat s) [
  | inl e ↦ subst (P s) (let is : traces_of (token ∷ tokens) s ≡ token.trace = rw (eq-eqb token.seat s e) in sym is)
      (subst (λ (n : ℕ). P n token.trace) e all.0)
  | inr ne ↦ subst (P s)
      (let is : traces_of (token ∷ tokens) s ≡ traces_of tokens s = rw (ne_eqb token.seat s ne) in sym is)
      (each_trace P none tokens all.1 s)
]

pub all_tokens : (P : TokenView → Type 0) (passes : List PassView) → All (λ p. P (token_of p)) passes
    → All P (map token_of passes)
all_tokens P [] all k d lt = absurd (omega arith)
all_tokens P (p ∷ passes) all zero d lt = all 0 p (omega arith)
all_tokens P (p ∷ passes) all (suc k) d lt = all_tokens P passes (λ i e low. all (suc i) e (omega arith)) k d
    (omega arith)

pub seats_same : (passes : List PassView)
    → map (λ (t : TokenView). t.seat) (map token_of passes) ≡ map (λ (p : PassView). p.seat) passes
seats_same [] = λ j. []
seats_same (p ∷ passes) = λ j. p.seat ∷ seats_same passes j

pub each_map : {A : Type 0} (P Q : A → Type 0) (xs : List A) → ((x : A) → P x → Q x) → Each P xs → Each Q xs
each_map P Q [] f all = tt
each_map P Q (x ∷ xs) f all = (f x all.0, each_map P Q xs f all.1)

pub some_same : {A : Type 0} (a b : A) → Some a ≡ Some b → a ≡ b
some_same a b e = cc

pub got_below : {A : Type 0} (xs : List A) (i : ℕ) (x : A) → slice_get xs i ≡ Some x → i < length xs
got_below [] i x e = let no : false ≡ true = ap is_some e in cc
got_below (y ∷ xs) zero x e = omega arith
got_below (y ∷ xs) (suc i) x e = let r = got_below xs i x e in omega arith

-- the end as `close` has it, of a table and tokens that are the same
pub same_end : {B : Type 0} {ended : B → Bool} {seen self : WordsView} {gathered tokens : List TokenView}
    {bodies : List B} {states : List State} {conds : List ℕ} → seen ≡ self → gathered ≡ tokens
    → IsEnd ended seen.shape gathered bodies states conds → IsEnd ended self.shape tokens bodies states conds
same_end {ended = ended} {bodies = bodies} {states = states} {conds = conds} view same end =
    subst (λ (z : WordsView × List TokenView). IsEnd ended z.0.shape z.1 bodies states conds) (λ j. (view j, same j)) end

module _ {B : Type 0} {ended : B → Bool} {shape : Shape} {tokens : List TokenView} {bodies : List B}
    {states : List State} {conds : List ℕ} (end : IsEnd ended shape tokens bodies states conds) where
  abbrev pub core : Columns
  core = core_of shape end.words end.homes (traces_of tokens)

  -- a task that has this state at the end has it in the core
  pub state_of : (t : ℕ) (x : State) → t < shape.tasks → slice_get states t ≡ Some x → core.state t ≡ x
  state_of t x lt is = some_same (core.state t) x (sym (end.state t lt) ∙ is)

  pub rules : HasNoBad (journals_of core)
  rules = HasNoBad-journals core end.kept.holds.journals

  module _ (idle : Each IsIdle tokens) where
    pub no_current : (s : ℕ) → current_task s (traces_of tokens s) ≡ None
    no_current = each_trace (λ s trace. current_task s trace ≡ None) (λ s j. None) tokens
        (each_map IsIdle (λ t. current_task t.seat t.trace ≡ None) tokens (λ t i. i.current) idle)

    no_clear : (s : ℕ) → task_to_clear s (traces_of tokens s) ≡ None
    no_clear = each_trace (λ s trace. task_to_clear s trace ≡ None) (λ s j. None) tokens
        (each_map IsIdle (λ t. task_to_clear t.seat t.trace ≡ None) tokens (λ t i. i.clear) idle)

    pub legal : AllDead shape states → IsLegal (journals_of core)
    legal all = IsLegal-closed core end.kept.holds no_current no_clear (λ t lt. state_of t dead lt (all t lt))

  pub bodies_ended : length states ≡ shape.tasks → DeadHaveEnded ended bodies states
  bodies_ended count t b is gone =
      let lt : t < shape.tasks = (let low = got_below states t dead gone in omega arith) in
      end.ended t b is ∙ end.kept.holds.busy.ended t (state_of t dead lt gone)

  pub deaths : DeathsAreOfDead (journals_of core) states
  deaths t m c die =
      let s = die.0 in let i = die.1.0 in let at = die.1.1 in
      let is = dead-of_die core s i t m c end.kept.holds at in
      let lt : t < shape.tasks = subst (λ (n : ℕ). t < n) (history-tasks core.cpus core.tasks core.seats core.journal)
      (end.kept.holds.journals.rules.in_range s i (entry.Die t m c) at).0 in
      end.state t lt ∙ ap Some is
