-- The plain run of one plan.
use Rattle.std.proofs.Common.{◌≡◌, ℕ, zero, suc, ◌+◌, ◌-◌, ◌<◌, List, [], ◌∷◌, ◌++◌, length, refl, sym, ap, ◌∙◌, subst, arith, append-nil, append_assoc, length-append}
use Rattle.std.specs.Prelude.{Option, Some, None}
use Rattle.task_script.specs.Plan.{sides}
use Rattle.task_script.specs.declared.plan.Plan.{Plan}
use Rattle.task_script.specs.declared.script.TaskDef.{TaskDef}
use Rattle.pipe_tasks.specs.Words.{Line}
use Rattle.pipe_tasks.specs.Tasks.{task_lines, lines_after}
use Rattle.pipe_tasks.specs.Plans.{wants, says, next, last, made, lines_of}
use Rattle.pipe_tasks.proofs.PlanLaws.{lines_of-first, lines_of-first_ends, lines_of-made, own_lines, made-wants, none-wants, one-wants, one-closed, sides-next}

-- a queue with so many lines still to be read, and behind them the lines that were put out
pub record Turning (begun : Plan) (lines : List Line) (plan : Plan) (queue : List Line) (left : ℕ) : Type 0 where
  pub rest : List Line
  pub out : List Line
  pub one : sides plan ≡ 1
  pub queue_is : queue ≡ rest ++ out
  pub left_is : length rest ≡ left
  pub lines_are : lines_of begun lines [] ≡ out ++ lines_of plan rest []

module _ (begun : Plan) (lines : List Line) where
  pub Turning-starts : sides begun ≡ 1 → Turning begun lines begun lines (length lines)
  Turning-starts one = record { rest = lines; out = []; one = one; queue_is = sym (append-nil lines); left_is = refl; lines_are = refl }

  pub Turning-some : (plan : Plan) (left : ℕ) → Turning begun lines plan [] left → 0 < left → ⊥
  Turning-some plan left t more = none t.rest t.queue_is t.left_is where
    none : (rest : List Line) → [] ≡ rest ++ t.out → length rest ≡ left → ⊥
    none [] e l = omega arith
    none (a ∷ rest) e l = cc

  module _ (plan : Plan) (line : Line) (queue : List Line) where
    step : (rest out : List Line) (left : ℕ) → sides plan ≡ 1 → line ∷ queue ≡ rest ++ out → length rest ≡ left → 0 < left
        → lines_of begun lines [] ≡ out ++ lines_of plan rest [] → Turning begun lines (next plan 0 line) (queue ++ says plan 0 line) (left - 1)
    step [] out left one q l more e = absurd (omega arith)
    step (a ∷ rest) out left one q l more e =
        let same : a ≡ line = cc in
        let after : queue ≡ rest ++ out = cc in
        record {
          rest = rest;
          out = out ++ says plan 0 line;
          one = sides-next plan 0 line ∙ one;
          queue_is = ap (λ z. z ++ says plan 0 line) after ∙ append_assoc rest out (says plan 0 line);
          left_is = omega arith;
          lines_are = e ∙ ap (λ z. out ++ lines_of plan (z ∷ rest) []) same ∙ ap (λ z. out ++ z) (lines_of-first plan line rest [] (one-wants plan one))
              ∙ sym (append_assoc out (says plan 0 line) (lines_of (next plan 0 line) rest []));
        }

  pub Turning-steps : (plan plan' : Plan) (line : Line) (queue rest queue' : List Line) (left left' : ℕ) → Turning begun lines plan queue left → suc left' ≡ left
      → queue ≡ line ∷ rest → plan' ≡ next plan 0 line → queue' ≡ rest ++ says plan 0 line → Turning begun lines plan' queue' left'
  Turning-steps plan plan' line queue rest queue' left left' t fewer popped moved said =
      let more : 0 < left = omega arith in
      let one_less : left - 1 ≡ left' = omega arith in
      let stepped = step plan line rest t.rest t.out left t.one (sym popped ∙ t.queue_is) t.left_is more t.lines_are in
      subst (λ k. Turning begun lines plan' queue' k) one_less
      (subst (λ z. Turning begun lines plan' z (left - 1)) (sym said) (subst (λ p. Turning begun lines p (rest ++ says plan 0 line) (left - 1)) (sym moved) stepped))

  pub Turning-ends : (plan : Plan) (queue : List Line) → Turning begun lines plan queue 0 → queue ++ last plan 0 ≡ lines_of begun lines []
  Turning-ends plan queue t = ends t.rest t.queue_is t.left_is t.lines_are where
    ends : (rest : List Line) → queue ≡ rest ++ t.out → length rest ≡ 0 → lines_of begun lines [] ≡ t.out ++ lines_of plan rest [] → queue ++ last plan 0 ≡ lines_of begun lines []
    ends [] q l e = ap (λ z. z ++ last plan 0) q ∙ ap (λ z. t.out ++ z) (sym (lines_of-first_ends plan [] (one-wants plan t.one) (one-closed plan 0 t.one))) ∙ sym e
    ends (a ∷ rest) q l e = absurd (omega arith)

-- ---- a source

-- the lines made so far, and the plan that makes the others
pub record Making (begun plan : Plan) (out : List Line) : Type 0 where
  pub source : wants plan ≡ None
  pub lines_are : lines_of begun [] [] ≡ out ++ lines_of plan [] []

pub Making-starts : (begun : Plan) → sides begun ≡ 0 → Making begun begun []
Making-starts begun none = record { source = none-wants begun none; lines_are = refl }

made-lines : (plan plan' : Plan) (line : Line) → wants plan ≡ None → made plan ≡ Some (line, plan') → lines_of plan [] [] ≡ line ∷ lines_of plan' [] []
made-lines plan plan' line w m = lines_of-made plan [] [] w ∙ ap (λ (o : Option (Line × Plan)). own_lines o [] []) m

pub Making-steps : (begun plan plan' : Plan) (line : Line) (out out' : List Line) → Making begun plan out → made plan ≡ Some (line, plan') → out' ≡ out ++ line ∷ [] → Making begun plan' out'
Making-steps begun plan plan' line out out' m next pushed = record {
  source = made-wants plan plan' line next;
  lines_are = m.lines_are ∙ ap (λ z. out ++ z) (made-lines plan plan' line m.source next) ∙ sym (append_assoc out (line ∷ []) (lines_of plan' [] []))
      ∙ ap (λ z. z ++ lines_of plan' [] []) (sym pushed);
}

pub Making-fewer : (begun plan plan' : Plan) (line : Line) (out : List Line) → Making begun plan out → made plan ≡ Some (line, plan') → length (lines_of plan' [] []) < length (lines_of plan [] [])
Making-fewer begun plan plan' line out m next = let e = ap length (made-lines plan plan' line m.source next) in omega arith

pub Making-ends : (begun plan : Plan) (out : List Line) → Making begun plan out → made plan ≡ None → out ≡ lines_of begun [] []
Making-ends begun plan out m none =
    sym (append-nil out) ∙ ap (λ z. out ++ z) (sym (lines_of-made plan [] [] m.source ∙ ap (λ (o : Option (Line × Plan)). own_lines o [] []) none)) ∙ sym m.lines_are

-- ---- the tasks of a script

pub lines_after-append : (lines : List (List Line)) (ds es : List TaskDef) → lines_after lines (ds ++ es) ≡ lines_after (lines_after lines ds) es
lines_after-append lines [] es = refl
lines_after-append lines (d ∷ ds) es = lines_after-append (lines ++ task_lines d lines ∷ []) ds es

pub length-lines_after : (lines : List (List Line)) (ds : List TaskDef) → length (lines_after lines ds) ≡ length lines + length ds
length-lines_after lines [] = omega arith
length-lines_after lines (d ∷ ds) =
    let e = length-lines_after (lines ++ task_lines d lines ∷ []) ds in
    let f = length-append lines (task_lines d lines ∷ []) in
    omega arith
