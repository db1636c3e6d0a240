-- Of the answers, a whole input and counts that didn't rise leave two.
use Rattle.std.proofs.Common.{rules, ◌≡◌, ◌∙◌, ℕ, List, sym, ap, length, subst, inl, inr}
use Rattle.std.specs.Prelude.{Option, Some}
use Rattle.std.specs.Vec.{vec_len}
use Rattle.command_words.specs.declared.words.Words.{Words}
use Rattle.wk_run.specs.Run.{ReadsFault}
use Rattle.wk_run.proofs.OutputLaws.{in_range}
use Rattle.wk_run.proofs.RunLaws.{answers-left, script-read}
use Rattle.wk_run.proofs.top.wakerun_with.Goals as goal

pub returns-in-Ok-Some-Run-clause-run_complete : goal.returns-in-Ok-Some-Run-clause-run_complete
returns-in-Ok-Some-Run-clause-run_complete g c = λ options runs bytes script told is source sink.
    answers-left _ c.run_cmd.ensures.read
    (λ e. source (c.run_cmd.ensures.read_fault e))
    (λ e. sink (c.run_cmd.ensures.write_fault e).0)
    (λ line code e. script-read (length c.args.customs.items) bytes script _ line code is
    (subst (λ (held : Option (List ℕ)). ReadsFault (length c.args.customs.items) held (g.S.Source.remaining c.run_cmd.new.input) line code) told (c.run_cmd.ensures.bad_script line code e)))
    c.run_cmd.ensures.no_journals

pub returns-in-Ok-Some-Plan-clause-plan_complete : goal.returns-in-Ok-Some-Plan-clause-plan_complete
returns-in-Ok-Some-Plan-clause-plan_complete g c = λ plans bytes script told is source sink.
    answers-left _ c.plan_cmd.ensures.read
    (λ e. source (c.plan_cmd.ensures.read_fault e))
    (λ e. sink (c.plan_cmd.ensures.write_fault e).0)
    (λ line code e. script-read (length c.args.customs.items) bytes script _ line code is
    (subst (λ (held : Option (List ℕ)). ReadsFault (length c.args.customs.items) held (g.S.Source.remaining c.plan_cmd.new.input) line code) told
    (let len : vec_len c.args.customs ≡ length c.args.customs.items = search rules in
    subst (λ (n : ℕ). ReadsFault n (g.S.Source.remaining c.args.input.now) (g.S.Source.remaining c.plan_cmd.new.input) line code) (c.len.ensures ∙ len)
    (c.plan_cmd.ensures.bad_script line code e))))
    c.plan_cmd.ensures.no_journals

pub returns-in-Ok-Some-Check-clause-check_complete : goal.returns-in-Ok-Some-Check-clause-check_complete
returns-in-Ok-Some-Check-clause-check_complete g c = λ checks bytes journals told is source sink.
    answers-left _ c.check_cmd.ensures.read
    (λ e. source (c.check_cmd.ensures.read_fault e))
    (λ e. sink (c.check_cmd.ensures.write_fault e).0)
    c.check_cmd.ensures.no_script
    (λ why e. c.check_cmd.ensures.no_legal why e bytes journals told is)

pub returns-in-Ok-Some-Run-clause-bad_script : goal.returns-in-Ok-Some-Run-clause-bad_script
returns-in-Ok-Some-Run-clause-bad_script g c = λ line code e. (
  inl (
    c.in-Ok-Some-Run.options,
    sym c.in-Ok-Some-Run.ensures.ok ∙ c.in-Ok-Some-Run.field-0-is ∙ ap (λ (w : Words). Some w) c.in-Ok-Some-Run.field-0-0-is,
  ),
  c.run_cmd.ensures.bad_script line code e,
)

pub returns-in-Ok-Some-Plan-clause-bad_script : goal.returns-in-Ok-Some-Plan-clause-bad_script
returns-in-Ok-Some-Plan-clause-bad_script g c = λ line code e. (
  inr (
      sym c.in-Ok-Some-Plan.ensures.ok ∙ c.in-Ok-Some-Plan.field-0-is ∙ ap (λ (w : Words). Some w) c.in-Ok-Some-Plan.field-0-0-is),
  (let len : vec_len c.args.customs ≡ length c.args.customs.items = search rules in
      subst (λ (n : ℕ). ReadsFault n (g.S.Source.remaining c.args.input.now) (g.S.Source.remaining c.plan_cmd.new.input) line code) (c.len.ensures ∙ len)
      (c.plan_cmd.ensures.bad_script line code e)),
)

pub run_cmd-requires-clause-workers : goal.run_cmd-requires-clause-workers
run_cmd-requires-clause-workers g c κs within =
    in_range c.args.words.now c.in-Ok-Some-Run.options c.reads_what_is_written.ensures
    (sym c.in-Ok-Some-Run.ensures.ok ∙ c.in-Ok-Some-Run.field-0-is ∙ ap (λ (w : Words). Some w) c.in-Ok-Some-Run.field-0-0-is)
