-- What is written for a script, and what the words and a script that can't be read rule out.
use Rattle.std.proofs.Common.{◌≡◌, ◌≢◌, ◌∙◌, ℕ, ◌<◌, ◌≤◌, ◌++◌, Bool, true, false, true≢false, ◌&&◌, List, [], ◌∷◌, map, refl, sym, ap, subst, arith, nat_lt, nat_le, length, rules}
use Rattle.std.specs.Prelude.{Option, Some, string_bytes}
use Rattle.std.specs.List.{list_all}
use Rattle.std.specs.Char.{is_ascii_digit}
use Rattle.std.specs.Io.KnownBytes.{Appends}
use Rattle.std.specs.Str.Parse.{digits_value}
use Rattle.std.specs.declared.alloc.Global.{Global}
use Rattle.std.specs.declared.string.String.{String}
use Rattle.std.proofs.lemmas.List.{append-nil}
use borrow.Author.Tests.{tests}
use Rattle.command_words.specs.Words.{Choice, workers_apart, workers_joined, with_trace, with_plain, has_number, is_number, reading_of, workers_of}
use Rattle.command_words.specs.Written.{ReadsWhatIsWritten, WritesRun as WritesRunWords}
use Rattle.command_words.specs.declared.words.RunOptions.{RunOptions}
use Rattle.command_words.specs.declared.words.Words.TheVariants.{Run}
use Rattle.handoff_data.specs.History.{History}
use Rattle.handoff_data.specs.declared.entry.Entry.{Entry}
use Rattle.journal_text.specs.Readable.{text_of}
use Rattle.journal_text.specs.Spelling.{spelling}
use Rattle.run_script.specs.Told.{TellsRun}
use Rattle.run_trace.specs.Traces.{TellsJournals}
use Rattle.script_writer.specs.Spelling.{spelled}
use Rattle.task_script.specs.Script.{IsScript}
use Rattle.task_script.specs.declared.plan.Plan.{Plan}
use Rattle.task_script.specs.declared.script.Script.{Script}
use Rattle.wk_run.specs.Input.{WritesPart}
use Rattle.wk_run.specs.Plan.{WritesPlan, WritesPlanPart}
use Rattle.wk_run.specs.Run.{report_of, trace_of, output_of, ReadsScript, TellsOutput, WritesRun, WritesRunPart}
use Rattle.wk_run.specs.Status.{TellsNoScript}
use Rattle.wk_run.specs.declared.journal_fault.JournalFault.{JournalFault}
use Rattle.wk_run.specs.declared.status.Status.{Status}
use Rattle.wk_run.specs.declared.status.Status.TheVariants as status

-- ---- the words

both : (a b : Bool) → (a && b) ≡ true → (a ≡ true) × (b ≡ true)
both true b is = (refl, is)
both false b is = absurd (true≢false (sym is))

number_in_range : (text : List ℕ) → is_number text ≡ true → (0 < digits_value 10 text) × (digits_value 10 text ≤ 16)
number_in_range text is =
    let some : Bool = nat_le 1 (digits_value 10 text) in
    let few : Bool = nat_le (digits_value 10 text) 16 in
    let front : Bool = nat_lt 0 (length text) && nat_le (length text) 10 && list_all is_ascii_digit text in
    let last = both (front && some) few is in
    let is_few : nat_le (digits_value 10 text) 16 ≡ true = last.1 in
    let is_some : nat_le 1 (digits_value 10 text) ≡ true = (both front some last.0).1 in
    (search (rules, tests), search (rules, tests))

options_in_range : (choices : List Choice) → list_all has_number choices ≡ true → (0 < workers_of choices) × (workers_of choices ≤ 16)
options_in_range [] numbers = (omega arith, omega arith)
options_in_range (workers_apart text ∷ choices) numbers = number_in_range text (both (is_number text) (list_all has_number choices) numbers).0
options_in_range (workers_joined text ∷ choices) numbers = number_in_range text (both (is_number text) (list_all has_number choices) numbers).0
options_in_range (with_trace ∷ choices) numbers = options_in_range choices numbers
options_in_range (with_plain ∷ choices) numbers = options_in_range choices numbers

-- the options of a run have 1 to 16 workers
pub in_range : (words : List (String Global)) (options : RunOptions) → ReadsWhatIsWritten → reading_of words ≡ Some (Run options)
    → (0 < options.workers) × (options.workers ≤ 16)
in_range words options law is =
    let written : WritesRunWords (map string_bytes words) options = (law (map string_bytes words) (Run options)).0 is in
    subst (λ (o : RunOptions). (0 < o.workers) × (o.workers ≤ 16)) (sym written.told) (options_in_range written.choices written.numbers)

-- ---- answers where no script was read

pub no_usage : (s : Status) → TellsNoScript s → s ≡ status.Usage → ⊥
no_usage s tells is = subst TellsNoScript is tells

pub no_illegal : (s : Status) → TellsNoScript s → (fault : JournalFault) → s ≡ status.Illegal fault → ⊥
no_illegal s tells fault is = subst TellsNoScript is tells

pub no_ok : (s : Status) → TellsNoScript s → s ≡ status.Ok → ⊥
no_ok s tells is = subst TellsNoScript is tells

pub no_write_fault : (s : Status) → TellsNoScript s → s ≡ status.WriteFault → ⊥
no_write_fault s tells is = subst TellsNoScript is tells

pub ruleset answer_laws = (no_usage, no_illegal, no_ok, no_write_fault)

-- ---- the output of a run

module _ {G : Type 0} (told : G → Option (List Entry)) (options : RunOptions) (works : List Plan) (script : Script) (old new : List G) where
  pub report_alone : (text : List ℕ) → options.trace ≡ false → text ≡ report_of options works script → TellsRun told script old new
      → TellsOutput told options works script text old new
  report_alone text alone is tells = record {
    tells = tells;
    is_output = is ∙ sym (append-nil (report_of options works script))
        ∙ ap (λ (trace : Bool). report_of options works script ++ trace_of trace tells.journals) (sym alone);
  }

  pub report_traced : (text report : List ℕ) (journals : History) → options.trace ≡ true → report ≡ report_of options works script
      → text ≡ report ++ text_of (spelling journals) → TellsJournals told script journals old new → TellsOutput told options works script text old new
  report_traced text report journals traced is goes tells = record {
    tells = tells.tells;
    is_output = goes ∙ ap (λ (front : List ℕ). front ++ text_of (spelling journals)) is
        ∙ ap (λ (j : History). report_of options works script ++ text_of (spelling j)) (sym tells.these)
        ∙ ap (λ (trace : Bool). report_of options works script ++ trace_of trace tells.tells.journals) (sym traced);
  }

  module _ (held left before after : Option (List ℕ)) (text written : List ℕ) (same : written ≡ text) (reads : ReadsScript (length works) held left script)
      (output : TellsOutput told options works script text old new) where
    pub run_written : Appends before after written → WritesRun told options works held left before after old new
    run_written writes = record {
      script = script;
      reads = reads;
      tells = output.tells;
      writes = subst (Appends before after) (same ∙ output.is_output) writes;
    }

    pub run_written_part : WritesPart before after written → WritesRunPart told options works held left before after old new
    run_written_part writes = record {
      script = script;
      reads = reads;
      tells = output.tells;
      writes = subst (WritesPart before after) (same ∙ output.is_output) writes;
    }

pub some_script : (customs : ℕ) (held left : Option (List ℕ)) (script : Script) → ReadsScript customs held left script → (bytes : List ℕ) × IsScript customs bytes script
some_script customs held left script reads = (reads.read, reads.is_script)

pub ruleset run_laws = (run_written, run_written_part, some_script)

-- ---- the output of a plan

module _ (customs : ℕ) (script : Script) (held left before after : Option (List ℕ)) (text written : List ℕ) (same : written ≡ text)
    (reads : ReadsScript customs held left script) (is : text ≡ spelled script) where
  pub plan_written : Appends before after written → WritesPlan customs held left before after
  plan_written writes = record { script = script; reads = reads; writes = subst (Appends before after) (same ∙ is) writes }

  pub plan_written_part : WritesPart before after written → WritesPlanPart customs held left before after
  plan_written_part writes = record { script = script; reads = reads; writes = subst (WritesPart before after) (same ∙ is) writes }

pub ruleset plan_laws = (plan_written, plan_written_part)
