-- What a script that the source tells rules out.
use Rattle.std.proofs.Common.{◌≡◌, ℕ, ◌≤◌, List, [], ◌++◌, length, refl, ap, subst, ◌∙◌, arith, length-append}
use Rattle.std.specs.Prelude.{Option, Some, None, ◌⊎◌}
use Rattle.std.proofs.Common.{inl, inr}
use Rattle.std.proofs.lemmas.List.{append-nil}
use Rattle.task_script.specs.declared.script.Script.{Script}
use Rattle.task_script.specs.Script.{IsScript}
use Rattle.wk_run.specs.Input.{ReadsInput}
use Rattle.wk_run.specs.Run.{ReadsFault}
use Rattle.wk_run.specs.declared.journal_fault.JournalFault.{JournalFault}
use Rattle.wk_run.specs.declared.status.Status.{Status}
use Rattle.wk_run.specs.declared.status.Status.TheVariants as status

-- what was read is all that the source told, where that is no longer than the limit
pub read_all : (limit : ℕ) (bytes read : List ℕ) (left : Option (List ℕ)) → length bytes ≤ limit → ReadsInput limit (Some bytes) left read → bytes ≡ read
read_all limit bytes read None within input = absurd input.taken
read_all limit bytes read (Some rest) within input =
    let whole : bytes ≡ read ++ rest = input.taken in
    let short : length read ≤ limit = omega (arith, ap length whole, length-append read rest) in
    let none : rest ≡ [] = input.to_end short in
    whole ∙ ap (λ z. read ++ z) none ∙ append-nil read

-- a source that tells a script isn't answered that it has none
pub script-read : (customs : ℕ) (bytes : List ℕ) (script : Script) (left : Option (List ℕ)) (line code : ℕ) → IsScript customs bytes script → ReadsFault customs (Some bytes) left line code → ⊥
script-read customs bytes script left line code is refused =
    let same : bytes ≡ refused.read = read_all _ bytes refused.read left is.within refused.input in
    refused.no_script script (subst (λ (b : List ℕ). IsScript customs b script) same is)

-- the answers that are left where these can't be
pub answers-left : (s : Status) → (s ≡ status.Usage → ⊥) → (s ≡ status.ReadFault → ⊥) → (s ≡ status.WriteFault → ⊥) → ((line code : ℕ) → s ≡ status.BadScript line code → ⊥)
    → ((why : JournalFault) → s ≡ status.Illegal why → ⊥) → (s ≡ status.Ok) ⊎ (s ≡ status.NoMemory)
answers-left status.Ok usage read write bad illegal = inl refl
answers-left (status.BadScript line code) usage read write bad illegal = absurd (bad line code refl)
answers-left status.Usage usage read write bad illegal = absurd (usage refl)
answers-left status.ReadFault usage read write bad illegal = absurd (read refl)
answers-left status.WriteFault usage read write bad illegal = absurd (write refl)
answers-left status.NoMemory usage read write bad illegal = inr refl
answers-left (status.Illegal why) usage read write bad illegal = absurd (illegal why refl)
