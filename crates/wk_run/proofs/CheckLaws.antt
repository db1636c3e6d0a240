-- What a text of legal journals that the source tells rules out.
use Rattle.std.proofs.Common.{◌≡◌, ℕ, ◌≤◌, List, length, sym, subst, ◌∙◌, Ok, Err}
use Rattle.std.specs.Prelude.{Option, Some}
use Rattle.handoff_data.specs.History.{History}
use Rattle.journal_legal.specs.Verdicts.{IsFirstBad, IsLowestUnended}
use Rattle.journal_text.specs.Text.{reading}
use Rattle.wk_run.specs.Check.{IsFaultOf, IsLegalText, ReadsIllegal, journal_limit}
use Rattle.wk_run.specs.declared.journal_fault.JournalFault.{JournalFault}
use Rattle.wk_run.specs.declared.journal_fault.JournalFault.TheVariants as fault
use Rattle.wk_run.proofs.RunLaws.{read_all}

one_history : (bytes : List ℕ) (j k : History) → reading bytes ≡ Ok j → reading bytes ≡ Ok k → k ≡ j
one_history bytes j k says says' =
    let both : Ok k ≡ Ok j = sym says' ∙ says in
    cc

-- bytes with a fault are no text of legal journals
pub fault-not_legal : (bytes : List ℕ) (why : JournalFault) → IsFaultOf bytes why → (j : History) → IsLegalText bytes j → ⊥
fault-not_legal bytes (fault.Text line) is j legal =
    let says : reading bytes ≡ Ok j = legal.says in
    let both : Err line ≡ Ok j = sym is ∙ says in
    cc
fault-not_legal bytes (fault.Entry seat index rule) is j legal =
    let same : is.0 ≡ j = one_history bytes j is.0 legal.says is.1 in
    let bad : IsFirstBad j seat index rule = subst (λ (k : History). IsFirstBad k seat index rule) same is.2 in
    bad.broken.broken (legal.legal.no_bad seat index bad.entry bad.stands rule)
fault-not_legal bytes (fault.Unended t) is j legal =
    let same : is.0 ≡ j = one_history bytes j is.0 legal.says is.1 in
    let end : IsLowestUnended j t = subst (λ (k : History). IsLowestUnended k t) same is.2 in
    end.unended (legal.legal.ended t end.within)

-- a source that tells a text of legal journals isn't answered that it has none
pub journals-read : (bytes : List ℕ) (j : History) (left : Option (List ℕ)) (why : JournalFault) → length bytes ≤ journal_limit → IsLegalText bytes j → ReadsIllegal (Some bytes) left why → ⊥
journals-read bytes j left why within legal refused =
    let same : bytes ≡ refused.read = read_all journal_limit bytes refused.read left within refused.input in
    refused.no_legal j (subst (λ (b : List ℕ). IsLegalText b j) same legal)
