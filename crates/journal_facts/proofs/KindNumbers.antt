-- A kind is told by its number.
use Rattle.std.proofs.Common.{◌≡◌, ℕ, zero, suc, refl, ap, sym, ◌∙◌}
use Rattle.journal_facts.specs.declared.fact.Fact.{Fact}
use Rattle.journal_facts.specs.declared.fact.Kind.{Kind}
use Rattle.journal_facts.specs.declared.fact.Kind.TheVariants as kind
use Rattle.journal_facts.specs.Facts.{kind_number, here_on}

abbrev kind_of : ℕ → Kind
kind_of zero = kind.Change
kind_of (suc zero) = kind.Run
kind_of (suc (suc zero)) = kind.Wake
kind_of (suc (suc (suc zero))) = kind.Listing
kind_of (suc (suc (suc (suc zero)))) = kind.Mask
kind_of (suc (suc (suc (suc (suc zero))))) = kind.Offline
kind_of (suc (suc (suc (suc (suc (suc zero)))))) = kind.Up
kind_of (suc (suc (suc (suc (suc (suc (suc zero))))))) = kind.Queued
kind_of (suc (suc (suc (suc (suc (suc (suc (suc zero)))))))) = kind.Slept
kind_of (suc (suc (suc (suc (suc (suc (suc (suc (suc zero))))))))) = kind.Left
kind_of (suc (suc (suc (suc (suc (suc (suc (suc (suc (suc zero)))))))))) = kind.Died
kind_of (suc (suc (suc (suc (suc (suc (suc (suc (suc (suc (suc zero))))))))))) = kind.ListedTo
kind_of (suc (suc (suc (suc (suc (suc (suc (suc (suc (suc (suc (suc zero)))))))))))) = kind.Taken
kind_of (suc (suc (suc (suc (suc (suc (suc (suc (suc (suc (suc (suc (suc zero))))))))))))) = kind.Picked
kind_of (suc (suc (suc (suc (suc (suc (suc (suc (suc (suc (suc (suc (suc (suc zero)))))))))))))) = kind.Finished
kind_of (suc (suc (suc (suc (suc (suc (suc (suc (suc (suc (suc (suc (suc (suc (suc zero))))))))))))))) = kind.Stood
kind_of (suc (suc (suc (suc (suc (suc (suc (suc (suc (suc (suc (suc (suc (suc (suc (suc zero)))))))))))))))) = kind.ChangeIn
kind_of (suc (suc (suc (suc (suc (suc (suc (suc (suc (suc (suc (suc (suc (suc (suc (suc (suc zero))))))))))))))))) = kind.RunIn
kind_of (suc (suc (suc (suc (suc (suc (suc (suc (suc (suc (suc (suc (suc (suc (suc (suc (suc (suc zero)))))))))))))))))) = kind.TurnIn
kind_of (suc (suc (suc (suc (suc (suc (suc (suc (suc (suc (suc (suc (suc (suc (suc (suc (suc (suc (suc zero))))))))))))))))))) = kind.Due
kind_of _ = kind.Member

back : (k : Kind) → kind_of (kind_number k) ≡ k
back kind.Change = refl
back kind.Run = refl
back kind.Wake = refl
back kind.Listing = refl
back kind.Mask = refl
back kind.Offline = refl
back kind.Up = refl
back kind.Queued = refl
back kind.Slept = refl
back kind.Left = refl
back kind.Died = refl
back kind.ListedTo = refl
back kind.Taken = refl
back kind.Picked = refl
back kind.Finished = refl
back kind.Stood = refl
back kind.ChangeIn = refl
back kind.RunIn = refl
back kind.TurnIn = refl
back kind.Due = refl
back kind.Member = refl

pub same_kind_number : (a b : Kind) → kind_number a ≡ kind_number b → a ≡ b
same_kind_number a b e = sym (back a) ∙ ap kind_of e ∙ back b

-- a fact is told by its fields
pub rebuilt : (f : Fact) (k : Kind) (subject number cpu seat index : ℕ) → f.kind ≡ k → f.subject ≡ subject → f.number ≡ number
    → f.cpu ≡ cpu → f.seat ≡ seat → f.index ≡ index → f ≡ here_on k seat index subject number cpu
rebuilt f k subject number cpu seat index ek es en ec et ei =
    ap (λ (x : Kind). here_on x f.seat f.index f.subject f.number f.cpu) ek
    ∙ ap (λ (x : ℕ). here_on k f.seat f.index x f.number f.cpu) es
    ∙ ap (λ (x : ℕ). here_on k f.seat f.index subject x f.cpu) en
    ∙ ap (λ (x : ℕ). here_on k f.seat f.index subject number x) ec
    ∙ ap (λ (x : ℕ). here_on k x f.index subject number cpu) et
    ∙ ap (λ (x : ℕ). here_on k seat x subject number cpu) ei
