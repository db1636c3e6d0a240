-- The numbers of a new entry: no entry that stands has its identity, or a number of its task that is as high.
use Rattle.std.proofs.Common.{◌≡◌, ℕ, ◌+◌, Option, Some, None, refl, sym, ap, ◌∙◌, arith}
use Rattle.core_invariant.specs.Journals.{Numbered}
use Rattle.core_journals.proofs.RulesLog.{IsUnlike, IsHighest}
use Rattle.handoff_data.specs.History.{History}
use Rattle.handoff_data.specs.Numbers.{change_of, run_of, identity, Identity, Change, Run, Waking}
use Rattle.handoff_data.specs.declared.entry.Entry.{Entry}
use Rattle.handoff_data.specs.declared.entry.Entry.TheVariants as entry

-- an identity's numbers, where it is one of a change, of a run, or of a wake
abbrev change_part : Option Identity → Option (ℕ × ℕ)
change_part (Some (Change t m)) = Some (t, m)
change_part _ = None

abbrev run_part : Option Identity → Option (ℕ × ℕ)
run_part (Some (Run t n)) = Some (t, n)
run_part _ = None

abbrev waking_part : Option Identity → Option (ℕ × ℕ)
waking_part (Some (Waking t m)) = Some (t, m)
waking_part _ = None

change-part : (e : Entry) → change_of e ≡ change_part (identity e)
change-part (entry.New t m c) = refl
change-part (entry.Sleep t m c) = refl
change-part (entry.Wake t m) = refl
change-part (entry.List t m c e) = refl
change-part (entry.Enq t m c by_list) = refl
change-part (entry.Out t m c) = refl
change-part (entry.In t m c) = refl
change-part (entry.Die t m c) = refl
change-part (entry.Pick t m c) = refl
change-part (entry.Finish t m c) = refl
change-part (entry.Mask t r mask) = refl
change-part (entry.Stood t r m at) = refl
change-part (entry.Done t r) = refl
change-part (entry.Offline c e) = refl
change-part (entry.Up c e) = refl
change-part (entry.Refused t state) = refl

run-part : (e : Entry) → run_of e ≡ run_part (identity e)
run-part (entry.New t m c) = refl
run-part (entry.Sleep t m c) = refl
run-part (entry.Wake t m) = refl
run-part (entry.List t m c e) = refl
run-part (entry.Enq t m c by_list) = refl
run-part (entry.Out t m c) = refl
run-part (entry.In t m c) = refl
run-part (entry.Die t m c) = refl
run-part (entry.Pick t m c) = refl
run-part (entry.Finish t m c) = refl
run-part (entry.Mask t r mask) = refl
run-part (entry.Stood t r m at) = refl
run-part (entry.Done t r) = refl
run-part (entry.Offline c e) = refl
run-part (entry.Up c e) = refl
run-part (entry.Refused t state) = refl

-- both numbers of a pair
abbrev first_of : Option (ℕ × ℕ) → ℕ
first_of None = 0
first_of (Some p) = p.0

abbrev second_of : Option (ℕ × ℕ) → ℕ
second_of None = 0
second_of (Some p) = p.1

pub same-first : (t m u k : ℕ) → ◌≡◌ {A = Option (ℕ × ℕ)} (Some (t, m)) (Some (u, k)) → t ≡ u
same-first t m u k h = ap first_of h

pub same-second : (t m u k : ℕ) → ◌≡◌ {A = Option (ℕ × ℕ)} (Some (t, m)) (Some (u, k)) → m ≡ k
same-second t m u k h = ap second_of h

-- the entry has the next number of t's changes
pub unlike-change : {before : History} {changes runs : ℕ → ℕ} → Numbered before changes runs → (e : Entry) (t : ℕ) → change_of e ≡ Some (t, changes t + 1) → IsUnlike before e
unlike-change {changes = changes} p e t c k i x g h is is' =
    let same : change_of x ≡ Some (t, changes t + 1) = change-part x ∙ ap change_part (is' ∙ sym is) ∙ sym (change-part e) ∙ c in
    let r = p.change k i x t (changes t + 1) h same in
    omega (arith, r)

pub unlike-run : {before : History} {changes runs : ℕ → ℕ} → Numbered before changes runs → (e : Entry) (t : ℕ) → run_of e ≡ Some (t, runs t + 1) → IsUnlike before e
unlike-run {runs = runs} p e t c k i x g h is is' =
    let same : run_of x ≡ Some (t, runs t + 1) = run-part x ∙ ap run_part (is' ∙ sym is) ∙ sym (run-part e) ∙ c in
    let r = p.run k i x t (runs t + 1) h same in
    omega (arith, r)

-- the entry has no identity
pub unlike-none : (before : History) (e : Entry) → identity e ≡ None → IsUnlike before e
unlike-none before e none k i x g h is is' = grind (arith, none, is)

pub highest-change : {before : History} {changes runs : ℕ → ℕ} → Numbered before changes runs → (s : ℕ) (e : Entry) (t : ℕ) → change_of e ≡ Some (t, changes t + 1) → IsHighest change_of before s e
highest-change {changes = changes} p s e t c u m is i m' x h is' =
    let t-is = same-first t (changes t + 1) u m (sym c ∙ is) in
    let m-is = same-second t (changes t + 1) u m (sym c ∙ is) in
    let r = p.change s i x t m' h (is' ∙ ap (λ z. Some (z, m')) (sym t-is)) in
    omega (arith, r, m-is)

pub highest-run : {before : History} {changes runs : ℕ → ℕ} → Numbered before changes runs → (s : ℕ) (e : Entry) (t : ℕ) → run_of e ≡ Some (t, runs t + 1) → IsHighest run_of before s e
highest-run {runs = runs} p s e t c u m is i m' x h is' =
    let t-is = same-first t (runs t + 1) u m (sym c ∙ is) in
    let m-is = same-second t (runs t + 1) u m (sym c ∙ is) in
    let r = p.run s i x t m' h (is' ∙ ap (λ z. Some (z, m')) (sym t-is)) in
    omega (arith, r, m-is)

pub highest-none : (number : Entry → Option (ℕ × ℕ)) (before : History) (s : ℕ) (e : Entry) → number e ≡ None → IsHighest number before s e
highest-none number before s e none t m is i m' x h is' = grind (arith, none, is)

-- the wake of this identity
wake-is : (x : Entry) (t m : ℕ) → waking_part (identity x) ≡ Some (t, m) → x ≡ entry.Wake t m
wake-is (entry.New u k c) t m h = absurd (grind (arith, h))
wake-is (entry.Sleep u k c) t m h = absurd (grind (arith, h))
wake-is (entry.Wake u k) t m h = let a = same-first u k t m h in let b = same-second u k t m h in ap (λ z. entry.Wake z k) a ∙ ap (λ z. entry.Wake t z) b
wake-is (entry.List u k c e) t m h = absurd (grind (arith, h))
wake-is (entry.Enq u k c by_list) t m h = absurd (grind (arith, h))
wake-is (entry.Out u k c) t m h = absurd (grind (arith, h))
wake-is (entry.In u k c) t m h = absurd (grind (arith, h))
wake-is (entry.Die u k c) t m h = absurd (grind (arith, h))
wake-is (entry.Pick u k c) t m h = absurd (grind (arith, h))
wake-is (entry.Finish u k c) t m h = absurd (grind (arith, h))
wake-is (entry.Mask u r mask) t m h = absurd (grind (arith, h))
wake-is (entry.Stood u r k at) t m h = absurd (grind (arith, h))
wake-is (entry.Done u r) t m h = absurd (grind (arith, h))
wake-is (entry.Offline c e) t m h = absurd (grind (arith, h))
wake-is (entry.Up c e) t m h = absurd (grind (arith, h))
wake-is (entry.Refused u state) t m h = absurd (grind (arith, h))

pub wake-found : (x : Entry) (t m : ℕ) → identity x ≡ Some (Waking t m) → x ≡ entry.Wake t m
wake-found x t m h = wake-is x t m (ap waking_part h)
