-- How numbers rise in a journal.
use Rattle.std.proofs.Common.{◌≡◌, ◌<◌, ◌+◌, ◌↔◌, ℕ, Option, Some, ap, sym, ◌∙◌, refl, subst, inl, inr, arith}
use Rattle.std.proofs.lemmas.Bool.{cases_order}
use Rattle.handoff_data.specs.declared.entry.Entry.{Entry}
use Rattle.handoff_data.specs.declared.entry.Entry.TheVariants as entry
use Rattle.handoff_data.specs.History.{History}
use Rattle.handoff_data.specs.Numbers.{run_of}
use Rattle.handoff_data.specs.Positions.{Stands, entry_at}
use Rattle.handoff_data.specs.Rules.{IsRunning, RisesInJournal}
use Rattle.journal_rules.specs.Order.{IsLast, AreBelow, RoseBefore}

pub inside : (x y : ℕ × ℕ) → Some x ≡ Some y → x ≡ y
inside x y e = cc

pub same_number : (o : Option (ℕ × ℕ)) (t n t' n' : ℕ) → o ≡ Some (t, n) → o ≡ Some (t', n') → n ≡ n'
same_number o t n t' n' p q = ap (λ (x : ℕ × ℕ). x.1) (inside (t, n) (t', n') (sym p ∙ q))

pub same_task : (o : Option (ℕ × ℕ)) (t n t' n' : ℕ) → o ≡ Some (t, n) → o ≡ Some (t', n') → t ≡ t'
same_task o t n t' n' p q = ap (λ (x : ℕ × ℕ). x.0) (inside (t, n) (t', n') (sym p ∙ q))

pub one_stands : (j : History) (s i : ℕ) (a b : Entry) → Stands j s i a → Stands j s i b → a ≡ b
one_stands j s i a b p q = let x = p.at in let y = q.at in cc

module _ (j : History) (numbers : Entry → Option (ℕ × ℕ)) (s index t : ℕ) (e : Entry) (last : IsLast numbers j s index t e) where
  -- the numbers before are below a limit where the last is, if they rose at the last
  pub all_below : ((n : ℕ) → numbers e ≡ Some (t, n) → AreBelow numbers j s last.last t n) → (limit : ℕ)
      → ((t' n' : ℕ) × (numbers e ≡ Some (t', n')) × (n' < limit)) ↔ AreBelow numbers j s index t limit
  all_below rose limit = (
    λ h before n' e' below stands is.
        let own : last.number < limit = subst (λ (y : ℕ). y < limit) (same_number (numbers e) h.0 h.1 t last.number h.2 last.numbered) h.3 in
        elim (cases_order before last.last) [
          | inl one ↦
              let it : e' ≡ e = one_stands j s last.last e' e (subst (λ (y : ℕ). Stands j s y e') one stands) last.stands in
              let equal : n' ≡ last.number = same_number (numbers e) t n' t last.number (subst (λ (y : Entry). numbers y ≡ Some (t, n')) it is) last.numbered in
              omega (arith, own, equal)
          | inr other ↦ elim other [
            | inl earlier ↦ let less = rose last.number last.numbered before n' e' earlier stands is in omega (arith, own, less)
            | inr later ↦ absurd (last.none_later before n' e' later below stands is)
          ]
        ],
    λ all. (t, last.number, last.numbered, all last.last last.number e last.below last.stands last.numbered),
  )

-- where the last run entry is a pick, the task is running
pub picks : (j : History) (s index t : ℕ) (e : Entry) → IsLast run_of j s index t e → (t' n c : ℕ) → e ≡ entry.Pick t' n c → IsRunning j s index t
picks j s index t e last t' n c is =
    let task : t ≡ t' = same_task (run_of e) t last.number t' n last.numbered (ap run_of is) in
    let stands = subst (λ (y : Entry). Stands j s last.last y) (is ∙ ap (λ (y : ℕ). entry.Pick y n c) (sym task)) last.stands in
    (last.last, n, c, last.below, stands, λ k n' e' after before at. last.none_later k n' e' after before at)

-- and where the task is running, the last run entry is a pick
pub picked : (j : History) (s index t : ℕ) (e : Entry) → IsLast run_of j s index t e → IsRunning j s index t → (n c : ℕ) × (e ≡ entry.Pick t n c)
picked j s index t e last running =
    elim (cases_order running.0 last.last) [
      | inl one ↦ (
        running.1,
        running.2,
        one_stands j s last.last e (entry.Pick t running.1 running.2) last.stands
            (subst (λ (y : ℕ). Stands j s y (entry.Pick t running.1 running.2)) one running.4),
      )
      | inr other ↦ elim other [
        | inl earlier ↦ absurd (running.5 last.last last.number e earlier last.below last.stands last.numbered)
        | inr later ↦ absurd (last.none_later running.0 running.1 (entry.Pick t running.1 running.2) later running.3 running.4 refl)
      ]
    ]

-- where the numbers rose before an index, and rise there, they rose before the next
pub rose_next : (j : History) (s i : ℕ) (e : Entry) → RoseBefore j s i → entry_at j s i ≡ Some e → RisesInJournal j s i e → RoseBefore j s (i + 1)
rose_next j s i e rose at rises before e' below stands =
    elim (cases_order before i) [
      | inl one ↦
          let there = subst (λ (y : ℕ). Stands j s y e') one stands in
          let it : e ≡ e' = one_stands j s i e e' (record { at = at }) there in
          subst (λ (y : ℕ). RisesInJournal j s y e') (sym one) (subst (λ (y : Entry). RisesInJournal j s i y) it rises)
      | inr other ↦ elim other [
        | inl earlier ↦ rose before e' earlier stands
        | inr later ↦ absurd (omega (arith, below, later))
      ]
    ]

pub rose_none : (j : History) (s : ℕ) → RoseBefore j s 0
rose_none j s before e below stands = absurd (omega (arith, below))
