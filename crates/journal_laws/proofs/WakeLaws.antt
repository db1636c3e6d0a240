-- Each wake has one queueing, and each queueing one wake.
use Rattle.std.proofs.Common.{◌≡◌, ℕ, ◌+◌, ◌-◌, ◌<◌, ◌≤◌, Bool, true, false, Some, sym, refl, arith, subst, inl, inr}
use Rattle.handoff_data.specs.declared.entry.Entry.{Entry}
use Rattle.handoff_data.specs.declared.entry.Entry.TheVariants as entry
use Rattle.handoff_data.specs.History.{History}
use Rattle.handoff_data.specs.Legal.{IsLegal}
use Rattle.journal_laws.proofs.Kept.{KeepsOrder, kept}
use Rattle.handoff_data.specs.Numbers.{Change, Waking, change_of}
use Rattle.handoff_data.specs.Positions.{IsSomewhere}
use Rattle.handoff_data.specs.Rules.{IsQueued}
use Rattle.journal_laws.specs.Laws.{WakesQueueOnce}
use Rattle.journal_laws.proofs.Once.{one-position, one-entry, first-same, second-same}
use Rattle.journal_laws.proofs.ChangeLaws.{positive, numbered}

-- a change that is a Sleep is no other
not-queued : (j : History) → KeepsOrder j → (t m c c' : ℕ) → IsSomewhere j (entry.Sleep t m c) → IsQueued j t m c' → ⊥
not-queued j rules t m c c' asleep queued =
    elim queued [
      | inl new ↦ let same = one-entry j rules (Change t m) _ _ asleep new refl refl in cc
      | inr (inl moved_in) ↦ let same = one-entry j rules (Change t m) _ _ asleep moved_in refl refl in cc
      | inr (inr enq) ↦ let same = one-entry j rules (Change t m) _ _ asleep enq.1 refl refl in cc
    ]

-- the same, of a change with these numbers
queued-at : (j : History) (t t' m m' c : ℕ) → t' ≡ t → m' - 1 ≡ m → IsQueued j t' (m' - 1) c → IsQueued j t m c
queued-at j t t' m m' c tt mm queued = subst (λ (n : ℕ). IsQueued j t n c) mm (subst (λ (x : ℕ). IsQueued j x (m' - 1) c) tt queued)

abbrev Queueing : History → ℕ → ℕ → Type 0
Queueing j t m = (c : ℕ) × (by_list : Bool) × IsSomewhere j (entry.Enq t m c by_list)

-- the change after a Sleep is a queueing
after-sleep : (j : History) → KeepsOrder j → (t m c : ℕ) → IsSomewhere j (entry.Sleep t m c) → (e : Entry) → IsSomewhere j e → change_of e ≡ Some (t, m + 1) → Queueing j t (m + 1)
after-sleep j rules t m c asleep (entry.New t' m' c') at is =
    let h = rules.chained at.0 at.1.0 _ at.1.1 in
    let some = positive j rules t m (entry.Sleep t m c) asleep refl in
    let mm = second-same t' m' t (m + 1) is in
    absurd (omega arith)
after-sleep j rules t m c asleep (entry.Sleep t' m' c') at is =
    let h = rules.chained at.0 at.1.0 _ at.1.1 in
    let mm = second-same t' m' t (m + 1) is in
    absurd (not-queued j rules t m c c' asleep (queued-at j t t' m m' c' (first-same t' m' t (m + 1) is) (omega arith) h.1))
after-sleep j rules t m c asleep (entry.Out t' m' c') at is =
    let h = rules.chained at.0 at.1.0 _ at.1.1 in
    let mm = second-same t' m' t (m + 1) is in
    absurd (not-queued j rules t m c c' asleep (queued-at j t t' m m' c' (first-same t' m' t (m + 1) is) (omega arith) h.1))
after-sleep j rules t m c asleep (entry.Die t' m' c') at is =
    let h = rules.chained at.0 at.1.0 _ at.1.1 in
    let mm = second-same t' m' t (m + 1) is in
    absurd (not-queued j rules t m c c' asleep (queued-at j t t' m m' c' (first-same t' m' t (m + 1) is) (omega arith) h.1))
after-sleep j rules t m c asleep (entry.In t' m' c') at is =
    let h = rules.chained at.0 at.1.0 _ at.1.1 in
    let mm = second-same t' m' t (m + 1) is in
    let less : m' - 1 ≡ m = omega arith in
    let out : IsSomewhere j (entry.Out t m h.1.0) =
    subst (λ (n : ℕ). IsSomewhere j (entry.Out t n h.1.0)) less (subst (λ (x : ℕ). IsSomewhere j (entry.Out x (m' - 1) h.1.0)) (first-same t' m' t (m + 1) is) (at.0, h.1.1)) in
    let same = one-entry j rules (Change t m) _ _ asleep out refl refl in
    absurd cc
after-sleep j rules t m c asleep (entry.Enq t' m' c' by_list) at is =
    subst (λ (n : ℕ). Queueing j t n) (second-same t' m' t (m + 1) is) (subst (λ (x : ℕ). Queueing j x m') (first-same t' m' t (m + 1) is) (c', by_list, at))
after-sleep j rules t m c asleep _ at is = absurd cc

pub queued : (j : History) → IsLegal j → (t m : ℕ) → IsSomewhere j (entry.Wake t m) → Queueing j t (m + 1)
queued j legal t m wake =
    let rules = kept j legal in
    let within : t < j.tasks = (legal.no_bad wake.0 wake.1.0 _ wake.1.1 1).in_range refl in
    let sleep = rules.caused wake.0 wake.1.0 _ wake.1.1 in
    let asleep : IsSomewhere j (entry.Sleep t m sleep.0) = sleep.1 in
    let end = (legal.ended t within).dies in
    let most : m ≤ end.0 = end.3 (entry.Sleep t m sleep.0) m asleep refl in
    let other : m ≡ end.0 → ⊥ = λ same.
    let both = one-entry j rules (Change t m) (entry.Sleep t m sleep.0) (entry.Die t m end.1) asleep (subst (λ (n : ℕ). IsSomewhere j (entry.Die t n end.1)) (sym same) end.2) refl refl in cc in
    let all = numbered j rules t end.0 (entry.Die t end.0 end.1, end.2, refl) end.3 in
    let next = all.each (m + 1) (omega arith) (omega (arith, most, other)) in
    after-sleep j rules t m sleep.0 asleep next.0 next.1 next.2

pub woken : (j : History) → KeepsOrder j → (t m c : ℕ) (by_list : Bool) → IsSomewhere j (entry.Enq t m c by_list) → (0 < m) × IsSomewhere j (entry.Wake t (m - 1))
woken j rules t m c false at =
    let by = rules.caused at.0 at.1.0 _ at.1.1 in
    (by.0, (at.0, (by.1.0, by.1.2)))
woken j rules t m c true at =
    let by = rules.caused at.0 at.1.0 _ at.1.1 in
    let list = by.1.1 in
    let wake = rules.caused list.0 list.1.0 _ list.1.1 in
    (by.0, (list.0, (wake.0, wake.2)))

pub wakes-queue_once : (j : History) → IsLegal j → WakesQueueOnce j
wakes-queue_once j legal = record {
  queued = queued j legal;
  woken = woken j (kept j legal);
  one_queueing = λ t m s i s' i' c c' b b' at at'. one-position j (kept j legal) (Change t m) s i s' i' _ _ at at' refl refl;
  one_wake = λ t m s i s' i' at at'. one-position j (kept j legal) (Waking t m) s i s' i' _ _ at at' refl refl;
}
