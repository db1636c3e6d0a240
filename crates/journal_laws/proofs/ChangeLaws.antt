-- Changes are numbered from 1, and walk from New to Dead.
use Rattle.std.proofs.Common.{◌≡◌, ℕ, zero, suc, ◌+◌, ◌-◌, ◌<◌, ◌≤◌, true, false, Some, None, ap, sym, refl, arith, subst, inl, inr}
use Rattle.handoff_data.specs.declared.entry.Entry.{Entry}
use Rattle.handoff_data.specs.declared.entry.Entry.TheVariants as entry
use Rattle.handoff_data.specs.declared.place.Q.{Q}
use Rattle.handoff_data.specs.declared.place.Q.TheVariants as q
use Rattle.handoff_data.specs.History.{History}
use Rattle.handoff_data.specs.Legal.{IsLegal}
use Rattle.journal_laws.proofs.Kept.{KeepsOrder, kept}
use Rattle.handoff_data.specs.Moves.{moved}
use Rattle.handoff_data.specs.Numbers.{Change, change_of}
use Rattle.handoff_data.specs.Positions.{Stands, IsSomewhere}
use Rattle.handoff_data.specs.Rules.{Chained, Caused, IsQueued}
use Rattle.journal_laws.specs.Laws.{AreNumbered, Walks, starts, changes, wakes, lists, ChangesWalk}
use Rattle.journal_laws.proofs.Once.{one-position, identity-change, first-same, second-same, pair_of}
use Rattle.journal_laws.proofs.Numbering.{Has, all-below}

chained : (j : History) → KeepsOrder j → (s i : ℕ) (e : Entry) → Stands j s i e → Chained j s i e
chained j rules s i e at = rules.chained s i e at

caused : (j : History) → KeepsOrder j → (s i : ℕ) (e : Entry) → Stands j s i e → Caused j s i e
caused j rules s i e at = rules.caused s i e at

pub positive : (j : History) → KeepsOrder j → (t m : ℕ) (e : Entry) → IsSomewhere j e → change_of e ≡ Some (t, m) → 1 ≤ m
positive j rules t m (entry.New t' m' c) at is = let h = chained j rules at.0 at.1.0 _ at.1.1 in let same = second-same t' m' t m is in omega arith
positive j rules t m (entry.Sleep t' m' c) at is = let h = chained j rules at.0 at.1.0 _ at.1.1 in let same = second-same t' m' t m is in omega (arith, h.0)
positive j rules t m (entry.Enq t' m' c by_list) at is = let h = chained j rules at.0 at.1.0 _ at.1.1 in let same = second-same t' m' t m is in omega (arith, h.0)
positive j rules t m (entry.Out t' m' c) at is = let h = chained j rules at.0 at.1.0 _ at.1.1 in let same = second-same t' m' t m is in omega (arith, h.0)
positive j rules t m (entry.In t' m' c) at is = let h = chained j rules at.0 at.1.0 _ at.1.1 in let same = second-same t' m' t m is in omega (arith, h.0)
positive j rules t m (entry.Die t' m' c) at is = let h = chained j rules at.0 at.1.0 _ at.1.1 in let same = second-same t' m' t m is in omega (arith, h.0)
positive j rules t m _ at is = absurd cc

-- ---- each number above 1 has the one below it

has-queued : (j : History) (t m c : ℕ) → IsQueued j t m c → Has change_of j t m
has-queued j t m c queued =
    elim queued [
      | inl new ↦ (entry.New t m c, new, refl)
      | inr (inl moved_in) ↦ (entry.In t m c, moved_in, refl)
      | inr (inr enq) ↦ (entry.Enq t m c enq.0, enq.1, refl)
    ]

has-at : (j : History) (t t' m m' : ℕ) → t' ≡ t → m' - 1 ≡ m → Has change_of j t' (m' - 1) → Has change_of j t m
has-at j t t' m m' tt mm has = subst (λ (n : ℕ). Has change_of j t n) mm (subst (λ (x : ℕ). Has change_of j x (m' - 1)) tt has)

below : (j : History) → KeepsOrder j → (t m : ℕ) → 1 ≤ m → (e : Entry) → IsSomewhere j e → change_of e ≡ Some (t, m + 1) → Has change_of j t m
below j rules t m some (entry.New t' m' c) at is =
    let h = chained j rules at.0 at.1.0 _ at.1.1 in
    let mm = second-same t' m' t (m + 1) is in
    absurd (omega arith)
below j rules t m some (entry.Sleep t' m' c) at is =
    let h = chained j rules at.0 at.1.0 _ at.1.1 in
    let mm = second-same t' m' t (m + 1) is in
    has-at j t t' m m' (first-same t' m' t (m + 1) is) (omega arith) (has-queued j t' (m' - 1) c h.1)
below j rules t m some (entry.Out t' m' c) at is =
    let h = chained j rules at.0 at.1.0 _ at.1.1 in
    let mm = second-same t' m' t (m + 1) is in
    has-at j t t' m m' (first-same t' m' t (m + 1) is) (omega arith) (has-queued j t' (m' - 1) c h.1)
below j rules t m some (entry.Die t' m' c) at is =
    let h = chained j rules at.0 at.1.0 _ at.1.1 in
    let mm = second-same t' m' t (m + 1) is in
    has-at j t t' m m' (first-same t' m' t (m + 1) is) (omega arith) (has-queued j t' (m' - 1) c h.1)
below j rules t m some (entry.Enq t' m' c by_list) at is =
    let h = chained j rules at.0 at.1.0 _ at.1.1 in
    let mm = second-same t' m' t (m + 1) is in
    has-at j t t' m m' (first-same t' m' t (m + 1) is) (omega arith) (entry.Sleep t' (m' - 1) h.1.0, h.1.1, refl)
below j rules t m some (entry.In t' m' c) at is =
    let h = chained j rules at.0 at.1.0 _ at.1.1 in
    let mm = second-same t' m' t (m + 1) is in
    has-at j t t' m m' (first-same t' m' t (m + 1) is) (omega arith) (entry.Out t' (m' - 1) h.1.0, (at.0, h.1.1), refl)
below j rules t m some _ at is = absurd cc

pub numbered : (j : History) → KeepsOrder j → (t last : ℕ) → Has change_of j t last → ((e : Entry) (m : ℕ) → IsSomewhere j e → change_of e ≡ Some (t, m) → m ≤ last) → AreNumbered change_of j t last
numbered j rules t last has most = record {
  within = λ e m at is. (positive j rules t m e at is, most e m at is);
  each = all-below change_of j t last (λ m some up. below j rules t m some up.0 up.1 up.2) has;
  once = λ m s i s' i' e e' at at' is is'. one-position j rules (Change t m) s i s' i' e e' at at' (identity-change e t m is) (identity-change e' t m is');
}

-- ---- the walk

-- where a change of this seat leaves its task, which doesn't depend on where the task was
abbrev left_at : ℕ → Entry → Q
left_at s e = (moved s (record { q = q.New; b = None }) e).q

-- each change of t with this number ends a walk
abbrev WalksTo : History → ℕ → ℕ → Type 0
WalksTo j t m = (s i : ℕ) (e : Entry) → Stands j s i e → change_of e ≡ Some (t, m) → Walks j t m (left_at s e)

walk-queued : (j : History) (t m c : ℕ) → WalksTo j t m → IsQueued j t m c → Walks j t m (q.On c)
walk-queued j t m c before queued =
    elim queued [
      | inl new ↦ before new.0 new.1.0 (entry.New t m c) new.1.1 refl
      | inr (inl moved_in) ↦ before moved_in.0 moved_in.1.0 (entry.In t m c) moved_in.1.1 refl
      | inr (inr enq) ↦ before enq.1.0 enq.1.1.0 (entry.Enq t m c enq.0) enq.1.1.1 refl
    ]

-- the walk of the change before leads to this one
step : (j : History) → KeepsOrder j → (s i : ℕ) (e : Entry) (p : ℕ × ℕ) → Stands j s i e → change_of e ≡ Some p → WalksTo j (pair_of (change_of e)).0 ((pair_of (change_of e)).1 - 1)
    → Walks j (pair_of (change_of e)).0 (pair_of (change_of e)).1 (left_at s e)
step j rules s i (entry.New t m c) p at is before =
    let h = chained j rules s i _ at in
    changes 0 m s q.New (q.On c) (entry.New t m c) h starts (i, at) refl
    (record { busy_before = None; busy_after = None; moves = record { from = (refl, refl); to = refl } })
step j rules s i (entry.Sleep t m c) p at is before =
    let h = chained j rules s i _ at in
    changes (m - 1) m s (q.On c) q.Off (entry.Sleep t m c) (omega (arith, h.0)) (walk-queued j t (m - 1) c before h.1) (i, at) refl
    (record { busy_before = Some c; busy_after = Some c; moves = record { from = (refl, refl); to = refl } })
step j rules s i (entry.Out t m c) p at is before =
    let h = chained j rules s i _ at in
    changes (m - 1) m s (q.On c) (q.Moving s) (entry.Out t m c) (omega (arith, h.0)) (walk-queued j t (m - 1) c before h.1) (i, at) refl
    (record { busy_before = None; busy_after = None; moves = record { from = (refl, refl); to = refl } })
step j rules s i (entry.Die t m c) p at is before =
    let h = chained j rules s i _ at in
    changes (m - 1) m s (q.On c) q.Dead (entry.Die t m c) (omega (arith, h.0)) (walk-queued j t (m - 1) c before h.1) (i, at) refl
    (record { busy_before = Some c; busy_after = Some c; moves = record { from = (refl, refl); to = refl } })
step j rules s i (entry.In t m c) p at is before =
    let h = chained j rules s i _ at in
    changes (m - 1) m s (q.Moving s) (q.On c) (entry.In t m c) (omega (arith, h.0)) (before s h.1.1.0 (entry.Out t (m - 1) h.1.0) h.1.1.1 refl) (i, at) refl
    (record { busy_before = None; busy_after = None; moves = record { from = (refl, refl); to = refl } })
step j rules s i (entry.Enq t m c false) p at is before =
    let h = chained j rules s i _ at in
    let by = caused j rules s i _ at in
    let asleep : Walks j t (m - 1) q.Off = before h.1.1.0 h.1.1.1.0 (entry.Sleep t (m - 1) h.1.0) h.1.1.1.1 refl in
    let woken = wakes (m - 1) s q.Off (q.Waking s) asleep (by.1.0, by.1.2)
    (record { busy_before = None; busy_after = None; moves = record { from = refl; to = refl } }) in
    changes (m - 1) m s (q.Waking s) (q.On c) (entry.Enq t m c false) (omega (arith, h.0)) woken (i, at) refl
    (record { busy_before = None; busy_after = None; moves = record { from = (refl, refl); to = refl } })
step j rules s i (entry.Enq t m c true) p at is before =
    let h = chained j rules s i _ at in
    let by = caused j rules s i _ at in
    let list = by.1.1 in
    let wake = caused j rules list.0 list.1.0 _ list.1.1 in
    let asleep : Walks j t (m - 1) q.Off = before h.1.1.0 h.1.1.1.0 (entry.Sleep t (m - 1) h.1.0) h.1.1.1.1 refl in
    let woken = wakes (m - 1) list.0 q.Off (q.Waking list.0) asleep (wake.0, wake.2)
    (record { busy_before = None; busy_after = None; moves = record { from = refl; to = refl } }) in
    let listed = lists (m - 1) list.0 c by.1.0 (q.Waking list.0) (q.Listed c) woken list.1
    (record { busy_before = None; busy_after = None; moves = record { from = (refl, inl refl); to = refl } }) in
    changes (m - 1) m s (q.Listed c) (q.On c) (entry.Enq t m c true) (omega (arith, h.0)) listed (i, at) refl
    (record { busy_before = None; busy_after = None; moves = record { from = (refl, refl); to = refl } })
step j rules s i _ p at is before = absurd cc

walks : (j : History) → KeepsOrder j → (m t : ℕ) → WalksTo j t m
walks j rules zero t = λ s i e at is. let some = positive j rules t 0 e (s, (i, at)) is in absurd (omega arith)
walks j rules (suc m) t =
    let before = walks j rules m t in
    λ s i e at is.
    let same : pair_of (change_of e) ≡ (t, suc m) = ap pair_of is in
    let less : m ≡ suc m - 1 = omega arith in
    let by : WalksTo j (pair_of (change_of e)).0 ((pair_of (change_of e)).1 - 1) =
    subst (λ (p : ℕ × ℕ). WalksTo j p.0 (p.1 - 1)) (sym same) (subst (λ (n : ℕ). WalksTo j t n) less before) in
    subst (λ (p : ℕ × ℕ). Walks j p.0 p.1 (left_at s e)) same (step j rules s i e (t, suc m) at is by)

pub changes-walk : (j : History) → IsLegal j → (t : ℕ) → t < j.tasks → ChangesWalk j t
changes-walk j legal t within =
    let rules = kept j legal in
    let end = (legal.ended t within).dies in
    record {
      last = end.0;
      numbered = numbered j rules t end.0 (entry.Die t end.0 end.1, end.2, refl) end.3;
      walk = walks j rules end.0 t end.2.0 end.2.1.0 (entry.Die t end.0 end.1) end.2.1.1 refl;
    }
