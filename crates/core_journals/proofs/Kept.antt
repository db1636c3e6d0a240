-- What a rule says of an entry stays true when a journal gets one entry more at its end.
use Rattle.std.proofs.Common.{◌≡◌, ◌≢◌, ℕ, ◌-◌, ◌<◌, ◌≤◌, inl, inr, true, false, Option, sym, subst, arith}
use Rattle.core_invariant.proofs.Logs.{Logged, in-old, before-old, somewhere-old}
use Rattle.handoff_data.specs.History.{History}
use Rattle.handoff_data.specs.Positions.{Stands}
use Rattle.handoff_data.specs.Rules.{InRange, Chained, Caused, RunsAlternate, LeavesWhileRunning, IsQueued, IsSleep, IsListed, IsRunning}
use Rattle.handoff_data.specs.declared.entry.Entry.{Entry}
use Rattle.handoff_data.specs.declared.entry.Entry.TheVariants as entry
use Rattle.std.specs.Prelude.{IfSome}

pub queued-old : {before after : History} {s n : ℕ} {e : Entry} → Logged before after s n e → (t m c : ℕ) → IsQueued before t m c → IsQueued after t m c
queued-old l t m c h = elim h [
  | inl a ↦ inl (somewhere-old l _ a)
  | inr b ↦ elim b [ inl a ↦ inr (inl (somewhere-old l _ a)) | inr a ↦ inr (inr (a.0, somewhere-old l _ a.1)) ]
]

pub sleep-old : {before after : History} {s n : ℕ} {e : Entry} → Logged before after s n e → (t m : ℕ) → IsSleep before t m → IsSleep after t m
sleep-old l t m h = (h.0, somewhere-old l _ h.1)

-- there are as many tasks and processors
task-old : {before after : History} {s n : ℕ} {e : Entry} → Logged before after s n e → (t : ℕ) → t < before.tasks → t < after.tasks
task-old l t h = subst (λ x. t < x) (sym l.tasks) h

cpu-old : {before after : History} {s n : ℕ} {e : Entry} → Logged before after s n e → (c : ℕ) → c < before.cpus → c < after.cpus
cpu-old l c h = subst (λ x. c < x) (sym l.cpus) h

stood-old : {before after : History} {s n : ℕ} {e : Entry} → Logged before after s n e → (o : Option ℕ) → IfSome o (λ c. c < before.cpus) → IfSome o (λ c. c < after.cpus)
stood-old l o h = subst (λ x. IfSome o (λ c. c < x)) (sym l.cpus) h

pub range-old : {before after : History} {s n : ℕ} {e : Entry} → Logged before after s n e → (k i : ℕ) (x : Entry) → InRange before k i x → InRange after k i x
range-old l k i (entry.New t m c) h = (task-old l t h.0, cpu-old l c h.1)
range-old l k i (entry.Sleep t m c) h = (task-old l t h.0, cpu-old l c h.1, h.2)
range-old l k i (entry.Wake t m) h = task-old l t h
range-old l k i (entry.List t m c e) h = (task-old l t h.0, cpu-old l c h.1)
range-old l k i (entry.Enq t m c by_list) h = (task-old l t h.0, cpu-old l c h.1, h.2)
range-old l k i (entry.Out t m c) h = (task-old l t h.0, cpu-old l c h.1)
range-old l k i (entry.In t m c) h = (task-old l t h.0, cpu-old l c h.1)
range-old l k i (entry.Die t m c) h = (task-old l t h.0, cpu-old l c h.1, h.2)
range-old l k i (entry.Pick t m c) h = (task-old l t h.0, cpu-old l c h.1, h.2)
range-old l k i (entry.Finish t m c) h = (task-old l t h.0, cpu-old l c h.1, h.2)
range-old l k i (entry.Mask t r mask) h = (task-old l t h.0, λ c g. cpu-old l c (h.1 c g))
range-old l k i (entry.Stood t r m at) h = (task-old l t h.0, stood-old l at h.1)
range-old l k i (entry.Done t r) h = task-old l t h
range-old l k i (entry.Offline c e) h = (cpu-old l c h.0, h.1)
range-old l k i (entry.Up c e) h = (cpu-old l c h.0, h.1)
range-old l k i (entry.Refused t state) h = task-old l t h

pub chained-old : {before after : History} {s n : ℕ} {e : Entry} → Logged before after s n e → (k i : ℕ) (x : Entry) → Chained before k i x → Chained after k i x
chained-old l k i (entry.New t m c) h = h
chained-old l k i (entry.Sleep t m c) h = (h.0, queued-old l t (m - 1) c h.1)
chained-old l k i (entry.Wake t m) h = h
chained-old l k i (entry.List t m c e) h = h
chained-old l k i (entry.Enq t m c by_list) h = (h.0, sleep-old l t (m - 1) h.1)
chained-old l k i (entry.Out t m c) h = (h.0, queued-old l t (m - 1) c h.1)
chained-old l k i (entry.In t m c) h = (h.0, (h.1.0, in-old l k _ h.1.1))
chained-old l k i (entry.Die t m c) h = (h.0, queued-old l t (m - 1) c h.1)
chained-old l k i (entry.Pick t m c) h = h
chained-old l k i (entry.Finish t m c) h = h
chained-old l k i (entry.Mask t r mask) h = h
chained-old l k i (entry.Stood t r m at) h = h
chained-old l k i (entry.Done t r) h = h
chained-old l k i (entry.Offline c e) h = h
chained-old l k i (entry.Up c e) h = h
chained-old l k i (entry.Refused t state) h = h

-- the entry isn't a listing
abbrev pub IsNoList : Entry → Type 0
IsNoList e = (t m c epoch : ℕ) → e ≢ entry.List t m c epoch

unlisted-old : {before after : History} {s n : ℕ} {e : Entry} → Logged before after s n e → IsNoList e → (t m : ℕ) → (IsListed before t m → ⊥) → IsListed after t m → ⊥
unlisted-old l none t m h g = elim (l.log g.2.0 g.2.1.0 _ g.2.1.1) [
  | inl a ↦ h (g.0, g.1, (g.2.0, (g.2.1.0, a)))
  | inr b ↦ none t m g.0 g.1 (sym b.2)
]

pub caused-old : {before after : History} {s n : ℕ} {e : Entry} → Logged before after s n e → IsNoList e → (k i : ℕ) (x : Entry) → Caused before k i x → Caused after k i x
caused-old l none k i (entry.New t m c) h = h
caused-old l none k i (entry.Sleep t m c) h = h
caused-old l none k i (entry.Wake t m) h = sleep-old l t m h
caused-old l none k i (entry.List t m c e) h = before-old l k i _ h
caused-old l none k i (entry.Enq t m c true) h = (h.0, (h.1.0, somewhere-old l _ h.1.1))
caused-old l none k i (entry.Enq t m c false) h = (h.0, before-old l k i _ h.1, unlisted-old l none t (m - 1) h.2)
caused-old l none k i (entry.Out t m c) h = h
caused-old l none k i (entry.In t m c) h = h
caused-old l none k i (entry.Die t m c) h = h
caused-old l none k i (entry.Pick t m c) h = h
caused-old l none k i (entry.Finish t m c) h = h
caused-old l none k i (entry.Mask t r mask) h = h
caused-old l none k i (entry.Stood t r m at) h = h
caused-old l none k i (entry.Done t r) h = h
caused-old l none k i (entry.Offline c e) h = h
caused-old l none k i (entry.Up c e) h = h
caused-old l none k i (entry.Refused t state) h = h

pub alternate-old : {before after : History} {s n : ℕ} {e : Entry} → Logged before after s n e → (k i : ℕ) (x : Entry) → RunsAlternate before k i x → RunsAlternate after k i x
alternate-old l k i (entry.New t m c) h = h
alternate-old l k i (entry.Sleep t m c) h = h
alternate-old l k i (entry.Wake t m) h = h
alternate-old l k i (entry.List t m c e) h = h
alternate-old l k i (entry.Enq t m c by_list) h = h
alternate-old l k i (entry.Out t m c) h = h
alternate-old l k i (entry.In t m c) h = h
alternate-old l k i (entry.Die t m c) h = h
alternate-old l k i (entry.Pick t m c) h = (h.0, λ g. let r = h.1 g in (r.0, somewhere-old l _ r.1))
alternate-old l k i (entry.Finish t m c) h = (h.0, h.1, before-old l k i _ h.2)
alternate-old l k i (entry.Mask t r mask) h = h
alternate-old l k i (entry.Stood t r m at) h = h
alternate-old l k i (entry.Done t r) h = h
alternate-old l k i (entry.Offline c e) h = h
alternate-old l k i (entry.Up c e) h = h
alternate-old l k i (entry.Refused t state) h = h

-- The index is at most where the new entry of this journal stands.
abbrev pub IsUpTo : ℕ → ℕ → ℕ → ℕ → Type 0
IsUpTo s n k i = k ≡ s → i ≤ n

-- what stands before such an index is no new entry
pub below-old : {before after : History} {s n : ℕ} {e : Entry} → Logged before after s n e → (k i j : ℕ) (x : Entry) → IsUpTo s n k i → j < i → Stands after k j x → Stands before k j x
below-old l k i j x up lt h = elim (l.log k j x h) [ inl a ↦ a | inr b ↦ absurd (let r = up b.0 in omega (arith, r, lt, b.1)) ]

running-old : {before after : History} {s n : ℕ} {e : Entry} → Logged before after s n e → (k i t : ℕ) → IsUpTo s n k i → IsRunning before k i t → IsRunning after k i t
running-old l k i t up h = (h.0, h.1, h.2, h.3, l.old k h.0 _ h.4, λ j m x later lt g. h.5 j m x later lt (below-old l k i j x up lt g))

pub leaves-old : {before after : History} {s n : ℕ} {e : Entry} → Logged before after s n e → (k i : ℕ) (x : Entry) → IsUpTo s n k i → LeavesWhileRunning before k i x → LeavesWhileRunning after k i x
leaves-old l k i (entry.New t m c) up h = h
leaves-old l k i (entry.Sleep t m c) up h = running-old l k i t up h
leaves-old l k i (entry.Wake t m) up h = h
leaves-old l k i (entry.List t m c e) up h = h
leaves-old l k i (entry.Enq t m c by_list) up h = h
leaves-old l k i (entry.Out t m c) up h = h
leaves-old l k i (entry.In t m c) up h = h
leaves-old l k i (entry.Die t m c) up h = running-old l k i t up h
leaves-old l k i (entry.Pick t m c) up h = h
leaves-old l k i (entry.Finish t m c) up h = h
leaves-old l k i (entry.Mask t r mask) up h = h
leaves-old l k i (entry.Stood t r m at) up h = h
leaves-old l k i (entry.Done t r) up h = h
leaves-old l k i (entry.Offline c e) up h = h
leaves-old l k i (entry.Up c e) up h = h
leaves-old l k i (entry.Refused t state) up h = h
