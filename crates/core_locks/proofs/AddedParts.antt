-- The tasks that the holder of a queue's lock put there, by its journal.
use Rattle.std.proofs.Common.{◌≡◌, ◌≢◌, ℕ, ◌+◌, ◌≤◌, inl, inr, Bool, true, false, Some, None, Option, refl, sym, ap, subst, ◌∙◌, arith}
use Rattle.std.specs.Prelude.{if◌then◌else◌, ◌==◌}
use Rattle.std.proofs.lemmas.Bool.{cases_eq}
use Rattle.std.proofs.lemmas.Bool.Decides.{nat_tests}
use Rattle.core_data.specs.Columns.{put}
use Rattle.core_invariant.proofs.Logs.{Logged}
use Rattle.core_invariant.specs.Queues.{PutsOn, WasPut, AddedTasks}
use Rattle.core_kinds.specs.Running.{queue_entry, dequeue_entry, is_dead}
use Rattle.handoff_data.specs.History.{History}
use Rattle.handoff_data.specs.Numbers.{change_of}
use Rattle.handoff_data.specs.Positions.{Stands}
use Rattle.handoff_data.specs.declared.entry.Entry.{Entry}
use Rattle.handoff_data.specs.declared.entry.Entry.TheVariants.{New, Sleep, Enq, Out, In, Die, Wake, List, Pick, Finish, Mask, Stood, Done, Offline, Up, Refused}
use Rattle.handoff_data.specs.declared.state.State.{State}

abbrev task_of : Option (ℕ × ℕ) → ℕ
task_of None = 0
task_of (Some change) = change.0

-- an entry that puts t on a queue is a change of t
puts_change : (e : Entry) (t m c : ℕ) → PutsOn e t m c → change_of e ≡ Some (t, m)
puts_change (New u n d) t m c h = λ i. Some (h.0 i, h.1 i)
puts_change (Enq u n d by_list) t m c h = λ i. Some (h.0 i, h.1 i)
puts_change (In u n d) t m c h = λ i. Some (h.0 i, h.1 i)
puts_change (Sleep u n d) t m c h = absurd h
puts_change (Wake u n) t m c h = absurd h
puts_change (List u n d x) t m c h = absurd h
puts_change (Out u n d) t m c h = absurd h
puts_change (Die u n d) t m c h = absurd h
puts_change (Pick u n d) t m c h = absurd h
puts_change (Finish u n d) t m c h = absurd h
puts_change (Mask u r x) t m c h = absurd h
puts_change (Stood u r n x) t m c h = absurd h
puts_change (Done u r) t m c h = absurd h
puts_change (Offline d x) t m c h = absurd h
puts_change (Up d x) t m c h = absurd h
puts_change (Refused u x) t m c h = absurd h

-- .. and it puts it on one queue
puts_one : (e : Entry) (t m n c d : ℕ) → PutsOn e t m c → PutsOn e t n d → d ≡ c
puts_one (New u k x) t m n c d g h = sym h.2 ∙ g.2
puts_one (Enq u k x by_list) t m n c d g h = sym h.2 ∙ g.2
puts_one (In u k x) t m n c d g h = sym h.2 ∙ g.2
puts_one (Sleep u k x) t m n c d g h = absurd h
puts_one (Wake u k) t m n c d g h = absurd h
puts_one (List u k x y) t m n c d g h = absurd h
puts_one (Out u k x) t m n c d g h = absurd h
puts_one (Die u k x) t m n c d g h = absurd h
puts_one (Pick u k x) t m n c d g h = absurd h
puts_one (Finish u k x) t m n c d g h = absurd h
puts_one (Mask u r x) t m n c d g h = absurd h
puts_one (Stood u r k x) t m n c d g h = absurd h
puts_one (Done u r) t m n c d g h = absurd h
puts_one (Offline x y) t m n c d g h = absurd h
puts_one (Up x y) t m n c d g h = absurd h
puts_one (Refused u x) t m n c d g h = absurd h

puts_if : (a b : Bool) (t m c : ℕ) → PutsOn (if a then New t m c else if b then In t m c else Enq t m c false) t m c
puts_if true b t m c = (refl, refl, refl)
puts_if false true t m c = (refl, refl, refl)
puts_if false false t m c = (refl, refl, refl)

-- the entry of a task that is queued
pub queue_entry-puts : (changes on t c : ℕ) → PutsOn (queue_entry changes on t c) t (changes + 1) c
queue_entry-puts changes on t c = puts_if (changes == 0) (on == 2) t (changes + 1) c

leaves_if : (a : Bool) (t m c : ℕ) → change_of (if a then Die t m c else Sleep t m c) ≡ Some (t, m)
leaves_if true t m c = refl
leaves_if false t m c = refl

-- .. and of one that leaves its queue
pub dequeue_entry-change : (seen : Option State) (changes t c : ℕ) → change_of (dequeue_entry seen changes t c) ≡ Some (t, changes + 1)
dequeue_entry-change seen changes t c = leaves_if (is_dead seen) t (changes + 1) c

-- an entry of another seat, or no change of t, leaves the last change of t as it is
was_put : (before after : History) (s n : ℕ) (e : Entry) (k t c : ℕ) → Logged before after s n e → (k ≡ s → (m : ℕ) → change_of e ≢ Some (t, m)) → WasPut after k t c → WasPut before k t c
was_put before after s n e k t c l other w =
    record {
      index = w.index;
      number = w.number;
      entry = w.entry;
      stands = elim (l.log k w.index w.entry w.stands) [
        | inl a ↦ a
        | inr a ↦ absurd (other a.0 w.number (ap change_of (sym a.2) ∙ puts_change w.entry t w.number c w.puts))
      ];
      puts = w.puts;
      last = λ i m x h g. w.last i m x (l.old k i x h) g;
    }

-- an entry that is no change
pub AddedTasks-log : (on_rq cpu : ℕ → ℕ) (lock : ℕ → Option ℕ) (requeued : ℕ → ℕ → Bool) (added : ℕ → ℕ → ℕ → Bool) (before after : History) (s n : ℕ) (e : Entry)
    → AddedTasks on_rq cpu lock requeued added before
    → Logged before after s n e → change_of e ≡ None → AddedTasks on_rq cpu lock requeued added after
AddedTasks-log on_rq cpu lock requeued added before after s n e p l none =
    λ k c t locked a r w. p k c t locked a r (was_put before after s n e k t c l (λ q m h. grind (arith, none, h)) w)

pub AddedTasks-take : (on_rq cpu : ℕ → ℕ) (lock : ℕ → Option ℕ) (requeued : ℕ → ℕ → Bool) (added : ℕ → ℕ → ℕ → Bool) (j : History) (s c : ℕ) → AddedTasks on_rq cpu lock requeued added j
    → AddedTasks on_rq cpu (put lock c (Some s)) requeued (put added s (λ d t. if d == c then false else added s d t)) j
AddedTasks-take on_rq cpu lock requeued added j s c p = λ k d u l a r w. p k d u (grind (arith, nat_tests, l, a)) (grind (arith, nat_tests, a)) r w

pub AddedTasks-give : (on_rq cpu : ℕ → ℕ) (lock : ℕ → Option ℕ) (requeued : ℕ → ℕ → Bool) (added : ℕ → ℕ → ℕ → Bool) (j : History) (c : ℕ) → AddedTasks on_rq cpu lock requeued added j
    → AddedTasks on_rq cpu (put lock c None) requeued added j
AddedTasks-give on_rq cpu lock requeued added j c p = λ k d u l a r w. p k d u (grind (arith, nat_tests, l)) a r w

-- a task that isn't queued is placed
pub AddedTasks-place : (on_rq cpu : ℕ → ℕ) (lock : ℕ → Option ℕ) (requeued : ℕ → ℕ → Bool) (added : ℕ → ℕ → ℕ → Bool) (j : History) (t c : ℕ) → AddedTasks on_rq cpu lock requeued added j → on_rq t ≢ 1
    → AddedTasks on_rq (put cpu t c) lock requeued added j
AddedTasks-place on_rq cpu lock requeued added j t c p off = λ k d u l a r w. let h = p k d u l a r w in grind (arith, nat_tests, h, off)

-- t is queued on c by the entry
pub AddedTasks-queue : (on_rq cpu changes : ℕ → ℕ) (lock : ℕ → Option ℕ) (requeued : ℕ → ℕ → Bool) (added : ℕ → ℕ → ℕ → Bool) (before after : History) (s n : ℕ) (e : Entry) (t c : ℕ)
    → AddedTasks on_rq cpu lock requeued added before → Logged before after s n e → ((k i : ℕ) (x : Entry) (u m : ℕ) → Stands before k i x → change_of x ≡ Some (u, m) → m ≤ changes u)
    → PutsOn e t (changes t + 1) c → cpu t ≡ c → on_rq t ≢ 1
    → AddedTasks (put on_rq t 1) cpu lock (put requeued s (λ u. if u == t then true else requeued s u)) (put added s (λ d u. if u == t then true else added s d u)) after
AddedTasks-queue on_rq cpu changes lock requeued added before after s n e t c p l numbered puts here off =
    λ k d u locked a r w. elim (cases_eq u t) [
      | inl q ↦ elim (cases_eq k s) [
        | inl g ↦ let same = last_put d (subst (λ z. WasPut after z t d) g (subst (λ z. WasPut after k z d) q w)) in grind (arith, nat_tests, q, same, here)
        | inr g ↦ let h = p k d u locked (grind (arith, nat_tests, a, g)) (grind (arith, nat_tests, r, g)) (was_put before after s n e k u d l (λ z. absurd (g z)) w) in
            absurd (grind (arith, nat_tests, h, q, off))
      ]
      | inr q ↦ let h = p k d u locked (grind (arith, nat_tests, a, q)) (grind (arith, nat_tests, r, q)) (was_put before after s n e k u d l (λ z m g. q (other m u g)) w) in
          grind (arith, nat_tests, h, q)
    ]
  where
    change : change_of e ≡ Some (t, changes t + 1)
    change = puts_change e t (changes t + 1) c puts

    other : (m u : ℕ) → change_of e ≡ Some (u, m) → u ≡ t
    other m u h = ap task_of (sym h ∙ change)

    last_put : (d : ℕ) → WasPut after s t d → d ≡ c
    last_put d w = elim (l.log s w.index w.entry w.stands) [
      | inl a ↦ let below = numbered s w.index w.entry t w.number a (puts_change w.entry t w.number d w.puts) in let above = w.last n (changes t + 1) e l.new change in
          absurd (omega (arith, below, above))
      | inr a ↦ puts_one e t (changes t + 1) w.number c d puts (subst (λ z. PutsOn z t w.number d) a.2 w.puts)
    ]

-- t leaves the queue of c by the entry
pub AddedTasks-off : (on_rq cpu : ℕ → ℕ) (lock : ℕ → Option ℕ) (requeued : ℕ → ℕ → Bool) (added : ℕ → ℕ → ℕ → Bool) (before after : History) (s n : ℕ) (e : Entry) (t m c on : ℕ)
    → AddedTasks on_rq cpu lock requeued added before → Logged before after s n e → change_of e ≡ Some (t, m) → lock c ≡ Some s → cpu t ≡ c
    → AddedTasks (put on_rq t on) cpu lock (put requeued s (λ u. if u == t then false else requeued s u)) added after
AddedTasks-off on_rq cpu lock requeued added before after s n e t m c on p l change held here =
    λ k d u locked a r w. elim (cases_eq u t) [
      | inl q ↦ elim (cases_eq k s) [
        | inl g ↦ absurd (grind (arith, nat_tests, r, g, q))
        | inr g ↦ let h = p k d u locked a (grind (arith, nat_tests, r, g)) (was_put before after s n e k u d l (λ z. absurd (g z)) w) in absurd (grind (arith, nat_tests, h, q, here, locked, held, g))
      ]
      | inr q ↦ let h = p k d u locked a (grind (arith, nat_tests, r, q)) (was_put before after s n e k u d l (λ z i g. q (other i u g)) w) in grind (arith, nat_tests, h, q)
    ]
  where
    other : (i u : ℕ) → change_of e ≡ Some (u, i) → u ≡ t
    other i u h = ap task_of (sym h ∙ change)
