-- The row of a task after an entry more, and after a store of one of its words.
use Rattle.std.proofs.Common.{◌≡◌, ◌≢◌, ℕ, ◌+◌, inl, inr, Option, Some, None, refl, sym, subst, arith}
use Rattle.std.specs.Prelude.{◌%◌, Bool, true, false}
use Rattle.core_invariant.proofs.Logs.{Logged, in-old, somewhere-old}
use Rattle.core_journals.proofs.Kept.{IsNoList, queued-old, sleep-old}
use Rattle.core_journals.proofs.Rows.{LastRow, WakeRow, RunRow}
use Rattle.core_kinds.specs.Steps.{waking, dead}
use Rattle.handoff_data.specs.History.{History}
use Rattle.handoff_data.specs.Positions.{Stands, IsIn, IsSomewhere}
use Rattle.handoff_data.specs.Rules.{IsQueued}
use Rattle.handoff_data.specs.declared.entry.Entry.{Entry}
use Rattle.handoff_data.specs.declared.entry.Entry.TheVariants as entry
use Rattle.handoff_data.specs.declared.state.State.{State}

pub LastRow-log : {before after : History} {s n : ℕ} {e : Entry} {t : ℕ} {state : State} {on_rq changes cpu : ℕ} {on_cpu : Bool} {lock : Option ℕ} → Logged before after s n e
    → LastRow before t state on_rq changes cpu on_cpu lock → LastRow after t state on_rq changes cpu on_cpu lock
LastRow-log {cpu = cpu} l p =
    record {
      queued = λ h. queued-old l _ _ _ (p.queued h);
      moving = λ k h q. let r = p.moving k h q in (r.0, in-old l k _ r.1);
      ended = λ m h d. let r = p.ended m h d in (r.0, somewhere-old l _ r.1);
      off = λ m h d. sleep-old l _ _ (p.off m h d);
      leaving = λ h b. elim (p.leaving h b) [ inl a ↦ inl (in-old l cpu _ a) | inr a ↦ inr (in-old l cpu _ a) ];
      asleep = λ m h d w. in-old l cpu _ (p.asleep m h d w);
    }

-- a task that is queued
pub LastRow-queued : {j : History} (t : ℕ) (state : State) (changes cpu : ℕ) (on_cpu : Bool) (lock : Option ℕ) → IsQueued j t changes cpu → LastRow j t state 1 changes cpu on_cpu lock
LastRow-queued t state changes cpu on_cpu lock queued =
    record {
      queued = λ h. queued;
      moving = λ s h q. absurd (omega (arith, h));
      ended = λ m h d. absurd (omega (arith, h));
      off = λ m h d. absurd (omega (arith, h));
      leaving = λ h b. absurd (omega (arith, h));
      asleep = λ m h d w. absurd (omega (arith, h));
    }

-- one that is moved
pub LastRow-moving : {j : History} (s t : ℕ) (state : State) (changes cpu c : ℕ) (on_cpu : Bool) (lock : Option ℕ) → lock ≡ Some s → IsIn j s (entry.Out t changes c)
    → LastRow j t state 2 changes cpu on_cpu lock
LastRow-moving {j} s t state changes cpu c on_cpu lock locked out =
    record {
      queued = λ h. absurd (omega (arith, h));
      moving = λ k h q. let same : s ≡ k = grind (arith, locked, q) in (c, subst (λ z. IsIn j z (entry.Out t changes c)) same out);
      ended = λ m h d. absurd (omega (arith, h));
      off = λ m h d. absurd (omega (arith, h));
      leaving = λ h b. absurd (omega (arith, h));
      asleep = λ m h d w. absurd (omega (arith, h));
    }

-- one that went to sleep on its processor
pub LastRow-sleeps : {j : History} (t : ℕ) (state : State) (changes cpu : ℕ) (on_cpu : Bool) (lock : Option ℕ) → state ≢ dead → IsIn j cpu (entry.Sleep t changes cpu)
    → LastRow j t state 0 changes cpu on_cpu lock
LastRow-sleeps t state changes cpu on_cpu lock alive sleep =
    record {
      queued = λ h. absurd (omega (arith, h));
      moving = λ k h q. absurd (omega (arith, h));
      ended = λ m h d. absurd (alive d);
      off = λ m h d. (cpu, (cpu, sleep));
      leaving = λ h b. inl sleep;
      asleep = λ m h d w. sleep;
    }

-- one that ended on its processor
pub LastRow-dies : {j : History} (t : ℕ) (state : State) (changes cpu : ℕ) (on_cpu : Bool) (lock : Option ℕ) → state ≡ dead → IsIn j cpu (entry.Die t changes cpu)
    → LastRow j t state 0 changes cpu on_cpu lock
LastRow-dies t state changes cpu on_cpu lock ended die =
    record {
      queued = λ h. absurd (omega (arith, h));
      moving = λ k h q. absurd (omega (arith, h));
      ended = λ m h d. (cpu, (cpu, die));
      off = λ m h d. absurd (d ended);
      leaving = λ h b. inr die;
      asleep = λ m h d w. absurd (d ended);
    }

pub LastRow-lock : {j : History} {t : ℕ} {state : State} {on_rq changes cpu : ℕ} {on_cpu : Bool} {lock : Option ℕ} (new : Option ℕ) → on_rq ≢ 2
    → LastRow j t state on_rq changes cpu on_cpu lock → LastRow j t state on_rq changes cpu on_cpu new
LastRow-lock new still p = record { queued = p.queued; moving = λ s h q. absurd (still h); ended = p.ended; off = p.off; leaving = p.leaving; asleep = p.asleep }

-- a state is stored of a task that was never queued
pub LastRow-new : {j : History} {t : ℕ} {state : State} {on_rq changes cpu : ℕ} {on_cpu : Bool} {lock : Option ℕ} (new : State) → changes ≡ 0
    → LastRow j t state on_rq changes cpu on_cpu lock → LastRow j t new on_rq changes cpu on_cpu lock
LastRow-new new never p =
    record { queued = p.queued; moving = p.moving; ended = λ m h d. absurd (m never); off = λ m h d. absurd (m never); leaving = p.leaving; asleep = λ m h d w. absurd (m never) }

-- a sleeper is woken
pub LastRow-wakes : {j : History} {t : ℕ} {state : State} {on_rq changes cpu : ℕ} {on_cpu : Bool} {lock : Option ℕ} → state ≢ dead
    → LastRow j t state on_rq changes cpu on_cpu lock → LastRow j t waking on_rq changes cpu on_cpu lock
LastRow-wakes alive p =
    record {
      queued = p.queued;
      moving = p.moving;
      ended = λ m h d. absurd (grind (arith, d));
      off = λ m h d. p.off m h alive;
      leaving = p.leaving;
      asleep = λ m h d w. absurd (w refl);
    }

-- the busy word is cleared
pub LastRow-clear : {j : History} {t : ℕ} {state : State} {on_rq changes cpu : ℕ} {on_cpu : Bool} {lock : Option ℕ}
    → LastRow j t state on_rq changes cpu on_cpu lock → LastRow j t state on_rq changes cpu false lock
LastRow-clear p = record { queued = p.queued; moving = p.moving; ended = p.ended; off = p.off; leaving = λ h b. absurd (grind (arith, b)); asleep = p.asleep }

-- The processor word is stored of a task that isn't queued, is asleep no more, and is busy only while it is moved.
pub LastRow-cpu : {j : History} {t : ℕ} {state : State} {on_rq changes cpu : ℕ} {on_cpu : Bool} {lock : Option ℕ} (c : ℕ) → on_rq ≢ 1 → (on_rq ≡ 0 → on_cpu ≡ false)
    → (changes ≢ 0 → on_rq ≡ 0 → state ≡ waking) → LastRow j t state on_rq changes cpu on_cpu lock → LastRow j t state on_rq changes c on_cpu lock
LastRow-cpu c off idle woken p =
    record {
      queued = λ h. absurd (off h);
      moving = p.moving;
      ended = p.ended;
      off = p.off;
      leaving = λ h b. absurd (let r = idle h in grind (arith, b, r));
      asleep = λ m h d w. absurd (w (woken m h));
    }

pub WakeRow-log : {before after : History} {s n : ℕ} {e : Entry} {t : ℕ} {state : State} {on_rq changes : ℕ} {lock : Option ℕ} → Logged before after s n e
    → IsNoList e → ((m : ℕ) → e ≢ entry.Wake t m) → WakeRow before t state on_rq changes lock → WakeRow after t state on_rq changes lock
WakeRow-log l none other p =
    record {
      past = λ k i m h. elim (l.log k i _ h) [ inl a ↦ p.past k i m a | inr b ↦ absurd (other m (sym b.2)) ];
      present = λ k h w q. in-old l k _ (p.present k h w q);
      listed = λ k i m c x h. elim (l.log k i _ h) [ inl a ↦ p.listed k i m c x a | inr b ↦ absurd (none _ m c x (sym b.2)) ];
    }

-- The number of its changes rises, and it isn't about to be queued.
pub WakeRow-change : {j : History} {t : ℕ} {state : State} {on_rq changes : ℕ} {lock : Option ℕ} (on : ℕ) → (on ≡ 0 → state ≢ waking)
    → WakeRow j t state on_rq changes lock → WakeRow j t state on (changes + 1) lock
WakeRow-change on still p =
    record {
      past = λ k i m h. inl (let r = p.past k i m h in grind (arith, r));
      present = λ k h w q. absurd (still h w);
      listed = λ k i m c x h. let r = p.listed k i m c x h in omega (arith, r);
    }

-- a lock or a state is stored of a task that isn't on its way to a queue, before and after
pub WakeRow-still : {j : History} {t : ℕ} {state : State} {on_rq changes : ℕ} {lock : Option ℕ} (new : State) (taken : Option ℕ) → (on_rq ≡ 0 → state ≡ waking → lock ≢ None → ⊥)
    → (on_rq ≡ 0 → new ≢ waking)
    → WakeRow j t state on_rq changes lock → WakeRow j t new on_rq changes taken
WakeRow-still new taken was still p =
    record {
      past = λ k i m h. elim (p.past k i m h) [ inl a ↦ inl a | inr b ↦ absurd (was b.1 b.2 (λ q. let r = b.3 in grind (arith, q, r))) ];
      present = λ k h w q. absurd (still h w);
      listed = p.listed;
    }

-- this seat wakes it
pub WakeRow-wakes : {before after : History} {s n : ℕ} {t : ℕ} {state : State} {on_rq changes : ℕ} {lock : Option ℕ} → Logged before after s n (entry.Wake t changes) → on_rq ≡ 0 → state ≢ waking
    → lock ≡ Some s
    → WakeRow before t state on_rq changes lock → WakeRow after t waking on_rq changes lock
WakeRow-wakes {after = after} {s} {n} {t} {changes = changes} {lock = lock} l off awake locked p =
    record {
      past = λ k i m h. elim (l.log k i _ h) [
        | inl a ↦ elim (p.past k i m a) [ inl b ↦ inl b | inr b ↦ absurd (awake b.2) ]
        | inr b ↦ let r = b.2 in inr (grind (arith, r), off, refl, subst (λ z. lock ≡ Some z) (sym b.0) locked)
      ];
      present = λ k h w q. let same : s ≡ k = grind (arith, locked, q) in (n, subst (λ z. Stands after z n (entry.Wake t changes)) same l.new);
      listed = λ k i m c x h. elim (l.log k i _ h) [ inl a ↦ p.listed k i m c x a | inr b ↦ absurd (let r = b.2 in grind (arith, r)) ];
    }

pub RunRow-log : {before after : History} {s n : ℕ} {e : Entry} {t : ℕ} {on_cpu : Bool} {runs cpu : ℕ} → Logged before after s n e → RunRow before t on_cpu runs cpu → RunRow after t on_cpu runs cpu
RunRow-log {cpu = cpu} l p =
    record {
      busy_odd = p.busy_odd;
      busy = λ b. in-old l cpu _ (p.busy b);
      idle_even = p.idle_even;
      idle = λ b m. let r = p.idle b m in (r.0, somewhere-old l _ r.1);
    }

pub RunRow-pick : {j : History} (t runs cpu : ℕ) → runs % 2 ≡ 0 → IsIn j cpu (entry.Pick t (runs + 1) cpu) → RunRow j t true (runs + 1) cpu
RunRow-pick t runs cpu even pick =
    record {
      busy_odd = λ b. omega (arith, even);
      busy = λ b. pick;
      idle_even = λ b. absurd (grind (arith, b));
      idle = λ b m. absurd (grind (arith, b));
    }

pub RunRow-finish : {j : History} (t runs cpu c : ℕ) → runs % 2 ≡ 1 → IsSomewhere j (entry.Finish t (runs + 1) c) → RunRow j t false (runs + 1) cpu
RunRow-finish t runs cpu c odd finish =
    record {
      busy_odd = λ b. absurd (grind (arith, b));
      busy = λ b. absurd (grind (arith, b));
      idle_even = λ b. omega (arith, odd);
      idle = λ b m. (c, finish);
    }

pub RunRow-cpu : {j : History} {t : ℕ} {on_cpu : Bool} {runs cpu : ℕ} (c : ℕ) → on_cpu ≡ false → RunRow j t on_cpu runs cpu → RunRow j t on_cpu runs c
RunRow-cpu c idle p = record { busy_odd = p.busy_odd; busy = λ b. absurd (grind (arith, b, idle)); idle_even = p.idle_even; idle = p.idle }
