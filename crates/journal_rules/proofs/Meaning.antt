-- What the facts say of the entries that tell them.
use Rattle.std.proofs.Common.{◌≡◌, ◌⊎◌, ℕ, zero, suc, Bool, true, false, Option, Some, None, ap, sym, ◌∙◌, refl, inl, inr}
use Rattle.std.specs.Option.{option_map}
use Rattle.handoff_data.specs.declared.entry.Entry.{Entry}
use Rattle.handoff_data.specs.declared.entry.Entry.TheVariants as entry
use Rattle.handoff_data.specs.declared.mask.CpuMask.{CpuMask}
use Rattle.handoff_data.specs.Numbers.{change_of, run_of}
use Rattle.handoff_data.specs.Rules.{IsTurn}
use Rattle.journal_facts.specs.declared.fact.Fact.{Fact}
use Rattle.journal_facts.specs.declared.fact.Kind.{Kind}
use Rattle.journal_facts.specs.declared.fact.Kind.TheVariants as kind
use Rattle.journal_facts.specs.Facts.{fact_at, here, here_on}

inside : (f g : Fact) → Some f ≡ Some g → f ≡ g
inside f g e = cc

kind_in : (f g : Fact) → Some f ≡ Some g → g.kind ≡ f.kind
kind_in f g e = ap (λ (x : Fact). x.kind) (sym (inside f g e))

mapped_kind : (h : ℕ × ℕ → Fact) (k : Kind) (o : Option (ℕ × ℕ)) (f : Fact) → ((x : ℕ × ℕ) → (h x).kind ≡ k) → option_map h o ≡ Some f → f.kind ≡ k
mapped_kind h k None f all e = absurd (cc)
mapped_kind h k (Some x) f all e = kind_in (h x) f e ∙ all x

taken_kind : (s i t m c : ℕ) (by_list : Bool) (f : Fact) → fact_at kind.Taken s i (entry.Enq t m c by_list) ≡ Some f → f.kind ≡ kind.Taken
taken_kind s i t zero c by_list f h = absurd (cc)
taken_kind s i t (suc m) c true f h = kind_in _ f h
taken_kind s i t (suc m) c false f h = absurd (cc)

-- what is told as of a kind is of this kind
pub told_kind : (k : Kind) (s i : ℕ) (e : Entry) (f : Fact) → fact_at k s i e ≡ Some f → f.kind ≡ k
told_kind kind.Change s i e f = mapped_kind (here kind.Change s i) kind.Change (change_of e) f (λ x. refl)
told_kind kind.Run s i e f = mapped_kind (here kind.Run s i) kind.Run (run_of e) f (λ x. refl)
told_kind kind.Wake s i e f = elim e as (λ x. fact_at kind.Wake s i x ≡ Some f → f.kind ≡ kind.Wake) [
  | entry.Wake t m ↦ λ h. kind_in _ f h
  | _ ↦ λ h. absurd (cc)
]
told_kind kind.Listing s i e f = elim e as (λ x. fact_at kind.Listing s i x ≡ Some f → f.kind ≡ kind.Listing) [
  | entry.List t m c x ↦ λ h. kind_in _ f h
  | _ ↦ λ h. absurd (cc)
]
told_kind kind.Mask s i e f = elim e as (λ x. fact_at kind.Mask s i x ≡ Some f → f.kind ≡ kind.Mask) [
  | entry.Mask t r mask ↦ λ h. kind_in _ f h
  | _ ↦ λ h. absurd (cc)
]
told_kind kind.Offline s i e f = elim e as (λ x. fact_at kind.Offline s i x ≡ Some f → f.kind ≡ kind.Offline) [
  | entry.Offline c x ↦ λ h. kind_in _ f h
  | _ ↦ λ h. absurd (cc)
]
told_kind kind.Up s i e f = elim e as (λ x. fact_at kind.Up s i x ≡ Some f → f.kind ≡ kind.Up) [
  | entry.Up c x ↦ λ h. kind_in _ f h
  | _ ↦ λ h. absurd (cc)
]
told_kind kind.Queued s i e f = elim e as (λ x. fact_at kind.Queued s i x ≡ Some f → f.kind ≡ kind.Queued) [
  | entry.New t m c ↦ λ h. kind_in _ f h
  | entry.In t m c ↦ λ h. kind_in _ f h
  | entry.Enq t m c b ↦ λ h. kind_in _ f h
  | _ ↦ λ h. absurd (cc)
]
told_kind kind.Slept s i e f = elim e as (λ x. fact_at kind.Slept s i x ≡ Some f → f.kind ≡ kind.Slept) [
  | entry.Sleep t m c ↦ λ h. kind_in _ f h
  | _ ↦ λ h. absurd (cc)
]
told_kind kind.Left s i e f = elim e as (λ x. fact_at kind.Left s i x ≡ Some f → f.kind ≡ kind.Left) [
  | entry.Out t m c ↦ λ h. kind_in _ f h
  | _ ↦ λ h. absurd (cc)
]
told_kind kind.Died s i e f = elim e as (λ x. fact_at kind.Died s i x ≡ Some f → f.kind ≡ kind.Died) [
  | entry.Die t m c ↦ λ h. kind_in _ f h
  | _ ↦ λ h. absurd (cc)
]
told_kind kind.ListedTo s i e f = elim e as (λ x. fact_at kind.ListedTo s i x ≡ Some f → f.kind ≡ kind.ListedTo) [
  | entry.List t m c x ↦ λ h. kind_in _ f h
  | _ ↦ λ h. absurd (cc)
]
told_kind kind.Taken s i e f = elim e as (λ x. fact_at kind.Taken s i x ≡ Some f → f.kind ≡ kind.Taken) [
  | entry.Enq t m c by_list ↦ taken_kind s i t m c by_list f
  | _ ↦ λ h. absurd (cc)
]
told_kind kind.Picked s i e f = elim e as (λ x. fact_at kind.Picked s i x ≡ Some f → f.kind ≡ kind.Picked) [
  | entry.Pick t n c ↦ λ h. kind_in _ f h
  | _ ↦ λ h. absurd (cc)
]
told_kind kind.Finished s i e f = elim e as (λ x. fact_at kind.Finished s i x ≡ Some f → f.kind ≡ kind.Finished) [
  | entry.Finish t n c ↦ λ h. kind_in _ f h
  | _ ↦ λ h. absurd (cc)
]
told_kind kind.Stood s i e f = elim e as (λ x. fact_at kind.Stood s i x ≡ Some f → f.kind ≡ kind.Stood) [
  | entry.Stood t r m at ↦ λ h. kind_in _ f h
  | _ ↦ λ h. absurd (cc)
]
told_kind kind.ChangeIn s i e f = mapped_kind (λ x. here kind.ChangeIn s i (x.0, 0)) kind.ChangeIn (change_of e) f (λ x. refl)
told_kind kind.RunIn s i e f = mapped_kind (λ x. here kind.RunIn s i (x.0, 0)) kind.RunIn (run_of e) f (λ x. refl)
told_kind kind.TurnIn s i e f = elim e as (λ x. fact_at kind.TurnIn s i x ≡ Some f → f.kind ≡ kind.TurnIn) [
  | entry.Offline c x ↦ λ h. kind_in _ f h
  | entry.Up c x ↦ λ h. kind_in _ f h
  | _ ↦ λ h. absurd (cc)
]
told_kind kind.Due s i e f = elim e as (λ x. fact_at kind.Due s i x ≡ Some f → f.kind ≡ kind.Due) [
  | entry.List t m c x ↦ λ h. kind_in _ f h
  | _ ↦ λ h. absurd (cc)
]
told_kind kind.Member s i e f = λ h. absurd (cc)

pub record Same (s i t m c s' i' t' m' c' : ℕ) : Type 0 where
  pub seat : s ≡ s'
  pub index : i ≡ i'
  pub subject : t ≡ t'
  pub number : m ≡ m'
  pub cpu : c ≡ c'

pub same : (k k' : Kind) (s i t m c s' i' t' m' c' : ℕ) → Some (here_on k s i t m c) ≡ Some (here_on k' s' i' t' m' c') → Same s i t m c s' i' t' m' c'
same k k' s i t m c s' i' t' m' c' e =
    let f : here_on k s i t m c ≡ here_on k' s' i' t' m' c' = inside _ _ e in
    record {
      seat = ap (λ (x : Fact). x.seat) f;
      index = ap (λ (x : Fact). x.index) f;
      subject = ap (λ (x : Fact). x.subject) f;
      number = ap (λ (x : Fact). x.number) f;
      cpu = ap (λ (x : Fact). x.cpu) f;
    }

pub says_slept : (s i : ℕ) (e : Entry) (t m c s' i' : ℕ) → fact_at kind.Slept s i e ≡ Some (here_on kind.Slept s' i' t m c) → e ≡ entry.Sleep t m c
says_slept s i e t m c s' i' = elim e as (λ x. fact_at kind.Slept s i x ≡ Some (here_on kind.Slept s' i' t m c) → x ≡ entry.Sleep t m c) [
  | entry.Sleep t' m' c' ↦ λ h. let q = same kind.Slept kind.Slept 0 0 t' m' c' s' i' t m c h in cc (q.subject, q.number, q.cpu)
  | _ ↦ λ h. absurd (cc)
]

pub says_died : (s i : ℕ) (e : Entry) (t m c s' i' : ℕ) → fact_at kind.Died s i e ≡ Some (here_on kind.Died s' i' t m c) → e ≡ entry.Die t m c
says_died s i e t m c s' i' = elim e as (λ x. fact_at kind.Died s i x ≡ Some (here_on kind.Died s' i' t m c) → x ≡ entry.Die t m c) [
  | entry.Die t' m' c' ↦ λ h. let q = same kind.Died kind.Died 0 0 t' m' c' s' i' t m c h in cc (q.subject, q.number, q.cpu)
  | _ ↦ λ h. absurd (cc)
]

pub says_wake : (s i : ℕ) (e : Entry) (t m c s' i' : ℕ) → fact_at kind.Wake s i e ≡ Some (here_on kind.Wake s' i' t m c) → (e ≡ entry.Wake t m) × (s ≡ s') × (i ≡ i')
says_wake s i e t m c s' i' = elim e as (λ x. fact_at kind.Wake s i x ≡ Some (here_on kind.Wake s' i' t m c) → (x ≡ entry.Wake t m) × (s ≡ s') × (i ≡ i')) [
  | entry.Wake t' m' ↦ λ h. let q = same kind.Wake kind.Wake s i t' m' 0 s' i' t m c h in (cc (q.subject, q.number), q.seat, q.index)
  | _ ↦ λ h. absurd (cc)
]

pub says_picked : (s i : ℕ) (e : Entry) (t m c s' i' : ℕ) → fact_at kind.Picked s i e ≡ Some (here_on kind.Picked s' i' t m c) → (e ≡ entry.Pick t m c) × (s ≡ s') × (i ≡ i')
says_picked s i e t m c s' i' = elim e as (λ x. fact_at kind.Picked s i x ≡ Some (here_on kind.Picked s' i' t m c) → (x ≡ entry.Pick t m c) × (s ≡ s') × (i ≡ i')) [
  | entry.Pick t' m' c' ↦ λ h. let q = same kind.Picked kind.Picked s i t' m' c' s' i' t m c h in (cc (q.subject, q.number, q.cpu), q.seat, q.index)
  | _ ↦ λ h. absurd (cc)
]

pub says_left : (s i : ℕ) (e : Entry) (t m c s' i' : ℕ) → fact_at kind.Left s i e ≡ Some (here_on kind.Left s' i' t m c) → ((c' : ℕ) × (e ≡ entry.Out t m c')) × (s ≡ s')
says_left s i e t m c s' i' = elim e as (λ x. fact_at kind.Left s i x ≡ Some (here_on kind.Left s' i' t m c) → ((c' : ℕ) × (x ≡ entry.Out t m c')) × (s ≡ s')) [
  | entry.Out t' m' c' ↦ λ h. let q = same kind.Left kind.Left s 0 t' m' 0 s' i' t m c h in ((c', cc (q.subject, q.number)), q.seat)
  | _ ↦ λ h. absurd (cc)
]

pub says_finished : (s i : ℕ) (e : Entry) (t m c s' i' : ℕ) → fact_at kind.Finished s i e ≡ Some (here_on kind.Finished s' i' t m c) → (c' : ℕ) × (e ≡ entry.Finish t m c')
says_finished s i e t m c s' i' = elim e as (λ x. fact_at kind.Finished s i x ≡ Some (here_on kind.Finished s' i' t m c) → (c' : ℕ) × (x ≡ entry.Finish t m c')) [
  | entry.Finish t' m' c' ↦ λ h. let q = same kind.Finished kind.Finished 0 0 t' m' 0 s' i' t m c h in (c', cc (q.subject, q.number))
  | _ ↦ λ h. absurd (cc)
]

pub says_listing : (s i : ℕ) (e : Entry) (t m c s' i' : ℕ) → fact_at kind.Listing s i e ≡ Some (here_on kind.Listing s' i' t m c) → (c' x' : ℕ) × (e ≡ entry.List t m c' x')
says_listing s i e t m c s' i' = elim e as (λ x. fact_at kind.Listing s i x ≡ Some (here_on kind.Listing s' i' t m c) → (c' x' : ℕ) × (x ≡ entry.List t m c' x')) [
  | entry.List t' m' c' e' ↦ λ h. let q = same kind.Listing kind.Listing s i t' m' 0 s' i' t m c h in (c', e', cc (q.subject, q.number))
  | _ ↦ λ h. absurd (cc)
]

pub says_listed : (s i : ℕ) (e : Entry) (t m c s' i' : ℕ) → fact_at kind.ListedTo s i e ≡ Some (here_on kind.ListedTo s' i' t m c) → ((x' : ℕ) × (e ≡ entry.List t m c x')) × (s ≡ s') × (i ≡ i')
says_listed s i e t m c s' i' = elim e as (λ x. fact_at kind.ListedTo s i x ≡ Some (here_on kind.ListedTo s' i' t m c) → ((x' : ℕ) × (x ≡ entry.List t m c x')) × (s ≡ s') × (i ≡ i')) [
  | entry.List t' m' c' e' ↦ λ h. let q = same kind.ListedTo kind.ListedTo s i t' m' c' s' i' t m c h in ((e', cc (q.subject, q.number, q.cpu)), q.seat, q.index)
  | _ ↦ λ h. absurd (cc)
]

pub says_due : (s i : ℕ) (e : Entry) (t m c s' i' : ℕ) → fact_at kind.Due s i e ≡ Some (here_on kind.Due s' i' t m c) → ((t' m' : ℕ) × (e ≡ entry.List t' m' t m)) × (s ≡ s') × (i ≡ i')
says_due s i e t m c s' i' = elim e as (λ x. fact_at kind.Due s i x ≡ Some (here_on kind.Due s' i' t m c) → ((t' m' : ℕ) × (x ≡ entry.List t' m' t m)) × (s ≡ s') × (i ≡ i')) [
  | entry.List t' m' c' e' ↦ λ h. let q = same kind.Due kind.Due s i c' e' 0 s' i' t m c h in ((t', m', cc (q.subject, q.number)), q.seat, q.index)
  | _ ↦ λ h. absurd (cc)
]

pub says_mask : (s i : ℕ) (e : Entry) (t m c s' i' : ℕ) → fact_at kind.Mask s i e ≡ Some (here_on kind.Mask s' i' t m c) → ((mask : CpuMask) × (e ≡ entry.Mask t m mask)) × (s ≡ s') × (i ≡ i')
says_mask s i e t m c s' i' = elim e as (λ x. fact_at kind.Mask s i x ≡ Some (here_on kind.Mask s' i' t m c) → ((mask : CpuMask) × (x ≡ entry.Mask t m mask)) × (s ≡ s') × (i ≡ i')) [
  | entry.Mask t' m' mask' ↦ λ h. let q = same kind.Mask kind.Mask s i t' m' 0 s' i' t m c h in ((mask', cc (q.subject, q.number)), q.seat, q.index)
  | _ ↦ λ h. absurd (cc)
]

pub says_stood : (s i : ℕ) (e : Entry) (t m c s' i' : ℕ) → fact_at kind.Stood s i e ≡ Some (here_on kind.Stood s' i' t m c) → (m' : ℕ) × (at' : Option ℕ) × (e ≡ entry.Stood t m m' at')
says_stood s i e t m c s' i' = elim e as (λ x. fact_at kind.Stood s i x ≡ Some (here_on kind.Stood s' i' t m c) → (m' : ℕ) × (at' : Option ℕ) × (x ≡ entry.Stood t m m' at')) [
  | entry.Stood t' r' m' at' ↦ λ h. let q = same kind.Stood kind.Stood 0 0 t' r' 0 s' i' t m c h in (m', at', cc (q.subject, q.number))
  | _ ↦ λ h. absurd (cc)
]

pub says_queued : (s i : ℕ) (e : Entry) (t m c s' i' : ℕ) → fact_at kind.Queued s i e ≡ Some (here_on kind.Queued s' i' t m c) → (e ≡ entry.New t m c)
    ⊎ ((e ≡ entry.In t m c) ⊎ ((b : Bool) × (e ≡ entry.Enq t m c b)))
says_queued s i e t m c s' i' = elim e as (λ x. fact_at kind.Queued s i x ≡ Some (here_on kind.Queued s' i' t m c) → (x ≡ entry.New t m c)
    ⊎ ((x ≡ entry.In t m c) ⊎ ((b : Bool) × (x ≡ entry.Enq t m c b)))) [
      | entry.New t' m' c' ↦ λ h. let q = same kind.Queued kind.Queued 0 0 t' m' c' s' i' t m c h in inl (cc (q.subject, q.number, q.cpu))
      | entry.In t' m' c' ↦ λ h. let q = same kind.Queued kind.Queued 0 0 t' m' c' s' i' t m c h in inr (inl (cc (q.subject, q.number, q.cpu)))
      | entry.Enq t' m' c' b' ↦ λ h. let q = same kind.Queued kind.Queued 0 0 t' m' c' s' i' t m c h in inr (inr (b', cc (q.subject, q.number, q.cpu)))
      | _ ↦ λ h. absurd (cc)
    ]

pub says_turn : (s i : ℕ) (e : Entry) (t m c s' i' : ℕ) → fact_at kind.TurnIn s i e ≡ Some (here_on kind.TurnIn s' i' t m c) → IsTurn e × (s ≡ s') × (i ≡ i')
says_turn s i e t m c s' i' = elim e as (λ x. fact_at kind.TurnIn s i x ≡ Some (here_on kind.TurnIn s' i' t m c) → IsTurn x × (s ≡ s') × (i ≡ i')) [
  | entry.Offline c' x' ↦ λ h. let q = same kind.TurnIn kind.TurnIn s i 0 0 0 s' i' t m c h in (tt, q.seat, q.index)
  | entry.Up c' x' ↦ λ h. let q = same kind.TurnIn kind.TurnIn s i 0 0 0 s' i' t m c h in (tt, q.seat, q.index)
  | _ ↦ λ h. absurd (cc)
]
