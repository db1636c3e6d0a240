-- What entries tell.
use Rattle.std.specs.Prelude.{◌≡◌, ◌+◌, ◌++◌, ℕ, suc, true, List, [], ◌∷◌, Option, Some, None, slice_get}
use Rattle.std.specs.List.{flat_map}
use Rattle.std.specs.Option.{option_map, option_to_list}
use Rattle.std.specs.Ordering.{nat_cmp, ordering_then}
use Rattle.std.specs.declared.cmp.Ordering.{Ordering}
use Rattle.handoff_data.specs.declared.entry.Entry.{Entry}
use Rattle.handoff_data.specs.declared.entry.Entry.TheVariants as entry
use Rattle.handoff_data.specs.Numbers.{change_of, run_of}
use Rattle.journal_facts.specs.declared.fact.Fact.{Fact}
use Rattle.journal_facts.specs.declared.fact.Kind.{Kind}
use Rattle.journal_facts.specs.declared.fact.Kind.TheVariants as kind

-- a fact about a place
abbrev pub here : Kind → ℕ → ℕ → ℕ × ℕ → Fact
here k seat index x = record { kind = k; subject = x.0; number = x.1; cpu = 0; seat = seat; index = index }

-- a fact about a place and a processor
abbrev pub here_on : Kind → ℕ → ℕ → ℕ → ℕ → ℕ → Fact
here_on k seat index t m c = record { kind = k; subject = t; number = m; cpu = c; seat = seat; index = index }

-- what the entry at this place tells of this kind, if anything
abbrev pub fact_at : Kind → ℕ → ℕ → Entry → Option Fact
fact_at kind.Change seat index e = option_map (here kind.Change seat index) (change_of e)
fact_at kind.Run seat index e = option_map (here kind.Run seat index) (run_of e)
fact_at kind.Wake seat index (entry.Wake t m) = Some (here kind.Wake seat index (t, m))
fact_at kind.Wake seat index _ = None
fact_at kind.Listing seat index (entry.List t m c e) = Some (here kind.Listing seat index (t, m))
fact_at kind.Listing seat index _ = None
fact_at kind.Mask seat index (entry.Mask t r mask) = Some (here kind.Mask seat index (t, r))
fact_at kind.Mask seat index _ = None
fact_at kind.Offline seat index (entry.Offline c e) = Some (here kind.Offline seat index (c, e))
fact_at kind.Offline seat index _ = None
fact_at kind.Up seat index (entry.Up c e) = Some (here kind.Up seat index (c, e))
fact_at kind.Up seat index _ = None
fact_at kind.Queued seat index (entry.New t m c) = Some (here_on kind.Queued 0 0 t m c)
fact_at kind.Queued seat index (entry.In t m c) = Some (here_on kind.Queued 0 0 t m c)
fact_at kind.Queued seat index (entry.Enq t m c by_list) = Some (here_on kind.Queued 0 0 t m c)
fact_at kind.Queued seat index _ = None
fact_at kind.Slept seat index (entry.Sleep t m c) = Some (here_on kind.Slept 0 0 t m c)
fact_at kind.Slept seat index _ = None
fact_at kind.Left seat index (entry.Out t m c) = Some (here kind.Left seat 0 (t, m))
fact_at kind.Left seat index _ = None
fact_at kind.Died seat index (entry.Die t m c) = Some (here_on kind.Died 0 0 t m c)
fact_at kind.Died seat index _ = None
fact_at kind.ListedTo seat index (entry.List t m c e) = Some (here_on kind.ListedTo seat index t m c)
fact_at kind.ListedTo seat index _ = None
fact_at kind.Taken seat index (entry.Enq t (suc m) c true) = Some (here_on kind.Taken seat index t m c)
fact_at kind.Taken seat index _ = None
fact_at kind.Picked seat index (entry.Pick t n c) = Some (here_on kind.Picked seat index t n c)
fact_at kind.Picked seat index _ = None
fact_at kind.Finished seat index (entry.Finish t n c) = Some (here kind.Finished 0 0 (t, n))
fact_at kind.Finished seat index _ = None
fact_at kind.Stood seat index (entry.Stood t r m at) = Some (here kind.Stood 0 0 (t, r))
fact_at kind.Stood seat index _ = None
fact_at kind.ChangeIn seat index e = option_map (λ x. here kind.ChangeIn seat index (x.0, 0)) (change_of e)
fact_at kind.RunIn seat index e = option_map (λ x. here kind.RunIn seat index (x.0, 0)) (run_of e)
fact_at kind.TurnIn seat index (entry.Offline c e) = Some (here kind.TurnIn seat index (0, 0))
fact_at kind.TurnIn seat index (entry.Up c e) = Some (here kind.TurnIn seat index (0, 0))
fact_at kind.TurnIn seat index _ = None
fact_at kind.Due seat index (entry.List t m c e) = Some (here kind.Due seat index (c, e))
fact_at kind.Due seat index _ = None
fact_at kind.Member seat index _ = None

-- some entry of these journals tells the fact
pub record IsTold (journals : List (List Entry)) (f : Fact) : Type 0 where
  pub seat : ℕ
  pub journal : List Entry
  pub in_journals : slice_get journals seat ≡ Some journal
  pub index : ℕ
  pub entry : Entry
  pub in_journal : slice_get journal index ≡ Some entry
  pub kind : Kind
  pub tells : fact_at kind seat index entry ≡ Some f

-- each kind but Member, which `members_of` tells
abbrev pub kinds : List Kind
kinds = kind.Change ∷ kind.Run ∷ kind.Wake ∷ kind.Listing ∷ kind.Mask ∷ kind.Offline ∷ kind.Up ∷ kind.Queued
    ∷ kind.Slept
    ∷ kind.Left ∷ kind.Died ∷ kind.ListedTo ∷ kind.Taken ∷ kind.Picked ∷ kind.Finished ∷ kind.Stood
    ∷ kind.ChangeIn ∷ kind.RunIn ∷ kind.TurnIn ∷ kind.Due ∷ []

-- what the entry tells of these kinds
abbrev pub told_of : List Kind → ℕ → ℕ → Entry → List Fact
told_of ks seat index e = flat_map (λ k. option_to_list (fact_at k seat index e)) ks

-- what the entry tells
unfoldable pub told_by : ℕ → ℕ → Entry → List Fact
told_by seat index e = told_of kinds seat index e

-- what the entries tell, from this index of their journal on
abbrev pub told_in : ℕ → ℕ → List Entry → List Fact
told_in seat index [] = []
told_in seat index (e ∷ es) = told_by seat index e ++ told_in seat (index + 1) es

-- what the journals tell, from this seat on
abbrev pub told_from : ℕ → List (List Entry) → List Fact
told_from seat [] = []
told_from seat (journal ∷ journals) = told_in seat 0 journal ++ told_from (seat + 1) journals

-- the number of a kind, in their order
abbrev pub kind_number : Kind → ℕ
kind_number kind.Change = 0
kind_number kind.Run = 1
kind_number kind.Wake = 2
kind_number kind.Listing = 3
kind_number kind.Mask = 4
kind_number kind.Offline = 5
kind_number kind.Up = 6
kind_number kind.Queued = 7
kind_number kind.Slept = 8
kind_number kind.Left = 9
kind_number kind.Died = 10
kind_number kind.ListedTo = 11
kind_number kind.Taken = 12
kind_number kind.Picked = 13
kind_number kind.Finished = 14
kind_number kind.Stood = 15
kind_number kind.ChangeIn = 16
kind_number kind.RunIn = 17
kind_number kind.TurnIn = 18
kind_number kind.Due = 19
kind_number kind.Member = 20

-- by the kind, and then by the other fields in their order
abbrev pub fact_cmp : Fact → Fact → Ordering
fact_cmp a b =
    ordering_then (nat_cmp (kind_number a.kind) (kind_number b.kind)) (ordering_then (nat_cmp a.subject b.subject)
    (ordering_then (nat_cmp a.number b.number) (ordering_then (nat_cmp a.cpu b.cpu)
    (ordering_then (nat_cmp a.seat b.seat) (nat_cmp a.index b.index)))))
