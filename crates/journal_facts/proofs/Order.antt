-- The derived order of facts is that by their fields.
use Rattle.std.proofs.Common.{◌≡◌, refl, ap}
use Rattle.std.specs.Ordering.{nat_cmp, ordering_then}
use Rattle.journal_facts.specs.Facts.{fact_cmp, kind_number}
use Rattle.journal_facts.specs.declared.fact.Fact.{Fact}
use Rattle.journal_facts.specs.declared.fact.Kind.{Kind}
use Rattle.journal_facts.specs.declared.fact.Kind.TheVariants as kind
use Rattle.journal_facts.specs.contracts.fact.FactOrd.TheImpl as by_fact
use Rattle.journal_facts.specs.contracts.fact.KindOrd.TheImpl as by_kind

-- the derived order of the kinds is that of their numbers
kind_same : (a b : Kind) → by_kind.ghosts.cmp a b ≡ nat_cmp (kind_number a) (kind_number b)
kind_same kind.Change b = elim b as (λ y. by_kind.ghosts.cmp kind.Change y ≡ nat_cmp 0 (kind_number y)) [ kind.Change ↦ refl | _ ↦ refl ]
kind_same kind.Run b = elim b as (λ y. by_kind.ghosts.cmp kind.Run y ≡ nat_cmp 1 (kind_number y)) [ kind.Change ↦ refl | _ ↦ refl ]
kind_same kind.Wake b = elim b as (λ y. by_kind.ghosts.cmp kind.Wake y ≡ nat_cmp 2 (kind_number y)) [ kind.Change ↦ refl | _ ↦ refl ]
kind_same kind.Listing b = elim b as (λ y. by_kind.ghosts.cmp kind.Listing y ≡ nat_cmp 3 (kind_number y)) [ kind.Change ↦ refl | _ ↦ refl ]
kind_same kind.Mask b = elim b as (λ y. by_kind.ghosts.cmp kind.Mask y ≡ nat_cmp 4 (kind_number y)) [ kind.Change ↦ refl | _ ↦ refl ]
kind_same kind.Offline b = elim b as (λ y. by_kind.ghosts.cmp kind.Offline y ≡ nat_cmp 5 (kind_number y)) [ kind.Change ↦ refl | _ ↦ refl ]
kind_same kind.Up b = elim b as (λ y. by_kind.ghosts.cmp kind.Up y ≡ nat_cmp 6 (kind_number y)) [ kind.Change ↦ refl | _ ↦ refl ]
kind_same kind.Queued b = elim b as (λ y. by_kind.ghosts.cmp kind.Queued y ≡ nat_cmp 7 (kind_number y)) [ kind.Change ↦ refl | _ ↦ refl ]
kind_same kind.Slept b = elim b as (λ y. by_kind.ghosts.cmp kind.Slept y ≡ nat_cmp 8 (kind_number y)) [ kind.Change ↦ refl | _ ↦ refl ]
kind_same kind.Left b = elim b as (λ y. by_kind.ghosts.cmp kind.Left y ≡ nat_cmp 9 (kind_number y)) [ kind.Change ↦ refl | _ ↦ refl ]
kind_same kind.Died b = elim b as (λ y. by_kind.ghosts.cmp kind.Died y ≡ nat_cmp 10 (kind_number y)) [ kind.Change ↦ refl | _ ↦ refl ]
kind_same kind.ListedTo b = elim b as (λ y. by_kind.ghosts.cmp kind.ListedTo y ≡ nat_cmp 11 (kind_number y)) [ kind.Change ↦ refl | _ ↦ refl ]
kind_same kind.Taken b = elim b as (λ y. by_kind.ghosts.cmp kind.Taken y ≡ nat_cmp 12 (kind_number y)) [ kind.Change ↦ refl | _ ↦ refl ]
kind_same kind.Picked b = elim b as (λ y. by_kind.ghosts.cmp kind.Picked y ≡ nat_cmp 13 (kind_number y)) [ kind.Change ↦ refl | _ ↦ refl ]
kind_same kind.Finished b = elim b as (λ y. by_kind.ghosts.cmp kind.Finished y ≡ nat_cmp 14 (kind_number y)) [ kind.Change ↦ refl | _ ↦ refl ]
kind_same kind.Stood b = elim b as (λ y. by_kind.ghosts.cmp kind.Stood y ≡ nat_cmp 15 (kind_number y)) [ kind.Change ↦ refl | _ ↦ refl ]
kind_same kind.ChangeIn b = elim b as (λ y. by_kind.ghosts.cmp kind.ChangeIn y ≡ nat_cmp 16 (kind_number y)) [ kind.Change ↦ refl | _ ↦ refl ]
kind_same kind.RunIn b = elim b as (λ y. by_kind.ghosts.cmp kind.RunIn y ≡ nat_cmp 17 (kind_number y)) [ kind.Change ↦ refl | _ ↦ refl ]
kind_same kind.TurnIn b = elim b as (λ y. by_kind.ghosts.cmp kind.TurnIn y ≡ nat_cmp 18 (kind_number y)) [ kind.Change ↦ refl | _ ↦ refl ]
kind_same kind.Due b = elim b as (λ y. by_kind.ghosts.cmp kind.Due y ≡ nat_cmp 19 (kind_number y)) [ kind.Change ↦ refl | _ ↦ refl ]
kind_same kind.Member b = elim b as (λ y. by_kind.ghosts.cmp kind.Member y ≡ nat_cmp 20 (kind_number y)) [ kind.Change ↦ refl | _ ↦ refl ]

pub fact_same : (a b : Fact) → by_fact.ghosts.cmp a b ≡ fact_cmp a b
fact_same a b =
    ap (λ o. ordering_then o (ordering_then (nat_cmp a.subject b.subject) (ordering_then (nat_cmp a.number b.number)
    (ordering_then (nat_cmp a.cpu b.cpu) (ordering_then (nat_cmp a.seat b.seat) (nat_cmp a.index b.index)))))) (kind_same a.kind b.kind)
