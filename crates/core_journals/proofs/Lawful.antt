-- The journals of a core keep all eleven rules.
use Rattle.std.proofs.Common.{ℕ}
use Rattle.std.specs.Prelude.{true, false}
use Rattle.core_data.specs.Columns.{Columns}
use Rattle.core_invariant.specs.Histories.{history}
use Rattle.core_invariant.specs.Journals.{JournalsHold, IsPlain, PlainEntries}
use Rattle.handoff_data.specs.History.{History}
use Rattle.handoff_data.specs.Legal.{HasNoBad}
use Rattle.handoff_data.specs.Rules.{ListedInOrder, OutageLeavesNone, MaskedAndStood, DoneStood, IsOffline}
use Rattle.handoff_data.specs.declared.entry.Entry.{Entry}
use Rattle.handoff_data.specs.declared.entry.Entry.TheVariants as entry

-- The rules on lists, outages and masks say nothing of plain entries.

listed-plain : (j : History) (s i : ℕ) (e : Entry) → IsPlain e → ListedInOrder j s i e
listed-plain j s i (entry.New t m c) h = tt
listed-plain j s i (entry.Sleep t m c) h = tt
listed-plain j s i (entry.Wake t m) h = tt
listed-plain j s i (entry.List t m c x) h = absurd h
listed-plain j s i (entry.Enq t m c true) h = absurd h
listed-plain j s i (entry.Enq t m c false) h = tt
listed-plain j s i (entry.Out t m c) h = tt
listed-plain j s i (entry.In t m c) h = tt
listed-plain j s i (entry.Die t m c) h = tt
listed-plain j s i (entry.Pick t n c) h = tt
listed-plain j s i (entry.Finish t n c) h = tt
listed-plain j s i (entry.Mask t r mask) h = absurd h
listed-plain j s i (entry.Stood t r m at) h = absurd h
listed-plain j s i (entry.Done t r) h = absurd h
listed-plain j s i (entry.Offline c x) h = absurd h
listed-plain j s i (entry.Up c x) h = absurd h
listed-plain j s i (entry.Refused t state) h = tt

-- no processor is offline
online : (j : History) (s i : ℕ) → PlainEntries j → IsOffline j s i → ⊥
online j s i p h = p s h.2.1.0 (entry.Offline h.0 h.1) h.2.1.2

outage-plain : (j : History) (s i : ℕ) (e : Entry) → PlainEntries j → IsPlain e → OutageLeavesNone j s i e
outage-plain j s i (entry.New t m c) p h = tt
outage-plain j s i (entry.Sleep t m c) p h = tt
outage-plain j s i (entry.Wake t m) p h = tt
outage-plain j s i (entry.List t m c x) p h = absurd h
outage-plain j s i (entry.Enq t m c true) p h = absurd h
outage-plain j s i (entry.Enq t m c false) p h = λ c_is off. online j s i p off
outage-plain j s i (entry.Out t m c) p h = tt
outage-plain j s i (entry.In t m c) p h = λ c_is off. online j s i p off
outage-plain j s i (entry.Die t m c) p h = tt
outage-plain j s i (entry.Pick t n c) p h = λ c_is off. online j s i p off
outage-plain j s i (entry.Finish t n c) p h = tt
outage-plain j s i (entry.Mask t r mask) p h = absurd h
outage-plain j s i (entry.Stood t r m at) p h = absurd h
outage-plain j s i (entry.Done t r) p h = absurd h
outage-plain j s i (entry.Offline c x) p h = absurd h
outage-plain j s i (entry.Up c x) p h = absurd h
outage-plain j s i (entry.Refused t state) p h = tt

masked-plain : (j : History) (s i : ℕ) (e : Entry) → IsPlain e → MaskedAndStood j s i e
masked-plain j s i (entry.New t m c) h = tt
masked-plain j s i (entry.Sleep t m c) h = tt
masked-plain j s i (entry.Wake t m) h = tt
masked-plain j s i (entry.List t m c x) h = absurd h
masked-plain j s i (entry.Enq t m c true) h = absurd h
masked-plain j s i (entry.Enq t m c false) h = tt
masked-plain j s i (entry.Out t m c) h = tt
masked-plain j s i (entry.In t m c) h = tt
masked-plain j s i (entry.Die t m c) h = tt
masked-plain j s i (entry.Pick t n c) h = tt
masked-plain j s i (entry.Finish t n c) h = tt
masked-plain j s i (entry.Mask t r mask) h = absurd h
masked-plain j s i (entry.Stood t r m at) h = absurd h
masked-plain j s i (entry.Done t r) h = absurd h
masked-plain j s i (entry.Offline c x) h = absurd h
masked-plain j s i (entry.Up c x) h = absurd h
masked-plain j s i (entry.Refused t state) h = tt

done-plain : (j : History) (s i : ℕ) (e : Entry) → IsPlain e → DoneStood j s i e
done-plain j s i (entry.New t m c) h = tt
done-plain j s i (entry.Sleep t m c) h = tt
done-plain j s i (entry.Wake t m) h = tt
done-plain j s i (entry.List t m c x) h = absurd h
done-plain j s i (entry.Enq t m c true) h = absurd h
done-plain j s i (entry.Enq t m c false) h = tt
done-plain j s i (entry.Out t m c) h = tt
done-plain j s i (entry.In t m c) h = tt
done-plain j s i (entry.Die t m c) h = tt
done-plain j s i (entry.Pick t n c) h = tt
done-plain j s i (entry.Finish t n c) h = tt
done-plain j s i (entry.Mask t r mask) h = absurd h
done-plain j s i (entry.Stood t r m at) h = absurd h
done-plain j s i (entry.Done t r) h = absurd h
done-plain j s i (entry.Offline c x) h = absurd h
done-plain j s i (entry.Up c x) h = absurd h
done-plain j s i (entry.Refused t state) h = tt

pub HasNoBad-journals : (core : Columns) → JournalsHold core → HasNoBad (history core.cpus core.tasks core.seats core.journal)
HasNoBad-journals core p s i e h rule =
    let j = history core.cpus core.tasks core.seats core.journal in
    let plain = p.plain s i e h in
    record {
      in_range = λ q. p.rules.in_range s i e h;
      not_repeated = λ q. p.rules.not_repeated s i e h;
      chained = λ q. p.rules.chained s i e h;
      caused = λ q. p.rules.caused s i e h;
      rises_in_journal = λ q. p.rules.rises_in_journal s i e h;
      runs_alternate = λ q. p.rules.runs_alternate s i e h;
      leaves_while_running = λ q. p.rules.leaves_while_running s i e h;
      listed_in_order = λ q. listed-plain j s i e plain;
      outage_leaves_none = λ q. outage-plain j s i e p.plain plain;
      masked_and_stood = λ q. masked-plain j s i e plain;
      done_stood = λ q. done-plain j s i e plain;
    }
