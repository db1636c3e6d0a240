use Rattle.std.proofs.Common.{subst, refl}
use Rattle.handoff_data.specs.declared.entry.Entry.{Entry}
use Rattle.handoff_data.specs.declared.entry.Entry.TheVariants as entry
use Rattle.journal_facts.specs.declared.fact.Kind.TheVariants as kind
use Rattle.journal_facts.specs.Facts.{here_on}
use Rattle.journal_facts.specs.Answers.{HasFront}
use Rattle.journal_rules.specs.Turns.{IsTakenBefore}
use Rattle.journal_rules.proofs.Turning.{due_told, due_listed, one_stands}
use Rattle.journal_rules.proofs.turns.takes_all_due.Goals as goal

pub are_done-requires-clause-stand : goal.are_done-requires-clause-stand
are_done-requires-clause-stand c = λ f has.
    let h = (c.facts_on.ensures f).0 has in
    let d = due_told c.args.journals.now c.args.facts.now c.requires f c.args.c c.args.e h.0 h.1.front in
    (entry.List d.0 d.1 c.args.c c.args.e, d.2)

pub returns : goal.returns
returns c =
    let j = c.args.journals.now in
    let facts = c.args.facts.now in (
      λ yes t m somewhere.
          let s = somewhere.0 in
          let i = somewhere.1.0 in
          let there = somewhere.1.1 in
          let told = due_listed j facts c.requires t m c.args.c c.args.e s i there in
          let front : HasFront (here_on kind.Due s i c.args.c c.args.e 0) kind.Due c.args.c c.args.e = record { kind_is = refl; subject_is = refl; number_is = refl } in
          c.are_done.ensures.0 yes _ (entry.List t m c.args.c c.args.e) ((c.facts_on.ensures _).1 (told, record { front = front; cpu_is = refl })) there,
      λ all. c.are_done.ensures.1 (λ f e has there.
          let h = (c.facts_on.ensures f).0 has in
          let d = due_told j facts c.requires f c.args.c c.args.e h.0 h.1.front in
          subst (λ (x : Entry). IsTakenBefore j c.args.seat c.args.index x) (one_stands j f.seat f.index _ e d.2 there) (all d.0 d.1 (f.seat, (f.index, d.2)))),
    )
