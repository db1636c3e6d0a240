use Rattle.std.proofs.Common.{arith, inl, inr, subst, ◌≡◌, ◌<◌, ℕ}
use Rattle.std.proofs.lemmas.Bool.{cases_lt}
use Rattle.handoff_data.specs.declared.entry.Entry.TheVariants as entry
use Rattle.handoff_data.specs.Positions.{IsSomewhere}
use Rattle.journal_rules.proofs.Words.{never}
use Rattle.journal_rules.proofs.Turning.{go_words, taken_earlier}
use Rattle.journal_rules.proofs.turns.may_leave.Goals as goal

pub returns : goal.returns
returns c =
    let j = c.args.journals.now in
    let s = c.args.seat in
    let i = c.args.index in
    let words = go_words j s i c.args.e c.last_turn.result c.last_turn.ensures in (
      λ yes.
          let may = words.0 (c.may_go.ensures.0 c.if-not-may_go.false) in (
            may,
            λ t m epoch up_to somewhere. elim (cases_lt epoch c.args.e) [
              | inl less ↦ elim may [
                | inl none ↦ let zero : c.args.e ≡ 0 = none.1 in let l : epoch < c.args.e = less in absurd (omega arith)
                | inr up ↦ taken_earlier j s i c.args.c c.args.e c.requires.earlier up c.requires.own t m epoch less somewhere
              ]
              | inr other ↦
                  let same : epoch ≡ c.args.e = omega arith in
                  c.takes_all_due.ensures.0 yes t m (subst (λ (x : ℕ). IsSomewhere j (entry.List t m c.args.c x)) same somewhere)
            ],
          ),
      λ h. c.takes_all_due.ensures.1 (λ t m somewhere. h.1 t m c.args.e (omega arith) somewhere),
    )

pub returns-then-not-may_go : goal.returns-then-not-may_go
returns-then-not-may_go c =
    let words = go_words c.args.journals.now c.args.seat c.args.index c.args.e c.last_turn.result c.last_turn.ensures in
    (λ z. absurd (cc), λ h. absurd (never _ c.if-not-may_go.true (c.may_go.ensures.1 (words.1 h.0))))
