use Rattle.std.proofs.Common.{inl, inr, refl}
use Rattle.journal_rules.proofs.Words.{never}
use Rattle.journal_rules.proofs.masks.left_on.Goals as goal

pub returns-then-is_queued : goal.returns-then-is_queued
returns-then-is_queued c = λ j knows. let e = c.is_queued.ensures j knows in (λ _. inl (e.0 c.if-is_queued.true), λ _. refl)

pub returns-then-is_sleep_on : goal.returns-then-is_sleep_on
returns-then-is_sleep_on c = λ j knows. let e = c.is_sleep_on.ensures j knows in (λ _. inr (inl (e.0 c.if-is_sleep_on.true)), λ _. refl)

pub returns-then-is_end_on : goal.returns-then-is_end_on
returns-then-is_end_on c = λ j knows. let e = c.is_end_on.ensures j knows in (λ _. inr (inr (inl (e.0 c.if-is_end_on.true))), λ _. refl)

pub returns-then-not-is_sleep : goal.returns-then-not-is_sleep
returns-then-not-is_sleep c = λ j knows. (
  λ z. absurd (cc),
  λ h. absurd (elim h [
    | inl a ↦ never _ c.if-is_queued.false ((c.is_queued.ensures j knows).1 a)
    | inr b ↦ elim b [
      | inl a ↦ never _ c.if-is_sleep_on.false ((c.is_sleep_on.ensures j knows).1 a)
      | inr d ↦ elim d [
        | inl a ↦ never _ c.if-is_end_on.false ((c.is_end_on.ensures j knows).1 a)
        | inr a ↦ never _ c.if-not-is_sleep.true ((c.is_sleep.ensures j knows).1 a.0)
      ]
    ]
  ]),
)

pub returns : goal.returns
returns c = λ j knows. (
  λ yes. inr (inr (inr ((c.is_sleep.ensures j knows).0 c.if-not-is_sleep.false, (c.is_listed_to.ensures j knows).0 yes))),
  λ h. elim h [
    | inl a ↦ absurd (never _ c.if-is_queued.false ((c.is_queued.ensures j knows).1 a))
    | inr b ↦ elim b [
      | inl a ↦ absurd (never _ c.if-is_sleep_on.false ((c.is_sleep_on.ensures j knows).1 a))
      | inr d ↦ elim d [
        | inl a ↦ absurd (never _ c.if-is_end_on.false ((c.is_end_on.ensures j knows).1 a))
        | inr a ↦ (c.is_listed_to.ensures j knows).1 a.1
      ]
    ]
  ],
)
