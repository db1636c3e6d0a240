use Rattle.journal_legal.specs.Judging.{IsJudgeAt, EarlierKeepAll}
use Rattle.journal_legal.proofs.walk.first_bad.Given as goal

-- the judge stands before the first entry of this seat, and all earlier entries keep all rules
abbrev pub invariant-loop-i : goal.invariant-loop-i
invariant-loop-i l = record {
  at : IsJudgeAt l.journals l.i 0 l.judge;
  earlier : EarlierKeepAll l.journals l.i 0;
}
