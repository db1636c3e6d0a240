use Rattle.journal_legal.specs.Judging.{IsJudgeAt, EarlierKeepAll}
use Rattle.journal_legal.proofs.walk.first_bad_in.Given as goal

-- the judge stands before this entry, and all earlier entries keep all rules
abbrev pub invariant-loop-i : goal.invariant-loop-i
invariant-loop-i l = record {
  at : IsJudgeAt l.journals l.seat l.i l.judge;
  earlier : EarlierKeepAll l.journals l.seat l.i;
}
