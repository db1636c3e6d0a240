-- The rules that the laws rest on, kept by every entry.
use Rattle.std.proofs.Common.{ℕ, refl}
use Rattle.handoff_data.specs.declared.entry.Entry.{Entry}
use Rattle.handoff_data.specs.History.{History}
use Rattle.handoff_data.specs.Legal.{HasNoBad, IsLegal}
use Rattle.handoff_data.specs.Positions.{Stands}
use Rattle.handoff_data.specs.Rules.{NotRepeated, Chained, Caused, RunsAlternate}

pub record KeepsOrder (j : History) : Type 0 where
  pub not_repeated : (s i : ℕ) (e : Entry) → Stands j s i e → NotRepeated j s i e
  pub chained : (s i : ℕ) (e : Entry) → Stands j s i e → Chained j s i e
  pub caused : (s i : ℕ) (e : Entry) → Stands j s i e → Caused j s i e
  pub runs_alternate : (s i : ℕ) (e : Entry) → Stands j s i e → RunsAlternate j s i e

pub keeps-order : (j : History) → HasNoBad j → KeepsOrder j
keeps-order j no_bad =
    record {
      not_repeated = λ s i e at. (no_bad s i e at 2).not_repeated refl;
      chained = λ s i e at. (no_bad s i e at 3).chained refl;
      caused = λ s i e at. (no_bad s i e at 4).caused refl;
      runs_alternate = λ s i e at. (no_bad s i e at 6).runs_alternate refl;
    }

pub kept : (j : History) → IsLegal j → KeepsOrder j
kept j legal = keeps-order j legal.no_bad
