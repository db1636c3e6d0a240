-- What contracts see of the tokens that a table's end has taken back.
use Rattle.std.specs.Prelude.{◌≡◌, ℕ, List, [], map}
use Rattle.atomic_table.specs.Seated.{TableId}
use Rattle.handoff_data.specs.declared.shape.Shape.{Shape}
use Rattle.word_table.specs.End.{part_of}
use Rattle.word_table.specs.Parts.{Part, Known}
use Rattle.word_table.specs.Plays.{Sat}
use Rattle.word_table.specs.Views.{WordsView, TokenView}
use Rattle.word_table.specs.declared.view.View.{View}

pub record GatheredView : Type 0 where
  -- the table, its shape, and what each task's body keeps for good
  pub of : TableId
  pub shape : Shape
  pub lasting : List (List ℕ)
  -- newest first
  pub tokens : List TokenView

-- they are of this table
pub record IsGatheredOf (words : WordsView) (gathered : GatheredView) : Type 0 where
  pub table : gathered.of ≡ words.name
  pub same_shape : gathered.shape ≡ words.shape
  pub same_lasting : gathered.lasting ≡ words.lasting

-- the token that a part was
abbrev pub token_in : TableId → Known → Part → TokenView
token_in name known p = record {
  of = name;
  shape = known.shape;
  lasting = known.lasting;
  seat = p.number;
  trace = p.trace;
}

abbrev pub gathered_view : TableId → View → GatheredView
gathered_view name v = record {
  of = name;
  shape = v.known.shape;
  lasting = v.known.lasting;
  tokens = map (token_in name v.known) v.parts;
}

-- a seat that has no slot in its hand
abbrev pub IsGathered : {B : Type 0} → TableId → Sat B → Type 0
IsGathered name m = m ≡ (record { parts = map part_of (gathered_view name m.0).tokens; known = m.0.known }, [])
