-- How a token is seen.
use Rattle.std.specs.Prelude.{◌≡◌, List, [], ◌∷◌}
use Rattle.word_steps.specs.Records.{Rec}
use Rattle.word_table.specs.Parts.{Known}
use Rattle.word_table.specs.Plays.{one, part, trace_in, no_shape}
use Rattle.word_table.specs.Views.{TokenView}
use Rattle.word_table.specs.declared.token.Token.TheInside.{Inside}
use Rattle.word_table.specs.declared.view.View.{View}

abbrev pub trace_of : List View → List Rec
trace_of [] = []
trace_of (v ∷ vs) = trace_in v.parts

abbrev pub known_in : List View → Known
known_in [] = record { shape = no_shape; lasting = [] }
known_in (v ∷ vs) = v.known

abbrev pub token_view : Inside → TokenView
token_view t = record {
  of = t.badge.table_id;
  shape = (known_in t.badge.views).shape;
  lasting = (known_in t.badge.views).lasting;
  seat = t.seat;
  trace = trace_of t.badge.views;
}

-- it is a seat of one part
abbrev pub IsToken : Inside → Type 0
IsToken t = t.badge.views ≡ one (known_in t.badge.views) (part t.seat (trace_of t.badge.views)) ∷ []
