-- A body's fields as what a contract sees, and what is true of them.
use Rattle.pipe_bodies.specs.Codes.{plan_of}
use Rattle.pipe_bodies.specs.Parts.{seen, rings, knows, Stands, KeepsNone, IsClear}
use Rattle.pipe_bodies.specs.Bodies.{BodyView}
use Rattle.pipe_bodies.specs.declared.body.Body.TheInside.{Inside}

abbrev pub view_of : {W : Type 0} → Inside W → BodyView
view_of b = record {
  lasting = record { task = b.task; begun = plan_of b.origin.numbers; rings = rings b.parts };
  seen = seen b.parts;
  known = knows b.parts;
  kept = b.parts.kept;
  broken = b.broken;
}

abbrev pub IsBody : {W : Type 0} → Inside W → Type 0
IsBody b = Stands (plan_of b.origin.numbers) (seen b.parts) (rings b.parts) b.broken
    × KeepsNone (rings b.parts).output b.parts.kept × IsClear b.broken b.parts.said
