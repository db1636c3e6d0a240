use Rattle.step_stores.proofs.Notes.{note_lem}
use Rattle.step_stores.proofs.seat_stores.note.Goals as goal

pub returns : goal.returns
returns c = note_lem c.args.core.now c.args.s c.index_mut-row.result.now _ c.args.act c.requires c.index_mut-row.ensures.value c.in_ok-note.ensures
