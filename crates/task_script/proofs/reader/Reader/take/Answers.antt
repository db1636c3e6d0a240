use Rattle.std.proofs.Common.{sym, rules}
use Rattle.task_script.specs.Forms.{form_seen}
use Rattle.task_script.specs.Reading.{state_of, held}
use Rattle.task_script.proofs.FormLaws.{form_text, can_settle}
use Rattle.task_script.proofs.reader.Reader.take.Goals as goal

pub accept-requires-clause-fits : goal.accept-requires-clause-fits
accept-requires-clause-fits c = can_settle (held (state_of c.args.self.now)) (form_seen c.in-Some.form) (search rules)

pub accept-requires-clause-lines : goal.accept-requires-clause-lines
accept-requires-clause-lines c = form_text c.args.line.now (form_seen c.in-Some.form) c.requires (sym c.in-Some.ensures)
