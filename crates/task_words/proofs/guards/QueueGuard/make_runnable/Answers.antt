use Rattle.std.proofs.Common.{inr, refl}
use Rattle.task_words.proofs.guards.QueueGuard.make_runnable.Goals as goal

pub make_runnable-requires-clause-may : goal.make_runnable-requires-clause-may
make_runnable-requires-clause-may g c κs within x = record { after = refl; ready = inr (inr (c.args.self.now.cpu, c.requires.here)) }
