use Rattle.run_rounds.proofs.Keeping.{go_on_again}
use Rattle.run_script.proofs.whole.run_seats.Goals as goal

pub returns-clause-goes : goal.returns-clause-goes
returns-clause-goes g c =
    go_on_again g.G.Gate.told c.args.seats.now.items c.start_all.new.seats.items c.drive.new.seats.items c.start_all.ensures.goes c.drive.ensures.goes
