use Rattle.journal_rules.proofs.Turning.{turn_told, last_turn, no_turn_told}
use Rattle.journal_rules.proofs.turns.last_turn.Goals as goal

pub standing-requires : goal.standing-requires
standing-requires c =
    let told = turn_told c.args.journals.now c.args.facts.now c.requires c.args.seat c.in-Some.last c.in-Some.ensures.last.told in
    (told.0, told.1)

pub returns-in-Some : goal.returns-in-Some
returns-in-Some c =
    last_turn c.args.journals.now c.args.facts.now c.requires c.args.seat c.args.index c.in-Some.last c.standing.result c.in-Some.ensures.last c.standing.ensures

pub returns-in-None : goal.returns-in-None
returns-in-None c = no_turn_told c.args.journals.now c.args.facts.now c.requires c.args.seat c.args.index c.in-None.ensures.none
