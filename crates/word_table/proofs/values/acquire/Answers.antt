use Rattle.std.proofs.Common.{◌≡◌, ℕ, sym, subst}
use Rattle.word_rule.specs.Sorts.{IsOf}
use Rattle.word_rule.specs.Told.{TakeTold}
use Rattle.word_steps.specs.Records.{Took}
use Rattle.word_steps.specs.declared.val.Val.{Val}
use Rattle.word_table.specs.Layout.{slot_of, slot_at}
use Rattle.word_table.specs.Plays.{IsRest, push, lift, trace_in, Sat}
use Rattle.word_table.specs.declared.slot.Slot.TheVariants.{Held}
use Rattle.word_table.proofs.values.acquire.Goals as goal

pub contend-requires-clause-rest : goal.contend-requires-clause-rest
contend-requires-clause-rest g c κs within =
    subst (λ (z : Sat g.row.B.Denot). IsRest z c.args.number) (sym (c.attempt-found.ensures.missed c.if-found-ne0.true)) c.requires.rest

pub returns-then-found-ne0-clause-took : goal.returns-then-found-ne0-clause-took
returns-then-found-ne0-clause-took g c = let n : ℕ = c.args.n in let sort = g.L.Lock.sort in
    subst (λ (y : Sat g.row.B.Denot). (v : Val) × IsOf sort v × TakeTold y.0.known.shape c.args.number (trace_in y.0.parts) sort n v
    × (c.contend.new.seat.me ≡ lift (slot_at n (slot_of sort)) (Held v) (push (Took n v) y))) (c.attempt-found.ensures.missed c.if-found-ne0.true) c.contend.ensures.took
