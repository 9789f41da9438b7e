use Rattle.std.proofs.Common.{arith}
use Rattle.world_play.proofs.Handed.{there_at, asked_either}
use Rattle.world_play.proofs.clients.ask_at.Goals as goal

pub returns-clause-asked : goal.returns-clause-asked
returns-clause-asked c =
    asked_either c.args.clients.now.items c.args.place c.index_mut.result.now c.ask.new.client c.args.what.now c.args.now c.in_ok-_made._made
    (there_at c.args.clients.now.items c.args.place c.index_mut.result.now (omega (arith, c.if-place-len.false, c.len.ensures)) c.index_mut.ensures.value) c.in_ok-_made.ensures
