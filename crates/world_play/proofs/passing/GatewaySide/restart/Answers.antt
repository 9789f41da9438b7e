use Rattle.world_play.proofs.passing.GatewaySide.restart.Goals as goal

pub returns-in-Ok-clause-restarted : goal.returns-in-Ok-clause-restarted
returns-in-Ok-clause-restarted c = λ state is. let found = c.in-Ok.ensures.restarted state is.is_in is.rests in record { is_in = found.0; rests = found.1 }
