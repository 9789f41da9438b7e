use Rattle.dots_host.specs.declared.event.Event.TheVariants as event
use Rattle.world_play.proofs.Servers.{has_taken}
use Rattle.world_play.proofs.serving.ServerSide.restart.Goals as goal

pub returns-in-Ok-clause-restarted : goal.returns-in-Ok-clause-restarted
returns-in-Ok-clause-restarted c = λ settings state is.
    let found = c.in-Ok.ensures.restarted settings state is.entries is.kept is.rests in
    record {
      is_in = record { entries = is.entries; kept = found.0; rests = found.1 };
      told = has_taken event.Restart c.args.at c.args.self.acts.acts c.record_taken.new.self.acts c.if-not-record_taken.ensures.acts;
    }
