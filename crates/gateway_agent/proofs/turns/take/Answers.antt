use Rattle.dots_host.specs.Acts.{event_of}
use Rattle.gateway_agent.specs.Keeping.{agent}
use Rattle.gateway_agent.proofs.Enough.{as_took}
use Rattle.gateway_agent.proofs.turns.take.Goals as goal

pub returns-in-Ok : goal.returns-in-Ok
returns-in-Ok g c =
    let host = c.args.host.now in
    let left = c.take_telling.new.host in
    record {
      done = λ settings state is.
          as_took settings state (event_of c.args.got.now.what c.args.room.now) c.args.got.now.at (agent c.args.core.now c.args.store.now) (agent c.take_telling.new.core c.take_telling.new.store)
          (g.H.Disk.media host) (g.H.Disk.media left) (g.H.Wire.acts host) (g.H.Wire.acts left) _ (c.in-Ok.ensures.done settings state is);
      failed = tt;
      joined = c.in-Ok.ensures.joined;
      same = c.take_telling.ensures.same;
      adds = c.take_telling.ensures.adds;
      cause = record { later = c.in-Ok.ensures.cause.later; same = c.in-Ok.ensures.cause.same; rose = tt };
      extent = c.take_telling.ensures.extent;
      wire = c.take_telling.ensures.wire;
      leads = c.take_telling.ensures.leads;
    }

pub returns-in-Err : goal.returns-in-Err
returns-in-Err g c = record {
  done = tt;
  failed = c.in-Err.ensures.failed;
  joined = tt;
  same = c.take_telling.ensures.same;
  adds = c.take_telling.ensures.adds;
  cause = record { later = c.in-Err.ensures.cause.later; same = tt; rose = c.in-Err.ensures.cause.rose };
  extent = c.take_telling.ensures.extent;
  wire = c.take_telling.ensures.wire;
  leads = c.take_telling.ensures.leads;
}
