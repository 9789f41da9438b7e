use Rattle.std.proofs.Common.{ℕ, refl, sym, ap, subst}
use Rattle.dots_host.specs.Runs.{Added, Gives}
use Rattle.dots_gateway.specs.Gateway.{GatewayValue}
use Rattle.gateway_agent.specs.Passing.{sends_of, state_at}
use Rattle.gateway_agent.specs.PassingWell.{GoesDownAs, is_enough}
use Rattle.gateway_agent.specs.Keeping.{AreJoined, agent}
use Rattle.gateway_agent.specs.Turning.{TookBy}
use Rattle.gateway_agent.proofs.Joining.{joined_at}
use Rattle.gateway_agent.proofs.Turning.{some_adds, took_down}
use Rattle.gateway_agent.proofs.turns.take_down.Goals as goal

pub returns : goal.returns
returns g c =
    let host = c.args.host.now in
    let left = c.give.new.wire in
    let core = c.args.core.now in
    let store = c.args.store.now in
    let said = c.down-said.result in
    let keeps = g.met.H.Host.wire_keeps host left c.give.ensures.beside in
    let gives = subst (λ (u : ℕ). Added (g.H.Wire.acts host) (g.H.Wire.acts left) (Gives (g.H.Wire.moment host) (sends_of u said))) c.requires.upstream c.give.ensures.gives in
    record {
      done = λ settings state is.
          subst (λ enough. TookBy (λ outs new. GoesDownAs enough (state_at state c.args.at) c.args.bytes.now outs new) settings state (agent core store) (agent c.down-said.new.self store)
          (g.H.Disk.media host) (g.H.Disk.media left) (g.H.Wire.acts host) (g.H.Wire.acts left))
          (sym c.is_enough.ensures)
          (subst
          (λ (now : GatewayValue). TookBy (λ outs new. GoesDownAs (is_enough said) (state_at state c.args.at) c.args.bytes.now outs new) settings state (agent core store) (agent now store)
          (g.H.Disk.media host) (g.H.Disk.media left) (g.H.Wire.acts host) (g.H.Wire.acts left))
          (sym c.down-said.ensures.after)
          (took_down settings state core store c.args.bytes.now c.args.at said (g.H.Disk.media host) (g.H.Disk.media left) (g.H.Wire.moment host) (g.H.Wire.acts host) (g.H.Wire.acts left)
          is c.requires.early c.down-said.ensures.said (g.met.H.Host.one_moment host) gives keeps.0));
      joined = subst (λ (now : GatewayValue). AreJoined now store) (sym c.down-said.ensures.after) (joined_at core store c.args.at c.requires.joined c.requires.early);
      same = record {
        routes = ap (λ (now : GatewayValue). now.routes) c.down-said.ensures.after;
        upstream = ap (λ (now : GatewayValue). now.upstream) c.down-said.ensures.after;
        slots = refl;
      };
      adds = some_adds _ _ _ c.give.ensures.gives;
      disk = keeps.2;
      extent = keeps.1;
      wire = c.give.ensures.faults;
      leads = c.give.ensures.leads;
    }
