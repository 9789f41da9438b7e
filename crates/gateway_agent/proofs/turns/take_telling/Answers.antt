use Rattle.std.proofs.Common.{true, refl, sym, ap, subst, arith}
use Rattle.dots_host.specs.declared.event.What.{What}
use Rattle.dots_host.specs.Acts.{event_of}
use Rattle.dots_gateway.specs.Gateway.{GatewayValue}
use Rattle.dots_host.proofs.RunLemmas.{added_none}
use Rattle.gateway_agent.proofs.Enough.{if_ok_as}
use Rattle.gateway_agent.specs.PassingWell.{PassesAs}
use Rattle.gateway_agent.proofs.KeepingLemmas.{on_err_as}
use Rattle.gateway_agent.specs.Keeping.{AreJoined, agent}
use Rattle.gateway_agent.specs.Turning.{TookBy, BrokeOff}
use Rattle.gateway_agent.proofs.Joining.{joined_at}
use Rattle.gateway_agent.proofs.Turning.{took_time}
use Rattle.gateway_agent.proofs.turns.take_telling.Goals as goal

-- a datagram is taken with its bytes
pub returns-in-Datagram : goal.returns-in-Datagram
returns-in-Datagram g c =
    let host = c.args.host.now in
    let left = c.take_datagram.new.host in
    let old = agent c.args.core.now c.args.store.now in
    record {
      done = if_ok_as c.take_datagram.result (λ enough took settings state is.
          subst (λ (w : What). TookBy (λ outs new. PassesAs enough state (event_of w c.args.room.now) c.args.got.now.at outs new) settings state old (agent c.take_datagram.new.core c.take_datagram.new.store)
          (g.H.Disk.media host) (g.H.Disk.media left) (g.H.Wire.acts host) (g.H.Wire.acts left)) (sym c.in-Datagram.is) (took settings state is))
          c.take_datagram.ensures.done;
      failed = on_err_as c.take_datagram.result (λ broke settings state is.
          subst (λ (w : What). BrokeOff settings state (event_of w c.args.room.now) c.args.got.now.at old
          (g.H.Disk.media host) (g.H.Disk.media left) (g.H.Wire.acts host) (g.H.Wire.acts left)) (sym c.in-Datagram.is) (broke settings state is))
          c.take_datagram.ensures.failed;
      joined = c.take_datagram.ensures.joined;
      same = c.take_datagram.ensures.same;
      adds = c.take_datagram.ensures.adds;
      cause = c.take_datagram.ensures.cause;
      extent = c.take_datagram.ensures.extent;
      wire = c.take_datagram.ensures.wire;
      leads = c.take_datagram.ensures.leads;
    }

pub returns-in_default : goal.returns-in_default
returns-in_default g c =
    let host = c.args.host.now in
    let core = c.args.core.now in
    let store = c.args.store.now in
    let same = c.pass_time.ensures in
    record {
      done = λ settings state is.
          subst
          (λ (now : GatewayValue). TookBy (λ outs new. PassesAs true state (event_of c.args.got.now.what c.args.room.now) c.args.got.now.at outs new) settings state (agent core store) (agent now store)
          (g.H.Disk.media host) (g.H.Disk.media host) (g.H.Wire.acts host) (g.H.Wire.acts host))
          (sym same)
          (took_time settings state core store c.args.got.now.what c.args.room.now c.args.got.now.at (g.H.Disk.media host) (g.H.Wire.moment host) (g.H.Wire.acts host) is c.requires.early c.requires.taken
          c.in_default.not-Datagram (g.met.H.Host.one_moment host));
      failed = tt;
      joined = subst (λ (now : GatewayValue). AreJoined now store) (sym same) (joined_at core store c.args.got.now.at c.requires.joined c.requires.early);
      same = record { routes = ap (λ (now : GatewayValue). now.routes) same; upstream = ap (λ (now : GatewayValue). now.upstream) same; slots = refl };
      adds = added_none _ (λ _. Unit {0}) tt;
      cause = record { later = omega arith; same = refl; rose = tt };
      extent = refl;
      wire = refl;
      leads = g.met.H.Wire.leads_same _;
    }
