use Rattle.std.proofs.Common.{sym, ap, ◌∙◌, arith}
use Rattle.dots_gateway.specs.Gateway.{GatewayValue}
use Rattle.gateway_agent.proofs.Enough.{if_ok_as}
use Rattle.gateway_agent.proofs.KeepingLemmas.{on_err_as}
use Rattle.gateway_agent.specs.Keeping.{agent}
use Rattle.gateway_agent.proofs.Turning.{as_down, as_up, as_broke}
use Rattle.gateway_agent.proofs.turns.take_datagram.Goals as goal

pub returns-then-from-upstream : goal.returns-then-from-upstream
returns-then-from-upstream g c =
    let host = c.args.host.now in
    let left = c.take_down.new.host in
    let old = agent c.args.core.now c.args.store.now in
    let disk = c.take_down.ensures.disk in
    record {
      done = λ settings state is.
          as_down settings state c.args.from c.args.bytes.now c.args.at old (g.H.Disk.media host) (g.H.Disk.media left) (g.H.Wire.acts host) (g.H.Wire.acts left) c.take_down.result
          (agent c.take_down.new.core c.args.store.now)
          (c.if-from-upstream.true ∙ c.requires.upstream ∙ ap (λ (now : GatewayValue). now.upstream) is.core)
          (c.take_down.ensures.done settings state is);
      failed = tt;
      joined = c.take_down.ensures.joined;
      same = c.take_down.ensures.same;
      adds = c.take_down.ensures.adds;
      cause = record { later = omega (arith, disk); same = disk; rose = tt };
      extent = c.take_down.ensures.extent;
      wire = c.take_down.ensures.wire;
      leads = c.take_down.ensures.leads;
    }

pub returns : goal.returns
returns g c =
    let host = c.args.host.now in
    let left = c.take_up.new.host in
    let old = agent c.args.core.now c.args.store.now in
    record {
      done = if_ok_as c.take_up.result (λ enough took settings state is.
          as_up settings state c.args.from c.args.bytes.now c.args.at old (g.H.Disk.media host) (g.H.Disk.media left) (g.H.Wire.acts host) (g.H.Wire.acts left) enough
          (agent c.take_up.new.core c.take_up.new.store)
          (λ same. c.if-from-upstream.false (same ∙ sym (c.requires.upstream ∙ ap (λ (now : GatewayValue). now.upstream) is.core)))
          (took settings state is))
          c.take_up.ensures.done;
      failed = on_err_as c.take_up.result (λ broke settings state is.
          as_broke settings state c.args.from c.args.bytes.now c.args.at old (g.H.Disk.media host) (g.H.Disk.media left) (g.H.Wire.acts host) (g.H.Wire.acts left)
          (λ same. c.if-from-upstream.false (same ∙ sym (c.requires.upstream ∙ ap (λ (now : GatewayValue). now.upstream) is.core)))
          (broke settings state is))
          c.take_up.ensures.failed;
      joined = c.take_up.ensures.joined;
      same = c.take_up.ensures.same;
      adds = c.take_up.ensures.adds;
      cause = c.take_up.ensures.cause;
      extent = c.take_up.ensures.extent;
      wire = c.take_up.ensures.wire;
      leads = c.take_up.ensures.leads;
    }
