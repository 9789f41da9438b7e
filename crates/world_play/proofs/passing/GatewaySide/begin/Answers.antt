use Rattle.std.proofs.Common.{[], ◌∙◌, sym, ap, subst}
use Rattle.dots_host.specs.Media.{byte_of}
use Rattle.gateway_agent.specs.Passing.{opened}
use Rattle.gateway_agent.specs.Keeping as keeping
use Rattle.world_play.specs.Parties.{upstream_for}
use Rattle.world_play.specs.Passing.{agent_of}
use Rattle.world_play.proofs.Blank.{zeros_seen, nothing_kept}
use Rattle.world_play.proofs.passing.GatewaySide.begin.Goals as goal

pub returns-in-Ok-clause-is_in : goal.returns-in-Ok-clause-is_in
returns-in-Ok-clause-is_in c =
    let settings = c.args.parties.now.gateway_settings in
    let held = c.in-Ok.ensures.opened (byte_of []) (zeros_seen c.in_ok-host.host.disk c.in_ok-host.ensures.acts.0 c.in_ok-host.ensures.disk.1) in
    let none = nothing_kept settings c.in-Ok.store.exchanges held.0 in
    record {
      is_in =
          subst (λ kept. keeping.IsIn (keeping.agent c.in-Ok.core c.in-Ok.store) (opened settings (upstream_for c.args.parties.now) kept 0)) none
          (subst (λ upstream. keeping.IsIn (keeping.agent c.in-Ok.core c.in-Ok.store) (opened settings upstream c.in-Ok.store.exchanges 0)) c.upstream.ensures c.in-Ok.ensures.begun.1);
      rests = held.1;
    }
