use Rattle.std.proofs.Common.{◌++◌, ◌∙◌, ℕ, Bool, true, List, take, length, drop, Some, ap, subst, arith}
use Rattle.std.specs.Prelude.{flat_map}
use Rattle.dots_world.specs.declared.party.Party.TheVariants.{Gateway as the_gateway}
use Rattle.world_play.specs.Packets.{packets_in}
use Rattle.std.proofs.lemmas.List.{take_all}
use Rattle.std.proofs.lemmas.Result.{on_ok_weaker}
use Rattle.dots_host.specs.declared.event.Event.TheVariants as event
use Rattle.dots_host.specs.Memory.{told}
use Rattle.dots_host.specs.Stored.{media_of}
use Rattle.gateway_agent.specs.Passing.{GatewayState}
use Rattle.gateway_agent.specs.PassingWell.{PassesAs}
use Rattle.gateway_agent.specs.Turning.{TookBy}
use Rattle.world_play.specs.Passing.{agent_of, IsIn}
use Rattle.world_play.specs.declared.passing.GatewaySide.{GatewaySide}
use Rattle.world_play.proofs.Gateways.{has_passed}
use Rattle.world_play.proofs.passing.GatewaySide.pass.Goals as goal

pub returns-clause-passed : goal.returns-clause-passed
returns-clause-passed c =
    let now : GatewaySide = record { core = c.take_telling.new.core; store = c.take_telling.new.store; host = c.take_telling.new.host } in
    let whole = take_all (length c.args.bytes.now) c.args.bytes.now (omega arith) in
    let Took : Bool → List ℕ → GatewayState → Type 0 = λ enough bytes state.
    TookBy (λ outs new. PassesAs enough state (event.Datagram c.args.from bytes) c.args.at outs new) c.args.parties.now.gateway_settings state (agent_of c.args.self.now) (agent_of now)
    (Some (media_of c.args.self.now.host.disk)) (Some (media_of c.take_telling.new.host.disk)) (told c.args.self.now.host.disk.whole c.args.self.now.host.disk.acts) (told c.take_telling.new.host.disk.whole c.take_telling.new.host.disk.acts) in
    let took = λ (state : GatewayState) (is : IsIn c.args.parties.now c.args.self.now state).
    subst (λ bytes. Took true bytes state) whole
    (subst (λ enough. Took enough (take (length c.args.bytes.now) c.args.bytes.now) state) c.in-Ok-true.field-0-test (c.in-Ok-true.ensures.done c.args.parties.now.gateway_settings state is.is_in)) in
    let calls_are = c.since.ensures ∙ ap (λ calls. drop (length calls) c.acts.result.now) c.acts-before.ensures ∙ ap (λ calls. drop (length c.args.self.now.host.disk.acts) calls) c.acts.ensures in
    on_ok_weaker c.post.result
    (λ posted state is.
    has_passed c.args.parties.now state _ c.args.at c.args.self.now now c.args.packets.now.items c.post.new.packets.items is (took state is) (search) c.take_telling.ensures.leads (posted ∙ ap (λ calls. c.args.packets.now.items ++ flat_map (packets_in c.args.parties.now the_gateway) calls) calls_are))
    c.post.ensures.posted
