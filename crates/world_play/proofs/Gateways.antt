-- What the gateway of a world has done.
use Rattle.std.proofs.Common.{◌≡◌, ℕ, true, List, [], ◌∷◌, ◌++◌, length, drop, Option, Some, refl, sym, ap, ◌∙◌, subst}
use Rattle.std.specs.Prelude.{flat_map}
use Rattle.dots_host.specs.declared.event.Event.{Event}
use Rattle.dots_host.specs.Acts.{Timed}
use Rattle.dots_host.specs.Memory.{told}
use Rattle.dots_host.specs.Runs.{Gives}
use Rattle.dots_host.proofs.RunLemmas.{added_weaker}
use Rattle.dots_host.specs.Stored.{media_of}
use Rattle.dots_host.specs.Hosted.{HandsOut}
use Rattle.dots_world.specs.declared.party.Packet.{Packet}
use Rattle.dots_world.specs.declared.party.Party.TheVariants.{Gateway as the_gateway}
use Rattle.gateway_agent.specs.Stores.{IsOn}
use Rattle.gateway_agent.specs.Passing.{GatewayState}
use Rattle.gateway_agent.specs.PassingWell.{PassesWell}
use Rattle.gateway_agent.specs.Turning.{TookBy}
use Rattle.world_play.specs.declared.parties.Parties.{Parties}
use Rattle.world_play.specs.declared.passing.GatewaySide.{GatewaySide}
use Rattle.world_play.specs.Calls.{sent_in}
use Rattle.world_play.specs.Packets.{packet_sent, packets_in}
use Rattle.world_play.specs.Passing.{agent_of, IsIn, HasPassed}
use Rattle.world_play.proofs.Packets.{packets_are}
use Rattle.world_play.proofs.Sends.{AreSends, given_sends, rests_on, added_calls}

pub has_passed : (parties : Parties) (state : GatewayState) (came : Event) (at : ℕ) (old now : GatewaySide) (packets packets_now : List Packet) → IsIn parties old state
    → TookBy (λ outs new. PassesWell state came at outs new) parties.gateway_settings state (agent_of old) (agent_of now) (Some (media_of old.host.disk)) (Some (media_of now.host.disk)) (told old.host.disk.whole old.host.disk.acts)
    (told now.host.disk.whole now.host.disk.acts)
    → now.host.disk.whole ≡ true → HandsOut old.host now.host
    → packets_now ≡ packets ++ flat_map (packets_in parties the_gateway) (drop (length old.host.disk.acts) now.host.disk.acts) → HasPassed parties state came at now packets packets_now
has_passed parties state came at old now packets packets_now is took whole leads posted =
    let turned = took.turned in
    let added = added_weaker _ _ (Gives turned.moment took.outs) (AreSends took.outs) turned.gives (λ more gives. given_sends turned.moment took.outs more gives) in
    let calls = drop (length old.host.disk.acts) now.host.disk.acts in
    let sent = added_calls old.host now.host took.outs whole leads added in
    record {
      outs = took.outs;
      new = took.new;
      passes = took.made;
      is_in = record { is_in = took.is_in; rests = rests_on turned.between _ _ turned.sends (turned.rests is.rests) };
      sent = posted ∙ ap (λ more. packets ++ more) (packets_are parties the_gateway calls ∙ ap (flat_map (packet_sent parties the_gateway)) sent);
    }
