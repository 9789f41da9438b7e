use Rattle.std.proofs.Common.{◌≡◌, ◌++◌, ◌∙◌, length, drop, ap, subst}
use Rattle.std.specs.Prelude.{flat_map, count_by}
use Rattle.dots_load.specs.Report.{unavailable}
use Rattle.std.proofs.lemmas.Result.{on_ok_weaker}
use Rattle.dots_host.specs.Acts.{event_of}
use Rattle.dots_world.specs.declared.party.Party.TheVariants.{Server as the_server}
use Rattle.world_play.specs.declared.serving.ServerSide.{ServerSide}
use Rattle.world_play.specs.Calls.{sent_in, given_in}
use Rattle.world_play.specs.Packets.{packets_in}
use Rattle.world_play.proofs.Sends.{none_unavailable}
use Rattle.world_play.proofs.Servers.{has_served}
use Rattle.world_play.proofs.serving.ServerSide.serve.Goals as goal

pub returns-clause-served : goal.returns-clause-served
returns-clause-served c =
    let now : ServerSide = record { server = c.handle.new.self; host = c.handle.new.host; acts = c.tell.new.acts } in
    let calls_are = c.since-calls.ensures ∙ ap (λ calls. drop (length calls) c.acts.result.now) c.acts-before.ensures ∙ ap (λ calls. drop (length c.args.self.now.host.disk.acts) calls) c.acts.ensures in
    on_ok_weaker c.post.result
    (λ posted settings state is.
    has_served settings c.args.parties.now state (event_of c.args.what c.args.room.now) c.args.at c.args.self.now now c.record_taken.new.self.acts c.args.packets.now.items c.post.new.packets.items is
    (c.in-Ok.ensures.done settings state is.entries is.kept) (search) c.handle.ensures.leads c.if-not-record_taken.ensures.acts
    (subst (λ calls. count_by unavailable (flat_map sent_in calls) ≡ 0) calls_are (none_unavailable c.since-calls.result.now c.is_served.result c.is_served.ensures (search)))
    (c.in_ok-tell.ensures ∙ ap (λ calls. c.record_taken.new.self.acts ++ flat_map given_in calls) calls_are)
    (posted ∙ ap (λ calls. c.args.packets.now.items ++ flat_map (packets_in c.args.parties.now the_server) calls) calls_are))
    c.post.ensures.posted
