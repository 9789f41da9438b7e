-- What the parties have done leads from one world to the next.
use Rattle.std.proofs.Common.{◌≡◌, inl, inr, ℕ, zero, suc, ◌%◌, ◌+◌, ◌<◌, take, get_or, ◌^◌, max, List, [], ◌∷◌, ◌++◌, length, map, slice_get, slice_set, Some, None, Option, refl, sym, ap, ◌∙◌, subst, append-nil, arith}
use Rattle.std.specs.Prelude.{flat_map}
use Rattle.std.specs.List.{AllByRecursion, range_with_len}
use Rattle.std.proofs.lemmas.Grind.{take_at_read}
use Rattle.dots_host.specs.declared.event.Event.{Event}
use Rattle.dots_host.specs.declared.event.Event.TheVariants as event
use Rattle.dots_host.specs.declared.out.OwnedOut.{OwnedOut}
use Rattle.dots_host.specs.declared.out.OwnedOut.TheVariants as owned
use Rattle.dots_host.specs.Acts.{WireAct, took}
use Rattle.dots_host.specs.Runs.{outs_of}
use Rattle.dots_settings.specs.Settings.{SettingsValue}
use Rattle.dots_client.specs.declared.ask.Ask.{Ask}
use Rattle.dots_client.specs.Client.{ClientValue, asked_at}
use Rattle.gateway_agent.specs.Passing.{GatewayState}
use Rattle.gateway_agent.specs.PassingWell.{PassesWell}
use Rattle.gateway_agent.specs.Passing as gateway
use Rattle.dots_machine.specs.Machine.{State, Step}
use Rattle.dots_machine.specs.Machine as machine
use Rattle.dots_world.specs.declared.party.Party.{Party}
use Rattle.dots_world.specs.declared.party.Party.TheVariants.{Client as a_client, Gateway as the_gateway, Server as the_server}
use Rattle.dots_world.specs.declared.party.Packet.{Packet}
use Rattle.dots_world.specs.declared.plan.PlanClient.{PlanClient}
use Rattle.dots_world.specs.declared.event.WorldEvent.{WorldEvent}
use Rattle.dots_world.specs.declared.event.WorldEvent.TheVariants as what_comes
use Rattle.dots_machine.specs.Answering.{AreBytes}
use Rattle.dots_world.specs.Plans.{Plan, to_server, to_gateway}
use Rattle.dots_world.specs.Worlds.{World, packet_from, packet_passed, packet_by, sent_act, served, Serves, passed, asked_now, made, unmade, AsksFor, answers_to, AllHandOut, Happens, Runs}
use Rattle.dots_world.specs.OneWorld.{StepsWell, PassesOnWell, ReceivesWell, DeliversWell, HappensWell, RunsWell}
use Rattle.world_play.specs.declared.parties.Parties.{Parties}
use Rattle.world_play.specs.declared.passing.GatewaySide.{GatewaySide}
use Rattle.world_play.specs.declared.serving.ServerSide.{ServerSide}
use Rattle.world_play.specs.Calls.{acts_in}
use Rattle.world_play.specs.Clients.{AskedAt, ReceivedAt, AllHanded}
use Rattle.world_play.specs.Packets.{packet_sent, packet_of}
use Rattle.world_play.specs.Parties.{plan_for, plan_with}
use Rattle.world_play.specs.Passing as passing
use Rattle.world_play.specs.Serving as serving
use Rattle.world_play.specs.Playing.{PlayedValue, PlaysAs, Goes, IsTaken, IsEarly, timed, ComesToServer, ComesToGateway, ComesSo, BeginsSo, HappensSo, RunsSo}

-- ---- any machine

module _ {S : Type 0} (step : S → Event → ℕ → List (S × OwnedOut) → S → Type 0) (plan : Plan) where
  serves_by : (old : World S) (came : Event) (owed : List (S × OwnedOut)) (server : S) → step old.server came old.time owed server → Serves step plan old came (served plan old came owed server)
  serves_by old came owed server did = (owed, server, did, refl)

  pub runs_more : (events : List WorldEvent) (next : WorldEvent) (old between new : World S) → RunsWell step plan old events between → HappensWell step plan between next new → RunsWell step plan old (events ++ next ∷ []) new
  runs_more [] next old between new runs happens = (new, subst (λ from. HappensWell step plan from next new) runs happens, refl)
  runs_more (event ∷ events) next old between new runs happens = (runs.0, runs.1, runs_more events next runs.0 between new runs.2 happens)

passes_by : {S : Type 0} (plan : Plan) (old : World S) (came : Event) (outs : List OwnedOut) (gateway : GatewayState) → PassesWell old.gateway came old.time outs gateway → PassesOnWell plan old came (passed plan old outs gateway)
passes_by plan old came outs gateway did = (outs, gateway, did, refl)

-- ---- one after the other

pub goes_then : (settings : SettingsValue) (first second both : World State → World State → Type 0) (old between new : PlayedValue)
    → ((from middle to : World State) → first from middle → second middle to → both from to) → Goes settings first old between → Goes settings second between new → Goes settings both old new
goes_then settings first second both old between new joins one other = record {
  goes = λ world plays.
      let begins = one.goes world plays in
      let ends = other.goes begins.0 begins.2 in
      (ends.0, joins world begins.0 ends.0 begins.1 ends.1, ends.2);
}

pub goes_weaker : (settings : SettingsValue) (leads so : World State → World State → Type 0) (old new : PlayedValue) → ((from to : World State) → leads from to → so from to) → Goes settings leads old new
    → Goes settings so old new
goes_weaker settings leads so old new weaker goes = record { goes = λ world plays. let there = goes.goes world plays in (there.0, weaker world there.0 there.1, there.2) }

-- nothing happened
pub goes_nowhere : (settings : SettingsValue) (leads : World State → World State → Type 0) (played : PlayedValue) → ((world : World State) → leads world world) → Goes settings leads played played
goes_nowhere settings leads played stays = record { goes = λ world plays. (world, stays world, plays) }

-- ---- packets

from_server_so : (settings : SettingsValue) (parties : Parties) (outs : List OwnedOut) → flat_map (packet_sent parties the_server) outs ≡ flat_map (packet_from (plan_with settings parties)) outs
from_server_so settings parties [] = refl
from_server_so settings parties (owned.To peer bytes ∷ outs) = ap (λ more. packet_sent parties the_server (owned.To peer bytes) ++ more) (from_server_so settings parties outs)
from_server_so settings parties (owned.Conn conn bytes ∷ outs) = from_server_so settings parties outs
from_server_so settings parties (owned.Close conn ∷ outs) = from_server_so settings parties outs

from_gateway_so : (settings : SettingsValue) (parties : Parties) (outs : List OwnedOut) → flat_map (packet_sent parties the_gateway) outs ≡ flat_map (packet_passed (plan_with settings parties)) outs
from_gateway_so settings parties [] = refl
from_gateway_so settings parties (owned.To peer bytes ∷ outs) = ap (λ more. packet_sent parties the_gateway (owned.To peer bytes) ++ more) (from_gateway_so settings parties outs)
from_gateway_so settings parties (owned.Conn conn bytes ∷ outs) = from_gateway_so settings parties outs
from_gateway_so settings parties (owned.Close conn ∷ outs) = from_gateway_so settings parties outs

posted_so : (old world sent also now : List Packet) → now ≡ old ++ sent → old ≡ world → sent ≡ also → now ≡ world ++ also
posted_so old world sent also now posted same so = posted ∙ ap (λ front. front ++ sent) same ∙ ap (λ more. world ++ more) so

acts_so : (old world more now : List WireAct) → now ≡ old ++ more → old ≡ world → now ≡ world ++ more
acts_so old world more now told same = told ∙ ap (λ front. front ++ more) same

-- ---- the server

module _ (settings : SettingsValue) (played : PlayedValue) (world : World State) (plays : PlaysAs settings played world) where
  plays_served : (now : ServerSide) (came : Event) (packets : List Packet) (done : serving.HasServed settings played.parties world.server came played.time now played.server.acts.acts played.packets packets)
      → PlaysAs settings (record played { server = now; packets = packets }) (served (plan_with settings played.parties) world came done.owed done.new)
  plays_served now came packets done = record {
    time = plays.time;
    server = done.is_in;
    gateway = plays.gateway;
    clients = plays.clients;
    packets =
        posted_so played.packets world.packets (flat_map (packet_sent played.parties the_server) (outs_of done.owed)) (flat_map (packet_from (plan_with settings played.parties)) (outs_of done.owed)) packets done.sent plays.packets
        (from_server_so settings played.parties (outs_of done.owed));
    acts = done.told ∙ ap (λ at. acts_in played.server.acts.acts ++ took came at ∷ map sent_act (outs_of done.owed)) plays.time ∙ ap (λ front. front ++ took came world.time ∷ map sent_act (outs_of done.owed)) plays.acts;
  }

  plays_restarted : (now : ServerSide) → serving.HasRestarted settings world.server played.time now played.server.acts.acts
      → PlaysAs settings (record played { server = now }) (served (plan_with settings played.parties) world event.Restart [] (machine.restarted settings world.server world.time))
  plays_restarted now done = record {
    time = plays.time;
    server = subst (λ at. serving.IsIn settings now (machine.restarted settings world.server at)) plays.time done.is_in;
    gateway = plays.gateway;
    clients = plays.clients;
    packets = plays.packets ∙ sym (append-nil world.packets);
    acts = done.told ∙ ap (λ at. acts_in played.server.acts.acts ++ took event.Restart at ∷ []) plays.time ∙ ap (λ front. front ++ took event.Restart world.time ∷ []) plays.acts;
  }

  plays_passed : (now : GatewaySide) (came : Event) (packets : List Packet) (done : passing.HasPassed played.parties world.gateway came played.time now played.packets packets)
      → PlaysAs settings (record played { gateway = now; packets = packets }) (passed (plan_with settings played.parties) world done.outs done.new)
  plays_passed now came packets done = record {
    time = plays.time;
    server = plays.server;
    gateway = done.is_in;
    clients = plays.clients;
    packets =
        posted_so played.packets world.packets (flat_map (packet_sent played.parties the_gateway) done.outs) (flat_map (packet_passed (plan_with settings played.parties)) done.outs) packets done.sent plays.packets
        (from_gateway_so settings played.parties done.outs);
    acts = plays.acts;
  }

  plays_reopened : (now : GatewaySide) → passing.IsIn played.parties now (gateway.restarted world.gateway played.time)
      → PlaysAs settings (record played { gateway = now }) (passed (plan_with settings played.parties) world [] (gateway.restarted world.gateway world.time))
  plays_reopened now done = record {
    time = plays.time;
    server = plays.server;
    gateway = subst (λ at. passing.IsIn played.parties now (gateway.restarted world.gateway at)) plays.time done;
    clients = plays.clients;
    packets = plays.packets ∙ sym (append-nil world.packets);
    acts = plays.acts;
  }

  plays_later : (at : ℕ) → PlaysAs settings (record played { time = max played.time at }) (timed at world)
  plays_later at = record { time = ap (λ time. max time at) plays.time; server = plays.server; gateway = plays.gateway; clients = plays.clients; packets = plays.packets; acts = plays.acts }

module _ (settings : SettingsValue) (played : PlayedValue) where
  pub serves : (now : ServerSide) (came : Event) (packets : List Packet)
      → ((state : State) → serving.IsIn settings played.server state → serving.HasServed settings played.parties state came played.time now played.server.acts.acts played.packets packets)
      → Goes settings (λ old new. Serves (StepsWell (Step settings)) (plan_with settings played.parties) old came new) played (record played { server = now; packets = packets })
  serves now came packets did = record {
    goes = λ world plays.
        let done = did world.server plays.server in (
          served (plan_with settings played.parties) world came done.owed done.new,
          serves_by (StepsWell (Step settings)) (plan_with settings played.parties) world came done.owed done.new (subst (λ at. StepsWell (Step settings) world.server came at done.owed done.new) plays.time done.step),
          plays_served settings played world plays now came packets done,
        );
  }

  pub restarts : (now : ServerSide) → ((state : State) → serving.IsIn settings played.server state → serving.HasRestarted settings state played.time now played.server.acts.acts)
      → Goes settings (λ old new. Serves (StepsWell (Step settings)) (plan_with settings played.parties) old event.Restart new) played (record played { server = now })
  restarts now did = record {
    goes = λ world plays. (
      served (plan_with settings played.parties) world event.Restart [] (machine.restarted settings world.server world.time),
      serves_by (StepsWell (Step settings)) (plan_with settings played.parties) world event.Restart [] (machine.restarted settings world.server world.time) ((refl, refl), refl),
      plays_restarted settings played world plays now (did world.server plays.server),
    );
  }

  pub passes_on : (now : GatewaySide) (came : Event) (packets : List Packet)
      → ((state : GatewayState) → passing.IsIn played.parties played.gateway state → passing.HasPassed played.parties state came played.time now played.packets packets)
      → Goes settings (λ old new. PassesOnWell (plan_with settings played.parties) old came new) played (record played { gateway = now; packets = packets })
  passes_on now came packets did = record {
    goes = λ world plays.
        let done = did world.gateway plays.gateway in (
          passed (plan_with settings played.parties) world done.outs done.new,
          passes_by (plan_with settings played.parties) world came done.outs done.new (subst (λ at. PassesWell world.gateway came at done.outs done.new) plays.time done.passes),
          plays_passed settings played world plays now came packets done,
        );
  }

  pub reopens : (now : GatewaySide) → ((state : GatewayState) → passing.IsIn played.parties played.gateway state → passing.IsIn played.parties now (gateway.restarted state played.time))
      → Goes settings (λ old new. PassesOnWell (plan_with settings played.parties) old event.Restart new) played (record played { gateway = now })
  reopens now did = record {
    goes = λ world plays. (
      passed (plan_with settings played.parties) world [] (gateway.restarted world.gateway world.time),
      passes_by (plan_with settings played.parties) world event.Restart [] (gateway.restarted world.gateway world.time) (refl, refl),
      plays_reopened settings played world plays now (did world.gateway plays.gateway),
    );
  }

-- at a later time
pub goes_later : (settings : SettingsValue) (played new : PlayedValue) (leads : World State → World State → Type 0) (at : ℕ) → Goes settings leads (record played { time = max played.time at }) new
    → Goes settings (λ old next. leads (timed at old) next) played new
goes_later settings played new leads at goes = record { goes = λ world plays. goes.goes (timed at world) (plays_later settings played world plays at) }

-- ---- the clients

there_too : {A : Type 0} {B : Type 0} (xs : List A) (ys : List B) (i : ℕ) (y : B) → length ys ≡ length xs → slice_get ys i ≡ Some y → (x : A) × (slice_get xs i ≡ Some x)
there_too xs [] i y same is = absurd (cc is)
there_too [] (first ∷ ys) i y same is = absurd (omega (arith, same))
there_too (x ∷ xs) (first ∷ ys) zero y same is = (x, refl)
there_too (x ∷ xs) (first ∷ ys) (suc i) y same is = there_too xs ys i y (omega (arith, same)) is

abbrev with_sent : World State → List ClientValue → List Packet → World State
with_sent world clients packets = record world { clients = clients; packets = packets }

sent_same : (world : World State) (one other : List ClientValue) (sent posted : List Packet) → one ≡ other → sent ≡ posted → with_sent world one sent ≡ with_sent world other posted
sent_same world one other sent posted same also = ap (λ clients. with_sent world clients sent) same ∙ ap (with_sent world other) also

plays_sent : (settings : SettingsValue) (played : PlayedValue) (world : World State) (clients : List ClientValue) (packets : List Packet) → PlaysAs settings played world
    → PlaysAs settings (record played { clients = clients; packets = packets }) (with_sent world clients packets)
plays_sent settings played world clients packets plays = record { time = plays.time; server = plays.server; gateway = plays.gateway; clients = refl; packets = refl; acts = plays.acts }

all_hand_out : (plan : Plan) (world : World State) (places : List ℕ) (clients new : List ClientValue) (packets packets_now : List Packet) → clients ≡ world.clients → packets ≡ world.packets
    → AllHanded plan.clients world.time places clients packets new packets_now → AllHandOut plan places world (with_sent world new packets_now)
all_hand_out plan world [] clients new packets packets_now here so all = sent_same world new world.clients packets_now world.packets (all.0 ∙ here) (all.1 ∙ so)
all_hand_out plan world (place ∷ places) clients new packets packets_now here so all =
    let (c, planned, between, posted, out, rest) = all in
    let next = with_sent world between posted in (
      next,
      record {
        c = c;
        client = out.client;
        is = record { planned = planned; there = subst (λ cs. slice_get cs place ≡ Some out.client) here out.there };
        messages = out.messages;
        after = out.after;
        drains = out.drains;
        leaves = sent_same world between (slice_set world.clients place out.after) posted (world.packets ++ map (packet_by place c) out.messages) (out.leaves ∙ ap (λ cs. slice_set cs place out.after) here)
            (out.posted ∙ ap (λ ps. ps ++ map (packet_by place c) out.messages) so);
      },
      all_hand_out plan next places between new posted packets_now refl refl rest,
    )

pub hand_out : (settings : SettingsValue) (played : PlayedValue) (new : List ClientValue) (packets : List Packet)
    → AllHanded played.parties.clients played.time (range_with_len 0 (length played.parties.clients)) played.clients played.packets new packets
    → Goes settings (λ old next. AllHandOut (plan_with settings played.parties) (range_with_len 0 (length played.parties.clients)) old next) played (record played { clients = new; packets = packets })
hand_out settings played new packets all = record {
  goes = λ world plays.
      let places = range_with_len 0 (length played.parties.clients) in (
        with_sent world new packets,
        all_hand_out (plan_with settings played.parties) world places played.clients new played.packets packets plays.clients plays.packets
            (subst (λ at. AllHanded played.parties.clients at places played.clients played.packets new packets) plays.time all),
        plays_sent settings played world new packets plays,
      );
}

-- a client got a packet
received : (plan : Plan) (world : World State) (place : ℕ) (c : PlanClient) (bytes : List ℕ) (clients new : List ClientValue) (packets packets_now : List Packet) → clients ≡ world.clients
    → packets ≡ world.packets → slice_get plan.clients place ≡ Some c → ReceivedAt clients place c.behind bytes world.time new packets packets_now
    → ReceivesWell plan world place bytes (with_sent world new packets_now)
received plan world place c bytes clients new packets packets_now here so planned got = (
  record {
    c = c;
    client = got.client;
    is = record { planned = planned; there = subst (λ cs. slice_get cs place ≡ Some got.client) here got.there };
    said = got.said;
    after = got.after;
    receives = got.receives;
    leaves = sent_same world new (slice_set world.clients place got.after) packets_now (world.packets ++ map (packet_by place c) (answers_to got.said)) (got.leaves ∙ ap (λ cs. slice_set cs place got.after) here)
        (got.posted ∙ ap (λ ps. ps ++ map (packet_by place c) (answers_to got.said)) so);
  },
  got.enough,
)

pub receives : (settings : SettingsValue) (played : PlayedValue) (place : ℕ) (c : PlanClient) (bytes : List ℕ) (new : List ClientValue) (packets : List Packet) → slice_get played.parties.clients place ≡ Some c
    → ReceivedAt played.clients place c.behind bytes played.time new played.packets packets
    → Goes settings (λ old next. ReceivesWell (plan_with settings played.parties) old place bytes next) played (record played { clients = new; packets = packets })
receives settings played place c bytes new packets planned got = record {
  goes = λ world plays. (
    with_sent world new packets,
    received (plan_with settings played.parties) world place c bytes played.clients new played.packets packets plays.clients plays.packets planned
        (subst (λ at. ReceivedAt played.clients place c.behind bytes at new played.packets packets) plays.time got),
    plays_sent settings played world new packets plays,
  );
}

-- a client asked
plays_asked : (settings : SettingsValue) (played : PlayedValue) (world : World State) (place : ℕ) (c : PlanClient) (client : ClientValue) (what : Ask) (new : List ClientValue) → PlaysAs settings played world
    → new ≡ slice_set played.clients place (asked_at client what played.time (client.number % 2 ^ 16)) → PlaysAs settings (record played { clients = new }) (asked_now world place c client what)
plays_asked settings played world place c client what new plays leaves = record {
  time = plays.time;
  server = plays.server;
  gateway = plays.gateway;
  clients = leaves ∙ ap (λ cs. slice_set cs place (asked_at client what played.time (client.number % 2 ^ 16))) plays.clients ∙ ap (λ at. slice_set world.clients place (asked_at client what at (client.number % 2 ^ 16))) plays.time;
  packets = plays.packets ∙ sym (append-nil world.packets);
  acts = plays.acts;
}

plays_unasked : (settings : SettingsValue) (played : PlayedValue) (world : World State) (new : List ClientValue) → PlaysAs settings played world → new ≡ played.clients → PlaysAs settings (record played { clients = new }) world
plays_unasked settings played world new plays same = record { time = plays.time; server = plays.server; gateway = plays.gateway; clients = same ∙ plays.clients; packets = plays.packets; acts = plays.acts }

pub asks : (settings : SettingsValue) (played : PlayedValue) (place : ℕ) (what : Ask) (new : List ClientValue) → length played.clients ≡ length played.parties.clients
    → AskedAt played.clients place what played.time new → Goes settings (λ old next. AsksFor (plan_with settings played.parties) old place what next) played (record played { clients = new })
asks settings played place what new lengths (inl asked) = record {
  goes = λ world plays.
      let (client, there, may, leaves) = asked in
      let planned = there_too played.parties.clients played.clients place client lengths there in (
        asked_now world place planned.0 client what,
        made planned.0 client (record { planned = planned.1; there = subst (λ cs. slice_get cs place ≡ Some client) plays.clients there }) may refl,
        plays_asked settings played world place planned.0 client what new plays leaves,
      );
}
asks settings played place what new lengths (inr unasked) = record {
  goes = λ world plays. (
    world,
    unmade (λ c client is may. unasked.0 client (subst (λ cs. slice_get cs place ≡ Some client) (sym plays.clients) is.there) may) refl,
    plays_unasked settings played world new plays unasked.1,
  );
}

-- ---- where packets come to

pub to_server_so : (settings : SettingsValue) (parties : Parties) (source : Party) → to_server (plan_for parties) source ≡ to_server (plan_with settings parties) source
to_server_so settings parties (a_client i) = refl
to_server_so settings parties the_gateway = refl
to_server_so settings parties the_server = refl

pub to_gateway_so : (settings : SettingsValue) (parties : Parties) (source : Party) → to_gateway (plan_for parties) source ≡ to_gateway (plan_with settings parties) source
to_gateway_so settings parties (a_client i) = refl
to_gateway_so settings parties the_gateway = refl
to_gateway_so settings parties the_server = refl

pub comes_nowhere : (settings : SettingsValue) (parties : Parties) (source : Party) (bytes : List ℕ) (world : World State) → ComesSo settings parties source None bytes world world
unfolding ComesSo
comes_nowhere settings parties source bytes world = refl

pub comes_to_server : (settings : SettingsValue) (parties : Parties) (source : Party) (bytes : List ℕ) (old new : World State) → ComesToServer (StepsWell (Step settings)) (plan_with settings parties) old source bytes new
    → ComesSo settings parties source (Some the_server) bytes old new
unfolding ComesSo
comes_to_server settings parties source bytes old new came = came

pub comes_to_gateway : (settings : SettingsValue) (parties : Parties) (source : Party) (bytes : List ℕ) (old new : World State) → ComesToGateway (plan_with settings parties) source bytes old new
    → ComesSo settings parties source (Some the_gateway) bytes old new
unfolding ComesSo
comes_to_gateway settings parties source bytes old new came = came

pub comes_to_client : (settings : SettingsValue) (parties : Parties) (source : Party) (place : ℕ) (bytes : List ℕ) (old new : World State) → ReceivesWell (plan_with settings parties) old place bytes new
    → ComesSo settings parties source (Some (a_client place)) bytes old new
unfolding ComesSo
comes_to_client settings parties source place bytes old new came = came

-- ---- what happens

pub begins_ask : (settings : SettingsValue) (parties : Parties) (place : ℕ) (what : Ask) (old new : World State) → AsksFor (plan_with settings parties) old place what new → BeginsSo settings parties (what_comes.Ask place what) old new
unfolding BeginsSo
begins_ask settings parties place what old new asked = asked

pub begins_tick : (settings : SettingsValue) (parties : Parties) (at : ℕ) (old new : World State) → Serves (StepsWell (Step settings)) (plan_with settings parties) (timed at old) event.Tick new
    → BeginsSo settings parties (what_comes.Tick at) old new
unfolding BeginsSo
begins_tick settings parties at old new served = served

pub begins_restart : (settings : SettingsValue) (parties : Parties) (old new : World State) → Serves (StepsWell (Step settings)) (plan_with settings parties) old event.Restart new → BeginsSo settings parties what_comes.Restart old new
unfolding BeginsSo
begins_restart settings parties old new served = served

pub begins_reopen : (settings : SettingsValue) (parties : Parties) (old new : World State) → PassesOnWell (plan_with settings parties) old event.Restart new → BeginsSo settings parties what_comes.GatewayRestart old new
unfolding BeginsSo
begins_reopen settings parties old new passed = passed

begins_delivered : (settings : SettingsValue) (parties : Parties) (number : ℕ) (p : Packet) (old new : World State) → slice_get old.packets number ≡ Some p → AreBytes p.bytes
    → ComesSo settings parties p.source p.target p.bytes old new → BeginsSo settings parties (what_comes.Deliver number) old new
unfolding BeginsSo ComesSo
begins_delivered settings parties number p old new is bytes came = subst (λ found. DeliversWell (Step settings) (plan_with settings parties) old found new) (sym is) (bytes, came)

begins_nothing : (settings : SettingsValue) (parties : Parties) (number : ℕ) (world : World State) → slice_get world.packets number ≡ None → BeginsSo settings parties (what_comes.Deliver number) world world
unfolding BeginsSo
begins_nothing settings parties number world is = subst (λ found. DeliversWell (Step settings) (plan_with settings parties) world found world) (sym is) refl

pub delivered : (settings : SettingsValue) (played new : PlayedValue) (number : ℕ) (p : Packet) → slice_get played.packets number ≡ Some p → AreBytes p.bytes
    → Goes settings (ComesSo settings played.parties p.source p.target p.bytes) played new → Goes settings (BeginsSo settings played.parties (what_comes.Deliver number)) played new
delivered settings played new number p is bytes goes = record {
  goes = λ world plays.
      let there = goes.goes world plays in
      (there.0, begins_delivered settings played.parties number p world there.0 (subst (λ packets. slice_get packets number ≡ Some p) plays.packets is) bytes there.1, there.2);
}

pub undelivered : (settings : SettingsValue) (played : PlayedValue) (number : ℕ) → slice_get played.packets number ≡ None → Goes settings (BeginsSo settings played.parties (what_comes.Deliver number)) played played
undelivered settings played number is = record {
  goes = λ world plays. (world, begins_nothing settings played.parties number world (subst (λ packets. slice_get packets number ≡ None) plays.packets is), plays);
}

pub happens_by : (settings : SettingsValue) (parties : Parties) (what : WorldEvent) (old between new : World State) → BeginsSo settings parties what old between
    → AllHandOut (plan_with settings parties) (range_with_len 0 (length parties.clients)) between new → HappensSo settings parties what old new
unfolding BeginsSo HappensSo
happens_by settings parties what old between new begins hands = (between, begins, hands)

pub runs_none : (settings : SettingsValue) (parties : Parties) (world : World State) → RunsSo settings parties [] world world
unfolding RunsSo
runs_none settings parties world = refl

pub runs_on : (settings : SettingsValue) (parties : Parties) (events : List WorldEvent) (next : WorldEvent) (old between new : World State) → RunsSo settings parties events old between
    → HappensSo settings parties next between new → RunsSo settings parties (events ++ next ∷ []) old new
unfolding RunsSo HappensSo
runs_on settings parties events next old between new runs happens = runs_more (Step settings) (plan_with settings parties) events next old between new runs happens

pub runs_are : (settings : SettingsValue) (parties : Parties) (events : List WorldEvent) (old new : World State) → RunsSo settings parties events old new
    → RunsWell (Step settings) (plan_with settings parties) old events new
unfolding RunsSo
runs_are settings parties events old new runs = runs

pub is_taken : (what : WorldEvent) → (what ≡ what_comes.Restart → ⊥) → (what ≡ what_comes.GatewayRestart → ⊥) → IsTaken what
is_taken (what_comes.Ask place ask) one other = tt
is_taken (what_comes.Tick at) one other = tt
is_taken (what_comes.Deliver number) one other = tt
is_taken what_comes.Restart one other = one refl
is_taken what_comes.GatewayRestart one other = other refl

pub early_at : (events : List WorldEvent) (i : ℕ) (other : WorldEvent) → AllByRecursion IsEarly events → i < length events → IsEarly (get_or events i other)
early_at [] i other all less = absurd (omega (arith, less))
early_at (first ∷ events) zero other all less = all.0
early_at (first ∷ events) (suc i) other all less = early_at events i other all.1 (omega (arith, less))

pub goes_on : (settings : SettingsValue) (parties now : Parties) (events : List WorldEvent) (i : ℕ) (next : WorldEvent) (old between new : PlayedValue) → i < length events → next ≡ get_or events i next → now ≡ parties
    → Goes settings (RunsSo settings parties (take i events)) old between → Goes settings (HappensSo settings now next) between new → Goes settings (RunsSo settings parties (take (i + 1) events)) old new
goes_on settings parties now events i next old between new less is same runs happens =
    subst (λ so_far. Goes settings (RunsSo settings parties so_far) old new) (sym ((take_at_read events i next less).1 ∙ ap (λ last. take i events ++ last ∷ []) (sym is)))
    (goes_then settings (RunsSo settings parties (take i events)) (HappensSo settings parties next) (RunsSo settings parties (take i events ++ next ∷ [])) old between new (runs_on settings parties (take i events) next) runs
    (subst (λ parties. Goes settings (HappensSo settings parties next) between new) same happens))
