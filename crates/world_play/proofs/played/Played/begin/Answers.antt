use Rattle.std.proofs.Common.{refl, sym, ap, ◌∙◌, subst, map, length, arith}
use Rattle.std.specs.List.{AllByRecursion}
use Rattle.std.proofs.lemmas.List.{length-map}
use Rattle.dots_world.specs.Worlds.{new_client}
use Rattle.world_play.specs.Calls.{acts_in}
use Rattle.world_play.specs.Packets.{IsRoutable}
use Rattle.world_play.proofs.played.Played.begin.Goals as goal

pub returns-clause-sound : goal.returns-clause-sound
returns-clause-sound c = record {
  few = c.requires.few;
  early = omega arith;
  server = c.in_ok-server.ensures.ready;
  gateway = c.in_ok-gateway.ensures.ready;
  clients = ap length c.in_ok-clients.ensures ∙ length-map c.items.result.now new_client ∙ ap length c.items.ensures;
  packets = subst (AllByRecursion (IsRoutable (record { gateway_settings = c.args.plan.gateway_settings; gateway = c.args.plan.gateway; clients = c.args.plan.clients }))) (sym c.new.ensures.items) tt;
}

pub returns-clause-plays : goal.returns-clause-plays
returns-clause-plays c = record {
  time = refl;
  server = c.in_ok-server.ensures.is_in;
  gateway = c.in_ok-gateway.ensures.is_in;
  clients = c.in_ok-clients.ensures ∙ ap (map new_client) c.items.ensures;
  packets = c.new.ensures.items;
  acts = ap acts_in c.in_ok-server.ensures.acts;
}
