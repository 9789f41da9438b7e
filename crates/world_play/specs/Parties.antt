-- The parties as a plan, and whom they send to.
use Rattle.std.specs.Prelude.{ℕ, Option, unwrap_or}
use Rattle.dots_settings.specs.Settings.{SettingsValue}
use Rattle.dots_world.specs.declared.party.Party.{Party}
use Rattle.dots_world.specs.declared.party.Party.TheVariants.{Gateway as the_gateway}
use Rattle.dots_world.specs.Plans.{Plan, from_server, from_gateway}
use Rattle.world_play.specs.declared.parties.Parties.{Parties}
use Rattle.world_play.specs.declared.plan.WorldPlan.{WorldPlan}

abbrev pub plan_of : WorldPlan → Plan
plan_of plan = record { settings = plan.settings; gateway_settings = plan.gateway_settings; gateway = plan.gateway; clients = plan.clients }

abbrev pub plan_with : SettingsValue → Parties → Plan
plan_with settings parties = record { settings = settings; gateway_settings = parties.gateway_settings; gateway = parties.gateway; clients = parties.clients }

-- Where packets go doesn't hang on the settings of the server.
abbrev pub plan_for : Parties → Plan
plan_for parties = plan_with parties.gateway_settings parties

-- to whom the gateway, and to whom the server sends what it sends to a peer
abbrev pub target_from : Parties → Party → ℕ → Option Party
target_from parties the_gateway peer = from_gateway (plan_for parties) peer
target_from parties _ peer = from_server (plan_for parties) peer

-- the peer that the server is for the gateway
abbrev pub upstream_for : Parties → ℕ
upstream_for parties = unwrap_or parties.gateway_settings.upstream 0
