-- An entry whose reply is a grant is of a mitigation that was asked for, and the grant tells what was granted.
use Rattle.std.specs.Prelude.{FitsSigned}
use Rattle.std.specs.Int.{w32}
use Rattle.std.proofs.Common.{◌≡◌, ◌<◌, ◌^◌, ℕ, ℤ, Bool, true, false, List, [], refl, sym, subst, arith}
use Rattle.coap_message.specs.declared.codes.TheConstants.{DELETED, CREATED, CHANGED}
use Rattle.dots_settings.specs.Settings.{SettingsValue}
use Rattle.dots_settings.specs.Lookups.{role_of}
use Rattle.dots_keys.specs.declared.head_request.MitigationPath.{MitigationPath}
use Rattle.dots_keys.specs.declared.request.MitigationBody.{MitigationBody}
use Rattle.dots_keys.specs.declared.request.Request.{Request}
use Rattle.dots_keys.specs.declared.request.Request.TheVariants as request
use Rattle.dots_history.specs.declared.entry.Entry.{Entry}
use Rattle.dots_keys.specs.declared.exchange.Exchange.{Exchange}
use Rattle.dots_machine.specs.declared.received.Received.TheVariants as got
use Rattle.dots_machine.specs.Domains.{is_gateway}
use Rattle.dots_machine.specs.Requests.{IsReceived}
use Rattle.dots_machine.specs.Replies.{configuring, deleted}
use Rattle.dots_client.specs.Grants.{IsGranted}
use Rattle.dots_world.specs.Adding.{CarriesPut, Carries, CarriesRequest}
use Rattle.dots_world.specs.Granting.{IsGrant, IsGrantFor}
use Rattle.dots_world.proofs.Telling.{IsQuiet, quiet, plain_message, grant_says}
use Rattle.dots_world.proofs.Deciding.{IsExchange, empty_quiet}
use Rattle.dots_world.proofs.Adding.{asked_exchange}
use Rattle.dots_world.proofs.Bounds.{mid_below, lifetime_within}
use Rattle.dots_world.proofs.OneGrant.{one_granted, lasting, spelled, granted_message, is_message}

module _ (settings : SettingsValue) (datagram : List ℕ) (gateway : Bool) (x : Exchange) (fit : IsExchange x) (entry : Entry) (token : List ℕ) (mid : ℕ) (lifetime : ℤ) (grant : IsGrant entry.reply token mid lifetime) where
  no_grant : {A : Type 0} (reply : List ℕ) → entry.reply ≡ reply → IsQuiet reply → A
  no_grant reply is none = absurd (none (grant_says reply token mid lifetime (subst (λ bytes. IsGrant bytes token mid lifetime) is grant)))

  configured_quiet : (replaced : Bool) → IsQuiet (configuring x replaced)
  configured_quiet true = empty_quiet x fit CHANGED (omega arith) (λ none. absurd (cc none))
  configured_quiet false = empty_quiet x fit CREATED (omega arith) (λ none. absurd (cc none))

  module _ (path : MitigationPath) (body : MitigationBody) (c : CarriesPut settings x path body entry) (received : IsReceived datagram gateway (got.Asked x (request.PutMitigation path body))) where
    told : FitsSigned w32 c.put.granted → (token ≡ x.token) × (mid ≡ c.put.mid) × (lifetime ≡ c.put.granted)
    told fits =
        one_granted entry.reply token mid c.put.mid lifetime c.put.granted grant (granted_message x c.put c.refreshed) (is_message x c.put c.refreshed fit.identifier fit.token) c.reply
        (spelled c.put.mid c.put.granted (mid_below path body c.put.mid c.mid datagram gateway x received) fits)

    fits_below : settings.ceiling < 2 ^ 31 → FitsSigned w32 c.put.granted
    fits_below below = subst (FitsSigned w32) (sym c.lasts) (lifetime_within body.lifetime settings.ceiling settings.indefinite below)

    of_put : IsGrantFor settings x entry token mid lifetime
    of_put = record {
      put = c.put;
      changes = c.changes;
      within = λ below. subst IsGranted (told (fits_below below)).2 grant.grants.lasts;
      same = λ lasts. told (lasting c.put.granted lasts);
    }

  by_request : (asked : Request) → IsReceived datagram gateway (got.Asked x asked) → Carries settings x asked entry → IsGrantFor settings x entry token mid lifetime
  by_request (request.PutMitigation path body) received c = of_put path body c received
  by_request (request.DeleteMitigation path) received c = no_grant (deleted x) c.reply (quiet (plain_message DELETED x []) refl)
  by_request (request.PutConfig sid body) received c = no_grant (configuring x c.replaced) c.reply (configured_quiet c.replaced)
  by_request (request.DeleteConfig sid) received c = no_grant (deleted x) c.reply (quiet (plain_message DELETED x []) refl)
  by_request (request.GetMitigation path content observe) received c = absurd c
  by_request (request.GetConfig sid) received c = absurd c
  by_request (request.PutHeartbeat heard) received c = absurd c

pub grant_stays : (settings : SettingsValue) (time peer : ℕ) (datagram : List ℕ) (entry : Entry) (token : List ℕ) (mid : ℕ) (lifetime : ℤ)
    (carries : CarriesRequest settings time peer datagram entry) → IsGrant entry.reply token mid lifetime → IsGrantFor settings carries.exchange entry token mid lifetime
grant_stays settings time peer datagram entry token mid lifetime carries grant =
    by_request settings datagram (is_gateway (role_of settings peer)) carries.exchange (asked_exchange datagram (is_gateway (role_of settings peer)) carries.exchange carries.asked carries.received)
    entry token mid lifetime grant carries.asked carries.received carries.carries
