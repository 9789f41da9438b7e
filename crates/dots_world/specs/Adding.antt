-- What an entry that a datagram adds carries of what the datagram asks.
use Rattle.std.specs.Prelude.{◌≡◌, ◌⊎◌, ℕ, Bool, true, false, List, [], ◌∷◌, ◌++◌, pos, Option, Some, Ok}
use Rattle.lifetime_clock.specs.Lifetime.{granted}
use Rattle.dots_settings.specs.Settings.{SettingsValue}
use Rattle.dots_settings.specs.Lookups.{role_of}
use Rattle.dots_keys.specs.declared.head_request.MitigationPath.{MitigationPath}
use Rattle.dots_keys.specs.declared.request.Request.{Request}
use Rattle.dots_keys.specs.declared.request.Request.TheVariants as request
use Rattle.dots_keys.specs.declared.request.MitigationBody.{MitigationBody}
use Rattle.dots_keys.specs.declared.request.ConfigBody.{ConfigBody}
use Rattle.dots_history.specs.declared.entry.Entry.{Entry}
use Rattle.dots_history.specs.declared.put.Put.{Put}
use Rattle.dots_history.specs.declared.config.Config.{Config}
use Rattle.dots_history.specs.declared.change.Change.TheVariants as change
use Rattle.session_core.specs.Negotiating.{negotiated}
use Rattle.dots_keys.specs.declared.exchange.Exchange.{Exchange}
use Rattle.dots_machine.specs.declared.received.Received.TheVariants as received
use Rattle.dots_machine.specs.Domains.{is_gateway, is_stranger}
use Rattle.dots_machine.specs.Requests.{IsReceived}
use Rattle.dots_machine.specs.Replies.{granting, deleted, configuring}
use Rattle.dots_machine.specs.Mitigations.{key_of}
use Rattle.dots_machine.specs.Apart.{domain_of}
use Rattle.dots_machine.specs.Signals.{back_of}

-- A mitigation that is asked for (RFC 9132, section 4.4.1): for the client of the path, with its mid and the lists of the body, and for what the
-- settings grant of the lifetime. It filters at once. The reply tells the mid and the granted lifetime.
pub record CarriesPut (settings : SettingsValue) (exchange : Exchange) (path : MitigationPath) (body : MitigationBody) (entry : Entry) : Type 0 where
  pub cuid : entry.cuid ≡ path.cuid
  pub put : Put
  pub changes : entry.change ≡ change.Put put
  pub mid : path.mid ≡ Some put.mid
  pub asked : put.asked ≡ body.asked
  pub lasts : put.granted ≡ granted body.lifetime (pos settings.ceiling) settings.indefinite
  pub trigger : put.trigger ≡ body.trigger
  pub refreshed : Bool
  pub reply : entry.reply ≡ granting exchange (record { put = put; refreshed = refreshed })

-- a mitigation that is withdrawn (section 4.4.4): that of the client of the path, with its mid
pub record CarriesWithdrawal (exchange : Exchange) (path : MitigationPath) (entry : Entry) : Type 0 where
  pub cuid : entry.cuid ≡ path.cuid
  pub mid : ℕ
  pub mid_is : path.mid ≡ Some mid
  pub changes : entry.change ≡ change.Withdraw mid
  pub reply : entry.reply ≡ deleted exchange

-- a configuration that is set (section 4.5.2): of no client, with the sid of the path and what comes of the body beside the sid that is held
pub record CarriesConfig (exchange : Exchange) (sid : ℕ) (body : ConfigBody) (entry : Entry) : Type 0 where
  pub cuid : entry.cuid ≡ []
  pub held : Option ℕ
  pub config : Config
  pub agreed : negotiated held sid body ≡ Ok config
  pub changes : entry.change ≡ change.SetConfig sid config
  pub replaced : Bool
  pub reply : entry.reply ≡ configuring exchange replaced

-- a configuration that is given up (section 4.5.4)
pub record CarriesEnd (exchange : Exchange) (entry : Entry) : Type 0 where
  pub cuid : entry.cuid ≡ []
  pub changes : entry.change ≡ change.ClearConfig
  pub reply : entry.reply ≡ deleted exchange

-- what is carried of a request; one that reads, and a heartbeat, adds no entry
abbrev pub Carries : SettingsValue → Exchange → Request → Entry → Type 0
Carries settings exchange (request.PutMitigation path body) entry = CarriesPut settings exchange path body entry
Carries settings exchange (request.DeleteMitigation path) entry = CarriesWithdrawal exchange path entry
Carries settings exchange (request.PutConfig sid body) entry = CarriesConfig exchange sid body entry
Carries settings exchange (request.DeleteConfig sid) entry = CarriesEnd exchange entry
Carries settings exchange _ entry = ⊥

-- The datagram is a request of a client or a gateway. The entry has the time, the peer that sent it, the domain for which this peer asks (a client for
-- its own, and a gateway for the one that the request names), the type and the Message ID, and what is asked.
pub record CarriesRequest (settings : SettingsValue) (time peer : ℕ) (datagram : List ℕ) (entry : Entry) : Type 0 where
  pub known : is_stranger (role_of settings peer) ≡ false
  pub exchange : Exchange
  pub asked : Request
  pub received : IsReceived datagram (is_gateway (role_of settings peer)) (received.Asked exchange asked)
  pub time_is : entry.time ≡ time
  pub peer_is : entry.peer ≡ peer
  pub domain_is : domain_of settings (role_of settings peer) asked ≡ Some entry.domain
  pub key_is : entry.key ≡ key_of exchange.kind exchange.id
  pub carries : Carries settings exchange asked entry

-- what a datagram adds before it is decided on: nothing, or that the signal of its client is back, where that was lost
abbrev pub AddsBack : SettingsValue → ℕ → ℕ → List Entry → List Entry → Type 0
AddsBack settings time peer old met = (met ≡ old) ⊎ (met ≡ old ++ back_of settings time old peer)

-- behind that a datagram at this time adds no entry, or exactly one, which carries what it asks
abbrev pub AddsWhatIsAsked : SettingsValue → ℕ → ℕ → List ℕ → List Entry → List Entry → Type 0
AddsWhatIsAsked settings time peer datagram old new =
    (met : List Entry) × AddsBack settings time peer old met
    × ((new ≡ met) ⊎ ((entry : Entry) × (new ≡ met ++ entry ∷ []) × CarriesRequest settings time peer datagram entry))
