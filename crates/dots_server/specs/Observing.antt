-- What a server does with what is asked of observation, and what its observers are shown.
use Rattle.std.specs.Prelude.{◌≡◌, ℕ, true, nat_lt, if◌then◌else◌, List, [], length, filter, Option, None, ⊤}
use Rattle.std.specs.List.{list_any}
use Rattle.dots_host.specs.declared.event.What.{What}
use Rattle.dots_host.specs.declared.event.What.TheVariants as what
use Rattle.coap_exchange.specs.declared.pair.Pair.{Pair}
use Rattle.coap_exchange.specs.Pairs.{is_pair}
use Rattle.coap_observe.specs.Seen.{Lists}
use Rattle.coap_observe.specs.Observed.{ObservedValue}
use Rattle.coap_observe.specs.Observing.{registered, deregistered, without_id}
use Rattle.conflict_rules.specs.LiveViews.{LiveView}
use Rattle.live_mitigations.specs.LiveValues.{rows_for}
use Rattle.held_resources.specs.Tables.{lost_in}
use Rattle.dots_keys.specs.declared.head_request.Content.{Content}
use Rattle.dots_keys.specs.declared.head_request.Observe.{Observe}
use Rattle.dots_keys.specs.declared.head_request.Observe.TheVariants as said
use Rattle.dots_settings.specs.Settings.{SettingsValue}
use Rattle.session_core.specs.Notifying.{Bodies}
use Rattle.dots_history.specs.declared.entry.Entry.{Entry}
use Rattle.dots_registry.specs.RegistryValues.{RegistryValue, time_of, domains_of}
use Rattle.dots_registry.specs.RegistryValues as registry
use Rattle.dots_registry.specs.ObserverViews.{views_among}
use Rattle.dots_machine.specs.declared.client_request.ClientRequest.{ClientRequest}
use Rattle.dots_keys.specs.declared.exchange.Exchange.{Exchange}
use Rattle.dots_keys.specs.declared.dismissal.Dismissal.{Dismissal}
use Rattle.dots_keys.specs.declared.dismissal.Dismissal.TheVariants as dismissal
use Rattle.dots_machine.specs.declared.watching.Watching.{Watching}
use Rattle.dots_machine.specs.declared.watching.Watching.TheVariants as watching
use Rattle.dots_machine.specs.Verdict.{Verdict}
use Rattle.dots_machine.specs.declared.verdict.Verdict.TheVariants as verdict
use Rattle.dots_machine.specs.Mitigations.{is_wanted}
use Rattle.dots_machine.specs.Observing.{Watches, number_of, observing}
use Rattle.dots_machine.specs.Replies.{showing, retrieved_body}
use Rattle.dots_machine.specs.Machine.{State, Decides, sends_of}

-- ---- what is asked

-- by a GET of mitigations, by its Observe
abbrev pub asked_from : ClientRequest → Option ℕ → Content → Observe → Watching
asked_from from mid content said.Register = watching.Registers (record {
  peer = from.peer;
  domain = from.domain;
  token = from.exchange.token;
  cuid = from.cuid;
  mid = mid;
  content = content;
})
asked_from from mid content said.Deregister = watching.Cancels from.exchange.token
asked_from from mid content said.No = watching.Nothing

-- by one that isn't shown what it asks for
abbrev pub leaving : Exchange → Observe → Watching
leaving exchange said.Deregister = watching.Cancels exchange.token
leaving exchange _ = watching.Nothing

-- by a message that asks nothing
abbrev pub rejecting : Dismissal → Watching
rejecting (dismissal.Rejected id) = watching.Rejects id
rejecting _ = watching.Nothing

-- ---- what becomes of it

-- the verdict as it is sent, where Observe has this number
abbrev pub spoken : Option ℕ → Verdict → Verdict
spoken number (verdict.Retrieves exchange body) = verdict.LongReply (showing exchange number body)
spoken number decided = decided

-- an observer is registered, where there is room, or one goes
abbrev pub changed : ℕ → Lists → ℕ → Watching → List ObservedValue → List ObservedValue
changed room lists peer (watching.Registers observer) observed = registered lists room observer observed
changed room lists peer (watching.Cancels token) observed = deregistered peer token observed
changed room lists peer (watching.Rejects id) observed = without_id peer id observed
changed room lists peer watching.Nothing observed = observed

-- What is to be done says the verdict, with the number that Observe has, and makes of the observers what the machine makes of them.
pub record Does (settings : SettingsValue) (peer : ℕ) (observed : List ObservedValue) (asked : Watching) (decided : Verdict) (watching : Watching) (verdict : Verdict) : Type 0 where
  pub verdict_is : verdict ≡ spoken (number_of settings asked observed) decided
  pub observers : (lists : Lists)
      → observing settings lists peer asked decided (sends_of None verdict peer) observed ≡ changed settings.limits.observers lists peer watching observed

-- it does what the machine decides on a datagram
pub record DoesDecided (settings : SettingsValue) (state : State) (peer : ℕ) (datagram : List ℕ) (watching : Watching) (verdict : Verdict) : Type 0 where
  pub decided : Verdict
  pub decides : Decides settings state peer datagram decided
  pub asked : Watching
  pub watches : Watches settings peer datagram asked
  pub does : Does settings peer state.observers asked decided watching verdict

-- an observer's peer and domain are one of these pairs
abbrev pub MayObserve : List Pair → Watching → Type 0
MayObserve pairs (watching.Registers observer) = list_any (is_pair observer.peer observer.domain) pairs ≡ true
MayObserve pairs _ = ⊤

-- an event by which observers are notified: a datagram, a piece of a connection, or a tick
abbrev pub MayNotify : What → Type 0
MayNotify (what.Datagram from len) = ⊤
MayNotify (what.Piece conn len) = ⊤
MayNotify what.Tick = ⊤
MayNotify _ = ⊥

-- ---- what observers are shown

pub record ServerViewsValue : Type 0 where
  pub settings : SettingsValue
  pub registry : RegistryValue

-- the registry has the domains of the settings, and represents some history
pub record AreServerViews (shown : ServerViewsValue) : Type 0 where
  pub domains : domains_of shown.registry ≡ length shown.settings.domains
  pub history : List Entry
  pub represents : registry.Represents shown.registry history

-- the live mitigations of a client, as a registry has them
abbrev pub views_by : RegistryValue → ℕ → List ℕ → List LiveView
views_by tables domain cuid =
    if nat_lt domain (domains_of tables)
    then views_among (lost_in tables.held) domain (time_of tables) cuid (rows_for tables.live domain)
    else []

abbrev pub bodies_of : RegistryValue → Bodies
bodies_of tables observer = retrieved_body observer.content (filter (is_wanted observer.mid) (views_by tables observer.domain observer.cuid))
