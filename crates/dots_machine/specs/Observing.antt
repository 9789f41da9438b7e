-- What a message asks of observation, what becomes of the observers by its answer, and what there is to see (RFC 7641; RFC 9132, section
-- 4.4.2.1).
use Rattle.std.specs.Prelude.{◌≡◌, ℕ, ◌==◌, nat_lt, Bool, true, false, if◌then◌else◌, List, [], ◌∷◌, map, filter, take, length, Option, Some, None, Result, Ok, Err}
use Rattle.dots_host.specs.declared.out.OwnedOut.{OwnedOut}
use Rattle.dots_host.specs.declared.out.OwnedOut.TheVariants as owned
use Rattle.coap_message.specs.declared.codes.TheConstants.{INTERNAL_SERVER_ERROR}
use Rattle.coap_message.specs.Message.{CoapMessage, IsMessage, spelling}
use Rattle.coap_message.specs.declared.fault.CoapFault.{CoapFault}
use Rattle.coap_message.specs.Breaks.{Breaks}
use Rattle.coap_observe.specs.Seen.{Lists}
use Rattle.coap_observe.specs.Observed.{ObservedValue}
use Rattle.coap_observe.specs.Observing.{has_room, number_for, registered, deregistered, without_id}
use Rattle.conflict_rules.specs.LiveViews.{LiveView}
use Rattle.conflict_rules.specs.Statuses.{views_in}
use Rattle.dots_settings.specs.Settings.{SettingsValue}
use Rattle.dots_settings.specs.Lookups.{role_of}
use Rattle.dots_history.specs.declared.entry.Entry.{Entry}
use Rattle.dots_keys.specs.declared.reject.Reject.{Reject}
use Rattle.dots_keys.specs.declared.head_request.Content.{Content}
use Rattle.dots_keys.specs.declared.head_request.MitigationPath.{MitigationPath}
use Rattle.dots_keys.specs.declared.head_request.Observe.{Observe}
use Rattle.dots_keys.specs.declared.head_request.Observe.TheVariants as observe
use Rattle.dots_keys.specs.Heads.{Head, head_of}
use Rattle.dots_keys.specs.Operations.{Operation, get_mitigation}
use Rattle.session_core.specs.Notifying.{Bodies}
use Rattle.dots_keys.specs.declared.dismissal.Dismissal.{Dismissal}
use Rattle.dots_keys.specs.declared.dismissal.Dismissal.TheVariants as dismissal
use Rattle.dots_keys.specs.declared.exchange.Exchange.{Exchange}
use Rattle.dots_machine.specs.declared.received.Received.{Received}
use Rattle.dots_machine.specs.declared.received.Received.TheVariants as received
use Rattle.dots_keys.specs.declared.request.Request.TheVariants as request
use Rattle.dots_machine.specs.declared.watching.Watching.{Watching}
use Rattle.dots_machine.specs.declared.watching.Watching.TheVariants as watching
use Rattle.dots_machine.specs.Verdict.{Verdict}
use Rattle.dots_machine.specs.declared.verdict.Verdict.TheVariants as verdict
use Rattle.dots_machine.specs.Domains.{is_gateway, is_stranger, domain_for}
use Rattle.dots_keys.specs.Exchanges.{exchange_in, dismissed}
use Rattle.dots_machine.specs.Mitigations.{is_wanted}
use Rattle.dots_machine.specs.Replies.{retrieved_body}

-- ---- what is asked

-- a GET of mitigations in a domain, by its Observe: 0 registers, and 1 takes away (RFC 7641, section 2)
abbrev pub asked_in : ℕ → Exchange → Content → MitigationPath → Observe → ℕ → Watching
asked_in peer exchange content path observe.Register domain = watching.Registers (record {
  peer = peer;
  domain = domain;
  token = exchange.token;
  cuid = path.cuid;
  mid = path.mid;
  content = content;
})
asked_in peer exchange content path observe.Deregister domain = watching.Cancels exchange.token
asked_in peer exchange content path observe.No domain = watching.Nothing

-- for a domain that there isn't nothing is asked
abbrev pub in_known : Option ℕ → (ℕ → Watching) → Watching
in_known None asked = watching.Nothing
in_known (Some domain) asked = asked domain

abbrev pub asked_of : SettingsValue → ℕ → Exchange → Content → Observe → Operation → Watching
asked_of settings peer exchange content said (get_mitigation path) = in_known (domain_for settings (role_of settings peer) path.cdid) (asked_in peer exchange content path said)
asked_of settings peer exchange content said _ = watching.Nothing

abbrev pub asked_by : SettingsValue → ℕ → Exchange → Result Head Reject → Watching
asked_by settings peer exchange (Ok head) = asked_of settings peer exchange head.content head.observe head.operation
asked_by settings peer exchange (Err refusal) = watching.Nothing

-- a reset rejects the notification that had its Message ID (RFC 7641, section 3.6)
abbrev pub unless_dismissed : Option Dismissal → Watching → Watching
unless_dismissed (Some (dismissal.Rejected id)) asked = watching.Rejects id
unless_dismissed (Some _) asked = watching.Nothing
unless_dismissed None asked = asked

abbrev pub watching_in : SettingsValue → ℕ → CoapMessage → Watching
watching_in settings peer message =
    unless_dismissed (dismissed message) (asked_by settings peer (exchange_in message) (head_of message (is_gateway (role_of settings peer))))

-- what the datagram of a client or a gateway asks of observation; a stranger's, and what can't be read, nothing
pub data Watches (settings : SettingsValue) (peer : ℕ) (datagram : List ℕ) (asked : Watching) : Type 0 where
  by_message : is_stranger (role_of settings peer) ≡ false → (message : CoapMessage) → IsMessage message → datagram ≡ spelling message
      → asked ≡ watching_in settings peer message → Watches settings peer datagram asked
  unreadable : (fault : CoapFault) → Breaks datagram fault → asked ≡ watching.Nothing → Watches settings peer datagram asked
  by_stranger : is_stranger (role_of settings peer) ≡ true → asked ≡ watching.Nothing → Watches settings peer datagram asked

-- the same by what was received
abbrev pub watching_of : SettingsValue → ℕ → Received → Watching
watching_of settings peer (received.Asked exchange (request.GetMitigation path content said)) =
    in_known (domain_for settings (role_of settings peer) path.cdid) (asked_in peer exchange content path said)
watching_of settings peer (received.Dismissed (dismissal.Rejected id)) = watching.Rejects id
watching_of settings peer _ = watching.Nothing

-- ---- what there is to see of a history at a time

-- the mid and the status
abbrev pub seen_as : LiveView → ℕ × ℕ
seen_as view = (view.put.mid, view.status)

-- the live mitigations of a client, or the one of a mid, in order of their entries; a domain has at most 64
abbrev pub seen_among : Option ℕ → List LiveView → List (ℕ × ℕ)
seen_among mid views = take 64 (map seen_as (filter (is_wanted mid) views))

-- those of a client in a domain that there is
abbrev pub views_at : SettingsValue → ℕ → List Entry → ℕ → List ℕ → List LiveView
views_at settings t history domain cuid = if nat_lt domain (length settings.domains) then views_in domain cuid t history else []

abbrev pub seen_at : SettingsValue → ℕ → List Entry → Lists
seen_at settings t history domain cuid mid = seen_among mid (views_at settings t history domain cuid)

-- the body of the reply to the GET that registered an observer, as it would be now
abbrev pub bodies_at : SettingsValue → ℕ → List Entry → Bodies
bodies_at settings t history observer =
    retrieved_body observer.content (filter (is_wanted observer.mid) (views_at settings t history observer.domain observer.cuid))

-- ---- what becomes of the observers by an answer

abbrev pub is_retrieved : Verdict → Bool
is_retrieved (verdict.Retrieves exchange body) = true
is_retrieved _ = false

-- the number for the Observe of the reply, where there is room for the observer
abbrev pub number_of : SettingsValue → Watching → List ObservedValue → Option ℕ
number_of settings (watching.Registers observer) observed =
    if has_room settings.limits.observers observer observed then Some (number_for observer observed) else None
number_of settings _ observed = None

-- the code of a message (RFC 7252, section 3)
abbrev pub code_of : List ℕ → ℕ
code_of (first ∷ code ∷ bytes) = code
code_of _ = 0

-- 5.00 is answered
abbrev pub is_unavailable : List OwnedOut → Bool
is_unavailable (owned.To peer reply ∷ outs) = code_of reply == INTERNAL_SERVER_ERROR
is_unavailable _ = false

-- Who is shown what it asked for is registered, where there is room. Who asks to leave goes, whatever the answer, but for want of memory. Whose
-- notification was rejected goes.
abbrev pub observing : SettingsValue → Lists → ℕ → Watching → Verdict → List OwnedOut → List ObservedValue → List ObservedValue
observing settings lists peer (watching.Registers observer) decided replies observed =
    if is_retrieved decided then registered lists settings.limits.observers observer observed else observed
observing settings lists peer (watching.Cancels token) decided replies observed =
    if is_unavailable replies then observed else deregistered peer token observed
observing settings lists peer (watching.Rejects id) decided replies observed = without_id peer id observed
observing settings lists peer watching.Nothing decided replies observed = observed
