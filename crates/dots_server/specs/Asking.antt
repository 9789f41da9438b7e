-- For which domain is asked, and what is decided on what was received.
use Rattle.std.specs.Prelude.{◌≡◌, ◌⊎◌, ℕ, Bool, true, false, bytes_eq, List, length, position, Option, Some, None}
use Rattle.dots_settings.specs.declared.peer.Role.{Role}
use Rattle.dots_settings.specs.declared.peer.Role.TheVariants as role
use Rattle.dots_settings.specs.Settings.{SettingsValue, IsKnown}
use Rattle.dots_machine.specs.declared.received.Received.{Received}
use Rattle.dots_machine.specs.declared.received.Received.TheVariants as received
use Rattle.dots_machine.specs.Verdict.{Verdict}
use Rattle.dots_machine.specs.declared.verdict.Verdict.TheVariants as verdict
use Rattle.dots_settings.specs.Lookups.{role_of}
use Rattle.dots_machine.specs.Replies.{unavailable}
use Rattle.dots_machine.specs.Domains.{is_gateway, is_stranger}
use Rattle.dots_machine.specs.Requests.{IsReceived}
use Rattle.dots_server.specs.Receiving.{IsGrantable, Lacks}
use Rattle.dots_server.specs.declared.deciding.Came.{Came}
use Rattle.dots_server.specs.declared.deciding.Came.TheVariants as came
use Rattle.dots_server.specs.HearingPeers.{is_heard}
use Rattle.dots_machine.specs.declared.watching.Watching.{Watching}
use Rattle.dots_machine.specs.Observing.{watching_of}
use Rattle.dots_server.specs.Observing.{Does}
use Rattle.dots_machine.specs.Machine.{State, facts_in, rules_say}
use Rattle.dots_machine.specs.Facts.{Facts}
use Rattle.dots_server.specs.LackingMemory.{takes_memory}

-- a client has a domain of its own, and a gateway none
abbrev pub role_with : Option ℕ → Role
role_with None = role.Gateway
role_with (Some domain) = role.Client domain

-- this is the peer's own domain, which is one of the settings, or none, and it is a gateway
pub record IsOwn (settings : SettingsValue) (peer : ℕ) (own : Option ℕ) : Type 0 where
  pub role : role_of settings peer ≡ role_with own
  pub known : IsKnown (length settings.domains) (role_with own)

-- a client's own domain, or the one that a gateway names
abbrev pub domain_asked : SettingsValue → Option ℕ → Option (List ℕ) → Option ℕ
domain_asked settings (Some domain) cdid = Some domain
domain_asked settings None None = None
domain_asked settings None (Some name) = position (λ domain. bytes_eq name domain.name) settings.domains

-- What came of a datagram: it is a stranger's; or there is no memory to read what it asks, all before its body being right; or this was received
-- of a peer with this domain of its own, or of a gateway.
abbrev pub IsCome : SettingsValue → ℕ → List ℕ → Came → Type 0
IsCome settings peer datagram came.FromStranger = is_stranger (role_of settings peer) ≡ true
IsCome settings peer datagram (came.Lacking exchange) = (is_stranger (role_of settings peer) ≡ false) × Lacks datagram (is_gateway (role_of settings peer)) exchange
IsCome settings peer datagram (came.Received own got) = IsOwn settings peer own × IsReceived datagram (is_gateway (role_of settings peer)) got × IsGrantable got

-- its peer is heard by it
abbrev pub heard_by : Came → Bool
heard_by came.FromStranger = false
heard_by (came.Lacking exchange) = true
heard_by (came.Received own got) = is_heard got

-- a request for which memory is taken is answered 5.00, for want of it
abbrev pub IsUnavailable : SettingsValue → Facts → ℕ → Received → Verdict → Type 0
IsUnavailable settings facts peer (received.Asked exchange request) decided =
    (takes_memory settings facts peer exchange request ≡ true) × (decided ≡ verdict.Reply (unavailable exchange))
IsUnavailable settings facts peer _ decided = ⊥

-- What the rules say of it, or 5.00 for want of memory, where what they say takes any.
abbrev pub DecidesOn : SettingsValue → State → ℕ → Received → Verdict → Type 0
DecidesOn settings state peer got decided =
    (decided ≡ rules_say settings (facts_in settings state) peer got) ⊎ IsUnavailable settings (facts_in settings state) peer got decided

-- what is to be done on it, for observers too
abbrev pub DoesOn : SettingsValue → State → ℕ → Received → Watching → Verdict → Type 0
DoesOn settings state peer got watching verdict =
    (decided : Verdict) × DecidesOn settings state peer got decided × Does settings peer state.observers (watching_of settings peer got) decided watching verdict
