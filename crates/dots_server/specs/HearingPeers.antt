-- Who is heard, and what the heartbeats of peers go by.
use Rattle.std.specs.Prelude.{◌≡◌, ℕ, Bool, true, false, if◌then◌else◌, List, Option, Some, None}
use Rattle.std.specs.List.{list_all}
use Rattle.dots_settings.specs.Settings.{SettingsValue}
use Rattle.dots_history.specs.declared.entry.Entry.{Entry}
use Rattle.dots_history.specs.Calm.{is_own}
use Rattle.session_core.specs.Contacts.{heard_from}
use Rattle.session_core.specs.Beats.{after_beats}
use Rattle.dots_registry.specs.RegistryValues.{RegistryValue, time_of}
use Rattle.dots_registry.specs.RegistryValues as registry
use Rattle.dots_machine.specs.declared.received.Received.{Received}
use Rattle.dots_machine.specs.declared.received.Received.TheVariants as received
use Rattle.dots_machine.specs.ConfiguredPeers.{Configured, is_held, beating_at}
use Rattle.dots_machine.specs.Machine.{State, hearing, beating}

-- what can be read is heard
abbrev pub is_heard : Received → Bool
is_heard (received.Unread answered) = false
is_heard _ = true

-- a configuration is wanted, whatever its sid, or the one of this sid
abbrev pub is_wanted : Option ℕ → Option Configured → Bool
is_wanted None configured = true
is_wanted (Some sid) configured = is_held sid configured

-- the state with the sessions in which a peer was heard, or wasn't
abbrev pub as_heard : Bool → ℕ → State → State
as_heard heard peer state = record state { contacts = if heard then heard_from peer state.time state.contacts else state.contacts }

-- the state in which a peer was met: it was heard, or it wasn't
abbrev pub met : SettingsValue → Bool → ℕ → State → State
met settings heard peer state = if heard then hearing settings peer state else state

-- what a registry of the settings says of a peer's heartbeats: what each history that it represents says
abbrev pub SaysBeat : SettingsValue → RegistryValue → ℕ → ℕ × ℕ → Type 0
SaysBeat settings tables peer beat =
    (entries : List Entry) → registry.Represents tables entries → list_all (is_own settings) entries ≡ true → beat ≡ beating_at settings (time_of tables) entries peer

-- the heartbeats were sent
abbrev pub beaten : SettingsValue → State → State
beaten settings state = record state { contacts = after_beats (beating settings state) state.time state.contacts }
