-- What a peer has configured for its session, and what its heartbeats go by (RFC 9132, sections 4.5 and 4.7).
use Rattle.std.specs.Prelude.{ℕ, Bool, true, false, ◌==◌, List, Option, Some, None, option_map, option_and_then}
use Rattle.dots_settings.specs.declared.peer.Role.{Role}
use Rattle.dots_settings.specs.declared.peer.Role.TheVariants as role
use Rattle.dots_settings.specs.Settings.{SettingsValue}
use Rattle.dots_settings.specs.Lookups.{role_of}
use Rattle.dots_history.specs.declared.config.Config.{Config}
use Rattle.dots_history.specs.declared.config.Values.{Values}
use Rattle.dots_history.specs.declared.entry.Entry.{Entry}
use Rattle.dots_history.specs.Histories.{held, alone}
use Rattle.dots_history.specs.Held.{config_of}
use Rattle.dots_history.specs.HistoryReading.{is_mitigated}
use Rattle.session_core.specs.declared.setting.Setting.TheVariants.{Interval, Missing, Retransmit, Timeout, Factor, Rate}
use Rattle.session_core.specs.Ranges.{default_of}
use Rattle.session_core.specs.Beating.{Beating}
use Rattle.dots_machine.specs.Domains.{config_domain}

-- a configuration with the sid under which it was set
abbrev pub Configured : Type 0
Configured = ℕ × Config

-- what is held of a peer in the domain in which it configures its session: by the entries of this domain alone
abbrev pub configured_in : List Entry → ℕ → ℕ → Option Configured
configured_in history domain peer = config_of peer (held (alone domain history))

abbrev pub sid_in : Configured → ℕ
sid_in configured = configured.0

-- the sid that is held
abbrev pub sid_of : Option Configured → Option ℕ
sid_of configured = option_map sid_in configured

-- this sid is held
abbrev pub is_held : ℕ → Option Configured → Bool
is_held sid None = false
is_held sid (Some configured) = configured.0 == sid

-- what holds where nothing is configured
abbrev pub default_values : Values
default_values = record {
  interval = default_of Interval;
  missing = default_of Missing;
  retransmit = default_of Retransmit;
  timeout = default_of Timeout;
  factor = default_of Factor;
  rate = default_of Rate;
}

abbrev pub default_config : Config
default_config = record { mitigating = default_values; idle = default_values }

abbrev pub config_in : Option Configured → Config
config_in None = default_config
config_in (Some configured) = configured.1

-- ---- heartbeats

-- the values in force: those of mitigating times while a live mitigation of the peer filters, and else the idle ones
abbrev pub values_in_force : Bool → Config → Values
values_in_force true config = config.mitigating
values_in_force false config = config.idle

-- the interval, and the number of heartbeats that may be missed
abbrev pub beat_of : Values → ℕ × ℕ
beat_of values = (values.interval, values.missing)

abbrev pub configured_by : SettingsValue → List Entry → ℕ → Option Configured
configured_by settings history peer = option_and_then (λ domain. configured_in history domain peer) (config_domain (role_of settings peer))

-- what says of a peer whether a mitigation of it filters: of a client the entries of its domain alone
abbrev pub entries_for : Role → List Entry → List Entry
entries_for (role.Client domain) history = alone domain history
entries_for _ history = history

abbrev pub beating_at : SettingsValue → ℕ → List Entry → Beating
beating_at settings t history peer =
    beat_of (values_in_force (is_mitigated t (entries_for (role_of settings peer) history) peer) (config_in (configured_by settings history peer)))
