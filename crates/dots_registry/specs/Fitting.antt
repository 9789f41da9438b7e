-- Which entries a registry can take.
use Rattle.std.specs.Prelude.{◌≡◌, Bool, true, not, ◌&&◌, ◌||◌, ◌==◌, nat_le, List}
use Rattle.dots_settings.specs.Settings.{SettingsValue}
use Rattle.dots_history.specs.declared.entry.Entry.{Entry}
use Rattle.dots_history.specs.Bounds.{within_bounds}
use Rattle.dots_history.specs.Entries.{same_client}
use Rattle.dots_history.specs.Histories.{Mitigation}
use Rattle.dots_history.specs.Fits as laws
use Rattle.live_mitigations.specs.LiveValues.{LiveValue, has_live_room}
use Rattle.held_resources.specs.Tables.{Tables}
use Rattle.held_resources.specs.Accepting.{accepts}
use Rattle.dots_registry.specs.RegistryValues.{RegistryValue, Represents, IsOf, time_of}

-- the entry isn't before the registry's time, and fits a history by the settings
abbrev pub fits_then : SettingsValue → RegistryValue → List Entry → Entry → Bool
fits_then settings registry entries e = nat_le (time_of registry) e.time && laws.fits settings entries e

-- and it is within bounds
abbrev pub fits_now : SettingsValue → RegistryValue → List Entry → Entry → Bool
fits_now settings registry entries e = within_bounds e && fits_then settings registry entries e

-- the same but for what the settings say of the entry alone: by the registry's time, what is held and the live mitigations
abbrev pub fits_tables : RegistryValue → List Entry → Entry → Bool
fits_tables registry entries e =
    nat_le (time_of registry) e.time && (accepts registry.held.sizes entries e && has_live_room registry.live.limits entries e)

-- these are tables of the registry
pub record HasTables (registry : RegistryValue) (live : LiveValue) (held : Tables) : Type 0 where
  pub live_is : registry.live ≡ live
  pub held_is : registry.held ≡ held

-- There are settings of which the registry is, and a history that it represents, so that the entry fits this history by
-- these settings and isn't before the registry's time.
pub record FitsIn (registry : RegistryValue) (e : Entry) : Type 0 where
  pub settings : SettingsValue
  pub entries : List Entry
  pub is_of : IsOf settings registry
  pub represents : Represents registry entries
  pub fits : fits_now settings registry entries e ≡ true

-- a mitigation is of another client than the entry, or has its peer
abbrev pub has_peer : Entry → Mitigation → Bool
has_peer e m = not (same_client m.put e) || (e.peer == m.put.peer)
