-- A disk of zeros holds nothing.
use Rattle.std.proofs.Common.{◌≡◌, List, [], ◌∷◌, Some, refl, ap, ◌∙◌}
use Rattle.dots_host.specs.Media.{byte_of, blank, grown}
use Rattle.dots_host.specs.Stored.{Stored, media_of}
use Rattle.dots_settings.specs.Settings.{SettingsValue}
use Rattle.dots_history.specs.declared.entry.Entry.{Entry}
use Rattle.dots_gateway.specs.declared.exchange.Exchange.{Exchange}
use Rattle.slot_store.specs.Gates.{Sees}
use Rattle.slot_journal.specs.DiskEntries.{HasEntries}
use Rattle.slot_journal.proofs.Crashing.{one_history, zeros_have_nothing}
use Rattle.gateway_agent.specs.Forms.{entry_of}
use Rattle.gateway_agent.specs.Crashes.{HasThe}

pub zeros_seen : (disk : Stored) → disk.acts ≡ [] → disk.base ≡ [] → Sees (Some (media_of disk)) (byte_of [])
zeros_seen disk acts base = ap (λ calls. (grown (blank disk.base) calls).now.seen) acts ∙ ap byte_of base

pub nothing_held : (settings : SettingsValue) (entries : List Entry) → HasEntries settings (byte_of []) entries → entries ≡ []
nothing_held settings entries has = one_history settings (byte_of []) entries [] has (zeros_have_nothing settings)

pub nothing_kept : (settings : SettingsValue) (exchanges : List Exchange) → HasThe settings exchanges (byte_of []) → exchanges ≡ []
nothing_kept settings [] has = refl
nothing_kept settings (x ∷ xs) has = let none = nothing_held settings _ has in cc none
