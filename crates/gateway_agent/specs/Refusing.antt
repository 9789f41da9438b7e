-- Why no store opens on a disk.
use Rattle.std.specs.Prelude.{◌≡◌, ℕ, ◌%◌, ◌⊎◌, true, false, List, ◌∷◌, ◌++◌, length, Option, Some, None}
use Rattle.dots_host.specs.Media.{Media}
use Rattle.dots_host.specs.Becoming.{RestsWith}
use Rattle.dots_settings.specs.Settings.{SettingsValue}
use Rattle.dots_history.specs.declared.entry.Entry.{Entry}
use Rattle.dots_gateway.specs.declared.exchange.Exchange.{Exchange}
use Rattle.slot_store.specs.Layout.{place_of}
use Rattle.slot_store.specs.StoreValues.{JournalValue}
use Rattle.slot_journal.specs.declared.fault.JournalFault.{JournalFault}
use Rattle.slot_journal.specs.declared.fault.JournalFault.TheVariants as fault
use Rattle.slot_journal.specs.Sizes.{slots_of}
use Rattle.slot_journal.specs.DiskEntries.{HasEntries}
use Rattle.slot_journal.specs.Refused.{Refuses}
use Rattle.gateway_agent.specs.Forms.{entries_of, exchange_in}
use Rattle.gateway_agent.specs.Exchanges.{IsStore, joins, most_young}

-- at this place stands the first of the entries that is no exchange, or doesn't join those before it
pub record IsStray (most : ℕ) (entries : List Entry) (place : ℕ) : Type 0 where
  pub before : List Exchange
  pub entry : Entry
  pub later : List Entry
  pub cut : entries ≡ entries_of before ++ entry ∷ later
  pub store : IsStore most before
  pub stray : (x : Exchange) → exchange_in entry ≡ Some x → joins most before x ≡ false
  pub there : place ≡ length before

-- the exchange of an entry, where it is one and joins those before it
abbrev pub Joining : ℕ → List Exchange → Entry → Option Exchange → Type 0
Joining most before e (Some x) = (exchange_in e ≡ Some x) × (joins most before x ≡ true)
Joining most before e None = (x : Exchange) → exchange_in e ≡ Some x → joins most before x ≡ false

-- why the entries of a journal aren't taken: one of them is stray, and its slot is told
abbrev pub RefusesEntries : JournalValue → List Entry → JournalFault → Type 0
RefusesEntries journal entries (fault.NotOurs at) =
    (slot : ℕ) × IsStray (most_young journal.slots) entries slot × (at ≡ place_of journal.slots (journal.selector % 2) slot)
RefusesEntries journal entries _ = ⊥

-- A disk holds entries, one of which is stray: the place is that of its slot, in the half that is in use by what the disk rests with in
-- the end.
pub record HasStray (settings : SettingsValue) (seen : ℕ → ℕ) (now : Option Media) (at : ℕ) : Type 0 where
  pub entries : List Entry
  pub image_has : HasEntries settings seen entries
  pub slot : ℕ
  pub stray : IsStray (most_young (slots_of settings)) entries slot
  pub there : RestsWith now (λ image. at ≡ place_of (slots_of settings) (image 48 % 2) slot)

-- why no store opens: the journal isn't recovered, or holds a stray entry
abbrev pub RefusesStore : SettingsValue → ℕ → (ℕ → ℕ) → Option Media → JournalFault → Type 0
RefusesStore settings extent seen now (fault.NotOurs at) = Refuses settings extent seen (fault.NotOurs at) ⊎ HasStray settings seen now at
RefusesStore settings extent seen now why = Refuses settings extent seen why
