-- What a store keeps in memory, and for what it stands on a disk.
use Rattle.std.specs.Prelude.{◌≡◌, ℕ, ◌-◌, ◌^◌, ◌<◌, ◌≤◌, false, nat_lt, if◌then◌else◌, List, length, map}
use Rattle.std.specs.List.{range_with_len}
use Rattle.dots_settings.specs.Settings.{SettingsValue}
use Rattle.dots_history.specs.Calm.{is_http}
use Rattle.dots_gateway.specs.declared.exchange.Exchange.{Exchange}
use Rattle.slot_store.specs.StoreValues.{JournalValue}
use Rattle.slot_journal.specs.DiskEntries.{Represents}
use Rattle.gateway_agent.specs.Forms.{entries_of}
use Rattle.gateway_agent.specs.Exchanges.{young_at, last_number, last_time, most_young, kept_at}

-- what is known of the disk, and the exchanges of its entries, each in the slot of its place
pub record StoreValue : Type 0 where
  pub journal : JournalValue
  pub exchanges : List Exchange

-- a disk has the entries of the store's exchanges, and no others
abbrev pub IsOn : SettingsValue → StoreValue → (ℕ → ℕ) → Type 0
IsOn settings store image = Represents store.journal settings (entries_of store.exchanges) image

-- the exchanges once a slot is free for one more: the same where one is, and else those that a compaction keeps
abbrev pub once_free : ℕ → StoreValue → List Exchange
once_free now store = if nat_lt store.journal.used store.journal.slots then store.exchanges else kept_at now store.exchanges

-- bytes of each size that a reply may have: 8 of the number, and a token of up to 8
abbrev pub AreReplies : List (List ℕ) → Type 0
AreReplies replies = map length replies ≡ range_with_len 8 9

-- What must be so for an exchange to be kept at this time: fewer are young than may be at once, the time is the exchange's own and isn't
-- before that of the last one, the request is one of the signal channel, and the number is above that of the last one and isn't the
-- greatest u64.
pub record CanKeep (store : StoreValue) (now : ℕ) (x : Exchange) : Type 0 where
  pub room : length (young_at now store.exchanges) < most_young store.journal.slots
  pub early : now < 2 ^ 48
  pub later : last_time store.exchanges ≤ now
  pub time : x.time ≡ now
  pub key : is_http x.key ≡ false
  pub above : last_number store.exchanges < x.number
  pub below : x.number < 2 ^ 64 - 1
