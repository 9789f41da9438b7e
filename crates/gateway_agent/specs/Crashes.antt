-- What a crash may leave on the disk of a store while one more exchange is kept.
use Rattle.std.specs.Prelude.{◌≡◌, ℕ, ◌⊎◌, List, [], ◌∷◌, ◌++◌}
use Rattle.dots_settings.specs.Settings.{SettingsValue}
use Rattle.dots_gateway.specs.declared.exchange.Exchange.{Exchange}
use Rattle.slot_journal.specs.DiskEntries.{HasEntries}
use Rattle.gateway_agent.specs.Forms.{entries_of}
use Rattle.gateway_agent.specs.Exchanges.{IsStore, young_at, last_number, last_time}

-- the entries of these exchanges
abbrev pub HasThe : SettingsValue → List Exchange → (ℕ → ℕ) → Type 0
HasThe settings exchanges image = HasEntries settings image (entries_of exchanges)

-- of these, or of others
abbrev pub HasOne : SettingsValue → List Exchange → List Exchange → (ℕ → ℕ) → Type 0
HasOne settings first second image = HasThe settings first image ⊎ HasThe settings second image

-- of these, of the few that a compaction keeps of them, or of the few and one more
abbrev pub HasStep : SettingsValue → List Exchange → List Exchange → Exchange → (ℕ → ℕ) → Type 0
HasStep settings all few x image = HasThe settings all image ⊎ HasOne settings few (few ++ x ∷ []) image

-- At this time the same exchanges are young in both, and the last numbers are the same.
pub record AreAlike (now : ℕ) (some others : List Exchange) : Type 0 where
  pub young : young_at now some ≡ young_at now others
  pub number : last_number some ≡ last_number others

-- What is left of a store is a store, in which the same exchanges are young, and the last one has the same number and time.
pub record AreLeft (most now : ℕ) (few all : List Exchange) : Type 0 where
  pub store : IsStore most few
  pub alike : AreAlike now few all
  pub time : last_time few ≡ last_time all

-- The image holds a store in which each exchange stands that is young at this time, or these and one more.
pub record HasYoung (settings : SettingsValue) (most now : ℕ) (exchanges : List Exchange) (x : Exchange) (image : ℕ → ℕ) : Type 0 where
  pub some : List Exchange
  pub image_has : HasThe settings some image
  pub store : IsStore most some
  pub alike : AreAlike now some exchanges ⊎ AreAlike now some (exchanges ++ x ∷ [])
