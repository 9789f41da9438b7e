-- How far the lines of a file have been read.
use Rattle.std.specs.Prelude.{◌≡◌, ℕ, ◌+◌, List, [], ◌∷◌, ◌++◌, length, ⊤}
use Rattle.sha2.specs.Hashers.{Holds256}
use Rattle.dots_settings.specs.declared.fault.SettingsFault.{SettingsFault}
use Rattle.dots_settings.specs.declared.fault.SettingsFault.TheVariants as fault
use Rattle.dots_settings.specs.declared.reading.Taken.{Taken}
use Rattle.dots_settings.specs.Admitting.{draft_value}
use Rattle.dots_settings.specs.Draft.{draft_of}
use Rattle.dots_settings.specs.File.{Stand, HasFault}
use Rattle.dots_settings.specs.Row.{Row}
use Rattle.dots_settings.specs.Settings.{digest_text}

-- these lines have been taken, which stand and have these rows
pub record HasTaken (taken : Taken) (lines : List (List ℕ)) (rows : List Row) : Type 0 where
  pub stand : Stand lines rows
  pub said : draft_value taken.draft ≡ draft_of rows
  pub hashed : Holds256 taken.hasher (digest_text rows)

-- one more line was taken
pub record TakesLine (line : List ℕ) (old new : Taken) : Type 0 where
  pub number : new.number ≡ old.number
  pub taken : (lines : List (List ℕ)) (rows : List Row) → old.number ≡ length lines + 1 → HasTaken old lines rows → (more : List Row) × HasTaken new (lines ++ line ∷ []) more

-- or it has this fault behind those that were
abbrev pub RefusesLine : List ℕ → Taken → SettingsFault → Type 0
RefusesLine line old fault.NoMemory = ⊤
RefusesLine line old fault.ReadFault = ⊥
RefusesLine line old why = (lines : List (List ℕ)) (rows : List Row) → HasTaken old lines rows → HasFault rows old.number line why
