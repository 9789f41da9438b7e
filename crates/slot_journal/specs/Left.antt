-- What a crash leaves of a disk in the middle of calls.
use Rattle.std.specs.Prelude.{◌≡◌, ℕ, List, ◌∷◌, ◌++◌, Option, Some}
use Rattle.dots_host.specs.Media.{Medium, Media, IsImage, all_media}

-- A crash leaves this image at the moment before the first of the calls, or at one after it.
pub record IsLeftOf (old new : Media) (image : ℕ → ℕ) : Type 0 where
  pub added : List Medium
  pub grown : all_media new ≡ all_media old ++ added
  pub earlier : List Medium
  pub medium : Medium
  pub later : List Medium
  pub moment : old.now ∷ added ≡ earlier ++ medium ∷ later
  pub is : IsImage medium image

-- where the disk is told
abbrev pub IsLeft : Option Media → Option Media → (ℕ → ℕ) → Type 0
IsLeft (Some old) (Some new) image = IsLeftOf old new image
IsLeft _ _ image = ⊥
