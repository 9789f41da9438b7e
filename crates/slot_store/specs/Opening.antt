-- A slot that is written behind a closed gate, which is opened by a write of its own once the bytes are on the disk.
use Rattle.std.specs.Prelude.{◌≡◌, ℕ, ◌+◌, ◌<◌, ◌≤◌, ◌⊎◌, List, length}
use Rattle.dots_host.specs.Media.{bytes_at}

-- While the gate at the place is being opened on these bytes behind it: elsewhere all is as before, and the gate is as before, or the bytes stand behind it.
pub record IsOpening (seen : ℕ → ℕ) (at : ℕ) (bytes : List ℕ) (image : ℕ → ℕ) : Type 0 where
  pub kept : (place : ℕ) → (place < at ⊎ at + 1 + length bytes ≤ place) → image place ≡ seen place
  pub gate : (image at ≡ seen at) ⊎ (bytes_at image (at + 1) (length bytes) ≡ bytes)

-- the gate is open, and the bytes stand behind it
pub record IsOpened (seen : ℕ → ℕ) (at : ℕ) (written : List ℕ) (image : ℕ → ℕ) : Type 0 where
  pub kept : (place : ℕ) → (place < at ⊎ at + 1 + length written ≤ place) → image place ≡ seen place
  pub gate : image at ≡ 165
  pub bytes : bytes_at image (at + 1) (length written) ≡ written

-- the bytes that a read gives
abbrev pub Is : (ℕ → ℕ) → (ℕ → ℕ) → Type 0
Is seen now = now ≡ seen
