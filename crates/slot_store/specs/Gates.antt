-- Gates that are looked for on a disk.
use Rattle.std.specs.Prelude.{◌≡◌, ℕ, ◌+◌, ◌*◌, ◌==◌, ◌<◌, ◌≤◌, not, Bool, true, false, Option, Some, None}
use Rattle.dots_host.specs.Media.{Media}
use Rattle.slot_store.specs.declared.wanted.Wanted.{Wanted}
use Rattle.slot_store.specs.declared.wanted.Wanted.TheVariants as wanted

-- whether a gate with this byte is one of those that are looked for
abbrev pub is_wanted : Wanted → ℕ → Bool
is_wanted wanted.Open byte = byte == 165
is_wanted wanted.NotOpen byte = not (byte == 165)
is_wanted wanted.NotZero byte = not (byte == 0)

-- the disk is told, and a read gives this now
abbrev pub Sees : Option Media → (ℕ → ℕ) → Type 0
Sees None seen = ⊥
Sees (Some media) seen = media.now.seen ≡ seen

-- no gate of the range is one of them
abbrev pub NoneIs : Wanted → (ℕ → ℕ) → ℕ → ℕ → ℕ → Type 0
NoneIs what seen first from to = (index : ℕ) → from ≤ index → index < to → is_wanted what (seen (first + 8192 * index)) ≡ false

-- the first gate of the range that is one of them
pub record IsFirst (what : Wanted) (seen : ℕ → ℕ) (first from to at : ℕ) : Type 0 where
  pub low : from ≤ at
  pub high : at < to
  pub is : is_wanted what (seen (first + 8192 * at)) ≡ true
  pub before : NoneIs what seen first from at
