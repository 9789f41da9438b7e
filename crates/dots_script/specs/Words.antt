-- A number of a script line: what stands before the first space.
use Rattle.std.specs.Prelude.{◌≡◌, ◌≢◌, ℕ, ◌^◌, ◌<◌, List, ◌∷◌, ◌++◌, length, get_or, decimal}

-- no byte is a space
abbrev pub HasNoSpace : List ℕ → Type 0
HasNoSpace bytes = (k : ℕ) → k < length bytes → get_or bytes k 0 ≢ 32

-- the bytes are the number in decimal, a space, and the rest
pub record IsAfterNumber (bytes : List ℕ) (number : ℕ) (rest : List ℕ) : Type 0 where
  pub small : number < 10 ^ 19
  pub spelled : bytes ≡ decimal number ++ (32 ∷ rest)
