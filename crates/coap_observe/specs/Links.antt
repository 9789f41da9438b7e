-- Links from each place to the one behind it, and to the one before it.
use Rattle.std.specs.Prelude.{◌≡◌, ◌≢◌, ℕ, zero, suc, ◌+◌, ◌<◌, List, [], ◌∷◌, length, slice_index_or}

abbrev pub link : List ℕ → ℕ → ℕ
link links at = slice_index_or links at 0

-- the places to which so many links lead from one on
abbrev pub walk : ℕ → List ℕ → ℕ → List ℕ
walk zero links from = []
walk (suc n) links from = link links from ∷ walk n links (link links from)

-- links lead from one place through these to another, and back
abbrev pub Linked : List ℕ → List ℕ → ℕ → List ℕ → ℕ → Type 0
Linked behind before from [] to = (link behind from ≡ to) × (link before to ≡ from)
Linked behind before from (x ∷ xs) to = (link behind from ≡ x) × (link before x ≡ from) × Linked behind before x xs to

-- each of them has this
abbrev pub Each : (ℕ → Type 0) → List ℕ → Type 0
Each P [] = Unit {0}
Each P (x ∷ xs) = P x × Each P xs

abbrev pub Apart : ℕ → List ℕ → Type 0
Apart n xs = Each (λ x. x ≢ n) xs

-- no two are the same
abbrev pub Distinct : List ℕ → Type 0
Distinct [] = Unit {0}
Distinct (x ∷ xs) = Apart x xs × Distinct xs

-- So many slots below the room are linked in a ring with the room itself, where the ring begins and ends.
pub record IsRing (behind before : List ℕ) (count room : ℕ) : Type 0 where
  pub linked : Linked behind before room (walk count behind room) room
  pub distinct : Distinct (walk count behind room)
  pub below : Each (λ x. x < room) (walk count behind room)
  pub behind_size : length behind ≡ room + 1
  pub before_size : length before ≡ room + 1
