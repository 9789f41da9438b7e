-- What a call leaves of a disk, where the disk tells it. A disk tells it always or never.
use Rattle.std.specs.Prelude.{◌≡◌, ◌⊎◌, ℕ, List, [], ◌∷◌, ◌++◌, length, Option, Some, None, ⊤}
use Rattle.dots_host.specs.Media.{Medium, Media, IsImage, all_media, next_media}

-- one moment came, which has this relation to the last one
abbrev pub Becomes : Option Media → Option Media → (Medium → Medium → Type 0) → Type 0
Becomes None None Step = ⊤
Becomes (Some old) (Some new) Step = (medium : Medium) × (new ≡ next_media old medium) × Step old.now medium
Becomes None (Some new) Step = ⊥
Becomes (Some old) None Step = ⊥

-- the same, or no moment came and nothing changed
abbrev pub MayBecome : Option Media → Option Media → (Medium → Medium → Type 0) → Type 0
MayBecome None None Step = ⊤
MayBecome (Some old) (Some new) Step = (new ≡ old) ⊎ ((medium : Medium) × (new ≡ next_media old medium) × Step old.now medium)
MayBecome None (Some new) Step = ⊥
MayBecome (Some old) None Step = ⊥

abbrev pub Stays : Medium → Medium → Type 0
Stays old new = new ≡ old

-- each of the media has this
abbrev pub EachMedium : List Medium → (Medium → Type 0) → Type 0
EachMedium [] P = ⊤
EachMedium (medium ∷ media) P = P medium × EachMedium media P

-- moments came, at each of which the disk was as before
abbrev pub KeepsMedia : Option Media → Option Media → Type 0
KeepsMedia None None = ⊤
KeepsMedia (Some old) (Some new) = (added : List Medium) × (all_media new ≡ all_media old ++ added) × EachMedium added (λ medium. medium ≡ old.now) × (new.now ≡ old.now)
KeepsMedia None (Some new) = ⊥
KeepsMedia (Some old) None = ⊥

-- Moments came, and at each of them every image that a crash may leave has this.
abbrev pub Leaves : Option Media → Option Media → ((ℕ → ℕ) → Type 0) → Type 0
Leaves None None P = ⊤
Leaves (Some old) (Some new) P = (added : List Medium) × (all_media new ≡ all_media old ++ added) × EachMedium added (λ medium. (image : ℕ → ℕ) → IsImage medium image → P image)
Leaves None (Some new) P = ⊥
Leaves (Some old) None P = ⊥

-- what a read gives has this, and nothing is pending: so every image has it
abbrev pub RestsWith : Option Media → ((ℕ → ℕ) → Type 0) → Type 0
RestsWith None P = ⊥
RestsWith (Some media) P = (media.now.pending ≡ []) × P media.now.seen

-- there are as many moments as calls were made
abbrev pub IsMoment : ℕ → Option Media → Type 0
IsMoment moment None = ⊤
IsMoment moment (Some media) = length media.past ≡ moment
