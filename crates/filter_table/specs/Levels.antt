-- How many ranks there are of each kind, the kinds in order.
use Rattle.std.specs.Prelude.{◌≡◌, ℕ, ◌+◌, ◌-◌, ◌≤◌, Bool, ◌==◌, nat_lt, nat_le, if◌then◌else◌, List, [], ◌∷◌}
use Rattle.filter_table.specs.declared.rank.Rank.{Rank}
use Rattle.filter_table.specs.declared.level.Level.{Level}

-- a rank of this kind stands before all others
abbrev pub joined : ℕ → List Level → List Level
joined kind [] = record { kind = kind; len = 1 } ∷ []
joined kind (level ∷ levels) =
    if level.kind == kind then record { kind = level.kind; len = level.len + 1 } ∷ levels else record { kind = kind; len = 1 } ∷ level ∷ levels

abbrev pub levels_of : List Rank → List Level
levels_of [] = []
levels_of (rank ∷ ranks) = joined rank.kind (levels_of ranks)

-- one more rank of this kind, among kinds in order
abbrev pub one_more : ℕ → List Level → List Level
one_more kind [] = record { kind = kind; len = 1 } ∷ []
one_more kind (level ∷ levels) = if nat_lt level.kind kind then level ∷ one_more kind levels else joined kind (level ∷ levels)

abbrev pub without_one : Level → List Level → List Level
without_one level levels = if nat_le level.len 1 then levels else record { kind = level.kind; len = level.len - 1 } ∷ levels

-- one rank of this kind less
abbrev pub one_less : ℕ → List Level → List Level
one_less kind [] = []
one_less kind (level ∷ levels) = if nat_lt level.kind kind then level ∷ one_less kind levels else without_one level levels

-- each is of this kind or a higher one
abbrev pub AreFrom : ℕ → List Rank → Type 0
AreFrom kind [] = Unit {0}
AreFrom kind (rank ∷ ranks) = (kind ≤ rank.kind) × AreFrom kind ranks

-- none is of a higher kind than a later one
abbrev pub KindsRise : List Rank → Type 0
KindsRise [] = Unit {0}
KindsRise (rank ∷ ranks) = AreFrom rank.kind ranks × KindsRise ranks
