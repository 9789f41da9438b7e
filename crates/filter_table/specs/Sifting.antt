-- Ranks that go at once, by their places.
use Rattle.std.specs.Prelude.{ℕ, Bool, not, ◌&&◌, nat_le, List, ◌++◌, take, drop}
use Rattle.filter_table.specs.declared.rank.Rank.{Rank}

-- the place is neither below the first number nor above the other
abbrev pub is_between : ℕ → ℕ → ℕ → Bool
is_between low high place = nat_le low place && nat_le place high

-- the place of the rank isn't
abbrev pub is_outside : ℕ → ℕ → Rank → Bool
is_outside low high rank = not (is_between low high rank.place)

-- behind those that are staying there are holes: what stands behind them up to the end comes before them
abbrev pub closed : {A : Type 0} → ℕ → ℕ → ℕ → List A → List A
closed staying holes end xs = (take staying (take end xs) ++ (drop holes (drop staying (take end xs)) ++ take holes (drop staying (take end xs)))) ++ drop end xs
