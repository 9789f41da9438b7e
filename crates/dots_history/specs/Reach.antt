-- Between which numbers the addresses of prefixes lie, by family.
use Rattle.std.specs.Prelude.{◌≡◌, ℕ, ◌+◌, ◌-◌, ◌*◌, ◌/◌, min, max, Bool, true, ◌&&◌, nat_le, List, [], ◌∷◌}
use Rattle.ip_scope.specs.declared.family.Family.{Family}
use Rattle.ip_scope.specs.declared.family.Family.TheVariants.{V4, V6}
use Rattle.ip_scope.specs.Prefix.{PrefixValue, block_size, meets}
use Rattle.dots_history.specs.declared.put.Target.{Target}
use Rattle.dots_history.specs.declared.reach.Reach.{Reach}
use Rattle.dots_history.specs.declared.reach.Reaches.{Reaches}
use Rattle.dots_history.specs.Entries.{some_prefix}

-- the numbers of the lowest and the highest address of a prefix
abbrev pub first_of : PrefixValue → ℕ
first_of p = p.number / block_size p.family p.length * block_size p.family p.length

abbrev pub last_of : PrefixValue → ℕ
last_of p = first_of p + (block_size p.family p.length - 1)

-- the reach of one family, and the same with another one there
abbrev pub reach_in : Family → Reaches → Reach
reach_in V4 reaches = reaches.short
reach_in V6 reaches = reaches.long

abbrev pub with_reach : Family → Reach → Reaches → Reaches
with_reach V4 reach reaches = record { short = reach; long = reaches.long }
with_reach V6 reach reaches = record { short = reaches.short; long = reach }

abbrev pub widened_by : PrefixValue → Reach → Reach
widened_by p reach = record { lowest = min reach.lowest (first_of p); highest = max reach.highest (last_of p) }

-- wide enough for one more prefix
abbrev pub widened : PrefixValue → Reaches → Reaches
widened p reaches = with_reach p.family (widened_by p (reach_in p.family reaches)) reaches

-- and for these
abbrev pub over_prefixes : List PrefixValue → Reaches → Reaches
over_prefixes [] reaches = reaches
over_prefixes (p ∷ ps) reaches = over_prefixes ps (widened p reaches)

abbrev pub over_targets : List Target → Reaches → Reaches
over_targets [] reaches = reaches
over_targets (target ∷ targets) reaches = over_targets targets (over_prefixes target.prefixes reaches)

-- an address of the prefix lies there
abbrev pub is_within : PrefixValue → Reach → Bool
is_within p reach = nat_le (first_of p) reach.highest && nat_le reach.lowest (last_of p)

abbrev pub touches : PrefixValue → Reaches → Bool
touches p reaches = is_within p (reach_in p.family reaches)

-- what meets one of the targets has an address there
abbrev pub Encloses : Reaches → List Target → Type 0
Encloses reaches targets = (p : PrefixValue) → some_prefix (meets p) targets ≡ true → touches p reaches ≡ true
