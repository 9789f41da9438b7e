-- A filter table as a value.
use Rattle.std.specs.Prelude.{ℕ, List, map, filter}
use Rattle.ip_scope.specs.declared.family.Family.{Family}
use Rattle.filter_table.specs.declared.placed.PlacedAcl.{PlacedAcl}
use Rattle.filter_table.specs.Ranks.{kind_of, ranked, is_of_kind, slot_of}
use Rattle.filter_table.specs.TableRows.{PlacedScrub, rank_of}

-- the rows of mitigations and those of access lists, each in order of place, and how many of each there may be
pub record TableValue : Type 0 where
  pub scrub_room : ℕ
  pub acl_room : ℕ
  pub scrubs : List PlacedScrub
  pub acls : List PlacedAcl

-- the slots of the rows whose prefix has this family and length, in order of the prefix's number and then of place
abbrev pub slots_of : Family → ℕ → List PlacedScrub → List ℕ
slots_of family length placed = map slot_of (filter (is_of_kind (kind_of family length)) (ranked (map rank_of placed)))
