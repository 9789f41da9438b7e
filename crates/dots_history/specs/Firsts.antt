-- The first of some later entries that ends a mitigation.
use Rattle.std.specs.Prelude.{◌≡◌, ℕ, ◌<◌, true, false, List, Some, slice_get}
use Rattle.dots_history.specs.declared.entry.Entry.{Entry}
use Rattle.dots_history.specs.Entries.{ends}

-- at this place is one that ends it, and none before it does
pub record IsFirstEnder (put : Entry) (later : List Entry) (place : ℕ) : Type 0 where
  pub entry : Entry
  pub found : slice_get later place ≡ Some entry
  pub is_ender : ends put entry ≡ true
  pub first : (i : ℕ) (e : Entry) → i < place → slice_get later i ≡ Some e → ends put e ≡ false
