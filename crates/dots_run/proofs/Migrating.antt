-- What three files come to, without the causes.
use Rattle.std.proofs.Common.{◌≡◌, ◌⊎◌, inl, inr, ℕ, List, Option, Result, Ok, Err}
use Rattle.std.specs.Prelude.{⊤}
use Rattle.dots_script.specs.declared.checked.Unchecked.{Unchecked}
use Rattle.dots_script.specs.declared.checked.Unchecked.TheVariants as unchecked
use Rattle.host_checks.specs.declared.moving_files.Migration.{Migration}
use Rattle.dots_run.specs.Migrate.{FindsEnd, Migrates}

finds_whatever : (old new host : Option (List ℕ)) (unread : Type 0) (found : Result Migration Unchecked) → FindsEnd old new host unread found → FindsEnd old new host ⊤ found
finds_whatever old new host unread (Ok end) finds = finds
finds_whatever old new host unread (Err unchecked.ReadFailed) finds = tt
finds_whatever old new host unread (Err unchecked.NoMemory) finds = tt

pub whatever : (status : ℕ) (old new host : Option (List ℕ)) (unread unwritten : Type 0) → Migrates status old new host unread unwritten → Migrates status old new host ⊤ ⊤
whatever status old new host unread unwritten is = record {
  found = is.found;
  finds = finds_whatever old new host unread is.found is.finds;
  is_status = elim is.is_status [
    | inl same ↦ inl same
    | inr failed ↦ inr (failed.0, tt)
  ];
}
