-- The words that ask for a journal under other settings, and how that ends.
use Rattle.std.specs.Prelude.{◌≡◌, ◌⊎◌, ℕ, List, [], ◌∷◌, Bool, false, ◌&&◌, bytes_eq, codes, Option, IfSome, Result, Ok, Err, ⊤}
use Rattle.dots_script.specs.declared.checked.Unchecked.{Unchecked}
use Rattle.dots_script.specs.declared.checked.Unchecked.TheVariants as unchecked
use Rattle.host_checks.specs.HostChecks.{front_of}
use Rattle.host_checks.specs.Moving.{EndsBy}
use Rattle.host_checks.specs.declared.moving_files.Migration.{Migration}
use Rattle.host_checks.specs.declared.moving_files.MigrateEnd.{MigrateEnd}
use Rattle.host_checks.specs.declared.moving_files.MigrateEnd.TheVariants as end
use Rattle.dots_machine.specs.Commands.{is_word}

-- `migrate OLD NEW HOSTFILE NEWJOURNAL`, with `dry` behind it or without
abbrev pub is_migrate : List (List ℕ) → Bool
is_migrate (name ∷ old ∷ new ∷ host ∷ path ∷ []) = bytes_eq name (codes "migrate") && ((is_word old && is_word new) && (is_word host && is_word path))
is_migrate (name ∷ old ∷ new ∷ host ∷ path ∷ last ∷ []) =
    bytes_eq name (codes "migrate") && (((is_word old && is_word new) && (is_word host && is_word path)) && bytes_eq last (codes "dry"))
is_migrate _ = false

-- the exit status, which is that of a server for the same cause
abbrev pub migrate_status : MigrateEnd → ℕ
migrate_status end.Done = 0
migrate_status end.SettingsAtFault = 3
migrate_status end.DiskFailed = 6
migrate_status end.NotOurs = 7
migrate_status end.OtherSettings = 8
migrate_status end.TooSmall = 10

abbrev pub fourth_of : List (List ℕ) → List ℕ
fourth_of (name ∷ one ∷ two ∷ word ∷ words) = word
fourth_of _ = []

-- what the three files come to, where they tell their bytes; no answer where a read of one failed, or for want of memory
abbrev pub FindsEnd : Option (List ℕ) → Option (List ℕ) → Option (List ℕ) → Type 0 → Result Migration Unchecked → Type 0
FindsEnd old new host unread (Ok found) =
    IfSome old (λ former. IfSome new (λ later. IfSome host (λ lines. EndsBy (front_of former) (front_of later) (front_of lines) found.end found.text)))
FindsEnd old new host unread (Err unchecked.ReadFailed) = unread
FindsEnd old new host unread (Err unchecked.NoMemory) = ⊤

-- its status
abbrev pub found_status : Result Migration Unchecked → ℕ
found_status (Ok found) = migrate_status found.end
found_status (Err unchecked.ReadFailed) = 5
found_status (Err unchecked.NoMemory) = 4

-- The status is that of what is found of the three files; or the report of it couldn't be written.
pub record Migrates (status : ℕ) (old new host : Option (List ℕ)) (unread unwritten : Type 0) : Type 0 where
  pub found : Result Migration Unchecked
  pub finds : FindsEnd old new host unread found
  pub is_status : (status ≡ found_status found) ⊎ ((status ≡ 9) × unwritten)
