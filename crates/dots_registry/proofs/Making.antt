-- What stands in a half once a slot is free there.
use Rattle.std.proofs.Common.{◌≡◌, ◌<◌, ◌≤◌, List}
use Rattle.std.specs.Prelude.{nat_lt}
use Rattle.std.proofs.lemmas.Bool.{cond-true, cond-false, lt-ltb, le-ltb}
use Rattle.dots_history.specs.declared.entry.Entry.{Entry}
use Rattle.dots_history.specs.Keeping.{kept}
use Rattle.dots_registry.specs.RegistryValues.{time_of, number_remembered}
use Rattle.dots_registry.specs.LedgerValues.{LedgerValue, once_free}

pub free_is : (ledger : LedgerValue) (entries : List Entry) → ledger.journal.used < ledger.journal.slots → once_free ledger entries ≡ entries
free_is ledger entries free =
    cond-true (nat_lt ledger.journal.used ledger.journal.slots) entries (kept (number_remembered ledger.registry) (time_of ledger.registry) entries) (lt-ltb ledger.journal.used ledger.journal.slots free)

pub full_is : (ledger : LedgerValue) (entries : List Entry) → ledger.journal.slots ≤ ledger.journal.used
    → once_free ledger entries ≡ kept (number_remembered ledger.registry) (time_of ledger.registry) entries
full_is ledger entries full =
    cond-false (nat_lt ledger.journal.used ledger.journal.slots) entries (kept (number_remembered ledger.registry) (time_of ledger.registry) entries) (le-ltb ledger.journal.used ledger.journal.slots full)
