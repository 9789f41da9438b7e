-- What values of JSON that are found stand for.
use Rattle.std.specs.Prelude.{◌≡◌, Result, Ok, Err}
use Rattle.std.specs.Borrow.{Bor}
use Rattle.serde_json.specs.Data.{Data}
use Rattle.serde_json.specs.View.{view}
use Rattle.serde_json.specs.declared.value.Value.{Value}
use Rattle.list_json.specs.declared.fault.ListFault.{ListFault}

-- what was found is what reading gives; no memory is taken
abbrev pub ReadsValue : Result (Bor Value) ListFault → Result Data ListFault → Type 0
ReadsValue (Ok value) read = read ≡ Ok (view value.now)
ReadsValue (Err fault) read = read ≡ Err fault
