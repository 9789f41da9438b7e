-- What is printed of a fault.
use Rattle.std.specs.Prelude.{ℕ, List, codes}
use Rattle.list_json.specs.declared.fault.ListFault.{ListFault}
use Rattle.list_json.specs.declared.fault.ListFault.TheVariants as fault

-- what is wrong; which member it is of isn't printed
abbrev pub fault_text : ListFault → List ℕ
fault_text (fault.Missing of) = codes "a member is missing"
fault_text (fault.Invalid of) = codes "a member has a value that it can't have"
fault_text fault.Unknown = codes "a member is unknown"
fault_text fault.NoMemory = codes "out of memory"
