-- What is printed of a fault.
use Rattle.std.specs.Prelude.{ℕ, List, codes}
use Rattle.list_json.specs.declared.json_fault.JsonFault.{JsonFault}
use Rattle.list_json.specs.declared.json_fault.JsonFault.TheVariants.{NotJson, NoMemory}

abbrev pub fault_text : JsonFault → List ℕ
fault_text NotJson = codes "no JSON"
fault_text NoMemory = codes "out of memory"
