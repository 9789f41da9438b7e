-- What is printed of a fault.
use Rattle.std.specs.Prelude.{ℕ, List, ◌++◌, codes, decimal}
use Rattle.slot_journal.specs.declared.record_fault.EntryFault.{EntryFault}
use Rattle.slot_journal.specs.declared.record_fault.EntryFault.TheVariants.{NotEntry, NoMemory}

abbrev pub fault_text : EntryFault → List ℕ
fault_text (NotEntry at) = codes "no record can go on at " ++ decimal at
fault_text NoMemory = codes "out of memory"
