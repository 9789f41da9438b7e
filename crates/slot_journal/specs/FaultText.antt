-- What is printed of a fault.
use Rattle.std.specs.Prelude.{ℕ, List, ◌++◌, codes, decimal}
use Rattle.slot_journal.specs.declared.fault.JournalFault.{JournalFault}
use Rattle.slot_journal.specs.declared.fault.JournalFault.TheVariants as fault

abbrev pub fault_text : JournalFault → List ℕ
fault_text (fault.TooSmall needed found) = codes "the disk has " ++ decimal found ++ codes " bytes of " ++ decimal needed
fault_text (fault.NotOurs at) = codes "not a journal's at " ++ decimal at
fault_text (fault.SettingsChanged stored given) = codes "the journal is that of other settings"
fault_text fault.DiskFault = codes "the disk failed"
fault_text fault.NoMemory = codes "out of memory"
