-- The line that is printed of a fault.
use Rattle.std.specs.Prelude.{ℕ, List, ◌++◌, codes, decimal}
use Rattle.dots_settings.specs.declared.fault.SettingsFault.{SettingsFault}
use Rattle.dots_settings.specs.declared.fault.SettingsFault.TheVariants as fault

abbrev pub fault_text : SettingsFault → List ℕ
fault_text (fault.Line n) = codes "settings line " ++ decimal n
fault_text (fault.Twice n) = codes "settings twice " ++ decimal n
fault_text (fault.Unknown n) = codes "settings unknown " ++ decimal n
fault_text (fault.Overlap a b) = codes "settings overlap " ++ decimal a ++ codes " " ++ decimal b
fault_text (fault.Capacity n) = codes "settings capacity " ++ decimal n
fault_text fault.ReadFault = codes "reading the settings failed"
fault_text fault.NoMemory = codes "out of memory"
