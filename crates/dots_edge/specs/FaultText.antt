-- The words of a host file's fault.
use Rattle.std.specs.Prelude.{ℕ, List, ◌++◌, codes, decimal, Option, Some, None}
use Rattle.dots_edge.specs.declared.host_fault.HostFault.{HostFault}
use Rattle.dots_edge.specs.declared.host_fault.HostFault.TheVariants as fault

abbrev pub fault_text : HostFault → List ℕ
fault_text (fault.Line n) = codes "host file line " ++ decimal n
fault_text (fault.Twice n) = codes "host file twice " ++ decimal n
fault_text (fault.Many n) = codes "host file many " ++ decimal n
fault_text (fault.Wildcard n) = codes "host file wildcard " ++ decimal n
fault_text fault.NoMemory = codes "out of memory"

-- the line at which it is, counted from 1
abbrev pub line_of : HostFault → Option ℕ
line_of (fault.Line n) = Some n
line_of (fault.Twice n) = Some n
line_of (fault.Many n) = Some n
line_of (fault.Wildcard n) = Some n
line_of fault.NoMemory = None
