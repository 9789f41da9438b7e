-- What a call answers that may lack memory.
use Rattle.std.specs.Prelude.{◌≡◌, Result, Ok, Err, Bool, true, false}
use Rattle.conflict_rules.specs.declared.fault.PutFault.{PutFault}
use Rattle.conflict_rules.specs.declared.fault.PutFault.TheVariants as faults

-- Memory is taken for targets that are copied or made. The rules that come before that take none.
abbrev pub takes_memory : {A : Type 0} → Result A PutFault → Bool
takes_memory (Err faults.Collision) = false
takes_memory (Err faults.Changed) = false
takes_memory (Err faults.UnknownAlias) = false
takes_memory (Err faults.TooMany) = false
takes_memory _ = true

-- A fault is the one that was judged. Want of memory comes only in place of what takes memory.
abbrev pub Fails : {A : Type 0} → PutFault → Result A PutFault → Type 0
Fails faults.NoMemory judged = takes_memory judged ≡ true
Fails fault judged = judged ≡ Err fault

-- it is what was judged, unless memory ran out where it is taken
abbrev pub Gives : {A : Type 0} → Result A PutFault → Result A PutFault → Type 0
Gives (Ok x) judged = judged ≡ Ok x
Gives (Err fault) judged = Fails fault judged
