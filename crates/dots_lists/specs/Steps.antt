-- Steps that may fail, of which want of memory alone is free.
use Rattle.std.specs.Prelude.{◌≡◌, Bool, true, false, Result, Ok, Err, ⊤}

-- nothing is said where it is so
abbrev pub unless : Bool → Type 0 → Type 0
unless true fact = ⊤
unless false fact = fact

-- A fault is the one that a step should answer; `lacks` says which fault is want of memory, and that may come in place of any answer.
abbrev pub Fails : {A E : Type 0} → (E → Bool) → E → Result A E → Type 0
Fails lacks fault answer = unless (lacks fault) (answer ≡ Err fault)

-- what a step answered is what it should, unless memory ran out
abbrev pub Gives : {A E : Type 0} → (E → Bool) → Result A E → Result A E → Type 0
Gives lacks (Ok x) answer = answer ≡ Ok x
Gives lacks (Err fault) answer = Fails lacks fault answer

-- a fact of what a step answered, unless memory ran out
abbrev pub UnlessNoMemory : {A E : Type 0} → (E → Bool) → Result A E → Type 0 → Type 0
UnlessNoMemory lacks (Ok x) fact = fact
UnlessNoMemory lacks (Err fault) fact = unless (lacks fault) fact
