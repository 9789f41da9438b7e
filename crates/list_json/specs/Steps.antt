-- Reading in steps: each step gives what it reads, or the fault that ends the reading.
use Rattle.std.specs.Prelude.{◌≡◌, ℕ, List, [], ◌∷◌, nat_le, if◌then◌else◌, Option, Some, None, option_and_then, ok_or, Result, Ok, Err, Bool, true, false}
use Rattle.dots_lists.specs.Steps as steps
use Rattle.serde_json.specs.Data.{Data, Items, no_items, item}
use Rattle.serde_json.specs.Events.{items_len}
use Rattle.serde_json.specs.Find.{as_array}
use Rattle.list_json.specs.declared.fault.Member.{Member}
use Rattle.list_json.specs.declared.fault.ListFault.{ListFault}
use Rattle.list_json.specs.declared.fault.ListFault.TheVariants as faults

infixl 10 ◌>>=◌
abbrev pub ◌>>=◌ : {A B : Type 0} → Result A ListFault → (A → Result B ListFault) → Result B ListFault
(Ok x) >>= f = f x
(Err e) >>= f = Err e

-- want of memory
abbrev pub lacks : ListFault → Bool
lacks faults.NoMemory = true
lacks _ = false

-- What a function answered is what reading gives, unless memory ran out.
abbrev pub Fails : {A : Type 0} → ListFault → Result A ListFault → Type 0
Fails fault read = steps.Fails lacks fault read

abbrev pub Gives : {A : Type 0} → Result A ListFault → Result A ListFault → Type 0
Gives answer read = steps.Gives lacks answer read

-- ---- members of an object

-- one that has to be there
abbrev pub needed : {A : Type 0} → Member → (Data → Result A ListFault) → Option Data → Result A ListFault
needed member read None = Err (faults.Missing member)
needed member read (Some d) = read d

-- one that may be absent
abbrev pub given : {A : Type 0} → (Data → Result A ListFault) → Option Data → Result (Option A) ListFault
given read None = Ok None
given read (Some d) = read d >>= λ value. Ok (Some value)

-- one that stands for something where it is absent
abbrev pub otherwise : {A : Type 0} → A → (Data → Result A ListFault) → Option Data → Result A ListFault
otherwise default read None = Ok default
otherwise default read (Some d) = read d

-- ---- arrays

-- what each item says, in order
abbrev pub each_item : {A : Type 0} → (Data → Result A ListFault) → Items → Result (List A) ListFault
each_item read no_items = Ok []
each_item read (item d ds) = read d >>= λ value. each_item read ds >>= λ values. Ok (value ∷ values)

abbrev pub at_most : ℕ → Items → Option Items
at_most most ds = if nat_le (items_len ds) most then Some ds else None

-- an array of at most so many items
abbrev pub few_items : ℕ → Data → Option Items
few_items most d = option_and_then (at_most most) (as_array d)

-- a member that is an array of at most so many items; an absent one is as an empty one
abbrev pub items_in : {A : Type 0} → Member → ℕ → (Data → Result A ListFault) → Option Data → Result (List A) ListFault
items_in member most read None = Ok []
items_in member most read (Some d) = ok_or (few_items most d) (faults.Invalid member) >>= each_item read
