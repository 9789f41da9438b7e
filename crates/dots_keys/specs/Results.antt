-- Reading in steps: each step gives what it reads, or the refusal that ends the reading.
use Rattle.std.specs.Prelude.{◌≡◌, ℕ, Result, Ok, Err, Bool, true, false}
use Rattle.dots_lists.specs.Steps as steps
use Rattle.dots_keys.specs.declared.reject.Reject.{Reject}
use Rattle.dots_keys.specs.declared.reject.Reject.TheVariants as reject
use Rattle.dots_keys.specs.declared.reject.Cause.TheVariants as cause

infixl 10 ◌>>=◌
abbrev pub ◌>>=◌ : {A B : Type 0} → Result A Reject → (A → Result B Reject) → Result B Reject
(Ok x) >>= f = f x
(Err e) >>= f = Err e

-- a value of this key that can't be, and a key that is missing
abbrev pub invalid : ℕ → Reject
invalid key = reject.Body (cause.Invalid key)

abbrev pub missing : ℕ → Reject
missing key = reject.Body (cause.Missing key)

abbrev pub unknown_key : ℕ → Reject
unknown_key key = reject.Body (cause.Unknown key)

-- want of memory
abbrev pub lacks : Reject → Bool
lacks reject.NoMemory = true
lacks _ = false

-- What a function answered is what reading gives, unless memory ran out.
abbrev pub Fails : {A : Type 0} → Reject → Result A Reject → Type 0
Fails fault read = steps.Fails lacks fault read

abbrev pub Gives : {A : Type 0} → Result A Reject → Result A Reject → Type 0
Gives answer read = steps.Gives lacks answer read

-- the same where what was read is stored in a value
abbrev pub Stores : {A Done : Type 0} → Result Done Reject → A → Result A Reject → Type 0
Stores (Ok done) new read = read ≡ Ok new
Stores (Err e) new read = Fails e read

-- What a function answered is what reading gives, seen by view, or left in a value; no memory is taken.
abbrev pub Reads : {A B : Type 0} → (A → B) → Result A Reject → Result B Reject → Type 0
Reads view (Ok x) read = read ≡ Ok (view x)
Reads view (Err e) read = read ≡ Err e

abbrev pub ReadsInto : {A Done : Type 0} → Result Done Reject → A → Result A Reject → Type 0
ReadsInto (Ok done) new read = read ≡ Ok new
ReadsInto (Err e) new read = read ≡ Err e

-- a fact of an answer, unless it is want of memory
abbrev pub Fulfils : Reject → Type 0 → Type 0
Fulfils fault fact = steps.unless (lacks fault) fact

abbrev pub UnlessNoMemory : {A : Type 0} → Result A Reject → Type 0 → Type 0
UnlessNoMemory answer fact = steps.UnlessNoMemory lacks answer fact
