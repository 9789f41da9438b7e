-- What a body has, and what is made of it.
use Rattle.std.proofs.Common.{◌≡◌, Result, Ok, Err, refl, ap}
use Rattle.list_json.specs.declared.fault.ListFault.{ListFault}
use Rattle.list_json.specs.declared.fault.ListFault.TheVariants as faults
use Rattle.list_json.specs.Steps.{◌>>=◌, Fails}

checked : {A B : Type 0} (put : A → B) (x : A) (check : Result (Unit {0}) ListFault) → (check >>= λ _. Ok (put x)) ≡ ((check >>= λ _. Ok x) >>= λ y. Ok (put y))
checked put x (Ok y) = refl
checked put x (Err e) = refl

-- what is checked is made into a request before or after
pub put_checked : {A B : Type 0} (put : A → B) (check : A → Result (Unit {0}) ListFault) (body : Result A ListFault)
    → (body >>= λ x. check x >>= λ _. Ok (put x)) ≡ ((body >>= λ x. check x >>= λ _. Ok x) >>= λ x. Ok (put x))
put_checked put check (Ok x) = checked put x (check x)
put_checked put check (Err e) = refl

-- where a step fails, so does what follows it
pub fails_on : {A B : Type 0} (fault : ListFault) (read : Result A ListFault) (next : A → Result B ListFault) → Fails fault read → Fails fault (read >>= next)
fails_on (faults.Missing member) read next is = ap (λ r. r >>= next) is
fails_on (faults.Invalid member) read next is = ap (λ r. r >>= next) is
fails_on faults.Unknown read next is = ap (λ r. r >>= next) is
fails_on faults.NoMemory read next is = tt
