-- Reading items one after the other, as a loop does.
use Rattle.std.proofs.Common.{◌≡◌, ℕ, zero, suc, ◌+◌, ◌-◌, ◌*◌, ◌^◌, ◌<◌, ◌≤◌, Bool, true, false, if◌then◌else◌, take, drop, get_or, subst, List, [], ◌∷◌, ◌++◌, length, Ok, Err, refl, sym, ap, ◌∙◌, append_assoc, arith}
use Rattle.std.proofs.lemmas.List.{append-nil, drop_more}
use Rattle.std.specs.List.{list_all}
use Rattle.std.proofs.lemmas.Nat.{pow-add}
use Rattle.std.proofs.Math.Nat.{pow-le-pow_right}
use native.Mathlib.Numerals.{unary_clauses}
use Rattle.slot_journal.specs.declared.record_fault.EntryFault.{EntryFault}
use Rattle.slot_journal.specs.declared.record_fault.EntryFault.TheVariants.{NotEntry, NoMemory}
use Rattle.slot_journal.specs.RecordReading.{Read, ◌>>=◌, Stops, second, prepended, items_at, byte_at, within_at, exactly_at, address_at, leads, targets_at, target_at}
use Rattle.dots_history.specs.declared.put.Target.{Target}

-- what was read before, and what is still read
abbrev pub with_front : {A : Type 0} → List A → Read (List A) → Read (List A)
with_front front read = read >>= λ x. Ok (front ++ x.0, x.1)

-- a reading that stops as its first step does
pub stops_then : {A B : Type 0} (fault : EntryFault) (r : Read A) (s : Read B) → ((at : ℕ) → r ≡ Err at → s ≡ Err at) → Stops fault r → Stops fault s
stops_then (NotEntry at) r s then_stops h = then_stops at h
stops_then NoMemory r s then_stops h = tt

regroup : {A : Type 0} (front : List A) (a : A) (read : Read (List A)) → with_front front (read >>= λ x. Ok (a ∷ x.0, x.1)) ≡ with_front (front ++ a ∷ []) read
regroup front a (Ok x) = ap (λ l. Ok (l, x.1)) (sym (append_assoc front (a ∷ []) x.0))
regroup front a (Err at) = refl

-- a first value, and what is read behind it
abbrev beside : {A B : Type 0} → A → Read B → Read (A × B)
beside a read = read >>= λ y. Ok ((a, y.0), y.1)

abbrev made : {A B : Type 0} → (A → B) → Read A → Read B
made make read = read >>= λ p. Ok (make p.0, p.1)

flat : {A : Type 0} (a : A) (read : Read (List A)) → made prepended (beside a read) ≡ (read >>= λ x. Ok (a ∷ x.0, x.1))
flat a (Ok x) = refl
flat a (Err at) = refl

pub items_stop : {A : Type 0} (fault : EntryFault) (read : ℕ → List ℕ → Read A) (n end : ℕ) (front : List A) (rest : List ℕ) (total : Read (List A)) → 0 < n → Stops fault (read end rest)
    → with_front front (items_at read n end rest) ≡ total → Stops fault total
unfolding items_at
items_stop fault read n end front rest total some stops h =
    let k : n ≡ suc (n - 1) = omega arith in
    stops_then fault (read end rest) total (λ at bad. sym h ∙ ap (λ (m : ℕ). with_front front (items_at read m end rest)) k ∙ rw bad refl) stops

pub items_go : {A : Type 0} (read : ℕ → List ℕ → Read A) (n less end : ℕ) (front : List A) (a : A) (rest after : List ℕ) (total : Read (List A)) → n ≡ suc less → read end rest ≡ Ok (a, after)
    → with_front front (items_at read n end rest) ≡ total → with_front (front ++ a ∷ []) (items_at read less end after) ≡ total
unfolding items_at
items_go read n less end front a rest after total one good h =
    let step : with_front front (items_at read n end rest) ≡ with_front front (made prepended (beside a (items_at read less end after))) = rw (one, good) refl in
    sym (regroup front a (items_at read less end after)) ∙ sym (ap (with_front front) (flat a (items_at read less end after))) ∙ sym step ∙ h

pub items_done : {A : Type 0} (read : ℕ → List ℕ → Read A) (n end : ℕ) (front : List A) (rest : List ℕ) (total : Read (List A)) → n ≡ 0 → with_front front (items_at read n end rest) ≡ total → total ≡ Ok (front, rest)
unfolding items_at
items_done read n end front rest total none h =
    let step : with_front front (items_at read n end rest) ≡ Ok (front ++ [], rest) = rw none refl in
    sym h ∙ step ∙ ap (λ l. Ok (l, rest)) (append-nil front)

-- ---- numbers

-- what was read before, above what is still read
abbrev pub with_number : ℕ → Read ℕ → Read ℕ
with_number high read = read >>= λ x. Ok (high + x.0, x.1)

abbrev shifted : ℕ → ℕ × ℕ → ℕ
shifted n p = p.0 * 256 ^ n + p.1

with_byte : (number b n : ℕ) (read : Read ℕ) → with_number (number * 256 ^ suc n) (made (shifted n) (beside b read)) ≡ with_number ((number * 256 + b) * 256 ^ n) read
with_byte number b n (Ok x) = let high : 256 ^ suc n ≡ 256 * 256 ^ n = simp unary_clauses (omega arith) in ap (λ (m : ℕ). Ok (m, x.1)) (rw high (omega arith))
with_byte number b n (Err at) = refl

pub address_stop : (fault : EntryFault) (n leading end number : ℕ) (rest : List ℕ) (total : Read ℕ) → 0 < n → Stops fault (byte_at (leads leading) end rest)
    → with_number (number * 256 ^ n) (address_at n leading end rest) ≡ total → Stops fault total
unfolding address_at
address_stop fault n leading end number rest total some stops h =
    let k : n ≡ suc (n - 1) = omega arith in
    stops_then fault (byte_at (leads leading) end rest) total (λ at bad. sym h ∙ ap (λ (m : ℕ). with_number (number * 256 ^ m) (address_at m leading end rest)) k ∙ rw bad refl) stops

pub address_go : (n less leading end number b : ℕ) (rest after : List ℕ) (total : Read ℕ) → n ≡ suc less → byte_at (leads leading) end rest ≡ Ok (b, after)
    → with_number (number * 256 ^ n) (address_at n leading end rest) ≡ total → with_number ((number * 256 + b) * 256 ^ less) (address_at less (leading - 8) end after) ≡ total
unfolding address_at
address_go n less leading end number b rest after total one good h =
    let step : with_number (number * 256 ^ n) (address_at n leading end rest) ≡ with_number (number * 256 ^ suc less) (made (shifted less) (beside b (address_at less (leading - 8) end after))) = rw (one, good) refl in
    sym (with_byte number b less (address_at less (leading - 8) end after)) ∙ sym step ∙ h

pub address_done : (n leading end number : ℕ) (rest : List ℕ) (total : Read ℕ) → n ≡ 0 → with_number (number * 256 ^ n) (address_at n leading end rest) ≡ total → total ≡ Ok (number, rest)
unfolding address_at
address_done n leading end number rest total none h =
    let step : with_number (number * 256 ^ n) (address_at n leading end rest) ≡ Ok (number * 256 ^ 0 + 0, rest) = rw none refl in
    sym h ∙ step ∙ ap (λ (m : ℕ). Ok (m, rest)) (omega arith)

-- ---- characters

pub next_front : (i : ℕ) (xs : List ℕ) (b : ℕ) (ys : List ℕ) → drop i xs ≡ b ∷ ys → (take (suc i) xs ≡ take i xs ++ b ∷ []) × (drop (suc i) xs ≡ ys)
next_front zero [] b ys is = cc
next_front (suc i) [] b ys is = cc
next_front zero (x ∷ xs) b ys is = (cc, cc)
next_front (suc i) (x ∷ xs) b ys is = let r = next_front i xs b ys is in (ap (λ l. x ∷ l) r.0, r.1)

-- each byte that was read passes the test
abbrev Passed : (ℕ → Bool) → Read (List ℕ) → Type 0
Passed test (Ok x) = list_all test x.0 ≡ true
Passed test (Err at) = Unit {0}

passed_more : (test : ℕ → Bool) (b : ℕ) (read : Read (List ℕ)) → test b ≡ true → Passed test read → Passed test (made prepended (beside b read))
passed_more test b (Ok x) passes h = rw passes h
passed_more test b (Err at) passes h = tt

-- one character, and the others behind it
abbrev first_then : (ℕ → Bool) → ℕ → ℕ → Read ℕ → Read (List ℕ)
first_then test n end read = made prepended (read >>= λ x. beside x.0 (items_at (byte_at test) n end x.1))

passed_first : (test : ℕ → Bool) (n end b : ℕ) (bytes : List ℕ) (v : Bool) → test b ≡ v → Passed test (items_at (byte_at test) n end bytes)
    → Passed test (first_then test n end (if v then Ok (b, bytes) else Err (end - length (b ∷ bytes))))
passed_first test n end b bytes true passes h = passed_more test b (items_at (byte_at test) n end bytes) passes h
passed_first test n end b bytes false passes h = tt

all_passed : (test : ℕ → Bool) (n end : ℕ) (bytes : List ℕ) → Passed test (items_at (byte_at test) n end bytes)
unfolding items_at byte_at
all_passed test zero end bytes = refl
all_passed test (suc n) end [] = tt
all_passed test (suc n) end (b ∷ bytes) = passed_first test n end b bytes (test b) refl (all_passed test n end bytes)

-- what is read passes the test
pub passes_all : (test : ℕ → Bool) (n end : ℕ) (bytes xs rest : List ℕ) → items_at (byte_at test) n end bytes ≡ Ok (xs, rest) → list_all test xs ≡ true
passes_all test n end bytes xs rest is = subst (Passed test) is (all_passed test n end bytes)

-- ---- sizes of numbers

pub fits_more : (number k b : ℕ) → number < 256 ^ k → b < 256 → number * 256 + b < 256 ^ (k + 1)
fits_more number k b below small = omega (arith, pow-add 256 k 1)

pub fits_wide : (number k b : ℕ) → number < 256 ^ k → k < 16 → b < 256 → number * 256 + b < 2 ^ 128
fits_wide number k b below few small =
    let most : 256 ^ (k + 1) ≤ 256 ^ 16 = pow-le-pow_right {n = 256} (omega arith) {i = k + 1} {j = 16} (omega arith) in
    omega (arith, fits_more number k b below small, most)

-- ---- targets, each of which leaves less room

pub targets_stop : (fault : EntryFault) (n room end : ℕ) (front : List Target) (rest : List ℕ) (total : Read (List Target)) → 0 < n → Stops fault (target_at room end rest)
    → with_front front (targets_at n room end rest) ≡ total → Stops fault total
unfolding targets_at
targets_stop fault n room end front rest total some stops h =
    let k : n ≡ suc (n - 1) = omega arith in
    stops_then fault (target_at room end rest) total (λ at bad. sym h ∙ ap (λ (m : ℕ). with_front front (targets_at m room end rest)) k ∙ rw bad refl) stops

pub targets_go : (n less room end : ℕ) (front : List Target) (t : Target) (rest after : List ℕ) (total : Read (List Target)) → n ≡ suc less → target_at room end rest ≡ Ok (t, after)
    → with_front front (targets_at n room end rest) ≡ total → with_front (front ++ t ∷ []) (targets_at less (room - length t.prefixes) end after) ≡ total
unfolding targets_at
targets_go n less room end front t rest after total one good h =
    let others = targets_at less (room - length t.prefixes) end after in
    let step : with_front front (targets_at n room end rest) ≡ with_front front (made prepended (beside t others)) = rw (one, good) refl in
    sym (regroup front t others) ∙ sym (ap (with_front front) (flat t others)) ∙ sym step ∙ h

pub targets_done : (n room end : ℕ) (front : List Target) (rest : List ℕ) (total : Read (List Target)) → n ≡ 0 → with_front front (targets_at n room end rest) ≡ total → total ≡ Ok (front, rest)
unfolding targets_at
targets_done n room end front rest total none h =
    let step : with_front front (targets_at n room end rest) ≡ Ok (front ++ [], rest) = rw none refl in
    sym h ∙ step ∙ ap (λ l. Ok (l, rest)) (append-nil front)

-- ---- exactly these bytes

seconds : {A B : Type 0} (a : A) (read : Read B) → made second (beside a read) ≡ read
seconds a (Ok x) = refl
seconds a (Err at) = refl

none_left : (i : ℕ) (xs : List ℕ) → length xs ≤ i → drop i xs ≡ []
none_left zero [] few = refl
none_left (suc i) [] few = refl
none_left zero (x ∷ xs) few = absurd (omega (arith, few))
none_left (suc i) (x ∷ xs) few = none_left i xs (omega (arith, few))

pub exactly_stop : (fault : EntryFault) (i end d : ℕ) (xs rest : List ℕ) (total : Read (Unit {0})) → i < length xs → Stops fault (within_at (get_or xs i d) (get_or xs i d) end rest)
    → exactly_at (drop i xs) end rest ≡ total → Stops fault total
unfolding exactly_at
exactly_stop fault i end d xs rest total few stops h =
    stops_then fault (within_at (get_or xs i d) (get_or xs i d) end rest) total (λ at bad. sym h ∙ ap (λ (l : List ℕ). exactly_at l end rest) (drop_more xs i d few) ∙ rw bad refl) stops

pub exactly_go : (i end d v : ℕ) (xs rest after : List ℕ) (total : Read (Unit {0})) → i < length xs → within_at (get_or xs i d) (get_or xs i d) end rest ≡ Ok (v, after)
    → exactly_at (drop i xs) end rest ≡ total → exactly_at (drop (i + 1) xs) end after ≡ total
unfolding exactly_at
exactly_go i end d v xs rest after total few good h =
    let others = exactly_at (drop (i + 1) xs) end after in
    let step : exactly_at (get_or xs i d ∷ drop (i + 1) xs) end rest ≡ made second (beside v others) = rw good refl in
    sym (seconds v others) ∙ sym step ∙ sym (ap (λ (l : List ℕ). exactly_at l end rest) (drop_more xs i d few)) ∙ h

pub exactly_done : (i end : ℕ) (xs rest : List ℕ) (total : Read (Unit {0})) → length xs ≤ i → exactly_at (drop i xs) end rest ≡ total → total ≡ Ok (tt, rest)
unfolding exactly_at
exactly_done i end xs rest total few h = sym h ∙ ap (λ (l : List ℕ). exactly_at l end rest) (none_left i xs few)
