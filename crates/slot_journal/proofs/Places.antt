-- Reading a record answers the entry whose record the bytes are, or the place at which no record can go on.
use Rattle.std.proofs.Common.{◌≡◌, ℕ, zero, suc, ◌+◌, ◌-◌, ◌<◌, ◌≤◌, ◌⊎◌, inl, inr, Bool, false, List, [], ◌∷◌, ◌++◌, length, take, Result, Ok, Err, refl, sym, ap, subst, ◌∙◌, arith, append_assoc}
use Rattle.std.specs.Prelude.{◌==◌, if◌then◌else◌}
use Rattle.std.proofs.lemmas.Bool.{cases_lt}
use Rattle.std.proofs.lemmas.Bool.Decides.{nat_tests}
use Rattle.std.proofs.lemmas.List.{append-nil, length-append}
use Rattle.slot_store.specs.declared.format.Format.{Format}
use Rattle.dots_history.specs.declared.entry.Entry.{Entry}
use Rattle.slot_journal.specs.Layout.{record_bytes}
use Rattle.slot_journal.specs.RecordReading.{Read, ◌>>=◌, whole_at, alone, record_at}
use Rattle.slot_journal.specs.Records.{IsRecord, IsSomeRecord, BeginsRecord, IsBroken}
use Rattle.slot_journal.proofs.Readers.{AreBytes, Sound, IsStuck, no_head}
use Rattle.slot_journal.proofs.Wholes.{MayBe}
use Rattle.slot_journal.proofs.Seals.{whole_reader}
use Rattle.slot_journal.proofs.Within.{entry_to, entry_from}

-- ---- records

record_of : (format : Format) (bytes : List ℕ) (e : Entry) → MayBe e → bytes ≡ record_bytes format e → IsRecord format bytes e
record_of format bytes e may is = let both = entry_to e may in record { typed = both.0; within = both.1; is = is }

may_be : (format : Format) (bytes : List ℕ) (e : Entry) → IsRecord format bytes e → MayBe e
may_be format bytes e rec = entry_from e rec.typed rec.within

-- the record of an entry, with anything behind it, is read as that entry
read_whole : (format : Format) (end : ℕ) (bytes rest : List ℕ) (e : Entry) → IsRecord format bytes e → whole_at format end (bytes ++ rest) ≡ Ok (e, rest)
read_whole format end bytes rest e rec = ap (λ (l : List ℕ). whole_at format end (l ++ rest)) rec.is ∙ (whole_reader format).whole end e rest (may_be format bytes e rec)

pub read_record : (format : Format) (bytes : List ℕ) (e : Entry) → IsRecord format bytes e → record_at format bytes ≡ Ok e
read_record format bytes e rec =
    ap (λ (l : List ℕ). whole_at format (length bytes) l >>= alone (length bytes)) (sym (append-nil bytes))
    ∙ ap (λ r. r >>= alone (length bytes)) (read_whole format (length bytes) bytes [] e rec)

-- ---- fronts

-- a front of a front of a record begins one
begins_less : (format : Format) (front more : List ℕ) → BeginsRecord format (front ++ more) → BeginsRecord format front
begins_less format front more begins = (more ++ begins.0, subst (IsSomeRecord format) (append_assoc front more begins.0) begins.1)

front_of : (n m : ℕ) (bytes : List ℕ) → n ≤ m → (more : List ℕ) × (take m bytes ≡ take n bytes ++ more)
front_of zero m bytes few = (take m bytes, refl)
front_of (suc n) zero bytes few = absurd (omega (arith, few))
front_of (suc n) (suc m) [] few = ([], refl)
front_of (suc n) (suc m) (b ∷ bytes) few = let rest = front_of n m bytes (omega (arith, few)) in (rest.0, ap (λ (l : List ℕ). b ∷ l) rest.1)

begins_at : (format : Format) (n m : ℕ) (bytes : List ℕ) → n ≤ m → BeginsRecord format (take m bytes) → BeginsRecord format (take n bytes)
begins_at format n m bytes few begins = let more = front_of n m bytes few in begins_less format (take n bytes) more.0 (subst (BeginsRecord format) more.1 begins)

all_of : (n : ℕ) (bytes : List ℕ) → length bytes ≤ n → take n bytes ≡ bytes
all_of zero [] few = refl
all_of zero (b ∷ bytes) few = absurd (omega (arith, few))
all_of (suc n) [] few = refl
all_of (suc n) (b ∷ bytes) few = ap (λ (l : List ℕ). b ∷ l) (all_of n bytes (omega (arith, few)))

take_front : (front rest : List ℕ) → take (length front) (front ++ rest) ≡ front
take_front [] rest = refl
take_front (x ∷ front) rest = ap (λ (l : List ℕ). x ∷ l) (take_front front rest)

take_next : (front rest : List ℕ) (b : ℕ) → take (suc (length front)) (front ++ (b ∷ rest)) ≡ front ++ (b ∷ [])
take_next [] rest b = refl
take_next (x ∷ front) rest b = ap (λ (l : List ℕ). x ∷ l) (take_next front rest b)

begins_itself : (format : Format) (bytes : List ℕ) → IsSomeRecord format bytes → BeginsRecord format bytes
begins_itself format bytes some = ([], subst (IsSomeRecord format) (sym (append-nil bytes)) some)

-- ---- the place

pub no_error : {A : Type 0} {P : Type 0} (r : Result A ℕ) (a : A) (at : ℕ) → r ≡ Ok a → r ≡ Err at → P
no_error r a at ok err = cc

-- at the byte behind this front nothing goes on, whatever stands behind that byte
abbrev Blocked : Format → List ℕ → ℕ → Type 0
Blocked format front b = (other : List ℕ) → ¬ (IsSomeRecord format (front ++ (b ∷ other)))

broken_behind : (format : Format) (bytes front left : List ℕ) → bytes ≡ front ++ left → BeginsRecord format front → ((b : ℕ) (rest : List ℕ) → left ≡ b ∷ rest → Blocked format front b) → (left ≡ [] → ¬ (IsSomeRecord format bytes))
    → IsBroken format bytes (length bytes - length left)
broken_behind format bytes front [] is begins blocked none =
    let same : bytes ≡ front = is ∙ append-nil front in
    let at : length bytes - 0 ≡ length bytes = omega arith in
    IsBroken.end at (subst (BeginsRecord format) (sym same) begins) (none refl)
broken_behind format bytes front (b ∷ rest) is begins blocked none =
    let size : length bytes ≡ length front + suc (length rest) = ap (length {A = ℕ}) is ∙ length-append front (b ∷ rest) in
    let at : length bytes - suc (length rest) ≡ length front = omega (arith, size) in
    let next : length bytes - suc (length rest) + 1 ≡ suc (length front) = omega (arith, size) in
    let first : take (length bytes - suc (length rest)) bytes ≡ front = ap (λ (n : ℕ). take n bytes) at ∙ ap (take (length front)) is ∙ take_front front (b ∷ rest) in
    let second : take (length bytes - suc (length rest) + 1) bytes ≡ front ++ (b ∷ []) = ap (λ (n : ℕ). take n bytes) next ∙ ap (take (suc (length front))) is ∙ take_next front rest b in
    IsBroken.byte (omega (arith, size)) (subst (BeginsRecord format) (sym first) begins)
    (λ begun. let more = subst (BeginsRecord format) second begun in blocked b rest refl more.0 (subst (IsSomeRecord format) (append_assoc front (b ∷ []) more.0) more.1))

read_alone : (format : Format) (l : List ℕ) (some : IsSomeRecord format l) → whole_at format 0 l ≡ Ok (some.0, [])
read_alone format l some = ap (whole_at format 0) (sym (append-nil l)) ∙ read_whole format 0 l [] some.0 some.1

stuck_broken : (format : Format) (bytes : List ℕ) (at : ℕ) → IsStuck MayBe (record_bytes format) (whole_at format) (length bytes) bytes at → record_at format bytes ≡ Err at → IsBroken format bytes at
stuck_broken format bytes at s is =
    subst (IsBroken format bytes) (sym s.place)
    (broken_behind format bytes s.passed s.left s.is
    (s.more, (s.value, record_of format (s.passed ++ s.more) s.value s.holds (sym s.goes_on)))
    (λ b rest same other some.
    let bytes_there = s.passed ++ (b ∷ other) in
    let whole = read_alone format bytes_there some in
    no_error (whole_at format 0 bytes_there) (some.0, []) _ whole (s.blocked b rest other 0 same))
    (λ none some. no_error (record_at format bytes) some.0 at (read_record format bytes some.0 some.1) is))

abbrev rest_of : Read Entry → List ℕ
rest_of (Ok x) = x.1
rest_of (Err at) = []

no_rest : {P : Type 0} (r : Read Entry) (e f : Entry) (b : ℕ) (other : List ℕ) → r ≡ Ok (e, []) → r ≡ Ok (f, b ∷ other) → P
no_rest r e f b other none some = no_head b other (ap rest_of (sym none ∙ some))

more_broken : (format : Format) (bytes : List ℕ) (e : Entry) (b : ℕ) (rest : List ℕ) → MayBe e → bytes ≡ record_bytes format e ++ (b ∷ rest) → IsBroken format bytes (length bytes - length (b ∷ rest))
more_broken format bytes e b rest may is =
    let rec = record_of format (record_bytes format e) e may refl in
    broken_behind format bytes (record_bytes format e) (b ∷ rest) is (begins_itself format (record_bytes format e) (e, rec))
    (λ c more same other some.
    let l = record_bytes format e ++ (c ∷ other) in
    no_rest (whole_at format 0 l) some.0 e c other (read_alone format l some) (read_whole format 0 (record_bytes format e) (c ∷ other) e rec))
    (λ none. absurd (omega (arith, ap (length {A = ℕ}) none)))

-- ---- what reading says

abbrev IsJudged : Format → List ℕ → Result Entry ℕ → Type 0
IsJudged format bytes (Ok e) = IsRecord format bytes e
IsJudged format bytes (Err at) = IsBroken format bytes at

judged_end : (format : Format) (bytes : List ℕ) (e : Entry) (rest : List ℕ) → MayBe e → bytes ≡ record_bytes format e ++ rest → IsJudged format bytes (alone (length bytes) (e, rest))
judged_end format bytes e [] may is = record_of format bytes e may (is ∙ append-nil (record_bytes format e))
judged_end format bytes e (b ∷ rest) may is =
    let some : (suc (length rest) == 0) ≡ false = grind (arith, nat_tests) in
    subst (λ (v : Bool). IsJudged format bytes (if v then Ok e else Err (length bytes - length (b ∷ rest)))) (sym some) (more_broken format bytes e b rest may is)

judged_read : (format : Format) (bytes : List ℕ) (r : Read Entry) → whole_at format (length bytes) bytes ≡ r → Sound MayBe (record_bytes format) (whole_at format) (length bytes) bytes r → IsJudged format bytes (r >>= alone (length bytes))
judged_read format bytes (Ok x) is s = judged_end format bytes x.0 x.1 s.0 s.1
judged_read format bytes (Err at) is s = stuck_broken format bytes at s (ap (λ r. r >>= alone (length bytes)) is)

judged : (format : Format) (bytes : List ℕ) → AreBytes bytes → IsJudged format bytes (record_at format bytes)
judged format bytes fits = judged_read format bytes (whole_at format (length bytes) bytes) refl ((whole_reader format).sound (length bytes) bytes fits)

pub read_is : (format : Format) (bytes : List ℕ) (e : Entry) → AreBytes bytes → record_at format bytes ≡ Ok e → IsRecord format bytes e
read_is format bytes e fits is = subst (IsJudged format bytes) is (judged format bytes fits)

pub broken_is : (format : Format) (bytes : List ℕ) (at : ℕ) → AreBytes bytes → record_at format bytes ≡ Err at → IsBroken format bytes at
broken_is format bytes at fits is = subst (IsJudged format bytes) is (judged format bytes fits)

-- ---- one place

pub whole_before : (format : Format) {P : Type 0} (bytes : List ℕ) (at : ℕ) → IsBroken format bytes at → IsSomeRecord format bytes → P
whole_before format bytes at (IsBroken.byte few begins none) some =
    absurd (none (begins_at format (at + 1) (length bytes) bytes (omega (arith, few)) (subst (BeginsRecord format) (sym (all_of (length bytes) bytes (omega arith))) (begins_itself format bytes some))))
whole_before format bytes at (IsBroken.end is begins none) some = absurd (none some)

-- the bytes up to the place begin a record
begun : (format : Format) (bytes : List ℕ) (at : ℕ) → IsBroken format bytes at → (at ≤ length bytes) × BeginsRecord format (take at bytes)
begun format bytes at (IsBroken.byte few begins none) = (omega (arith, few), begins)
begun format bytes at (IsBroken.end is begins none) = (omega (arith, is), subst (BeginsRecord format) (sym (all_of at bytes (omega (arith, is)))) begins)

not_later : (format : Format) {P : Type 0} (bytes : List ℕ) (at other : ℕ) → IsBroken format bytes at → IsBroken format bytes other → at < other → P
not_later format bytes at other (IsBroken.byte few begins none) there less = absurd (none (begins_at format (at + 1) other bytes (omega (arith, less)) (begun format bytes other there).1))
not_later format bytes at other (IsBroken.end is begins none) there less = absurd (omega (arith, is, less, (begun format bytes other there).0))

pub one_place : (format : Format) (bytes : List ℕ) (at other : ℕ) → IsBroken format bytes at → IsBroken format bytes other → at ≡ other
one_place format bytes at other here there =
    elim (cases_lt at other) as (λ _. at ≡ other) [
      | inl less ↦ not_later format bytes at other here there less
      | inr least ↦ elim (cases_lt other at) as (λ _. at ≡ other) [ inl less ↦ not_later format bytes other at there here less | inr most ↦ omega (arith, least, most) ]
    ]

first_of : (format : Format) (bytes : List ℕ) (at : ℕ) → IsBroken format bytes at → (r : Result Entry ℕ) → IsJudged format bytes r → r ≡ Err at
first_of format bytes at is (Ok e) rec = whole_before format bytes at is (e, rec)
first_of format bytes at is (Err other) there = ap (λ (n : ℕ). Err n) (one_place format bytes other at there is)

pub read_broken : (format : Format) (bytes : List ℕ) (at : ℕ) → AreBytes bytes → IsBroken format bytes at → record_at format bytes ≡ Err at
read_broken format bytes at fits is = first_of format bytes at is (record_at format bytes) (judged format bytes fits)

-- ---- one record

pub one_answer : (r : Result Entry ℕ) (a b : Entry) → r ≡ Ok a → r ≡ Ok b → a ≡ b
one_answer r a b first next = cc

pub one_entry : (format : Format) (bytes : List ℕ) (a b : Entry) → IsRecord format bytes a → IsRecord format bytes b → a ≡ b
one_entry format bytes a b first next = one_answer (record_at format bytes) a b (read_record format bytes a first) (read_record format bytes b next)

same_rest : (r : Read Entry) (e f : Entry) (more : List ℕ) → r ≡ Ok (e, more) → r ≡ Ok (f, []) → more ≡ []
same_rest r e f more first next = ap rest_of (sym first ∙ next)

pub no_more : (format : Format) (bytes more : List ℕ) → IsSomeRecord format bytes → IsSomeRecord format (bytes ++ more) → more ≡ []
no_more format bytes more some longer = same_rest (whole_at format 0 (bytes ++ more)) some.0 longer.0 more (read_whole format 0 bytes more some.0 some.1) (read_alone format (bytes ++ more) longer)

either_judged : (format : Format) (bytes : List ℕ) (r : Result Entry ℕ) → IsJudged format bytes r → IsSomeRecord format bytes ⊎ ((at : ℕ) × IsBroken format bytes at)
either_judged format bytes (Ok e) rec = inl (e, rec)
either_judged format bytes (Err at) broken = inr (at, broken)

pub either_of : (format : Format) (bytes : List ℕ) → AreBytes bytes → IsSomeRecord format bytes ⊎ ((at : ℕ) × IsBroken format bytes at)
either_of format bytes fits = either_judged format bytes (record_at format bytes) (judged format bytes fits)
