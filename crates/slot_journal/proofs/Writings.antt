-- How what functions write is joined.
use Rattle.std.proofs.Common.{true, nat_le, nat_lt, IsTrue, ◌&&◌, ◌||◌, ◌^◌, add-one, get_or, ◌≡◌, ℕ, zero, suc, ◌+◌, ◌*◌, ◌<◌, ◌≤◌, List, [], ◌∷◌, ◌++◌, length, take, refl, sym, ap, subst, ◌∙◌, arith, append_assoc}
use Rattle.std.specs.Prelude.{◌==◌}
use Rattle.std.specs.List.{AllByRecursion, flat_map}
use Rattle.std.proofs.lemmas.Bool.{and_parts}
use Rattle.dots_lists.specs.Name.{is_name}
use native.Mathlib.Numerals.{unary_clauses}
use Rattle.std.proofs.lemmas.List.{append-nil, length-append, length-take}
use Rattle.sha2.specs.Sha256.{sha256}
use Rattle.slot_store.specs.declared.format.Format.{Format}
use Rattle.slot_store.specs.declared.format.Format.TheVariants.{One, Two}
use Rattle.slot_store.specs.Formats.{seal, sealed}
use Rattle.acl_lists.specs.declared.asked.Asked.{Asked}
use Rattle.dots_history.specs.Bounds.{asked_within, prefix_count, change_within, target_within, within_bounds}
use Rattle.dots_history.specs.declared.entry.Entry.{Entry}
use Rattle.dots_history.specs.declared.put.Target.{Target}
use Rattle.slot_journal.specs.Values.{IsByte}
use Rattle.slot_journal.specs.Layout.{target_bytes, body_bytes, record_bytes}
use Rattle.slot_journal.specs.Writing.{Writes}
use Rattle.slot_journal.proofs.Within.{five_of, at_most, cuid_from}

pub both : {k m : ℕ} {a b x y z : List ℕ} → Writes k a x y → Writes m b y z → Writes (k + m) (a ++ b) x z
both {k} {m} {a} {b} {x} {y} {z} first next =
    let size : length (a ++ b) ≡ length a + length b = length-append a b in
    record {
      short = omega (arith, size, first.short, next.short);
      written = λ room.
          let here : y ≡ x ++ a = first.written (omega (arith, room, size)) in
          let long : length y ≡ length x + length a = ap (length {A = ℕ}) here ∙ length-append x a in
          next.written (omega (arith, room, size, long)) ∙ ap (λ (l : List ℕ). l ++ b) here ∙ append_assoc x a b;
    }

pub looser : {k m : ℕ} {a x y : List ℕ} → Writes k a x y → k ≤ m → Writes m a x y
looser w more = record { short = omega (arith, w.short, more); written = w.written }

pub nothing : {x : List ℕ} → Writes 0 [] x x
nothing {x} = record { short = omega arith; written = λ room. sym (append-nil x) }

pub same : {k : ℕ} {a b x y : List ℕ} → Writes k a x y → a ≡ b → Writes k b x y
same {k} {a} {b} {x} {y} w is = subst (λ (l : List ℕ). Writes k l x y) is w

abbrev pub Sizes : Asked → Type 0
Sizes asked = (length asked.prefixes ≤ 32) × ((length asked.ports ≤ 32) × ((length asked.protocols ≤ 32) × ((length asked.names ≤ 8) × (length asked.aliases ≤ 8))))

pub asked_sizes : (asked : Asked) → asked_within asked ≡ true → Sizes asked
asked_sizes asked within =
    let parts = five_of (nat_le (length asked.prefixes) 32) (nat_le (length asked.ports) 32) (nat_le (length asked.protocols) 32) (nat_le (length asked.names) 8) (nat_le (length asked.aliases) 8) within in
    (at_most _ _ parts.0, (at_most _ _ parts.1.0, (at_most _ _ parts.1.1.0, (at_most _ _ parts.1.1.1.0, at_most _ _ parts.1.1.1.1))))

next_item : {A : Type 0} (i : ℕ) (xs : List A) (x : A) → i < length xs → x ≡ get_or xs i x → take (suc i) xs ≡ take i xs ++ (x ∷ [])
next_item i [] x few is = absurd (omega (arith, few))
next_item zero (y ∷ xs) x few is = ap (λ z. z ∷ []) (sym is)
next_item (suc i) (y ∷ xs) x few is = ap (λ l. y ∷ l) (next_item i xs x (omega (arith, few)) is)

laid_next : {A : Type 0} (f : A → List ℕ) (xs : List A) (x : A) → flat_map f (xs ++ (x ∷ [])) ≡ flat_map f xs ++ f x
laid_next f [] x = append-nil (f x)
laid_next f (y ∷ xs) x = ap (λ l. f y ++ l) (laid_next f xs x) ∙ sym (append_assoc (f y) (flat_map f xs) (f x))

mul_suc : (k i : ℕ) → k * (i + 1) ≡ k * i + k
mul_suc k i = simp unary_clauses (omega arith)

-- one item more behind their number and the items before
pub one_more : {A : Type 0} (f : A → List ℕ) (k i : ℕ) (xs : List A) (x : A) {n : ℕ} {old between new : List ℕ} → i < length xs → x ≡ get_or xs i x
    → Writes (1 + k * i) (n ∷ flat_map f (take i xs)) old between → Writes k (f x) between new → Writes (1 + k * (i + 1)) (n ∷ flat_map f (take (i + 1) xs)) old new
one_more f k i xs x {n} few is before item =
    let step : take (i + 1) xs ≡ take i xs ++ (x ∷ []) = rw (add-one i) (next_item i xs x few is) in
    let most : 1 + k * i + k ≤ 1 + k * (i + 1) = rw (mul_suc k i) (omega arith) in
    looser (same (both before item) (ap (λ l. n ∷ l) (sym (ap (flat_map f) step ∙ laid_next f (take i xs) x)))) most

all_pushed : {A : Type 0} (P : A → Type 0) (xs : List A) (x : A) → AllByRecursion P xs → P x → AllByRecursion P (xs ++ (x ∷ []))
all_pushed P [] x all here = (here, tt)
all_pushed P (y ∷ xs) x all here = (all.0, all_pushed P xs x all.1 here)

-- one item more that has what the items before have
pub all_next : {A : Type 0} (P : A → Type 0) (i : ℕ) (xs : List A) (x : A) → i < length xs → x ≡ get_or xs i x → AllByRecursion P (take i xs) → P x → AllByRecursion P (take (i + 1) xs)
all_next P i xs x few is before item =
    let step : take (i + 1) xs ≡ take i xs ++ (x ∷ []) = rw (add-one i) (next_item i xs x few is) in
    subst (AllByRecursion P) (sym step) (all_pushed P (take i xs) x before item)

-- the items of a slice of bytes are bytes
pub bytes_are : (bytes : List ℕ) → ((i : ℕ) → get_or bytes i 0 < 256) → AllByRecursion IsByte bytes
bytes_are [] each = tt
bytes_are (b ∷ bytes) each = (each 0, bytes_are bytes (λ i. each (suc i)))

-- ---- targets

pub target_sizes : (target : Target) → target_within target ≡ true → (length target.ports ≤ 32) × (length target.protocols ≤ 32)
target_sizes target within =
    let parts = and_parts (nat_le (length target.ports) 32) (nat_le (length target.protocols) 32) within in
    (at_most _ _ parts.0, at_most _ _ parts.1)

count_next : (targets : List Target) (x : Target) → prefix_count (targets ++ (x ∷ [])) ≡ prefix_count targets + length x.prefixes
count_next [] x = omega arith
count_next (y ∷ targets) x = omega (arith, count_next targets x)

pub item_count : (i : ℕ) (targets : List Target) (x : Target) → i < length targets → x ≡ get_or targets i x → length x.prefixes ≤ prefix_count targets
item_count i [] x few is = absurd (omega (arith, few))
item_count zero (y ∷ targets) x few is = omega (arith, ap (λ (t : Target). length t.prefixes) is)
item_count (suc i) (y ∷ targets) x few is = omega (arith, item_count i targets x (omega (arith, few)) is)

pub one_target : (i : ℕ) (targets : List Target) (x : Target) {n : ℕ} {old between new : List ℕ} → i < length targets → x ≡ get_or targets i x
    → Writes (1 + (163 * i + 18 * prefix_count (take i targets))) (n ∷ flat_map target_bytes (take i targets)) old between → Writes (163 + 18 * length x.prefixes) (target_bytes x) between new
    → Writes (1 + (163 * (i + 1) + 18 * prefix_count (take (i + 1) targets))) (n ∷ flat_map target_bytes (take (i + 1) targets)) old new
one_target i targets x {n} few is before item =
    let step : take (i + 1) targets ≡ take i targets ++ (x ∷ []) = rw (add-one i) (next_item i targets x few is) in
    let count : prefix_count (take (i + 1) targets) ≡ prefix_count (take i targets) + length x.prefixes = ap prefix_count step ∙ count_next (take i targets) x in
    looser (same (both before item) (ap (λ l. n ∷ l) (sym (ap (flat_map target_bytes) step ∙ laid_next target_bytes (take i targets) x)))) (omega (arith, count))

-- ---- entries

pub entry_sizes : (e : Entry) → IsTrue (within_bounds e) → (length e.cuid ≤ 64) × ((length e.reply ≤ 64) × (change_within e.change ≡ true))
entry_sizes e within =
    let last = and_parts (nat_lt e.time (2 ^ 48) && ((length e.cuid == 0) || is_name e.cuid) && nat_le (length e.reply) 64) (change_within e.change) within in
    let replied = and_parts (nat_lt e.time (2 ^ 48) && ((length e.cuid == 0) || is_name e.cuid)) (nat_le (length e.reply) 64) last.0 in
    let first = and_parts (nat_lt e.time (2 ^ 48)) ((length e.cuid == 0) || is_name e.cuid) replied.0 in
    ((cuid_from e.cuid first.1).high, (at_most _ _ replied.1, last.1))

-- ---- records

-- what is written with nothing before it
pub alone_is : {k : ℕ} {a x y : List ℕ} → x ≡ [] → Writes k a x y → k ≤ 7649 → y ≡ a
alone_is {k} {a} {x} {y} empty w few = w.written (omega (arith, ap (length {A = ℕ}) empty, w.short, few)) ∙ ap (λ (l : List ℕ). l ++ a) empty

pub record_one : (format : Format) (e : Entry) → format ≡ One → body_bytes format e ≡ record_bytes format e
unfolding record_bytes
record_one One e is = refl
record_one Two e is = cc

pub record_two : (format : Format) (e : Entry) → format ≡ Two → sealed (body_bytes format e) ≡ record_bytes format e
unfolding record_bytes
record_two One e is = cc
record_two Two e is = refl

pub sealed_short : (bytes : List ℕ) → length (sealed bytes) ≤ length bytes + 8
unfolding seal
sealed_short bytes = omega (arith, length-append bytes (take 8 (sha256 bytes)), length-take 8 (sha256 bytes))
