-- What the first byte of an item begins.
use Rattle.std.proofs.Common.{◌≡◌, ℕ, suc, zero, ◌+◌, ◌*◌, ◌-◌, ◌/◌, ◌%◌, ◌<◌, false, List, [], ◌∷◌, ◌++◌, length, Ok, Err, refl, sym, ap, ◌∙◌, inl, inr, arith}
use Rattle.std.specs.Prelude.{◌==◌, ◌⊎◌}
use Rattle.std.proofs.lemmas.Bool.{lt-ltb, cases_eq, ne_eqb}
use Rattle.cbor_profile.specs.declared.fault.CborFault.TheVariants.{Short, Reserved}
use Rattle.cbor_profile.specs.declared.major.Major.{Major}
use Rattle.cbor_profile.specs.declared.major.Major.TheVariants as major_type
use Rattle.cbor_profile.specs.declared.head.Start.{Start}
use Rattle.cbor_profile.specs.declared.head.Start.TheVariants as start
use Rattle.cbor_profile.specs.Parts.{number_of}
use Rattle.cbor_profile.specs.Tree.{Tree}
use Rattle.cbor_profile.specs.Spelling.{break, IsArgument, itself, follows}
use Rattle.cbor_profile.specs.ItemReading.{major_of, start_with, start_of, begun_at, value_at, indefinite_at, item_with, item_at, parts_of}
use Rattle.cbor_profile.proofs.Results.{not_both}

-- major types other than 7
abbrev pub HasArgument : Major → Type 0
HasArgument major_type.Simple = ⊥
HasArgument major = Unit {0}

pub major_back : (a : Major) → major_of (number_of a) ≡ a
major_back major_type.Unsigned = refl
major_back major_type.Negative = refl
major_back major_type.Bytes = refl
major_back major_type.Text = refl
major_back major_type.Array = refl
major_back major_type.Map = refl
major_back major_type.Tag = refl
major_back major_type.Simple = refl

value_start : (a : Major) (info : ℕ) → HasArgument a → info < 28 → start_with a info ≡ start.Value a info
unfolding start_with
value_start major_type.Unsigned info has lt = rw (lt-ltb info 28 lt) refl
value_start major_type.Negative info has lt = rw (lt-ltb info 28 lt) refl
value_start major_type.Bytes info has lt = rw (lt-ltb info 28 lt) refl
value_start major_type.Text info has lt = rw (lt-ltb info 28 lt) refl
value_start major_type.Array info has lt = rw (lt-ltb info 28 lt) refl
value_start major_type.Map info has lt = rw (lt-ltb info 28 lt) refl
value_start major_type.Tag info has lt = rw (lt-ltb info 28 lt) refl
value_start major_type.Simple info has lt = absurd has

pub start_at : (a : Major) (info : ℕ) → info < 32 → start_of (32 * number_of a + info) ≡ start_with a info
start_at a info lt =
    let q : (32 * number_of a + info) / 32 ≡ number_of a = omega arith in
    let r : (32 * number_of a + info) % 32 ≡ info = omega arith in
    rw (q, r, major_back a) refl

pub item_is : (levels end : ℕ) (bytes : List ℕ) → item_at levels end bytes ≡ item_with (parts_of levels end) end bytes
unfolding item_at
item_is zero end bytes = refl
item_is (suc levels) end bytes = refl

pub item_begins : (levels end first : ℕ) (more : List ℕ) (s : Start) → start_of first ≡ s → item_at levels end (first ∷ more) ≡ begun_at (parts_of levels end) end (end - suc (length more)) s more
unfolding item_with
item_begins levels end first more s is = item_is levels end (first ∷ more) ∙ ap (λ (t : Start). begun_at (parts_of levels end) end (end - suc (length more)) t more) is

pub value_begins : (levels end : ℕ) (a : Major) (info : ℕ) (more : List ℕ) → HasArgument a → info < 28
    → item_at levels end ((32 * number_of a + info) ∷ more) ≡ value_at (parts_of levels end) end (end - suc (length more)) a info more
unfolding begun_at
value_begins levels end a info more has lt = item_begins levels end (32 * number_of a + info) more (start.Value a info) (start_at a info (omega arith) ∙ value_start a info has lt)

pub open_begins : (levels end first : ℕ) (a : Major) (more : List ℕ) → start_of first ≡ start.Indefinite a → item_at levels end (first ∷ more) ≡ indefinite_at (parts_of levels end) end (end - suc (length more)) a more
unfolding begun_at
open_begins levels end first a more is = item_begins levels end first more (start.Indefinite a) is

pub info_small : (info n : ℕ) (following : List ℕ) → IsArgument info n following → info < 28
info_small info n following argument = elim argument [
  | itself lt is nil ↦ omega arith
  | follows least most len is ↦ most
]

-- ---- what is read begins with a byte, which isn't the end of an indefinite length

pub record Starts (bytes : List ℕ) : Type 0 where
  pub first : ℕ
  pub more : List ℕ
  pub is : bytes ≡ first ∷ more
  pub goes_on : (first == break) ≡ false

pub Starts-append : (bytes rest : List ℕ) → Starts bytes → Starts (bytes ++ rest)
Starts-append bytes rest s = record { first = s.first; more = s.more ++ rest; is = ap (λ (l : List ℕ). l ++ rest) s.is; goes_on = s.goes_on }

pub nothing_short : (levels end : ℕ) → item_at levels end [] ≡ Err (Short end)
unfolding item_with
nothing_short levels end = item_is levels end []

pub break_reserved : (levels end first : ℕ) (more : List ℕ) → first ≡ break → item_at levels end (first ∷ more) ≡ Err (Reserved (end - suc (length more)))
unfolding begun_at start_with
break_reserved levels end first more is = item_begins levels end first more start.Reserved (rw is refl)

starts_read : (levels end first : ℕ) (more : List ℕ) (x : Tree × List ℕ) → item_at levels end (first ∷ more) ≡ Ok x → (first ≡ break) ⊎ (first ≡ break → ⊥) → (first == break) ≡ false
starts_read levels end first more x reads (inl is) = absurd (not_both x _ (sym reads ∙ break_reserved levels end first more is))
starts_read levels end first more x reads (inr other) = ne_eqb first break other

pub read_starts : (levels end : ℕ) (bytes : List ℕ) (x : Tree × List ℕ) → item_at levels end bytes ≡ Ok x → Starts bytes
read_starts levels end [] x reads = absurd (not_both x _ (sym reads ∙ nothing_short levels end))
read_starts levels end (first ∷ more) x reads = record { first = first; more = more; is = refl; goes_on = starts_read levels end first more x reads (cases_eq first break) }
