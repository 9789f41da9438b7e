-- The parts of an event line are those that a reading from the left finds.
use Rattle.std.proofs.Common.{◌≡◌, ℕ, ◌^◌, ◌<◌, zero, suc, List, [], ◌∷◌, ◌++◌, get_or, codes, decimal, Ok, refl, sym, ap, ◌∙◌, arith, subst}
use Rattle.std.proofs.lemmas.Fmt.{decimal_injective}
use Rattle.std.proofs.lemmas.List.{append_cancel_left}
use Rattle.std.specs.Char.{digit_value}
use Rattle.std.specs.Str.Parse.{AllDigits}
use Rattle.dots_lists.proofs.Decimals.{IsDecimal-decimal}
use Rattle.dots_host.specs.declared.event.Event.{Event}
use Rattle.dots_host.specs.declared.event.Event.TheVariants as event
use Rattle.dots_script.specs.Script.{IsNumberAndBytes, AreTwoNumbers, IsNumber, BeginsWith, SaysEvent, IsEventLine, IsSkipped}
use Rattle.dots_lists.specs.HexText.{IsHex}
use Rattle.dots_script.specs.Words.{HasNoSpace, IsAfterNumber}
use Rattle.dots_script.proofs.Splits.{one_split}
use Rattle.hex.specs.Hex.{decode_of}
use Rattle.hex.proofs.HexLemmas.{decode_of-same}

no_digit : (byte : ℕ) → byte ≡ 32 → digit_value byte < 10 → ⊥
no_digit byte is digit = let value : digit_value 32 < 10 = rw is at digit in absurd (omega (arith, value))

one_no_space : (byte : ℕ) (text : List ℕ) → digit_value byte < 10 → HasNoSpace text → HasNoSpace (byte ∷ text)
one_no_space byte text digit none zero within is = no_digit byte is digit
one_no_space byte text digit none (suc k) within is = none k (omega arith) is

digits_no_space : (text : List ℕ) → AllDigits 10 text → HasNoSpace text
digits_no_space [] all = λ k within is. absurd (omega arith)
digits_no_space (byte ∷ text) all = one_no_space byte text all.0 (digits_no_space text all.1)

decimal_no_space : (n : ℕ) → n < 10 ^ 19 → HasNoSpace (decimal n)
decimal_no_space n small = digits_no_space (decimal n) (IsDecimal-decimal n small).digits

no_space_later : (byte : ℕ) (text : List ℕ) → HasNoSpace (byte ∷ text) → HasNoSpace text
no_space_later byte text none = λ k within. none (suc k) (omega arith)

-- where there is no space, nothing is split at one
no_split : (front rest : List ℕ) → HasNoSpace (front ++ (32 ∷ rest)) → ⊥
no_split [] rest none = none 0 (omega arith) refl
no_split (byte ∷ front) rest none = no_split front rest (no_space_later byte (front ++ (32 ∷ rest)) none)

pub no_number : (bytes : List ℕ) (number : ℕ) (rest : List ℕ) → HasNoSpace bytes → IsAfterNumber bytes number rest → ⊥
no_number bytes number rest none after = no_split (decimal number) rest (subst HasNoSpace after.spelled none)

pub number_is : (bytes digits behind : List ℕ) (number : ℕ) (rest : List ℕ) → bytes ≡ digits ++ (32 ∷ behind) → HasNoSpace digits → IsAfterNumber bytes number rest
    → (digits ≡ decimal number) × (behind ≡ rest)
number_is bytes digits behind number rest split none after =
    one_split 32 digits (decimal number) behind rest none (decimal_no_space number after.small) (sym split ∙ after.spelled)

one_number : (bytes : List ℕ) (a b : ℕ) (x y : List ℕ) → IsAfterNumber bytes a x → IsAfterNumber bytes b y → (a ≡ b) × (x ≡ y)
one_number bytes a b x y first second =
    let same = number_is bytes (decimal a) x b y first.spelled (decimal_no_space a first.small) second in
    (decimal_injective a b (omega (arith, first.small)) (omega (arith, second.small)) same.0, same.1)

pub number_before : (bytes : List ℕ) (a : ℕ) (x : List ℕ) (b : ℕ) (y : List ℕ) → IsAfterNumber bytes a x → IsAfterNumber bytes b y → a ≡ b
number_before bytes a x b y first second = (one_number bytes a b x y first second).0

-- ---- the parts of a line, from the left

time_of : (line rest : List ℕ) (event : Event) (at : ℕ) (h : IsEventLine line event at) → line ≡ codes "at " ++ rest → IsAfterNumber rest at h.words
time_of line rest event at h is = record {
  small = omega (arith, h.time);
  spelled = append_cancel_left (codes "at ") rest _ (sym is ∙ h.spelled);
}

pub time_is : (line rest : List ℕ) (time : ℕ) (behind : List ℕ) (event : Event) (at : ℕ) (h : IsEventLine line event at) → line ≡ codes "at " ++ rest → IsAfterNumber rest time behind
    → (time ≡ at) × (behind ≡ h.words)
time_is line rest time behind event at h is after = one_number rest time at behind h.words after (time_of line rest event at h is)

-- ---- the forms behind a word

after_of : (text : List ℕ) (number : ℕ) (bytes : List ℕ) (h : IsNumberAndBytes text number bytes) → IsAfterNumber text number h.digits
after_of text number bytes h = record { small = omega (arith, h.small); spelled = h.spelled }

pub bytes_are : (text : List ℕ) (number : ℕ) (digits : List ℕ) (other : ℕ) (bytes : List ℕ) (h : IsNumberAndBytes text other bytes) → IsAfterNumber text number digits → (number ≡ other) × (digits ≡ h.digits)
bytes_are text number digits other bytes h after = one_number text number other digits h.digits after (after_of text other bytes h)

-- no number stands before a space
pub no_bytes : (text : List ℕ) → ((number : ℕ) (rest : List ℕ) → number < 2 ^ 32 → IsAfterNumber text number rest → ⊥) → (number : ℕ) (bytes : List ℕ) → IsNumberAndBytes text number bytes → ⊥
no_bytes text none number bytes h = none number h.digits h.small (after_of text number bytes h)

-- the digits behind it write no bytes
pub no_hex : (text : List ℕ) (number : ℕ) (digits : List ℕ) → IsAfterNumber text number digits → ((bytes : List ℕ) → IsHex digits bytes → ⊥) → (other : ℕ) (bytes : List ℕ) → IsNumberAndBytes text other bytes → ⊥
no_hex text number digits after none other bytes h =
    let same = bytes_are text number digits other bytes h after in
    none bytes (subst (λ (xs : List ℕ). IsHex xs bytes) (sym same.1) h.read)

first_of : (text : List ℕ) (first second : ℕ) → AreTwoNumbers text first second → IsAfterNumber text first (decimal second)
first_of text first second h = record { small = omega (arith, h.first_small); spelled = h.spelled }

pub no_first : (text : List ℕ) → ((number : ℕ) (rest : List ℕ) → number < 2 ^ 32 → IsAfterNumber text number rest → ⊥) → (first second : ℕ) → AreTwoNumbers text first second → ⊥
no_first text none first second h = none first (decimal second) h.first_small (first_of text first second h)

pub no_second : (text : List ℕ) (number : ℕ) (digits : List ℕ) → IsAfterNumber text number digits → ((second : ℕ) → IsNumber digits second → ⊥) → (first second : ℕ) → AreTwoNumbers text first second → ⊥
no_second text number digits after none first second h =
    let same = one_number text number first digits (decimal second) after (first_of text first second h) in
    none second (record { spelled = same.1; small = h.second_small })

one_bytes : (text : List ℕ) (number other : ℕ) (bytes others : List ℕ) → IsNumberAndBytes text number bytes → IsNumberAndBytes text other others → (number ≡ other) × (bytes ≡ others)
one_bytes text number other bytes others h g =
    let same = bytes_are text number h.digits other others g (after_of text number bytes h) in
    let read : decode_of h.digits ≡ Ok others = ap decode_of same.1 ∙ g.read.bytes_are in
    (same.0, decode_of-same h.digits bytes others h.read.bytes_are read)

one_small : (text : List ℕ) (number other : ℕ) → IsNumber text number → IsNumber text other → number ≡ other
one_small text number other h g = decimal_injective number other (omega (arith, h.small)) (omega (arith, g.small)) (sym h.spelled ∙ g.spelled)

one_two : (text : List ℕ) (a b c d : ℕ) → AreTwoNumbers text a b → AreTwoNumbers text c d → (a ≡ c) × (b ≡ d)
one_two text a b c d h g =
    let same = one_number text a c (decimal b) (decimal d) (first_of text a b h) (first_of text c d g) in
    (same.0, decimal_injective b d (omega (arith, h.second_small)) (omega (arith, g.second_small)) same.1)

-- ---- a line says one event

-- each form begins with a letter of its own
abbrev letter : Event → ℕ
letter (event.Datagram peer bytes) = 102
letter (event.Opened conn peer) = 111
letter (event.Piece conn bytes) = 112
letter (event.Closed conn) = 99
letter event.Tick = 116
letter event.Restart = 114
letter event.End = 0
letter event.Failed = 0

letter_is : (words : List ℕ) (event : Event) → SaysEvent words event → get_or words 0 0 ≡ letter event
letter_is words (event.Datagram peer bytes) h = ap (λ text. get_or text 0 0) h.1
letter_is words (event.Opened conn peer) h = ap (λ text. get_or text 0 0) h.1
letter_is words (event.Piece conn bytes) h = ap (λ text. get_or text 0 0) h.1
letter_is words (event.Closed conn) h = ap (λ text. get_or text 0 0) h.1
letter_is words event.Tick h = ap (λ text. get_or text 0 0) h
letter_is words event.Restart h = ap (λ text. get_or text 0 0) h
letter_is words event.End h = absurd h
letter_is words event.Failed h = absurd h

letters_are : (words : List ℕ) (event other : Event) → SaysEvent words event → SaysEvent words other → letter event ≡ letter other
letters_are words event other h g = sym (letter_is words event h) ∙ letter_is words other g

-- what stands behind the word, where the word is known
behind_is : (word words behind other : List ℕ) → words ≡ word ++ behind → words ≡ word ++ other → behind ≡ other
behind_is word words behind other is was = append_cancel_left word behind other (sym is ∙ was)

moved : (Form : List ℕ → Type 0) (word words : List ℕ) (h : BeginsWith word words Form) (behind : List ℕ) → words ≡ word ++ behind → Form behind
moved Form word words h behind is = subst Form (behind_is word words h.0 behind h.1 is) h.2

one_saying : (words : List ℕ) (event other : Event) → SaysEvent words event → SaysEvent words other → event ≡ other
one_saying words event.End other h g = absurd h
one_saying words event.Failed other h g = absurd h
one_saying words (event.Datagram peer bytes) (event.Datagram from others) h g =
    let same = one_bytes h.0 peer from bytes others h.2 (moved (λ behind. IsNumberAndBytes behind from others) (codes "from ") words g h.0 h.1) in
    ap (λ p. event.Datagram p bytes) same.0 ∙ ap (λ b. event.Datagram from b) same.1
one_saying words (event.Opened conn peer) (event.Opened other from) h g =
    let same = one_two h.0 conn peer other from h.2 (moved (λ behind. AreTwoNumbers behind other from) (codes "open ") words g h.0 h.1) in
    ap (λ c. event.Opened c peer) same.0 ∙ ap (λ p. event.Opened other p) same.1
one_saying words (event.Piece conn bytes) (event.Piece other others) h g =
    let same = one_bytes h.0 conn other bytes others h.2 (moved (λ behind. IsNumberAndBytes behind other others) (codes "piece ") words g h.0 h.1) in
    ap (λ c. event.Piece c bytes) same.0 ∙ ap (λ b. event.Piece other b) same.1
one_saying words (event.Closed conn) (event.Closed other) h g =
    ap event.Closed (one_small h.0 conn other h.2 (moved (λ behind. IsNumber behind other) (codes "close ") words g h.0 h.1))
one_saying words event.Tick event.Tick h g = refl
one_saying words event.Restart event.Restart h g = refl
one_saying words event other h g = absurd (omega (arith, letters_are words event other h g))

-- ---- where a form isn't met, no event is said

pub no_datagram : (behind : List ℕ) → ((number : ℕ) (bytes : List ℕ) → IsNumberAndBytes behind number bytes → ⊥) → (event : Event) → SaysEvent (codes "from " ++ behind) event → ⊥
no_datagram behind none (event.Datagram peer bytes) h = none peer bytes (moved (λ text. IsNumberAndBytes text peer bytes) (codes "from ") _ h behind refl)
no_datagram behind none event.End h = h
no_datagram behind none event.Failed h = h
no_datagram behind none event h = absurd (omega (arith, letter_is (codes "from " ++ behind) event h))

pub no_piece : (behind : List ℕ) → ((number : ℕ) (bytes : List ℕ) → IsNumberAndBytes behind number bytes → ⊥) → (event : Event) → SaysEvent (codes "piece " ++ behind) event → ⊥
no_piece behind none (event.Piece conn bytes) h = none conn bytes (moved (λ text. IsNumberAndBytes text conn bytes) (codes "piece ") _ h behind refl)
no_piece behind none event.End h = h
no_piece behind none event.Failed h = h
no_piece behind none event h = absurd (omega (arith, letter_is (codes "piece " ++ behind) event h))

pub no_opening : (behind : List ℕ) → ((conn peer : ℕ) → AreTwoNumbers behind conn peer → ⊥) → (event : Event) → SaysEvent (codes "open " ++ behind) event → ⊥
no_opening behind none (event.Opened conn peer) h = none conn peer (moved (λ text. AreTwoNumbers text conn peer) (codes "open ") _ h behind refl)
no_opening behind none event.End h = h
no_opening behind none event.Failed h = h
no_opening behind none event h = absurd (omega (arith, letter_is (codes "open " ++ behind) event h))

pub no_closing : (behind : List ℕ) → ((conn : ℕ) → IsNumber behind conn → ⊥) → (event : Event) → SaysEvent (codes "close " ++ behind) event → ⊥
no_closing behind none (event.Closed conn) h = none conn (moved (λ text. IsNumber text conn) (codes "close ") _ h behind refl)
no_closing behind none event.End h = h
no_closing behind none event.Failed h = h
no_closing behind none event h = absurd (omega (arith, letter_is (codes "close " ++ behind) event h))

pub one_event : (line : List ℕ) (event other : Event) (at time : ℕ) → IsEventLine line event at → IsEventLine line other time → (event ≡ other) × (at ≡ time)
one_event line event other at time h g =
    let first : IsAfterNumber (decimal at ++ (codes " " ++ h.words)) at h.words = record { small = omega (arith, h.time); spelled = refl } in
    let times = time_is line _ at h.words other time g h.spelled first in
    (one_saying h.words event other h.says (subst (λ (words : List ℕ). SaysEvent words other) (sym times.1) g.says), times.0)

-- no line of an event is skipped
pub event_not_skipped : (line : List ℕ) (event : Event) (at : ℕ) → IsEventLine line event at → IsSkipped line → ⊥
event_not_skipped line event at h skipped =
    let first : 97 ≡ 35 = subst IsSkipped h.spelled skipped in
    absurd (omega (arith, first))
