-- The path of a resource stays in its line, and is short.
use Rattle.std.proofs.Common.{◌≡◌, ℕ, ◌+◌, ◌*◌, ◌<◌, ◌≤◌, true, false, Bool, List, [], ◌∷◌, ◌++◌, length, take, get_or, length-append, append_assoc, append-nil, All, refl, sym, ap, ◌∙◌, inl, inr, arith}
use Rattle.std.specs.Prelude.{codes, ◌&&◌, nat_le, if◌then◌else◌}
use Rattle.std.specs.Char.{is_ascii_graphic}
use Rattle.dots_lists.specs.Name.{is_name}
use Rattle.std.specs.List.{list_all}
use Rattle.std.proofs.lemmas.Bool.{and_parts, and_from}
use Rattle.std.proofs.lemmas.Bool.Decides.{nat_tests}
use Rattle.std.proofs.lemmas.List.{take_more}
use Rattle.std.proofs.lemmas.Grind.{flat_map-append}
use Rattle.std.proofs.lemmas.List.Elements.{All-head, All-tail}
use Rattle.http_cut.specs.Requests.{is_other}
use Rattle.http_cut.specs.Reply.{is_in_line}
use Rattle.percent_encoding.specs.Percent.{percent_encode_byte}
use Rattle.percent_encoding.proofs.PercentLemmas.{IsEscapeByte, All-percent_encode_byte}
use Rattle.data_channel.specs.Paths.{root}
use Rattle.data_channel.specs.Replies.{is_unreserved, encode_byte, encoded, path_to}

-- ---- no byte ends the line

joined_line : (xs ys : List ℕ) → is_in_line xs ≡ true → is_in_line ys ≡ true → is_in_line (xs ++ ys) ≡ true
joined_line [] ys one two = two
joined_line (x ∷ xs) ys one two =
    let parts = and_parts (is_other x) (is_in_line xs) one in
    and_from (is_other x) (is_in_line (xs ++ ys)) parts.0 (joined_line xs ys parts.1 two)

unreserved_is_other : (byte : ℕ) → is_unreserved byte ≡ true → is_other byte ≡ true
unreserved_is_other byte is = grind (arith, nat_tests)

escape_is_other : (byte : ℕ) → IsEscapeByte byte → is_other byte ≡ true
escape_is_other byte (inl sign) = grind (arith, nat_tests)
escape_is_other byte (inr (inl digit)) = grind (arith, nat_tests)
escape_is_other byte (inr (inr letter)) = grind (arith, nat_tests)

escapes_in_line : (bytes : List ℕ) → All IsEscapeByte bytes → is_in_line bytes ≡ true
escapes_in_line [] all = refl
escapes_in_line (byte ∷ bytes) all = and_from (is_other byte) (is_in_line bytes) (escape_is_other byte (All-head IsEscapeByte byte bytes all)) (escapes_in_line bytes (All-tail IsEscapeByte byte bytes all))

byte_in_line : (byte : ℕ) (test : Bool) → is_unreserved byte ≡ test → is_in_line (if test then byte ∷ [] else percent_encode_byte byte) ≡ true
byte_in_line byte true is = and_from (is_other byte) true (unreserved_is_other byte is) refl
byte_in_line byte false is = escapes_in_line (percent_encode_byte byte) (All-percent_encode_byte byte)

encoded_in_line : (name : List ℕ) → is_in_line (encoded name) ≡ true
encoded_in_line [] = refl
encoded_in_line (byte ∷ name) = joined_line (encode_byte byte) (encoded name) (byte_in_line byte (is_unreserved byte) refl) (encoded_in_line name)

pub path_in_line : (cuid fixed name : List ℕ) → is_in_line fixed ≡ true → is_in_line (path_to cuid fixed name) ≡ true
path_in_line cuid fixed name line =
    joined_line (root ++ codes "/dots-client=" ++ encoded cuid ++ fixed) (encoded name) (
    joined_line (root ++ codes "/dots-client=" ++ encoded cuid) fixed (
    joined_line (root ++ codes "/dots-client=") (encoded cuid) refl (encoded_in_line cuid)) line) (encoded_in_line name)

-- ---- its length

pub name_length : (name : List ℕ) → is_name name ≡ true → length name ≤ 64
name_length name is =
    let parts = and_parts (nat_le 1 (length name) && nat_le (length name) 64) (list_all is_ascii_graphic name) is in
    grind (arith, nat_tests, and_parts (nat_le 1 (length name)) (nat_le (length name) 64) parts.0)

escape_length : (byte : ℕ) → length (percent_encode_byte byte) ≤ 3
unfolding percent_encode_byte
escape_length byte = omega arith

byte_length : (byte : ℕ) (test : Bool) → length (if test then byte ∷ [] else percent_encode_byte byte) ≤ 3
byte_length byte true = omega arith
byte_length byte false = escape_length byte

encoded_length : (name : List ℕ) → length (encoded name) ≤ 3 * length name
encoded_length [] = omega arith
encoded_length (byte ∷ name) = omega (arith, length-append (encode_byte byte) (encoded name), byte_length byte (is_unreserved byte), encoded_length name)

front_length : length (root ++ codes "/dots-client=") ≡ 60
front_length = refl

pub path_length : (cuid fixed name : List ℕ) → length cuid ≤ 64 → length fixed ≤ 15 → length name ≤ 64 → length (path_to cuid fixed name) ≤ 700
path_length cuid fixed name one two three =
    omega (arith, front_length, length-append (root ++ codes "/dots-client=") (encoded cuid), length-append (root ++ codes "/dots-client=" ++ encoded cuid) fixed, length-append (root ++ codes "/dots-client=" ++ encoded cuid ++ fixed) (encoded name), encoded_length cuid, encoded_length name, one, two, three)

-- ---- one byte more

pub byte_added : (front name done : List ℕ) (i : ℕ) → i < length name → done ≡ front ++ encoded (take i name) → done ++ encode_byte (get_or name i 0) ≡ front ++ encoded (take (i + 1) name)
byte_added front name done i few before =
    let byte = get_or name i 0 in
    let more : encoded (take (i + 1) name) ≡ encoded (take i name) ++ encode_byte byte =
    ap encoded (take_more name i 0 few) ∙ flat_map-append encode_byte (take i name) (byte ∷ []) ∙ ap (λ (y : List ℕ). encoded (take i name) ++ y) (append-nil (encode_byte byte)) in
    ap (λ (y : List ℕ). y ++ encode_byte byte) before ∙ append_assoc front (encoded (take i name)) (encode_byte byte) ∙ ap (λ (y : List ℕ). front ++ y) (sym more)
