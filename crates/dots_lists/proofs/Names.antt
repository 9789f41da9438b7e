-- Names are text.
use Rattle.std.proofs.Common.{◌≡◌, ℕ, zero, suc, ◌<◌, ◌&&◌, true, length, List, [], ◌∷◌, arith}
use Rattle.std.specs.Prelude.{nat_le, slice_index, IsUtf8, IsTrue}
use Rattle.std.specs.Char.{is_ascii_graphic}
use Rattle.std.specs.List.{list_all}
use Rattle.std.specs.Str.{IsAscii}
use Rattle.std.proofs.lemmas.Bool.{and_parts}
use Rattle.std.proofs.lemmas.Bool.Decides.{nat_tests}
use Rattle.std.proofs.lemmas.Str.{IsUtf8-from_ascii}
use Rattle.dots_lists.specs.Name.{is_name}

visible_is_ascii : (byte : ℕ) → is_ascii_graphic byte ≡ true → byte < 128
visible_is_ascii byte visible = grind (arith, nat_tests)

visible_are_ascii : (bytes : List ℕ) → list_all is_ascii_graphic bytes ≡ true → IsAscii bytes
visible_are_ascii [] visible i = omega arith
visible_are_ascii (byte ∷ bytes) visible i =
    let parts = and_parts (is_ascii_graphic byte) (list_all is_ascii_graphic bytes) visible in
    let later = visible_are_ascii bytes parts.1 in
    elim i as (λ j. slice_index (byte ∷ bytes) j < 128) [ zero ↦ visible_is_ascii byte parts.0 | suc j ↦ later j ]

-- a name is ASCII, and so UTF-8
pub name_is_ascii : (bytes : List ℕ) → IsTrue (is_name bytes) → IsAscii bytes
name_is_ascii bytes name =
    let parts = and_parts (nat_le 1 (length bytes) && nat_le (length bytes) 64) (list_all is_ascii_graphic bytes) name in
    visible_are_ascii bytes parts.1

pub name_is_utf8 : (bytes : List ℕ) → IsTrue (is_name bytes) → IsUtf8 bytes
name_is_utf8 bytes name = IsUtf8-from_ascii bytes (name_is_ascii bytes name)
