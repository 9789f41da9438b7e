-- Visible characters are text, and so many of them are a name.
use Rattle.std.proofs.Common.{◌≡◌, ℕ, zero, suc, ◌<◌, ◌≤◌, true, List, [], ◌∷◌, length, IsTrue, arith}
use Rattle.std.specs.Prelude.{IsUtf8, nat_le, slice_index}
use Rattle.std.specs.Str.{IsAscii}
use Rattle.std.specs.Char.{is_ascii_graphic}
use Rattle.std.specs.List.{list_all}
use Rattle.std.proofs.lemmas.Bool.{and_from, and_parts}
use Rattle.std.proofs.lemmas.Bool.Decides.{nat_tests}
use Rattle.std.proofs.lemmas.Str.{IsUtf8-from_ascii}
use Rattle.dots_lists.specs.Name.{is_name}

visible_is_ascii : (byte : ℕ) → is_ascii_graphic byte ≡ true → byte < 128
visible_is_ascii byte visible = grind (arith, nat_tests)

visible_are_ascii : (bytes : List ℕ) → list_all is_ascii_graphic bytes ≡ true → IsAscii bytes
visible_are_ascii [] visible i = omega arith
visible_are_ascii (byte ∷ bytes) visible i =
    let parts = and_parts (is_ascii_graphic byte) (list_all is_ascii_graphic bytes) visible in
    let later = visible_are_ascii bytes parts.1 in
    elim i as (λ j. slice_index (byte ∷ bytes) j < 128) [ zero ↦ visible_is_ascii byte parts.0 | suc j ↦ later j ]

pub visible_is_utf8 : (bytes : List ℕ) → IsTrue (list_all is_ascii_graphic bytes) → IsUtf8 bytes
visible_is_utf8 bytes visible = IsUtf8-from_ascii bytes (visible_are_ascii bytes visible)

pub visible_is_name : (bytes : List ℕ) → IsTrue (list_all is_ascii_graphic bytes) → 1 ≤ length bytes → length bytes ≤ 64 → IsTrue (is_name bytes)
visible_is_name bytes visible least most =
    let some : nat_le 1 (length bytes) ≡ true = grind (arith, nat_tests) in
    let few : nat_le (length bytes) 64 ≡ true = grind (arith, nat_tests) in
    and_from _ _ (and_from _ _ some few) visible
