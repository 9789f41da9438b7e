use Rattle.std.proofs.Common.{◌≡◌, ◌<◌, ℕ, List, true, sym, subst, arith}
use Rattle.std.specs.Char.{is_ascii_graphic}
use Rattle.std.specs.Str.{IsUtf8}
use Rattle.std.proofs.lemmas.Bool.{and_parts, leb-true}
use Rattle.std.proofs.lemmas.List.Sums.{AllPass-from_list_all}
use Rattle.std.proofs.lemmas.Str.{IsUtf8-from_ascii}
use Rattle.std.proofs.lemmas.Str.Ascii.{IsAscii-from_all}
use Rattle.dots_lists.specs.Name.{is_name}
use Rattle.dots_server.proofs.entries.text_of.Goals as goal

visible_is_ascii : (byte : ℕ) → is_ascii_graphic byte ≡ true → byte < 128
visible_is_ascii byte visible = omega (arith, leb-true byte 126 (and_parts _ _ visible).1)

-- a name is a text in UTF-8
name_is_utf8 : (bytes : List ℕ) → is_name bytes ≡ true → IsUtf8 bytes
name_is_utf8 bytes name =
    let visible = AllPass-from_list_all is_ascii_graphic bytes (and_parts _ _ name).1 in
    IsUtf8-from_ascii bytes (IsAscii-from_all bytes (λ k d within. visible_is_ascii _ (visible k d within)))

pub unreachable-requires : goal.unreachable-requires
unreachable-requires c =
    rw c.in-None.is at c.in_ok-text.ensures.none (subst IsUtf8 (sym c.bytes.ensures.value) (name_is_utf8 c.args.name.now c.bytes.ensures.name))
