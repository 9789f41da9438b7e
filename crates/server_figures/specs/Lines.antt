-- The lines of a figure, in the text form of Prometheus (version 0.0.4): what it is, of which kind, and its numbers.
use Rattle.std.specs.Prelude.{ℕ, ◌+◌, ◌/◌, ◌%◌, Bool, ◌==◌, ◌||◌, nat_lt, if◌then◌else◌, List, [], ◌∷◌, ◌++◌, codes, decimal}
use Rattle.std.specs.List.{flat_map, range_with_len}
use Rattle.std.specs.Char.{is_ascii_alphanumeric}

-- What a figure is called, what it is in words, and its kind: a `counter` rises, and a `gauge` doesn't only rise.
pub record Heading : Type 0 where
  pub name : List ℕ
  pub help : List ℕ
  pub kind : List ℕ

-- `# HELP NAME HELP` and `# TYPE NAME KIND`
unfoldable pub heading_lines : Heading → List ℕ
heading_lines h =
    codes "# HELP " ++ h.name ++ codes " " ++ h.help ++ codes "\n# TYPE " ++ h.name ++ codes " " ++ h.kind ++ codes "\n"

-- `NAME NUMBER`
abbrev pub plain_line : List ℕ → ℕ → List ℕ
plain_line name number = name ++ codes " " ++ decimal number ++ codes "\n"

-- `NAME{LABEL="VALUE"} NUMBER`
unfoldable pub labelled_line : List ℕ → List ℕ → List ℕ → ℕ → List ℕ
labelled_line name label value number =
    name ++ codes "{" ++ label ++ codes "=\"" ++ value ++ codes "\"} " ++ decimal number ++ codes "\n"

-- a figure of one number
unfoldable pub plain_figure : Heading → ℕ → List ℕ
plain_figure h number = heading_lines h ++ plain_line h.name number

-- the lines of each of so many numbers, from the first on
unfoldable pub lines_from : (ℕ → List ℕ) → ℕ → ℕ → List ℕ
lines_from line first count = flat_map line (range_with_len first count)

-- ---- names

-- one hexadecimal digit
abbrev pub hex_digit : ℕ → ℕ
hex_digit n = if nat_lt n 10 then 48 + n else 55 + n

-- A byte of a name: what isn't a letter, a digit, `-`, `.`, `_` or `~` is `%` and two hexadecimal digits (RFC 3986, section 2).
abbrev pub is_unreserved : ℕ → Bool
is_unreserved byte = is_ascii_alphanumeric byte || (byte == 45 || (byte == 46 || (byte == 95 || byte == 126)))

unfoldable pub spelled_byte : ℕ → List ℕ
spelled_byte byte = if is_unreserved byte then byte ∷ [] else 37 ∷ hex_digit (byte / 16) ∷ hex_digit (byte % 16) ∷ []

abbrev pub spelled : List ℕ → List ℕ
spelled name = flat_map spelled_byte name
