-- What the fields of a request say (RFC 9110, sections 5, 7.6, 8.3 and 8.6).
use Rattle.std.specs.Prelude.{ℕ, ◌==◌, ◌&&◌, Bool, List, [], ◌∷◌, map, reverse, length, nat_le, if◌then◌else◌, codes, bytes_eq, Result, Ok, Err, Option, Some, None}
use Rattle.std.specs.List.{list_any, list_all, before_first, slice_split}
use Rattle.std.specs.Char.{to_ascii_lowercase, is_digit}
use Rattle.std.specs.Str.Parse.{digits_value}
use Rattle.httparse.specs.Ascii.{comma, semicolon}
use Rattle.httparse.specs.Grammar.{skip_ows, trim_ows}
use Rattle.http_cut.specs.declared.fault.HttpFault.{HttpFault}
use Rattle.http_cut.specs.declared.fault.HttpFault.TheVariants.{BadHead, LengthRequired, BodyTooLong}

-- names with values, in the order of their lines
abbrev pub Fields : Type 0
Fields = List (List ℕ × List ℕ)

-- the same bytes, but for the case of ASCII letters
unfoldable pub is_same_word : List ℕ → List ℕ → Bool
is_same_word one other = bytes_eq (map to_ascii_lowercase one) (map to_ascii_lowercase other)

-- the values of the fields of a name
unfoldable pub values_of : List ℕ → Fields → List (List ℕ)
values_of name [] = []
values_of name (field ∷ fields) = if is_same_word field.0 name then field.1 ∷ values_of name fields else values_of name fields

-- the bytes without spaces and tabs at the end
abbrev pub skip_back : List ℕ → List ℕ
skip_back bytes = reverse (skip_ows (reverse bytes))

-- media-type without its parameters
unfoldable pub media_type : List ℕ → List ℕ
media_type value = trim_ows (before_first (λ byte. byte == semicolon) value)

-- the media type of the first Content-Type field
unfoldable pub first_media : List (List ℕ) → Option (List ℕ)
first_media [] = None
first_media (value ∷ values) = Some (media_type value)

-- the connection option `close`, as an item of a list
unfoldable pub is_close : List ℕ → Bool
is_close option = is_same_word (trim_ows option) (codes "close")

-- Connection = #connection-option
unfoldable pub has_close : List ℕ → Bool
has_close value = list_any is_close (slice_split (λ byte. byte == comma) value)

-- Content-Length = 1*DIGIT, and at most ten of them here
unfoldable pub is_length : List ℕ → Bool
is_length value = (nat_le 1 (length value) && nat_le (length value) 10) && list_all (λ byte. is_digit byte 10) value

-- what one Content-Length announces; bodies have at most 8,192 bytes here
unfoldable pub announced : List ℕ → Result ℕ HttpFault
announced value =
    if is_length value then (if nat_le (digits_value 10 value) 8192 then Ok (digits_value 10 value) else Err BodyTooLong) else Err BadHead

-- what the Content-Length fields announce (RFC 9112, section 6.3: without one there is no body)
unfoldable pub body_length : List (List ℕ) → Result ℕ HttpFault
body_length [] = Ok 0
body_length (value ∷ []) = announced value
body_length (value ∷ other ∷ values) = Err BadHead

-- no encodings, and else the length is asked for
unfoldable pub framed : List (List ℕ) → Result ℕ HttpFault → Result ℕ HttpFault
framed [] announced_length = announced_length
framed (encoding ∷ encodings) announced_length = Err LengthRequired

-- the length of the body, or why it isn't read: a body in chunks isn't, whatever the other fields say
abbrev pub framing : Fields → Result ℕ HttpFault
framing fields = framed (values_of (codes "transfer-encoding") fields) (body_length (values_of (codes "content-length") fields))
