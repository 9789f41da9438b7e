-- Reading from left to right: the item at the front of the bytes and what stands behind it, or the first fault. The
-- private functions answer so; that it is what is spelled, and what breaks, is proved of it.
use Rattle.std.specs.Prelude.{◌≡◌, ℕ, zero, suc, ◌-◌, ◌/◌, ◌%◌, Bool, true, false, not, ◌&&◌, List, [], ◌∷◌, ◌++◌, length, take, drop, Option, Some, None, Result, Ok, Err, nat_lt, nat_le, ◌==◌, if◌then◌else◌}
use Rattle.std.specs.Int.{Width, byte_len, from_be_bytes}
use Rattle.std.specs.Str.{is_utf8}
use Rattle.std.specs.Borrow.{Bor}
use Rattle.dots_lists.specs.Steps as steps
use Rattle.cbor_profile.specs.declared.fault.CborFault.{CborFault}
use Rattle.cbor_profile.specs.declared.fault.CborFault.TheVariants.{Short, Reserved, NotUtf8, Duplicate, Unsupported, Deep, Trailing, NoMemory}
use Rattle.cbor_profile.specs.declared.major.Major.{Major}
use Rattle.cbor_profile.specs.declared.major.Major.TheVariants as major_type
use Rattle.cbor_profile.specs.declared.head.Start.{Start}
use Rattle.cbor_profile.specs.declared.head.Start.TheVariants as start
use Rattle.cbor_profile.specs.Tree.{Tree, unsigned, negative, byte_string, text, array, mapping, tag, boolean, null, items_of, pairs_of}
use Rattle.cbor_profile.specs.Keys.{has_key, put}
use Rattle.cbor_profile.specs.ItemTrees.{tree_of}
use Rattle.cbor_profile.specs.declared.item.Item.{Item}
use Rattle.cbor_profile.specs.Spelling.{width, break}
use Rattle.cbor_profile.specs.Parts.{number_of}

infixl 10 ◌>>=◌
abbrev pub ◌>>=◌ : {A B : Type 0} → Result A CborFault → (A → Result B CborFault) → Result B CborFault
(Ok x) >>= f = f x
(Err e) >>= f = Err e

-- want of memory
abbrev pub lacks : CborFault → Bool
lacks NoMemory = true
lacks _ = false

-- What a function returned, seen by view, is what reading gives, unless memory ran out.
abbrev pub Fails : {A : Type 0} → CborFault → Result A CborFault → Type 0
Fails fault read = steps.Fails lacks fault read

abbrev pub Gives : {X Y : Type 0} → (X → Y) → Result X CborFault → Result Y CborFault → Type 0
Gives view (Ok x) read = read ≡ Ok (view x)
Gives view (Err e) read = Fails e read

-- what is read, and the bytes behind it
abbrev pub Read : Type 0 → Type 0
Read A = Result (A × List ℕ) CborFault

-- an item that was read as its tree, with the bytes behind it
abbrev pub item_read : Item × Bor (List ℕ) → Tree × List ℕ
item_read read = (tree_of read.0, read.1.now)

-- ---- heads

-- Below, end is where the input ends, whose last bytes are read.

abbrev pub number_at : ℕ → Width → List ℕ → Read ℕ
number_at end w bytes =
    if nat_lt (length bytes) (byte_len w) then Err (Short end) else Ok (from_be_bytes w (take (byte_len w) bytes), drop (byte_len w) bytes)

-- the argument behind an initial byte with this additional information
unfoldable pub argument_at : ℕ → ℕ → List ℕ → Read ℕ
argument_at end info bytes = if nat_lt info 24 then Ok (info, bytes) else number_at end (width info) bytes

abbrev pub major_of : ℕ → Major
major_of n =
    if n == 0 then major_type.Unsigned else if n == 1 then major_type.Negative else if n == 2 then major_type.Bytes
    else if n == 3 then major_type.Text else if n == 4 then major_type.Array else if n == 5 then major_type.Map
    else if n == 6 then major_type.Tag else major_type.Simple

-- what an initial byte of a major type and an additional information begins
abbrev pub simple_start : ℕ → Start
simple_start info =
    if nat_le 20 info && nat_le info 22 then start.Value major_type.Simple info else if nat_lt info 28 then start.Unsupported else start.Reserved

abbrev pub sized_start : Major → ℕ → Bool → Start
sized_start major info indefinite =
    if nat_lt info 28 then start.Value major info else if info == 31 && indefinite then start.Indefinite major else start.Reserved

unfoldable pub start_with : Major → ℕ → Start
start_with major_type.Simple info = simple_start info
start_with major_type.Unsigned info = sized_start major_type.Unsigned info false
start_with major_type.Negative info = sized_start major_type.Negative info false
start_with major_type.Tag info = sized_start major_type.Tag info false
start_with major_type.Bytes info = sized_start major_type.Bytes info true
start_with major_type.Text info = sized_start major_type.Text info true
start_with major_type.Array info = sized_start major_type.Array info true
start_with major_type.Map info = sized_start major_type.Map info true

abbrev pub start_of : ℕ → Start
start_of first = start_with (major_of (first / 32)) (first % 32)

-- ---- strings

abbrev pub content_at : ℕ → ℕ → List ℕ → Read (List ℕ)
content_at end n bytes = if nat_lt (length bytes) n then Err (Short end) else Ok (take n bytes, drop n bytes)

abbrev pub is_text : Major → Bool
is_text major_type.Text = true
is_text major = false

abbrev pub checked : Major → ℕ → List ℕ × List ℕ → Read (List ℕ)
checked major at string = if is_text major && not (is_utf8 string.0) then Err (NotUtf8 at) else Ok string

-- a string of definite length; its initial byte stands at the place at, in front of the bytes
unfoldable pub string_at : ℕ → ℕ → Major → ℕ → List ℕ → Read (List ℕ)
string_at end at major info bytes = do
  n ← argument_at end info bytes
  string ← content_at end n.0 n.1
  checked major at string

-- whether an initial byte begins a part of a string of this type
abbrev pub is_part : Major → ℕ → Bool
is_part major first = first / 32 == number_of major && nat_lt (first % 32) 28

-- the parts up to the end of an indefinite length, of which there are at most as many as fuel
unfoldable pub parts_at : ℕ → ℕ → Major → List ℕ → Read (List ℕ)
parts_at zero end major bytes = Err (Short end)
parts_at (suc fuel) end major [] = Err (Short end)
parts_at (suc fuel) end major (first ∷ bytes) =
    if first == break then Ok ([], bytes)
    else if not (is_part major first) then Err (Reserved (end - suc (length bytes)))
    else string_at end (end - suc (length bytes)) major (first % 32) bytes >>= λ string.
    parts_at fuel end major string.1 >>= λ others. Ok (string.0 ++ others.0, others.1)

-- ---- arrays and maps, whose parts read gives

-- so many items
unfoldable pub items_at : (List ℕ → Read Tree) → ℕ → List ℕ → Read (List Tree)
items_at read zero bytes = Ok ([], bytes)
items_at read (suc n) bytes = do
  first ← read bytes
  others ← items_at read n first.1
  Ok (first.0 ∷ others.0, others.1)

-- the items up to the end of an indefinite length
unfoldable pub open_items_at : (List ℕ → Read Tree) → ℕ → ℕ → List ℕ → Read (List Tree)
open_items_at read zero end bytes = Err (Short end)
open_items_at read (suc fuel) end [] = Err (Short end)
open_items_at read (suc fuel) end (first ∷ bytes) =
    if first == break then Ok ([], bytes)
    else read (first ∷ bytes) >>= λ item.
    open_items_at read fuel end item.1 >>= λ others. Ok (item.0 ∷ others.0, others.1)

-- the pairs in order, with the next key and its value
unfoldable pub pair_at : (List ℕ → Read Tree) → ℕ → List (Tree × Tree) → List ℕ → Read (List (Tree × Tree))
pair_at read end pairs bytes =
    read bytes >>= λ key.
    if has_key key.0 pairs then Err (Duplicate (end - length bytes))
    else read key.1 >>= λ value. Ok (put key.0 value.0 pairs, value.1)

-- so many pairs more
unfoldable pub pairs_at : (List ℕ → Read Tree) → ℕ → ℕ → List (Tree × Tree) → List ℕ → Read (List (Tree × Tree))
pairs_at read end zero pairs bytes = Ok (pairs, bytes)
pairs_at read end (suc n) pairs bytes = do
  more ← pair_at read end pairs bytes
  pairs_at read end n more.0 more.1

unfoldable pub open_pairs_at : (List ℕ → Read Tree) → ℕ → ℕ → List (Tree × Tree) → List ℕ → Read (List (Tree × Tree))
open_pairs_at read zero end pairs bytes = Err (Short end)
open_pairs_at read (suc fuel) end pairs [] = Err (Short end)
open_pairs_at read (suc fuel) end pairs (first ∷ bytes) =
    if first == break then Ok (pairs, bytes)
    else pair_at read end pairs (first ∷ bytes) >>= λ more. open_pairs_at read fuel end more.0 more.1

-- ---- items

-- the reader of parts, where parts may stand
abbrev pub nested : {A : Type 0} → Option (List ℕ → Read Tree) → ℕ → ((List ℕ → Read Tree) → Read A) → Read A
nested None at f = Err (Deep at)
nested (Some read) at f = f read

-- strings and parts as items
abbrev pub as_bytes : Read (List ℕ) → Read Tree
as_bytes read = read >>= λ string. Ok (byte_string string.0, string.1)

abbrev pub as_text : Read (List ℕ) → Read Tree
as_text read = read >>= λ string. Ok (text string.0, string.1)

abbrev pub as_array : Read (List Tree) → Read Tree
as_array read = read >>= λ ts. Ok (array (items_of ts.0), ts.1)

abbrev pub as_map : Read (List (Tree × Tree)) → Read Tree
as_map read = read >>= λ ps. Ok (mapping (pairs_of ps.0), ps.1)

abbrev pub simple : ℕ → Tree
simple n = if n == 20 then boolean false else if n == 21 then boolean true else null

abbrev pub array_at : (List ℕ → Read Tree) → ℕ → ℕ → List ℕ → Read Tree
array_at read end info bytes = argument_at end info bytes >>= λ n. as_array (items_at read n.0 n.1)

abbrev pub map_at : (List ℕ → Read Tree) → ℕ → ℕ → List ℕ → Read Tree
map_at read end info bytes = argument_at end info bytes >>= λ n. as_map (pairs_at read end n.0 [] n.1)

abbrev pub tag_at : (List ℕ → Read Tree) → ℕ → ℕ → List ℕ → Read Tree
tag_at read end info bytes = argument_at end info bytes >>= λ n. read n.1 >>= λ t. Ok (tag n.0 t.0, t.1)

abbrev pub open_array_at : (List ℕ → Read Tree) → ℕ → List ℕ → Read Tree
open_array_at read end bytes = as_array (open_items_at read (length bytes) end bytes)

abbrev pub open_map_at : (List ℕ → Read Tree) → ℕ → List ℕ → Read Tree
open_map_at read end bytes = as_map (open_pairs_at read (length bytes) end [] bytes)

-- behind the initial byte, which stands at the place at
unfoldable pub value_at : Option (List ℕ → Read Tree) → ℕ → ℕ → Major → ℕ → List ℕ → Read Tree
value_at parts end at major_type.Unsigned info bytes = argument_at end info bytes >>= λ n. Ok (unsigned n.0, n.1)
value_at parts end at major_type.Negative info bytes = argument_at end info bytes >>= λ n. Ok (negative n.0, n.1)
value_at parts end at major_type.Bytes info bytes = as_bytes (string_at end at major_type.Bytes info bytes)
value_at parts end at major_type.Text info bytes = as_text (string_at end at major_type.Text info bytes)
value_at parts end at major_type.Array info bytes =
    nested parts at (λ read. array_at read end info bytes)
value_at parts end at major_type.Map info bytes =
    nested parts at (λ read. map_at read end info bytes)
value_at parts end at major_type.Tag info bytes =
    nested parts at (λ read. tag_at read end info bytes)
value_at parts end at major_type.Simple info bytes = Ok (simple info, bytes)

unfoldable pub indefinite_at : Option (List ℕ → Read Tree) → ℕ → ℕ → Major → List ℕ → Read Tree
indefinite_at parts end at major_type.Bytes bytes = as_bytes (parts_at (length bytes) end major_type.Bytes bytes)
indefinite_at parts end at major_type.Text bytes = as_text (parts_at (length bytes) end major_type.Text bytes)
indefinite_at parts end at major_type.Array bytes =
    nested parts at (λ read. open_array_at read end bytes)
indefinite_at parts end at major_type.Map bytes =
    nested parts at (λ read. open_map_at read end bytes)
indefinite_at parts end at major bytes = Err (Reserved at)

unfoldable pub begun_at : Option (List ℕ → Read Tree) → ℕ → ℕ → Start → List ℕ → Read Tree
begun_at parts end at (start.Value major info) bytes = value_at parts end at major info bytes
begun_at parts end at (start.Indefinite major) bytes = indefinite_at parts end at major bytes
begun_at parts end at start.Reserved bytes = Err (Reserved at)
begun_at parts end at start.Unsupported bytes = Err (Unsupported at)

unfoldable pub item_with : Option (List ℕ → Read Tree) → ℕ → List ℕ → Read Tree
item_with parts end [] = Err (Short end)
item_with parts end (first ∷ bytes) = begun_at parts end (end - suc (length bytes)) (start_of first) bytes

-- an item that nests at most levels deep
unfoldable pub item_at : ℕ → ℕ → List ℕ → Read Tree
item_at zero end bytes = item_with None end bytes
item_at (suc levels) end bytes = item_with (Some (item_at levels end)) end bytes

-- the reader of parts of an item that nests at most levels deep
abbrev pub parts_of : ℕ → ℕ → Option (List ℕ → Read Tree)
parts_of zero end = None
parts_of (suc levels) end = Some (item_at levels end)

-- the content of a string, behind an initial byte with this additional information
abbrev pub raw_at : ℕ → ℕ → List ℕ → Read (List ℕ)
raw_at end info bytes = argument_at end info bytes >>= λ n. content_at end n.0 n.1

-- an item that is all of the bytes
unfoldable pub whole : List ℕ → Result Tree CborFault
whole bytes = item_at 16 (length bytes) bytes >>= λ item.
    if length item.1 == 0 then Ok item.0 else Err (Trailing (length bytes - length item.1))
