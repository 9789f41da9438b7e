-- The fields of a map, and the order in which what is wrong with them is looked for.
use Rattle.std.specs.Prelude.{ℕ, ◌<◌, Bool, true, ◌&&◌, ◌==◌, if◌then◌else◌, is_some, List, [], ◌∷◌, Option, Some, None, Result, Ok, Err}
use Rattle.cbor_profile.specs.Tree.{Tree, Pairs, no_pairs, pair}
use Rattle.cbor_profile.specs.Kind.{number_in, pairs_in}
use Rattle.dots_keys.specs.declared.reject.Reject.{Reject}
use Rattle.dots_keys.specs.declared.keys.Role.{Role}
use Rattle.dots_keys.specs.declared.keys.Role.TheVariants as role
use Rattle.dots_keys.specs.Keys.{key_role}
use Rattle.dots_keys.specs.Results.{◌>>=◌, invalid, missing, unknown_key}

-- A key of the table with its value, or a number outside the table.
pub data Field : Type 0 where
  known : ℕ → Tree → Field
  unknown : ℕ → Field

-- The fields of a map are its pairs in order, without those whose keys are ignored. In a valid item the keys rise in the order of
-- their encodings, in which unsigned numbers ascend.
abbrev pub field_before : Role → Tree → List Field → List Field
field_before (role.Known n) value fields = known n value ∷ fields
field_before role.Ignored value fields = fields
field_before (role.Unknown n) value fields = unknown n ∷ fields

abbrev pub pair_before : Option ℕ → Tree → List Field → List Field
pair_before (Some n) value fields = field_before (key_role n) value fields
pair_before None value fields = fields

abbrev pub fields_in : Pairs → List Field
fields_in no_pairs = []
fields_in (pair key value pairs) = pair_before (number_in key) value (fields_in pairs)

abbrev pub all_unsigned : Pairs → Bool
all_unsigned no_pairs = true
all_unsigned (pair key value pairs) = is_some (number_in key) && all_unsigned pairs

-- A map stands under a key; the body stands under 0. What isn't a map, and a map with a key that isn't unsigned, is a wrong value
-- of that key, whatever else is wrong in it.
abbrev pub map_fields : ℕ → Option Pairs → Result (List Field) Reject
map_fields under None = Err (invalid under)
map_fields under (Some pairs) = if all_unsigned pairs then Ok (fields_in pairs) else Err (invalid under)

abbrev pub fields_of : ℕ → Tree → Result (List Field) Reject
fields_of under tree = map_fields under (pairs_in tree)

-- Fields in their order, each at its turn: `take` is the table of the map's keys, and adds what a field says to what was said
-- before it. The first field that is refused ends the reading.
abbrev pub each_field : {S : Type 0} → (S → ℕ → Tree → Result S Reject) → S → List Field → Result S Reject
each_field take said [] = Ok said
each_field take said (unknown n ∷ fields) = Err (unknown_key n)
each_field take said (known n value ∷ fields) = take said n value >>= λ more. each_field take more fields

-- the value of a mandatory key that must come first, and the fields behind it
abbrev pub first_field : ℕ → List Field → Result (Tree × List Field) Reject
first_field key [] = Err (missing key)
first_field key (unknown n ∷ fields) = Err (unknown_key n)
first_field key (known n value ∷ fields) = if n == key then Ok (value, fields) else Err (invalid n)

-- No field can stand here: nothing more than ignored ones.
abbrev pub refusal_of : Field → Reject
refusal_of (known n value) = invalid n
refusal_of (unknown n) = unknown_key n

abbrev pub ended_with : {A : Type 0} → A → List Field → Result A Reject
ended_with said [] = Ok said
ended_with said (field ∷ fields) = Err (refusal_of field)

-- A map under a key that has one key alone, which is mandatory: what its value says, which is read at its turn.
abbrev pub sole_field : {A : Type 0} → ℕ → ℕ → (Tree → Result A Reject) → Tree → Result A Reject
sole_field under key read tree = do
  fields ← fields_of under tree
  first ← first_field key fields
  value ← read first.0
  ended_with value first.1

-- Fields ascend where the number of each is below those of all behind it.
abbrev pub number_of : Field → ℕ
number_of (known n value) = n
number_of (unknown n) = n

abbrev pub AllAbove : ℕ → List Field → Type 0
AllAbove n [] = Unit {0}
AllAbove n (field ∷ fields) = (n < number_of field) × AllAbove n fields

abbrev pub Ascend : List Field → Type 0
Ascend [] = Unit {0}
Ascend (field ∷ fields) = AllAbove (number_of field) fields × Ascend fields
