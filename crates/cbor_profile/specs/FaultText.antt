-- What is printed of a fault.
use Rattle.std.specs.Prelude.{ℕ, Option, Some, None, List, ◌++◌, codes, decimal}
use Rattle.cbor_profile.specs.declared.fault.CborFault.{CborFault}
use Rattle.cbor_profile.specs.declared.fault.CborFault.TheVariants.{Short, Reserved, NotUtf8, Duplicate, Unsupported, Deep, Trailing, NoMemory}

-- what is wrong
abbrev pub fault_words : CborFault → List ℕ
fault_words (Short at) = codes "the input ends inside the item"
fault_words (Reserved at) = codes "a byte that means nothing"
fault_words (NotUtf8 at) = codes "a text isn't UTF-8"
fault_words (Duplicate at) = codes "a key comes twice"
fault_words (Unsupported at) = codes "a float or another simple value"
fault_words (Deep at) = codes "items nest too deep"
fault_words (Trailing at) = codes "bytes after the item"
fault_words NoMemory = codes "out of memory"

-- and where
abbrev pub fault_place : CborFault → Option ℕ
fault_place (Short at) = Some at
fault_place (Reserved at) = Some at
fault_place (NotUtf8 at) = Some at
fault_place (Duplicate at) = Some at
fault_place (Unsupported at) = Some at
fault_place (Deep at) = Some at
fault_place (Trailing at) = Some at
fault_place NoMemory = None

abbrev pub with_place : List ℕ → Option ℕ → List ℕ
with_place words None = words
with_place words (Some at) = words ++ codes " at " ++ decimal at

abbrev pub fault_text : CborFault → List ℕ
fault_text fault = with_place (fault_words fault) (fault_place fault)
