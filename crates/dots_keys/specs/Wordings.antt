-- Short texts: a word, and a number behind some.
use Rattle.std.specs.Prelude.{ℕ, ◌≤◌, List, ◌++◌, length, decimal, Option, None, Some, MatchOption}
use Rattle.dots_keys.specs.declared.wording.Wording.{Wording}

abbrev pub worded : List ℕ → Option ℕ → List ℕ
worded word None = word
worded word (Some number) = word ++ decimal number

abbrev pub wording_text : Wording → List ℕ
wording_text wording = worded wording.word.now wording.number

-- the text has at most 28 bytes, whatever the number
abbrev pub IsShort : Wording → Type 0
IsShort wording = MatchOption wording.number (length wording.word.now ≤ 28) (λ number. length wording.word.now ≤ 8)
