-- What a socket answered, by the log that is kept of it.
use Rattle.std.specs.Prelude.{◌≡◌, ◌⊎◌, ℕ, Bool, true, false, List, [], ◌∷◌}
use Rattle.dots_edge.specs.declared.answer.Answer.{Answer}
use Rattle.dots_edge.specs.declared.answer.Answer.TheVariants as answer

-- how many bytes went
abbrev pub went : Answer → ℕ
went (answer.Went count) = count
went answer.Nothing = 0
went answer.Again = 0
went answer.Failed = 0

-- at its last call the socket had none, or took none
abbrev pub is_exhausted : List Answer → Bool
is_exhausted (answer.Nothing ∷ answers) = true
is_exhausted _ = false

-- the last call failed
abbrev pub has_failed : List Answer → Bool
has_failed (answer.Failed ∷ answers) = true
has_failed _ = false

-- the last call answered this
abbrev pub IsLast : Answer → List Answer → Type 0
IsLast answer [] = ⊥
IsLast answer (last ∷ answers) = last ≡ answer

-- at the last read of a connection it was at its end, or it failed
abbrev pub HasEnded : List Answer → Type 0
HasEnded answers = IsLast (answer.Went 0) answers ⊎ IsLast answer.Failed answers
