-- Options that are written.
use Rattle.std.specs.Prelude.{◌≡◌, ℕ, ◌+◌, ◌≤◌, List, length, sum_by, MatchOption, ⊤, Option}
use Rattle.coap_message.specs.declared.parts.OptionPart.{OptionPart}
use Rattle.coap_message.specs.Parts.{AreParts}

-- at most 65,536 parts, with their values one after the other
pub record AreWritten (parts : List OptionPart) (values : List ℕ) : Type 0 where
  pub options : AreParts 0 parts
  pub sizes : sum_by (λ part. part.length) parts ≡ length values
  pub few : length parts ≤ 65536

-- a text, if it is given, that may stand behind so many bytes in an option's value
abbrev pub IsShortBehind : ℕ → Option (List ℕ) → Type 0
IsShortBehind n text = MatchOption text ⊤ (λ (bytes : List ℕ). n + length bytes ≤ 65804)
