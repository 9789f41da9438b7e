-- Options that are written.
use Rattle.std.specs.Prelude.{◌≡◌, ℕ, ◌≤◌, List, length, sum_by}
use Rattle.std.specs.List.{AllByRecursion}
use Rattle.coap_message.specs.declared.parts.OptionPart.{OptionPart}
use Rattle.coap_message.specs.Parts.{AreParts}

-- at most 16 parts of at most 255 bytes, with their values one after the other
pub record AreWritten (parts : List OptionPart) (values : List ℕ) : Type 0 where
  pub options : AreParts 0 parts
  pub sizes : sum_by (λ part. part.length) parts ≡ length values
  pub short : AllByRecursion (λ part. part.length ≤ 255) parts
  pub few : length parts ≤ 16
