-- What the code's types of what is wanted stand for.
use Rattle.std.specs.Prelude.{◌≢◌, ⊤, Result, Ok, Err}
use Rattle.std.specs.Option.{option_copied}
use Rattle.dots_keys.specs.declared.reject.Reject.{Reject}
use Rattle.dots_keys.specs.declared.reject.Reject.TheVariants as reject
use Rattle.dots_gateway.specs.declared.wanted.Passage.{Passage}
use Rattle.dots_gateway.specs.declared.wanted.Wanted.{Wanted}
use Rattle.dots_gateway.specs.declared.wanted.Wanted.TheVariants as code
use Rattle.dots_gateway.specs.Options.{IsShortBehind}
use Rattle.dots_gateway.specs.Wanted.{beat, passage}
use Rattle.dots_gateway.specs.Wanted as wanted

abbrev pub passage_value : Passage → wanted.Passage
passage_value p = record { hop = p.hop; cuid = option_copied p.cuid; mid = option_copied p.mid }

abbrev pub wanted_value : Wanted → wanted.Wanted
wanted_value code.Beat = beat
wanted_value (code.Passage p) = passage (passage_value p)

-- the Hop-Limit can be lowered, and the parameters can stand behind their names in an option
pub record CanPass (p : Passage) : Type 0 where
  pub hop : p.hop ≢ 0
  pub cuid : IsShortBehind 5 (option_copied p.cuid)
  pub mid : IsShortBehind 4 (option_copied p.mid)

abbrev pub IsPassable : Wanted → Type 0
IsPassable code.Beat = ⊤
IsPassable (code.Passage p) = CanPass p

-- of what a server refuses, what isn't left to it
abbrev pub operation_refusal : Reject → Result (Unit {0}) Reject
operation_refusal reject.Method = Err reject.Method
operation_refusal reject.Parameter = Err reject.Parameter
operation_refusal _ = Ok tt
