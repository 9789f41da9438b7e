-- What is decided on a request to read mitigations.
use Rattle.std.specs.Prelude.{⊤}
use Rattle.dots_keys.specs.declared.exchange.Exchange.{Exchange}
use Rattle.dots_machine.specs.Verdict.{Verdict}
use Rattle.dots_machine.specs.declared.verdict.Verdict.TheVariants as verdict
use Rattle.dots_server.specs.declared.mitigations.Reading.{Reading}
use Rattle.dots_server.specs.declared.mitigations.Reading.TheVariants as reading
use Rattle.dots_server.specs.ServerValues.{ServerValue, CanCarryOut}

-- as a verdict of the machine
abbrev pub read_as : Exchange → Reading → Verdict
read_as exchange (reading.Answered decided) = decided
read_as exchange (reading.Listed body) = verdict.Retrieves exchange body

-- what else is told can be carried out
abbrev pub CanAnswer : Reading → ServerValue → Type 0
CanAnswer (reading.Answered decided) server = CanCarryOut decided server
CanAnswer (reading.Listed body) server = ⊤
