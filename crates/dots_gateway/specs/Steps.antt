-- The parts of what a datagram of a client does.
use Rattle.std.specs.Prelude.{◌≡◌, ℕ, Bool, true, false, List, [], Some, Result, Ok, Err, IsTrue, ⊤}
use Rattle.coap_message.specs.declared.kind.Kind.{Kind}
use Rattle.coap_message.specs.declared.kind.Kind.TheVariants.{Con}
use Rattle.coap_message.specs.Message.{CoapMessage}
use Rattle.dots_keys.specs.Exchanges.{exchange_in}
use Rattle.dots_keys.specs.Replies.{plain}
use Rattle.dots_keys.specs.declared.reject.Reject.{Reject}
use Rattle.dots_keys.specs.declared.reject.Reject.TheVariants as reject
use Rattle.dots_lists.specs.declared.memory.NoMemory.{NoMemory}
use Rattle.dots_gateway.specs.declared.passed.Passed.{Passed}
use Rattle.dots_gateway.specs.declared.passed.Passed.TheVariants as passed
use Rattle.dots_gateway.specs.declared.passed.GatewayFault.TheVariants as fault
use Rattle.dots_gateway.specs.Exchanges.{ExchangesValue, with_one}
use Rattle.dots_gateway.specs.Gateway.{GatewayValue, Said, Downs, may_lack, takes_memory}

-- what a step answered is what is to be said, unless memory ran out
abbrev pub Gives : Said → Said → Type 0
Gives (Err fault.NoMemory) said = IsTrue (may_lack said)
Gives answer said = answer ≡ said

-- and an exchange that is new waits
abbrev pub NowWaits : ExchangesValue → List ℕ → Said → ExchangesValue → Type 0
NowWaits e datagram (Ok (passed.Forward bytes (Some exchange))) new = new ≡ with_one exchange datagram e
NowWaits e datagram _ new = new ≡ e

-- no exchange is new
abbrev pub IsOld : Said → Type 0
IsOld (Ok (passed.Forward bytes (Some exchange))) = ⊥
IsOld _ = ⊤

-- a reply of a code alone
abbrev pub replied : ℕ → ℕ → CoapMessage → Said
replied peer code m = Ok (passed.Reply peer (plain code (exchange_in m) []))

-- a request that is refused and not answered
abbrev pub is_ignored : Kind → Reject → Bool
is_ignored Con (reject.Critical number) = false
is_ignored _ (reject.Critical number) = true
is_ignored _ _ = false

abbrev pub said_to : ℕ → List ℕ → Passed
said_to peer bytes = passed.Reply peer bytes

-- what is done with a datagram of the upstream, unless memory ran out
abbrev pub Yields : Result Passed NoMemory → Passed → Type 0
Yields (Ok answer) said = answer ≡ said
Yields (Err lack) said = IsTrue (takes_memory said)

abbrev pub YieldsOf : GatewayValue → List ℕ → Result Passed NoMemory → Type 0
YieldsOf g datagram (Ok answer) = Downs g datagram answer
YieldsOf g datagram (Err lack) = (said : Passed) × Downs g datagram said × IsTrue (takes_memory said)
