-- The report of a client: a line for each ask that was reached and not sent, and one for each mitigation that is granted.
use Rattle.std.specs.Prelude.{ℕ, [], ◌++◌, flat_map, codes, decimal, List, Option, Some, None}
use Rattle.std.specs.Fmt.{signed_decimal}
use Rattle.dots_client.specs.declared.ask.AskFault.TheVariants as fault
use Rattle.dots_client.specs.declared.granted.Granted.{Granted}
use Rattle.ask_agent.specs.declared.unsent.Unsent.{Unsent}
use Rattle.ask_agent.specs.declared.unsent.Why.{Why}
use Rattle.ask_agent.specs.declared.unsent.Why.TheVariants as why
use Rattle.ask_agent.specs.Asking.{AskState}

-- `unknown MID`, `busy MID`, `spent`, `full NUMBER` or `memory`, behind a blank
abbrev pub why_words : Why → List ℕ
why_words (why.Unknown mid) = codes " unknown "
why_words (why.Refused (fault.Busy mid)) = codes " busy "
why_words (why.Refused fault.MidSpent) = codes " spent"
why_words (why.Refused (fault.Full number)) = codes " full "
why_words (why.Refused fault.NoMemory) = codes " memory"

abbrev pub why_number : Why → Option ℕ
why_number (why.Unknown mid) = Some mid
why_number (why.Refused (fault.Busy mid)) = Some mid
why_number (why.Refused fault.MidSpent) = None
why_number (why.Refused (fault.Full number)) = Some number
why_number (why.Refused fault.NoMemory) = None

abbrev pub digits_of : Option ℕ → List ℕ
digits_of None = []
digits_of (Some number) = decimal number

-- `ask N` and why it wasn't sent; asks are counted from 1 in the order of the settings
abbrev pub unsent_line : Unsent → List ℕ
unsent_line ask = codes "ask " ++ decimal ask.number ++ why_words ask.why ++ digits_of (why_number ask.why) ++ codes "\n"

-- `granted MID LIFETIME AT`
abbrev pub granted_line : Granted → List ℕ
granted_line row = codes "granted " ++ decimal row.mid ++ codes " " ++ signed_decimal row.lifetime ++ codes " " ++ decimal row.at ++ codes "\n"

-- the asks in their order, and then the ledger in order of the mids
abbrev pub report_of : AskState → List ℕ
report_of state = flat_map unsent_line state.unsent ++ flat_map granted_line state.client.ledger

-- what is written of settings with a fault
abbrev pub refusal_line : ℕ → List ℕ
refusal_line line = codes "settings line " ++ decimal line ++ codes "\n"
