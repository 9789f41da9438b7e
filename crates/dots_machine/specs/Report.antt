-- The report: a line for each row that mitigations install in the filter table, those of the access lists that filter, and one for each
-- sample packet.
use Rattle.std.specs.Prelude.{◌≡◌, ℕ, ◌+◌, Bool, true, false, List, [], ◌∷◌, ◌++◌, filter, codes, decimal, Option, Some, None}
use Rattle.std.specs.List.{list_all, flat_map}
use Rattle.ip_scope.specs.declared.family.Family.{Family}
use Rattle.ip_scope.specs.Family.{same_family}
use Rattle.ip_scope.specs.Ports.{Ports}
use Rattle.ip_scope.specs.Prefix.{PrefixValue}
use Rattle.ip_scope.specs.PrefixText.{prefix_text}
use Rattle.acl_lists.specs.declared.ace.Ace.{Ace}
use Rattle.acl_lists.specs.declared.packet.Packet.{Packet}
use Rattle.acl_lists.specs.declared.port_test.PortTest.{PortTest}
use Rattle.acl_lists.specs.declared.port_test.PortTest.TheVariants.{Any, Eq, Neq, Lte, Gte, Range}
use Rattle.acl_lists.specs.declared.rows.ScrubRow.{ScrubRow}
use Rattle.acl_lists.specs.declared.rows.AclRow.{AclRow}
use Rattle.acl_lists.specs.Fates.{Fate, Pass, Accepted, Dropped, Scrubbed}
use Rattle.dots_settings.specs.Settings.{SettingsValue}
use Rattle.dots_settings.specs.Lookups.{name_of, prefixes_of}
use Rattle.dots_history.specs.Rows.{plain_rows, acl_rows, fate}
use Rattle.dots_history.specs.Containing.{scrubs_inside, lists_inside}
use Rattle.dots_machine.specs.Machine.{State}

-- texts with commas between them, or `any` where there are none
abbrev pub behind_commas : List (List ℕ) → List ℕ
behind_commas [] = []
behind_commas (text ∷ texts) = codes "," ++ text ++ behind_commas texts

abbrev pub any_or : List (List ℕ) → List ℕ
any_or [] = codes "any"
any_or (text ∷ texts) = text ++ behind_commas texts

abbrev pub texts_of : {A : Type 0} → (A → List ℕ) → List A → List (List ℕ)
texts_of text [] = []
texts_of text (x ∷ xs) = text x ∷ texts_of text xs

-- `L-U`
abbrev pub ports_text : Ports → List ℕ
ports_text ports = decimal ports.lower ++ codes "-" ++ decimal ports.upper

-- ---- mitigations

-- `scrub DOMAIN CUID MID PREFIX PROTOCOLS PORTS`
abbrev pub scrub_line : SettingsValue → ScrubRow → List ℕ
scrub_line settings row =
    codes "scrub " ++ name_of settings row.domain ++ codes " " ++ row.cuid ++ codes " " ++ decimal row.mid
    ++ codes " " ++ prefix_text row.prefix ++ codes " " ++ any_or (texts_of decimal row.protocols)
    ++ codes " " ++ any_or (texts_of ports_text row.ports) ++ codes "\n"

-- ---- access lists

-- the text of what an entry asks, and `any` where it asks nothing
abbrev pub asked_text : {A : Type 0} → (A → List ℕ) → Option A → List ℕ
asked_text text None = codes "any"
asked_text text (Some asked) = text asked

-- a port test: `any`, `=P`, `!P`, `<=P`, `>=P` or `L-U`
abbrev pub test_text : PortTest → List ℕ
test_text Any = codes "any"
test_text (Eq port) = codes "=" ++ decimal port
test_text (Neq port) = codes "!" ++ decimal port
test_text (Lte port) = codes "<=" ++ decimal port
test_text (Gte port) = codes ">=" ++ decimal port
test_text (Range range) = ports_text range

abbrev pub verdict_text : Bool → List ℕ
verdict_text true = codes "accept"
verdict_text false = codes "drop"

-- `acl DOMAIN CUID NAME ACE accept|drop SOURCE DESTINATION PROTOCOL SPORT DPORT`, of an entry and one of its destinations
abbrev pub acl_line : SettingsValue → AclRow → Ace → PrefixValue → List ℕ
acl_line settings row ace destination =
    codes "acl " ++ name_of settings row.domain ++ codes " " ++ row.cuid ++ codes " " ++ row.acl.name
    ++ codes " " ++ ace.name ++ codes " " ++ verdict_text ace.accept
    ++ codes " " ++ asked_text prefix_text ace.source ++ codes " " ++ prefix_text destination ++ codes " " ++ asked_text decimal ace.protocol
    ++ codes " " ++ test_text ace.source_port ++ codes " " ++ test_text ace.destination_port ++ codes "\n"

-- where an entry of a list of this family filters, in a domain of these prefixes: its destination, and where it has none the prefixes of
-- that family, in the order of the settings
abbrev pub destinations_of : List PrefixValue → Family → Option PrefixValue → List PrefixValue
destinations_of domain family (Some destination) = destination ∷ []
destinations_of domain family None = filter (λ prefix. same_family prefix.family family) domain

abbrev pub ace_lines : SettingsValue → AclRow → Ace → List ℕ
ace_lines settings row ace = flat_map (acl_line settings row ace) (destinations_of (prefixes_of settings row.domain) row.acl.family ace.destination)

-- the lines of the entries of a list, in order
abbrev pub list_lines : SettingsValue → AclRow → List ℕ
list_lines settings row = flat_map (ace_lines settings row) row.acl.aces

-- ---- sample packets

abbrev pub fate_text : Fate → List ℕ
fate_text Pass = codes "pass"
fate_text (Accepted name) = codes "accepted " ++ name
fate_text (Dropped name) = codes "dropped " ++ name
fate_text (Scrubbed mid) = codes "scrubbed " ++ decimal mid

-- `packet N FATE`
abbrev pub packet_line : ℕ → Fate → List ℕ
packet_line number fate = codes "packet " ++ decimal number ++ codes " " ++ fate_text fate ++ codes "\n"

-- the fate of a packet by the rows at the state's time
abbrev pub fate_in : SettingsValue → State → Packet → Fate
fate_in settings state packet = fate (prefixes_of settings) state.time state.history packet

-- sample packets, numbered from here on
abbrev pub packet_lines : (Packet → Fate) → ℕ → List Packet → List ℕ
packet_lines fate number [] = []
packet_lines fate number (packet ∷ packets) = packet_line number (fate packet) ++ packet_lines fate (number + 1) packets

-- ---- the whole

-- the rows of the mitigations that are live at the state's time and filter, in order of their entries, each with its prefixes in order
abbrev pub scrubs_text : SettingsValue → State → List ℕ
scrubs_text settings state = flat_map (scrub_line settings) (filter (λ row. row.active) (plain_rows state.time state.history))

-- the access lists that filter at the state's time, in order of their writing
abbrev pub lists_text : SettingsValue → State → List ℕ
lists_text settings state = flat_map (list_lines settings) (filter (λ row. row.active) (acl_rows state.time state.history))

-- the rows of mitigations, the access lists, and the fates of the sample packets of the settings, numbered from 1
abbrev pub report_of : SettingsValue → State → List ℕ
report_of settings state = scrubs_text settings state ++ lists_text settings state ++ packet_lines (fate_in settings state) 1 settings.packets

-- containment: the prefix of each row of a mitigation lies inside the domain that its request was for, and so does each destination
-- of an access list
pub record Contained (settings : SettingsValue) (state : State) : Type 0 where
  pub scrubs : list_all (scrubs_inside settings) (plain_rows state.time state.history) ≡ true
  pub lists : list_all (lists_inside settings) (acl_rows state.time state.history) ≡ true
