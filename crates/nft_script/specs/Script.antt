-- The filters of a table as a script for `nft -f`, which replaces those of the table `inet dots` in one transaction. A packet meets the
-- entries of the active access lists in their order, and then the rows of mitigations by falling mid. The first rule that matches decides.
--
-- A list and a row have a number, which stands in a set as long as the filter has time left. A rule matches while its number is there: it
-- takes the mark of the packet, clears it, sets the number's bits, and looks that up, so whatever mark the packet has stays as it was.
--
-- Nothing that a client named stands in the script.
use Rattle.std.specs.Prelude.{ℕ, ◌+◌, Bool, true, false, ◌||◌, not, min, max, if◌then◌else◌, List, [], ◌∷◌, ◌++◌, codes, decimal, Option, Some, None}
use Rattle.std.specs.List.{flat_map}
use Rattle.ip_scope.specs.declared.family.Family.{Family}
use Rattle.ip_scope.specs.declared.family.Family.TheVariants.{V4, V6}
use Rattle.ip_scope.specs.Family.{same_family}
use Rattle.ip_scope.specs.Ports.{Ports}
use Rattle.ip_scope.specs.Prefix.{PrefixValue}
use Rattle.ip_scope.specs.PrefixText.{prefix_text}
use Rattle.acl_lists.specs.declared.ace.Ace.{Ace}
use Rattle.acl_lists.specs.declared.port_test.PortTest.{PortTest}
use Rattle.acl_lists.specs.declared.port_test.PortTest.TheVariants.{Any, Eq, Neq, Lte, Gte, Range}
use Rattle.acl_lists.specs.declared.rows.ScrubRow.{ScrubRow}
use Rattle.acl_lists.specs.declared.rows.AclRow.{AclRow}
use Rattle.dots_settings.specs.Settings.{SettingsValue}
use Rattle.dots_settings.specs.Lookups.{prefixes_of}
use Rattle.nft_script.specs.declared.timed.TimedRow.{TimedRow}
use Rattle.nft_script.specs.declared.timed.TimedList.{TimedList}
use Rattle.nft_script.specs.Falling.{falling}

-- ---- parts of rules

-- the seconds as `nft` takes them: 0 would be without end, and 4,294,967 is its greatest number
abbrev pub seconds : ℕ → ℕ
seconds left = max 1 (min left 4294967)

-- how long an element stands; without a number it stays
unfoldable pub timeout_text : Option ℕ → List ℕ
timeout_text None = []
timeout_text (Some left) = codes " timeout " ++ decimal (seconds left) ++ codes "s"

unfoldable pub family_word : Family → List ℕ
family_word V4 = codes " ip"
family_word V6 = codes " ip6"

-- ` ip daddr PREFIX`
unfoldable pub address_test : List ℕ → PrefixValue → List ℕ
address_test side prefix = family_word prefix.family ++ side ++ prefix_text prefix

unfoldable pub range_text : Ports → List ℕ
range_text ports = decimal ports.lower ++ codes "-" ++ decimal ports.upper

-- the number, whatever mark the packet has
unfoldable pub number_text : ℕ → List ℕ
number_text number = codes " meta mark and 0 or " ++ decimal number

-- the protocol has ports: TCP, UDP, DCCP, SCTP or UDP-Lite
unfoldable pub has_ports : List ℕ
has_ports = codes " meta l4proto @ported"

unfoldable pub rule_front : List ℕ
rule_front = codes "add rule inet dots filters"

-- ---- access lists

-- `!= N` is written as `!= N-N`: of two `!=` of the source and then the destination `nft` 1.0.6 makes one, which passes where either differs.
unfoldable pub port_test : List ℕ → PortTest → List ℕ
port_test side Any = []
port_test side (Eq port) = side ++ decimal port
port_test side (Neq port) = side ++ codes "!= " ++ decimal port ++ codes "-" ++ decimal port
port_test side (Lte port) = side ++ codes "<= " ++ decimal port
port_test side (Gte port) = side ++ codes ">= " ++ decimal port
port_test side (Range range) = side ++ range_text range

abbrev pub asks : PortTest → Bool
asks Any = false
asks _ = true

unfoldable pub port_tests : Ace → List ℕ
port_tests ace =
    if asks ace.source_port || asks ace.destination_port
    then has_ports ++ port_test (codes " th sport ") ace.source_port ++ port_test (codes " th dport ") ace.destination_port
    else []

unfoldable pub source_test : Option PrefixValue → List ℕ
source_test None = []
source_test (Some prefix) = address_test (codes " saddr ") prefix

unfoldable pub protocol_words : List ℕ
protocol_words = codes " meta l4proto "

unfoldable pub protocol_test : Option ℕ → List ℕ
protocol_test None = []
protocol_test (Some protocol) = protocol_words ++ decimal protocol

unfoldable pub verdict_text : Ace → List ℕ
verdict_text ace = if ace.accept then codes "accept" else codes "drop"

-- what an entry of the list of this number asks of a packet to the prefix
unfoldable pub entry_match : Ace → PrefixValue → List ℕ
entry_match ace destination =
    address_test (codes " daddr ") destination ++ source_test ace.source ++ port_tests ace ++ protocol_test ace.protocol

unfoldable pub comment_words : List ℕ
comment_words = codes " comment \"list "

unfoldable pub list_comment : ℕ → List ℕ
list_comment number = comment_words ++ decimal number ++ codes "\"\n"

-- what becomes of it while the number stands
unfoldable pub entry_verdict : ℕ → Ace → List ℕ
entry_verdict number ace = number_text number ++ codes " @lists counter " ++ verdict_text ace ++ list_comment number

unfoldable pub entry_rule : ℕ → Ace → PrefixValue → List ℕ
entry_rule number ace destination = rule_front ++ entry_match ace destination ++ entry_verdict number ace

-- the source, where there is one, is of the family; no packet has two
abbrev pub agrees : Option PrefixValue → Family → Bool
agrees None family = true
agrees (Some source) family = same_family source.family family

unfoldable pub rule_to : ℕ → Ace → PrefixValue → List ℕ
rule_to number ace destination = if agrees ace.source destination.family then entry_rule number ace destination else []

unfoldable pub rule_within : ℕ → Ace → Family → PrefixValue → List ℕ
rule_within number ace family prefix = if same_family prefix.family family then rule_to number ace prefix else []

-- the rules of an entry: to its destination, and where it has none to each prefix of the client's domain of the list's family
unfoldable pub rules_to : ℕ → Ace → Family → List PrefixValue → Option PrefixValue → List ℕ
rules_to number ace family prefixes None = flat_map (rule_within number ace family) prefixes
rules_to number ace family prefixes (Some destination) = rule_to number ace destination

abbrev pub entry_rules : SettingsValue → ℕ → AclRow → Ace → List ℕ
entry_rules settings number row ace = rules_to number ace row.acl.family (prefixes_of settings row.domain) ace.destination

unfoldable pub list_words : List ℕ
list_words = codes "add element inet dots lists { "

unfoldable pub list_key : ℕ → List ℕ
list_key number = list_words ++ decimal number

unfoldable pub list_element : ℕ → Option ℕ → List ℕ
list_element number left = list_key number ++ timeout_text left ++ codes " }\n"

-- a list that is active
unfoldable pub list_text : SettingsValue → ℕ → AclRow → Option ℕ → List ℕ
list_text settings number row left =
    if row.active then list_element number left ++ flat_map (entry_rules settings number row) row.acl.aces else []

-- lists, numbered from here on
abbrev pub lists_text : SettingsValue → ℕ → List TimedList → List ℕ
lists_text settings number [] = []
lists_text settings number (timed ∷ lists) = list_text settings number timed.list.now timed.left ++ lists_text settings (number + 1) lists

-- ---- rows of mitigations

unfoldable pub wide_words : List ℕ
wide_words = codes "add element inet dots wide { "

unfoldable pub wide_key : ℕ → List ℕ
wide_key number = wide_words ++ decimal number

unfoldable pub wide_element : ℕ → Option ℕ → List ℕ
wide_element number left = wide_key number ++ timeout_text left ++ codes " }\n"

unfoldable pub row_words : List ℕ
row_words = codes "add element inet dots rows { "

unfoldable pub row_key : ℕ → ℕ → List ℕ
row_key number protocol = row_words ++ decimal number ++ codes " . " ++ decimal protocol

unfoldable pub row_element : ℕ → Option ℕ → ℕ → List ℕ
row_element number left protocol = row_key number protocol ++ timeout_text left ++ codes " }\n"

-- the number with each of these protocols; where there is none, by itself
unfoldable pub row_elements : ℕ → Option ℕ → List ℕ → List ℕ
row_elements number left [] = wide_element number left
row_elements number left (protocol ∷ protocols) = flat_map (row_element number left) (protocol ∷ protocols)

-- what the set of these protocols is asked for
unfoldable pub row_lookup : List ℕ → List ℕ
row_lookup [] = codes " @wide"
row_lookup (protocol ∷ protocols) = codes " . meta l4proto @rows"

unfoldable pub wanted_ports : Option Ports → List ℕ
wanted_ports None = []
wanted_ports (Some range) = has_ports ++ codes " th dport " ++ range_text range

unfoldable pub row_match : ℕ → ScrubRow → Option Ports → List ℕ
row_match number row ports =
    address_test (codes " daddr ") row.prefix ++ wanted_ports ports ++ number_text number ++ row_lookup row.protocols

unfoldable pub row_verdict : ℕ → List ℕ
row_verdict mid = codes " counter goto scrub comment \"mid " ++ decimal mid ++ codes "\"\n"

unfoldable pub row_rule : ℕ → ScrubRow → Option Ports → List ℕ
row_rule number row ports = rule_front ++ row_match number row ports ++ row_verdict row.mid

-- a rule for each of these ranges; where there is none, one for all packets
unfoldable pub row_rules : ℕ → ScrubRow → List Ports → List ℕ
row_rules number row [] = row_rule number row None
row_rules number row (range ∷ ranges) = flat_map (λ ports. row_rule number row (Some ports)) (range ∷ ranges)

unfoldable pub row_text : ℕ → ScrubRow → Option ℕ → List ℕ
row_text number row left = row_elements number left row.protocols ++ row_rules number row row.ports

-- rows, numbered from here on
abbrev pub rows_text : ℕ → List TimedRow → List ℕ
rows_text number [] = []
rows_text number (timed ∷ rows) = row_text number timed.row.now timed.left ++ rows_text (number + 1) rows

-- ---- the whole

-- The chain of what is scrubbed is the operator's, and is only made where it isn't there. What the table filters comes in before
-- connections are tracked.
unfoldable pub chains_text : List ℕ
chains_text =
    codes "add table inet dots\n"
    ++ codes "add chain inet dots scrub\n"
    ++ codes "add chain inet dots filters { type filter hook prerouting priority raw; policy accept; }\n"

unfoldable pub sets_text : List ℕ
sets_text =
    codes "add set inet dots ported { type inet_proto; }\n"
    ++ codes "add set inet dots lists { type mark; flags timeout; }\n"
    ++ codes "add set inet dots rows { type mark . inet_proto; flags timeout; }\n"
    ++ codes "add set inet dots wide { type mark; flags timeout; }\n"

unfoldable pub flush_text : List ℕ
flush_text =
    codes "flush chain inet dots filters\n"
    ++ codes "flush set inet dots lists\n"
    ++ codes "flush set inet dots rows\n"
    ++ codes "flush set inet dots wide\n"
    ++ codes "add element inet dots ported { 6, 17, 33, 132, 136 }\n"

unfoldable pub head_text : List ℕ
head_text = chains_text ++ sets_text ++ flush_text

-- The script of the filters of a table: its access lists and its rows of mitigations, each in order of place, and the seconds that are left
-- of each where it ends.
unfoldable pub nft_text : SettingsValue → List TimedRow → List TimedList → List ℕ
nft_text settings rows lists = head_text ++ lists_text settings 1 lists ++ rows_text 1 (falling rows)
