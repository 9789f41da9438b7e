-- The bytes of an entry, field by field: the layout of a record in both formats of a journal's records. It is this server's own. Numbers of
-- several bytes have the highest first.
use Rattle.std.specs.Prelude.{ℕ, Option, Some, None, Bool, true, false, List, [], ◌∷◌, ◌++◌, length}
use Rattle.std.specs.List.{flat_map}
use Rattle.std.specs.Int.{w16, w32, w64, w128, to_be_bytes, cast_unsigned}
use Rattle.slot_store.specs.declared.format.Format.{Format}
use Rattle.slot_store.specs.declared.format.Format.TheVariants.{One, Two}
use Rattle.slot_store.specs.Formats.{sealed}
use Rattle.ip_scope.specs.declared.family.Family.{Family}
use Rattle.ip_scope.specs.declared.family.Family.TheVariants.{V4, V6}
use Rattle.ip_scope.specs.Prefix.{PrefixValue}
use Rattle.ip_scope.specs.Ports.{Ports}
use Rattle.acl_lists.specs.declared.ace.Ace.{Ace}
use Rattle.acl_lists.specs.declared.acl.Acl.{Acl}
use Rattle.acl_lists.specs.declared.acl.Activation.{Activation}
use Rattle.acl_lists.specs.declared.acl.Activation.TheVariants as activation
use Rattle.acl_lists.specs.declared.alias.Alias.{Alias}
use Rattle.acl_lists.specs.declared.asked.Asked.{Asked}
use Rattle.acl_lists.specs.declared.port_test.PortTest.{PortTest}
use Rattle.acl_lists.specs.declared.port_test.PortTest.TheVariants as port
use Rattle.dots_history.specs.declared.change.Change.{Change}
use Rattle.dots_history.specs.declared.change.Change.TheVariants as change
use Rattle.dots_history.specs.declared.config.Config.{Config}
use Rattle.dots_history.specs.declared.config.Values.{Values}
use Rattle.dots_history.specs.declared.entry.Entry.{Entry}
use Rattle.dots_history.specs.declared.entry.MessageKey.{MessageKey}
use Rattle.dots_history.specs.declared.entry.MessageKey.TheVariants as key
use Rattle.dots_history.specs.declared.put.Put.{Put}
use Rattle.dots_history.specs.declared.put.Target.{Target}

-- ---- lists and options

-- bytes, or the characters of a name: how many there are, in one byte, and then each
abbrev pub counted : List ℕ → List ℕ
counted bytes = length bytes ∷ bytes

-- items: how many there are, in one byte, and then the bytes of each
abbrev pub listed : {A : Type 0} → (A → List ℕ) → List A → List ℕ
listed item items = length items ∷ flat_map item items

-- a value that may be there: 0, or 1 and its bytes
abbrev pub optional : {A : Type 0} → (A → List ℕ) → Option A → List ℕ
optional value None = 0 ∷ []
optional value (Some x) = 1 ∷ value x

-- a byte
abbrev pub byte : ℕ → List ℕ
byte b = b ∷ []

abbrev pub flag_number : Bool → ℕ
flag_number false = 0
flag_number true = 1

-- ---- addresses and ports

-- the version of the protocol stands for the family of a prefix
abbrev pub version : Family → ℕ
version V4 = 4
version V6 = 6

abbrev pub prefix_bytes : PrefixValue → List ℕ
prefix_bytes p = version p.family ∷ p.length ∷ to_be_bytes w128 p.number

abbrev pub ports_bytes : Ports → List ℕ
ports_bytes ports = to_be_bytes w16 ports.lower ++ to_be_bytes w16 ports.upper

-- ---- what is asked, and what an alias stands for

unfoldable pub asked_bytes : Asked → List ℕ
asked_bytes asked =
    listed prefix_bytes asked.prefixes
    ++ (listed ports_bytes asked.ports
    ++ (counted asked.protocols
    ++ (listed counted asked.names
    ++ listed counted asked.aliases)))

unfoldable pub alias_bytes : Alias → List ℕ
alias_bytes alias = counted alias.name ++ asked_bytes alias.asked

-- ---- access lists

abbrev pub test_number : PortTest → ℕ
test_number port.Any = 0
test_number (port.Eq p) = 1
test_number (port.Neq p) = 2
test_number (port.Lte p) = 3
test_number (port.Gte p) = 4
test_number (port.Range ports) = 5

abbrev pub test_value : PortTest → List ℕ
test_value port.Any = []
test_value (port.Eq p) = to_be_bytes w16 p
test_value (port.Neq p) = to_be_bytes w16 p
test_value (port.Lte p) = to_be_bytes w16 p
test_value (port.Gte p) = to_be_bytes w16 p
test_value (port.Range ports) = ports_bytes ports

abbrev pub test_bytes : PortTest → List ℕ
test_bytes test = test_number test ∷ test_value test

unfoldable pub ace_bytes : Ace → List ℕ
ace_bytes ace =
    counted ace.name
    ++ (optional prefix_bytes ace.source
    ++ (optional prefix_bytes ace.destination
    ++ (optional byte ace.protocol
    ++ (test_bytes ace.source_port
    ++ (test_bytes ace.destination_port
    ++ byte (flag_number ace.accept))))))

abbrev pub family_number : Family → ℕ
family_number V4 = 0
family_number V6 = 1

abbrev pub activation_number : Activation → ℕ
activation_number activation.WhenMitigating = 0
activation_number activation.Immediate = 1
activation_number activation.Deactivate = 2

unfoldable pub acl_bytes : Acl → List ℕ
acl_bytes acl =
    counted acl.name
    ++ (byte (family_number acl.family)
    ++ (byte (activation_number acl.activation)
    ++ listed ace_bytes acl.aces))

-- ---- mitigations and session configurations

unfoldable pub target_bytes : Target → List ℕ
target_bytes target = listed prefix_bytes target.prefixes ++ (listed ports_bytes target.ports ++ counted target.protocols)

-- The trigger says whether a mitigation filters at once, or waits until the signal of its client is lost (RFC 9132, section 4.4.1). The second
-- format has a field for it. In the first the number of the change has it.
abbrev pub trigger_bytes : Format → Bool → List ℕ
trigger_bytes One trigger = []
trigger_bytes Two trigger = byte (flag_number trigger)

unfoldable pub put_bytes : Format → Put → List ℕ
put_bytes format put =
    to_be_bytes w32 put.mid
    ++ (asked_bytes put.asked
    ++ (listed target_bytes put.targets
    ++ (to_be_bytes w32 (cast_unsigned w32 put.granted)
    ++ (to_be_bytes w64 put.start
    ++ trigger_bytes format put.trigger))))

unfoldable pub values_bytes : Values → List ℕ
values_bytes values =
    to_be_bytes w32 values.interval
    ++ (to_be_bytes w32 values.missing
    ++ (to_be_bytes w32 values.retransmit
    ++ (to_be_bytes w32 values.timeout
    ++ (to_be_bytes w32 values.factor
    ++ to_be_bytes w32 values.rate))))

abbrev pub config_bytes : Config → List ℕ
config_bytes config = values_bytes config.mitigating ++ values_bytes config.idle

-- ---- entries

-- the number of a change that asks for a mitigation with this trigger
abbrev pub put_number : Format → Bool → ℕ
put_number One true = 1
put_number One false = 13
put_number Two trigger = 1

abbrev pub change_number : Format → Change → ℕ
change_number format (change.Put put) = put_number format put.trigger
change_number format (change.Withdraw mid) = 2
change_number format (change.SetAlias alias) = 3
change_number format (change.DropAlias name) = 4
change_number format (change.SetAcl acl) = 5
change_number format (change.DropAcl name) = 6
change_number format change.Register = 7
change_number format change.Deregister = 8
change_number format (change.SetConfig sid config) = 9
change_number format change.ClearConfig = 10
change_number format change.Lost = 11
change_number format change.Back = 12

unfoldable pub change_fields : Format → Change → List ℕ
change_fields format (change.Put put) = put_bytes format put
change_fields format (change.Withdraw mid) = to_be_bytes w32 mid
change_fields format (change.SetAlias alias) = alias_bytes alias
change_fields format (change.DropAlias name) = counted name
change_fields format (change.SetAcl acl) = acl_bytes acl
change_fields format (change.DropAcl name) = counted name
change_fields format change.Register = []
change_fields format change.Deregister = []
change_fields format (change.SetConfig sid config) = to_be_bytes w32 sid ++ config_bytes config
change_fields format change.ClearConfig = []
change_fields format change.Lost = []
change_fields format change.Back = []

abbrev pub change_bytes : Format → Change → List ℕ
change_bytes format change = change_number format change ∷ change_fields format change

abbrev pub key_number : MessageKey → ℕ
key_number key.Http = 0
key_number (key.Non id) = 1
key_number (key.Con id) = 2

-- the Message ID, and 0 in place of one that isn't there
abbrev pub key_id : MessageKey → ℕ
key_id key.Http = 0
key_id (key.Non id) = id
key_id (key.Con id) = id

abbrev pub key_bytes : MessageKey → List ℕ
key_bytes key = key_number key ∷ to_be_bytes w16 (key_id key)

-- a reply has its length in two bytes
abbrev pub reply_bytes : List ℕ → List ℕ
reply_bytes reply = to_be_bytes w16 (length reply) ++ reply

-- an entry, field by field
unfoldable pub body_bytes : Format → Entry → List ℕ
body_bytes format entry =
    to_be_bytes w64 entry.time
    ++ (to_be_bytes w32 entry.peer
    ++ (to_be_bytes w16 entry.domain
    ++ (counted entry.cuid
    ++ (key_bytes entry.key
    ++ (reply_bytes entry.reply
    ++ change_bytes format entry.change)))))

-- The record of an entry: in the first format its fields alone, and in the second the seal of these behind them.
unfoldable pub record_bytes : Format → Entry → List ℕ
record_bytes One entry = body_bytes One entry
record_bytes Two entry = sealed (body_bytes Two entry)
