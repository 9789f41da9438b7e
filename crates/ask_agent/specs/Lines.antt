-- What a line of client settings says, by its fields.
use Rattle.std.specs.Prelude.{ℕ, ℤ, pos, negsuc, ◌-◌, ◌^◌, ◌==◌, ◌&&◌, nat_le, if◌then◌else◌, List, [], ◌∷◌, length, map, codes, bytes_eq, Option, Some, None, Result, Ok, Err, option_map, option_and_then}
use Rattle.std.specs.List.{slice_split}
use Rattle.hex.specs.declared.FromHexError.{FromHexError}
use Rattle.hex.specs.Hex.{decode_of}
use Rattle.dots_lists.specs.Lines.{fields_of}
use Rattle.dots_lists.specs.Numbers.{number_in}
use Rattle.dots_lists.specs.Name.{is_name}
use Rattle.ip_scope.specs.Prefix.{PrefixValue}
use Rattle.ip_scope.specs.PrefixReader.{prefix_in}
use Rattle.acl_lists.specs.declared.asked.Asked.{Asked}
use Rattle.dots_client.specs.Cuid.{cuid_text}
use Rattle.dots_client.specs.declared.ask.Ask.{Ask}
use Rattle.dots_client.specs.declared.ask.Ask.TheVariants as ask
use Rattle.ask_agent.specs.declared.line.Line.{Line}
use Rattle.ask_agent.specs.declared.line.Line.TheVariants as said
use Rattle.acl_lists.specs.declared.limits.TheConstants.{MAX_ITEMS}

-- ---- fields

-- the number of a peer, or of a mitigation
abbrev pub word_in : List ℕ → Option ℕ
word_in text = number_in 0 4294967295 text

-- seconds from 1 on, or -1 for no end (RFC 9132, section 4.4.1)
abbrev pub lifetime_in : List ℕ → Option ℤ
lifetime_in text = if bytes_eq text (codes "-1") then Some (negsuc 0) else option_map pos (number_in 1 2147483647 text)

-- the items, where there is one at each place
abbrev pub all_some : {A : Type 0} → List (Option A) → Option (List A)
all_some [] = Some []
all_some (None ∷ xs) = None
all_some (Some x ∷ xs) = option_map (λ later. x ∷ later) (all_some xs)

-- 1 to 32 prefixes with commas between them
abbrev pub parts_of : List ℕ → List (List ℕ)
parts_of text = slice_split (λ byte. byte == 44) text

abbrev pub prefixes_in : List ℕ → Option (List PrefixValue)
prefixes_in text = if nat_le (length (parts_of text)) MAX_ITEMS then all_some (map prefix_in (parts_of text)) else None

-- 1 to 4,096 bytes in hexadecimal
abbrev pub few_of : Result (List ℕ) FromHexError → Option (List ℕ)
few_of (Ok bytes) = if nat_le 1 (length bytes) && nat_le (length bytes) 4096 then Some bytes else None
few_of (Err why) = None

abbrev pub bytes_in : List ℕ → Option (List ℕ)
bytes_in text = few_of (decode_of text)

-- ---- what is asked

abbrev pub prefixes_asked : List PrefixValue → Asked
prefixes_asked prefixes = record { prefixes = prefixes; ports = []; protocols = []; names = []; aliases = [] }

-- `new LIFETIME PREFIXES`
abbrev pub new_of : List ℕ → List ℕ → Option Ask
new_of lifetime prefixes =
    option_and_then (λ seconds. option_map (λ list. ask.New (prefixes_asked list) seconds) (prefixes_in prefixes)) (lifetime_in lifetime)

-- `refresh MID LIFETIME`
abbrev pub refresh_of : List ℕ → List ℕ → Option Ask
refresh_of mid lifetime = option_and_then (λ number. option_map (λ seconds. ask.Refresh number seconds) (lifetime_in lifetime)) (word_in mid)

-- `withdraw MID`
abbrev pub withdraw_of : List ℕ → Option Ask
withdraw_of mid = option_map ask.Withdraw (word_in mid)

abbrev pub ask_of : List (List ℕ) → Option Ask
ask_of (word ∷ mid ∷ []) = if bytes_eq word (codes "withdraw") then withdraw_of mid else None
ask_of (word ∷ one ∷ two ∷ []) =
    if bytes_eq word (codes "new") then new_of one two else if bytes_eq word (codes "refresh") then refresh_of one two else None
ask_of _ = None

-- ---- lines

-- the client has this name, where it is one
abbrev pub named : List ℕ → Option Line
named name = if is_name name then Some (said.Cuid name) else None

-- `server PEER`, `cuid NAME`, `spki HEX`, `mid N`, `number N`
abbrev pub value_of : List ℕ → List ℕ → Option Line
value_of word text =
    if bytes_eq word (codes "server") then option_map said.Server (word_in text)
    else if bytes_eq word (codes "cuid") then named text
    else if bytes_eq word (codes "spki") then option_and_then (λ key. named (cuid_text key)) (bytes_in text)
    else if bytes_eq word (codes "mid") then option_map said.Mid (number_in 0 3221225471 text)
    else if bytes_eq word (codes "number") then option_map said.Number (number_in 0 (2 ^ 64 - 1) text)
    else None

abbrev pub front_of : List ℕ → List (List ℕ) → Option Line
front_of word (text ∷ []) = value_of word text
front_of word _ = None

-- `at T ..`
abbrev pub at_of : List (List ℕ) → Option Line
at_of [] = None
at_of (time ∷ fields) = option_and_then (λ at. option_map (λ asked. said.At at asked) (ask_of fields)) (number_in 0 (2 ^ 48 - 1) time)

abbrev pub fields_say : List (List ℕ) → Option Line
fields_say [] = None
fields_say (word ∷ fields) = if bytes_eq word (codes "at") then at_of fields else front_of word fields

-- what a line says; None where it has none of the forms
abbrev pub line_says : List ℕ → Option Line
line_says line = fields_say (fields_of line)
