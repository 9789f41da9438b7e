-- The entries of a journal in lines.
use Rattle.std.specs.Prelude.{ℕ, ◌+◌, ◌/◌, ◌%◌, Bool, true, false, ◌==◌, ◌||◌, nat_lt, if◌then◌else◌, List, [], ◌∷◌, ◌++◌, codes, decimal, slice_get, Option, Some, None}
use Rattle.std.specs.List.{flat_map}
use Rattle.std.specs.Char.{is_ascii_alphanumeric}
use Rattle.dots_settings.specs.declared.domains.DomainRow.{DomainRow}
use Rattle.dots_settings.specs.Settings.{SettingsValue}
use Rattle.dots_history.specs.declared.change.Change.{Change}
use Rattle.dots_history.specs.declared.change.Change.TheVariants as change
use Rattle.dots_history.specs.declared.entry.Entry.{Entry}

-- one hexadecimal digit
abbrev pub hex_digit : ℕ → ℕ
hex_digit n = if nat_lt n 10 then 48 + n else 55 + n

-- A byte of a name: what isn't a letter, a digit, `-`, `.`, `_` or `~` is `%` and two hexadecimal digits (RFC 3986, section 2).
abbrev pub is_unreserved : ℕ → Bool
is_unreserved byte = is_ascii_alphanumeric byte || (byte == 45 || (byte == 46 || (byte == 95 || byte == 126)))

unfoldable pub spelled_byte : ℕ → List ℕ
spelled_byte byte = if is_unreserved byte then byte ∷ [] else 37 ∷ hex_digit (byte / 16) ∷ hex_digit (byte % 16) ∷ []

-- a name of a client's, which may be any text; `-` where there is none
unfoldable pub spelled : List ℕ → List ℕ
spelled [] = codes "-"
spelled (byte ∷ bytes) = flat_map spelled_byte (byte ∷ bytes)

-- the domain of this number, `-` where the settings have none
unfoldable pub named : Option DomainRow → List ℕ
named None = codes "-"
named (Some domain) = domain.name

-- what the change does
unfoldable pub change_word : Change → List ℕ
change_word (change.Put put) = if put.trigger then codes "put mid " else codes "put-waiting mid "
change_word (change.Withdraw mid) = codes "withdraw mid "
change_word (change.SetAlias alias) = codes "alias "
change_word (change.DropAlias name) = codes "drop-alias "
change_word (change.SetAcl acl) = codes "acl "
change_word (change.DropAcl name) = codes "drop-acl "
change_word change.Register = codes "register"
change_word change.Deregister = codes "deregister"
change_word (change.SetConfig sid config) = codes "config sid "
change_word change.ClearConfig = codes "clear-config"
change_word change.Lost = codes "signal-lost"
change_word change.Back = codes "signal-back"

-- and to what: a mid, a sid or a name
unfoldable pub change_object : Change → List ℕ
change_object (change.Put put) = decimal put.mid
change_object (change.Withdraw mid) = decimal mid
change_object (change.SetAlias alias) = spelled alias.name
change_object (change.DropAlias name) = spelled name
change_object (change.SetAcl acl) = spelled acl.name
change_object (change.DropAcl name) = spelled name
change_object (change.SetConfig sid config) = decimal sid
change_object _ = []

abbrev pub change_text : Change → List ℕ
change_text c = change_word c ++ change_object c

-- when and by whom: `slot N at SECOND peer N`
unfoldable pub when_text : ℕ → Entry → List ℕ
when_text slot entry = codes "slot " ++ decimal slot ++ codes " at " ++ decimal entry.time ++ codes " peer " ++ decimal entry.peer

-- for whom: ` domain NAME cuid NAME `
unfoldable pub client_text : SettingsValue → Entry → List ℕ
client_text settings entry = codes " domain " ++ named (slice_get settings.domains entry.domain) ++ codes " cuid " ++ spelled entry.cuid ++ codes " "

-- these, the change, and the end of the line
unfoldable pub entry_line : SettingsValue → ℕ → Entry → List ℕ
entry_line settings slot entry = when_text slot entry ++ client_text settings entry ++ change_text entry.change ++ codes "\n"

-- the lines of entries that stand in slots from this one on
abbrev pub entry_lines : SettingsValue → ℕ → List Entry → List ℕ
entry_lines settings slot [] = []
entry_lines settings slot (entry ∷ entries) = entry_line settings slot entry ++ entry_lines settings (slot + 1) entries
