-- What is said of a host file beside the settings that it is used with, in lines.
use Rattle.std.specs.Prelude.{ℕ, ◌/◌, Bool, true, false, ◌==◌, ◌&&◌, ◌||◌, nat_le, not, if◌then◌else◌, List, [], ◌∷◌, ◌++◌, codes, decimal, Option, Some, None}
use Rattle.std.specs.List.{list_any, flat_map}
use Rattle.ip_scope.specs.declared.address.Addr.{Addr}
use Rattle.ip_scope.specs.declared.family.Family.{Family}
use Rattle.ip_scope.specs.declared.family.Family.TheVariants.{V4, V6}
use Rattle.ip_scope.specs.Family.{same_family}
use Rattle.ip_scope.specs.Prefix.{PrefixValue}
use Rattle.dots_settings.specs.declared.domains.DomainRow.{DomainRow}
use Rattle.dots_settings.specs.declared.peer.PeerRow.{PeerRow}
use Rattle.dots_settings.specs.Settings.{SettingsValue}
use Rattle.dots_edge.specs.HostLine.{LineValue, signal_line, http_line, peer_line, key_of, how_many}
use Rattle.dots_edge.specs.Found.{has_journal, reserve_in}
use Rattle.slot_store.specs.Layout.{needed_of}
use Rattle.slot_journal.specs.Sizes.{slots_of}
use Rattle.dots_edge.specs.JournalFile.{room_of}
use Rattle.dots_script.specs.Summary.{count_line}

-- ---- lines of one kind

abbrev pub is_signal : LineValue → Bool
is_signal (signal_line at) = true
is_signal _ = false

abbrev pub is_http : LineValue → Bool
is_http (http_line at) = true
is_http _ = false

abbrev pub is_peer : LineValue → Bool
is_peer (peer_line number address port) = true
is_peer _ = false

-- it says an address of this peer
abbrev pub is_of_peer : ℕ → LineValue → Bool
is_of_peer peer (peer_line number address port) = number == peer
is_of_peer peer _ = false

-- ---- families

-- An IPv6 address that is mapped to one of IPv4 counts as that (RFC 4291, section 2.5.5.2).
abbrev pub family_of : Addr → Family
family_of address = if key_of address / 4294967296 == 65535 then V4 else V6

-- Datagrams from the address may come to the line: both are of one family, or the line is for all addresses of both.
abbrev pub serves : Addr → LineValue → Bool
serves address (signal_line at) = same_family (family_of at.address) (family_of address) || (key_of at.address == 0)
serves address _ = false

-- ---- remarks: what a server starts with all the same

-- `WORDS N WORDS`, and the end of the line
abbrev pub numbered : List ℕ → ℕ → List ℕ → List ℕ
numbered before number behind = before ++ decimal number ++ behind

unfoldable pub no_signal : List LineValue → List ℕ
no_signal said = if list_any is_signal said then [] else codes "remark: no signal line, so no datagram comes\n"

-- a client or gateway of the settings that no line says an address of
unfoldable pub no_address : List LineValue → PeerRow → List ℕ
no_address said row =
    if list_any (is_of_peer row.peer) said then []
    else numbered (codes "remark: no peer line says an address of peer ") row.peer (codes ", so nothing of it is read\n")

abbrev pub is_named : SettingsValue → ℕ → Bool
is_named settings peer = list_any (λ (row : PeerRow). row.peer == peer) settings.peers

unfoldable pub stranger_line : ℕ → List ℕ
stranger_line number = numbered (codes "remark: the settings name no peer ") number (codes ", as a line does\n")

-- an address of a peer that the settings don't name
unfoldable pub not_named : SettingsValue → ℕ → List ℕ
not_named settings number =
    if is_named settings number then []
    else stranger_line number

-- an address of a family that no signal line serves
unfoldable pub not_served : List LineValue → ℕ → Addr → List ℕ
not_served said number address =
    if list_any (serves address) said then []
    else numbered (codes "remark: no signal line is of the family of an address of peer ") number (codes "\n")

-- what is said of a line of a peer
unfoldable pub of_line : SettingsValue → List LineValue → LineValue → List ℕ
of_line settings said (peer_line number address port) = not_named settings number ++ not_served said number address
of_line settings said _ = []

-- a domain whose prefixes have all addresses of a family: its clients may ask for anybody's
abbrev pub is_whole : PrefixValue → Bool
is_whole prefix = prefix.length == 0

unfoldable pub whole_line : List ℕ → List ℕ
whole_line name = codes "remark: all addresses of a family are of domain " ++ name ++ codes "\n"

unfoldable pub whole_family : DomainRow → List ℕ
whole_family domain =
    if list_any is_whole domain.prefixes then whole_line domain.name else []

unfoldable pub no_room : List LineValue → List ℕ
no_room said = by (reserve_in said)
  where
    by : Option ℕ → List ℕ
    by None = codes "remark: no room is reserved for the journal, so a full disk ends the server\n"
    by (Some bytes) = []

-- ---- faults: what a server wouldn't start with, and its status then

abbrev pub needed : SettingsValue → ℕ
needed settings = needed_of (slots_of settings)

-- there is no journal
unfoldable pub no_journal : List LineValue → List ℕ
no_journal said = if has_journal said then [] else codes "fault 6: no journal line\n"

abbrev pub is_roomy : SettingsValue → List LineValue → Bool
is_roomy settings said = nat_le (needed settings) (room_of (reserve_in said))

-- too little is reserved, or more is needed than a journal may have
unfoldable pub too_small : SettingsValue → List LineValue → List ℕ
too_small settings said =
    if is_roomy settings said then []
    else numbered (codes "fault 10: the journal needs ") (needed settings) (numbered (codes " bytes, and has ") (room_of (reserve_in said)) (codes "\n"))

abbrev pub is_startable : SettingsValue → List LineValue → Bool
is_startable settings said = has_journal said && is_roomy settings said

-- ---- all of it

unfoldable pub signal_count : ℕ → List ℕ
signal_count number = count_line (codes "signal lines") number

unfoldable pub http_count : ℕ → List ℕ
http_count number = count_line (codes "http lines") number

unfoldable pub peer_count : ℕ → List ℕ
peer_count number = count_line (codes "peer lines") number

unfoldable pub needed_count : ℕ → List ℕ
needed_count number = count_line (codes "bytes that the journal needs") number

abbrev pub counts : ℕ → ℕ → ℕ → List ℕ
counts signal http peer = signal_count signal ++ http_count http ++ peer_count peer

abbrev pub kinds : List LineValue → List ℕ
kinds said = counts (how_many is_signal said) (how_many is_http said) (how_many is_peer said)

unfoldable pub amounts : SettingsValue → List LineValue → List ℕ
amounts settings said = kinds said ++ needed_count (needed settings)

abbrev pub peer_remarks : SettingsValue → List LineValue → List ℕ
peer_remarks settings said = no_signal said ++ flat_map (no_address said) settings.peers ++ flat_map (of_line settings said) said

unfoldable pub remarks : SettingsValue → List LineValue → List ℕ
remarks settings said = peer_remarks settings said ++ flat_map whole_family settings.domains ++ no_room said

unfoldable pub faults : SettingsValue → List LineValue → List ℕ
faults settings said = no_journal said ++ too_small settings said

unfoldable pub findings : SettingsValue → List LineValue → List ℕ
findings settings said = amounts settings said ++ remarks settings said ++ faults settings said
