-- What a line of the host file says, and the text of each.
use Rattle.std.specs.Prelude.{◌≡◌, ◌≢◌, ℕ, ◌+◌, ◌-◌, ◌^◌, ◌<◌, ◌≤◌, Bool, true, false, ◌==◌, ◌&&◌, ◌||◌, if◌then◌else◌, List, [], ◌∷◌, ◌++◌, bytes_eq, codes, decimal, Option, Some, None, MatchOption, IsUtf8}
use Rattle.ip_scope.specs.declared.address.Addr.{Addr}
use Rattle.ip_scope.specs.declared.family.Family.{Family}
use Rattle.ip_scope.specs.declared.family.Family.TheVariants.{V4, V6}
use Rattle.ip_scope.specs.PrefixText.{IsAddressText}
use Rattle.dots_lists.specs.Lines.{fields_of}
use Rattle.dots_edge.specs.declared.host_line.Endpoint.{Endpoint}
use Rattle.dots_edge.specs.declared.host_line.HostLine.{HostLine}
use Rattle.dots_edge.specs.declared.host_line.HostLine.TheVariants as line

pub data LineValue : Type 0 where
  journal_line : (path : List ℕ) → LineValue
  signal_line : (at : Endpoint) → LineValue
  http_line : (at : Endpoint) → LineValue
  peer_line : (number : ℕ) → (address : Addr) → (port : Option ℕ) → LineValue
  reserve_line : (bytes : ℕ) → LineValue
  events_line : (count : ℕ) → LineValue
  filters_line : (path : List ℕ) → LineValue
  filters_nft_line : (path : List ℕ) → LineValue
  figures_line : (path : List ℕ) → LineValue

-- a line without where its path stands
abbrev pub line_value : HostLine → LineValue
line_value (line.Journal path) = journal_line path.now
line_value (line.Signal at) = signal_line at
line_value (line.Http at) = http_line at
line_value (line.Peer number address port) = peer_line number address port
line_value (line.Reserve bytes) = reserve_line bytes
line_value (line.Events count) = events_line count
line_value (line.Filters path) = filters_line path.now
line_value (line.FiltersNft path) = filters_nft_line path.now
line_value (line.Figures path) = figures_line path.now

-- an address as it stands before a port: one of IPv6 in brackets
abbrev pub IsHostText : List ℕ → Family → ℕ → Type 0
IsHostText text V4 number = IsAddressText text V4 number
IsHostText text V6 number = (address : List ℕ) × (text ≡ 91 ∷ (address ++ 93 ∷ [])) × IsAddressText address V6 number

-- an address, a colon, and a port in decimal
pub record IsEndpointText (text : List ℕ) (address : Addr) (port : ℕ) : Type 0 where
  pub host : List ℕ
  pub spelled : text ≡ host ++ 58 ∷ decimal port
  pub small : port < 2 ^ 16
  pub is_host : IsHostText host address.family address.number

-- an address alone, or one with a port
abbrev pub IsPeerText : List ℕ → Addr → Option ℕ → Type 0
IsPeerText text address None = IsAddressText text address.family address.number
IsPeerText text address (Some port) = IsEndpointText text address port

-- the word that a line begins with
abbrev pub word_of : LineValue → List ℕ
word_of (journal_line path) = codes "journal"
word_of (signal_line at) = codes "signal"
word_of (http_line at) = codes "http"
word_of (peer_line number address port) = codes "peer"
word_of (reserve_line bytes) = codes "reserve"
word_of (events_line count) = codes "events"
word_of (filters_line path) = codes "filters"
word_of (filters_nft_line path) = codes "filters-nft"
word_of (figures_line path) = codes "figures"

-- one field, which is a path
abbrev pub ArePath : List (List ℕ) → List ℕ → Type 0
ArePath fields path = (fields ≡ path ∷ []) × (path ≢ []) × IsUtf8 path

-- and the fields behind it
abbrev pub AreFields : List (List ℕ) → LineValue → Type 0
AreFields fields (journal_line path) = ArePath fields path
AreFields fields (signal_line at) = (text : List ℕ) × (fields ≡ text ∷ []) × IsEndpointText text at.address at.port
AreFields fields (http_line at) = (text : List ℕ) × (fields ≡ text ∷ []) × IsEndpointText text at.address at.port
AreFields fields (peer_line number address port) =
    (text : List ℕ) × (fields ≡ decimal number ∷ text ∷ []) × (number < 2 ^ 32 - 1) × IsPeerText text address port
AreFields fields (reserve_line bytes) = (fields ≡ decimal bytes ∷ []) × (bytes ≤ 2 ^ 30)
AreFields fields (events_line count) = (fields ≡ decimal count ∷ []) × (count < 10 ^ 19)
AreFields fields (filters_line path) = ArePath fields path
AreFields fields (filters_nft_line path) = ArePath fields path
AreFields fields (figures_line path) = ArePath fields path

-- the line says this
pub record Says (text : List ℕ) (value : LineValue) : Type 0 where
  pub fields : List (List ℕ)
  pub spelled : fields_of text ≡ word_of value ∷ fields
  pub behind : AreFields fields value

-- what reading a line answers: what it says, or none where it says nothing
abbrev pub Reads : List ℕ → Option HostLine → Type 0
Reads text found = MatchOption found ((value : LineValue) → ¬ (Says text value)) (λ line. Says text (line_value line))

-- the same of the fields behind the first, which is this word
abbrev pub ReadsBehind : List ℕ → List ℕ → Option HostLine → Type 0
ReadsBehind word rest found = MatchOption found
    ((value : LineValue) → word_of value ≡ word → ¬ (AreFields (fields_of rest) value))
    (λ line. (word_of (line_value line) ≡ word) × AreFields (fields_of rest) (line_value line))

-- the address as an IPv6 one, that of IPv4 as the one that is mapped to it (RFC 4291, section 2.5.5.2)
abbrev pub key_of : Addr → ℕ
key_of address = key_by address.family address.number
  where
    key_by : Family → ℕ → ℕ
    key_by V4 number = 0xffff00000000 + number
    key_by V6 number = number

-- one address and port
abbrev pub same_end : Endpoint → Endpoint → Bool
same_end one other = (key_of one.address == key_of other.address) && (one.port == other.port)

-- the name under which a file is written before it is renamed to its path
abbrev pub beside : List ℕ → List ℕ
beside path = path ++ codes ".new"

-- the file that the line names
abbrev pub path_in : LineValue → Option (List ℕ)
path_in (journal_line path) = Some path
path_in (filters_line path) = Some path
path_in (filters_nft_line path) = Some path
path_in (figures_line path) = Some path
path_in _ = None

-- the paths are one, or the one is the name under which the file of the other is written first
abbrev pub share_file : Option (List ℕ) → Option (List ℕ) → Bool
share_file (Some path) (Some other) = bytes_eq path other || (bytes_eq path (beside other) || bytes_eq other (beside path))
share_file _ _ = false

-- The lines answer one question: both name the journal, both say how much of it is reserved, both how many events come, both name a file of one kind,
-- both are of one end, or both say whose an address is.
abbrev pub same_question : LineValue → LineValue → Bool
same_question (journal_line path) (journal_line other) = true
same_question (signal_line at) (signal_line other) = same_end at other
same_question (http_line at) (http_line other) = same_end at other
same_question (reserve_line bytes) (reserve_line other) = true
same_question (events_line count) (events_line other) = true
same_question (filters_line path) (filters_line other) = true
same_question (filters_nft_line path) (filters_nft_line other) = true
same_question (figures_line path) (figures_line other) = true
same_question (peer_line number address port) (peer_line n other p) = key_of address == key_of other
same_question _ _ = false

-- the lines say one thing: they answer one question, or share a file
abbrev pub same_thing : LineValue → LineValue → Bool
same_thing one other = same_question one other || share_file (path_in one) (path_in other)

-- both are where datagrams come, or both where connections do
abbrev pub same_kind : LineValue → LineValue → Bool
same_kind (signal_line at) (signal_line other) = true
same_kind (http_line at) (http_line other) = true
same_kind _ _ = false

-- all addresses of one family (RFC 4291, section 2.5.2), or the IPv6 address that is mapped to that of IPv4
abbrev pub is_all : Addr → Bool
is_all address = (key_of address == 0) || (key_of address == 0xffff00000000)

abbrev pub is_wildcard : LineValue → Bool
is_wildcard (signal_line at) = is_all at.address
is_wildcard (http_line at) = is_all at.address
is_wildcard _ = false

-- both of one kind, and one of them for all addresses
abbrev pub crowds : LineValue → LineValue → Bool
crowds one other = same_kind one other && (is_wildcard one || is_wildcard other)

-- how many values pass a test
abbrev pub how_many : (LineValue → Bool) → List LineValue → ℕ
how_many test [] = 0
how_many test (value ∷ values) = (if test value then 1 else 0) + how_many test values
