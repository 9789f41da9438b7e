-- What a line says: one of ten forms, or why it has none of them, by its fields from left to right.
use Rattle.std.specs.Prelude.{◌≡◌, ℕ, Bool, true, false, not, ◌==◌, ◌&&◌, ◌||◌, nat_le, if◌then◌else◌, List, [], ◌∷◌, length, codes, bytes_eq, Option, Some, None, Result, Ok, Err}
use Rattle.std.specs.Char.{is_ascii_digit}
use Rattle.std.specs.List.{list_all}
use Rattle.dots_lists.specs.Numbers.{number_in}
use Rattle.dots_lists.specs.Name.{is_name}
use Rattle.ip_scope.specs.declared.family.Family.{Family}
use Rattle.ip_scope.specs.declared.family.Family.TheVariants.{V4, V6}
use Rattle.ip_scope.specs.declared.address.Addr.{Addr}
use Rattle.ip_scope.specs.Prefix.{PrefixValue}
use Rattle.ip_scope.specs.PrefixReader.{split_last, addr_in, prefix_in}
use Rattle.acl_lists.specs.declared.packet.Packet.{Packet}
use Rattle.dots_settings.specs.declared.capacity.Capacity.{Capacity}
use Rattle.dots_settings.specs.declared.complaint.Complaint.{Complaint}
use Rattle.dots_settings.specs.declared.mistake.Mistake.{Mistake}
use Rattle.dots_settings.specs.declared.mistake.Mistake.TheVariants as mistake
use Rattle.dots_settings.specs.Capacity.{capacity_named, greatest_of}
use Rattle.dots_settings.specs.Lines.{fields_of}

pub data FormValue : Type 0 where
  domain_line : (name : List ℕ) → FormValue
  prefix_line : (name : List ℕ) → (value : PrefixValue) → FormValue
  client_line : (peer : ℕ) → (name : List ℕ) → FormValue
  gateway_line : (peer : ℕ) → FormValue
  upstream_line : (peer : ℕ) → FormValue
  name_line : (fqdn : List ℕ) → (value : PrefixValue) → FormValue
  ceiling_line : (seconds : ℕ) → FormValue
  indefinite_line : (granted : Bool) → FormValue
  capacity_line : (what : Capacity) → (limit : Option ℕ) → FormValue
  packet_line : (value : Packet) → FormValue

-- ---- what a field has to be

-- the name of a domain: 1 to 64 of `a` to `z`, `0` to `9`, `.` and `-`
abbrev pub is_domain_byte : ℕ → Bool
is_domain_byte byte = (nat_le 97 byte && nat_le byte 122) || (nat_le 48 byte && nat_le byte 57) || byte == 46 || byte == 45

abbrev pub is_domain_name : List ℕ → Bool
is_domain_name name = nat_le 1 (length name) && nat_le (length name) 64 && list_all is_domain_byte name

-- a number of any size: decimal digits, the first of which is no zero unless it is the only one
abbrev pub is_number : List ℕ → Bool
is_number [] = false
is_number (digit ∷ digits) = list_all is_ascii_digit (digit ∷ digits) && (not (digit == 48) || length digits == 0)

abbrev pub granted_in : List ℕ → Option Bool
granted_in text = if bytes_eq text (codes "yes") then Some true else if bytes_eq text (codes "no") then Some false else None

-- no port
abbrev pub is_dash : List ℕ → Bool
is_dash text = bytes_eq text (codes "-")

-- ---- why a line has none of the forms

abbrev pub of_field : Mistake → ℕ → Complaint
of_field mistake field = record { mistake = mistake; field = Some field }

abbrev pub of_line : Mistake → Complaint
of_line mistake = record { mistake = mistake; field = None }

-- this about the field of this place where the test fails, and else what is said of the later fields
abbrev pub unless : {A : Type 0} → Bool → Mistake → ℕ → Result A Complaint → Result A Complaint
unless holds mistake field later = if holds then later else Err (of_field mistake field)

-- the same where the field has no such value
abbrev pub given : {A B : Type 0} → Option A → Mistake → ℕ → (A → Result B Complaint) → Result B Complaint
given None mistake field later = Err (of_field mistake field)
given (Some value) mistake field later = later value

abbrev pub mapped : {A B : Type 0} → (A → B) → Result A Complaint → Result B Complaint
mapped to (Ok value) = Ok (to value)
mapped to (Err complaint) = Err complaint

-- why a text that is no prefix is none: by what stands behind its last slash, and before it
abbrev pub length_mistake : Family → List ℕ → Mistake
length_mistake V4 digits = if is_number digits then mistake.LengthV4 else mistake.NoLength
length_mistake V6 digits = if is_number digits then mistake.LengthV6 else mistake.NoLength

abbrev pub mistake_behind : Option Addr → List ℕ → Mistake
mistake_behind None digits = mistake.NoAddress
mistake_behind (Some address) digits = length_mistake address.family digits

abbrev pub mistake_of_parts : Option (List ℕ × List ℕ) → Mistake
mistake_of_parts None = mistake.NoSlash
mistake_of_parts (Some parts) = mistake_behind (addr_in parts.0) parts.1

abbrev pub prefix_mistake : List ℕ → Mistake
prefix_mistake text = mistake_of_parts (split_last text)

-- ---- the forms, each by the fields behind its word; a field's place is that in the line

-- `domain NAME`
abbrev pub domain_form : List (List ℕ) → Result FormValue Complaint
domain_form (name ∷ []) = unless (is_domain_name name) mistake.DomainName 1 (Ok (domain_line name))
domain_form _ = Err (of_line mistake.DomainFields)

-- `prefix NAME PREFIX`
abbrev pub prefix_form : List (List ℕ) → Result FormValue Complaint
prefix_form (name ∷ text ∷ []) =
    unless (is_domain_name name) mistake.DomainName 1 (given (prefix_in text) (prefix_mistake text) 2 (λ value. Ok (prefix_line name value)))
prefix_form _ = Err (of_line mistake.PrefixFields)

-- `client PEER NAME`
abbrev pub client_form : List (List ℕ) → Result FormValue Complaint
client_form (peer ∷ name ∷ []) =
    given (number_in 0 4294967295 peer) mistake.Peer 1 (λ number. unless (is_domain_name name) mistake.DomainName 2 (Ok (client_line number name)))
client_form _ = Err (of_line mistake.ClientFields)

-- `gateway PEER`
abbrev pub gateway_form : List (List ℕ) → Result FormValue Complaint
gateway_form (peer ∷ []) = given (number_in 0 4294967295 peer) mistake.Peer 1 (λ number. Ok (gateway_line number))
gateway_form _ = Err (of_line mistake.GatewayFields)

-- `upstream PEER`
abbrev pub upstream_form : List (List ℕ) → Result FormValue Complaint
upstream_form (peer ∷ []) = given (number_in 0 4294967295 peer) mistake.Peer 1 (λ number. Ok (upstream_line number))
upstream_form _ = Err (of_line mistake.UpstreamFields)

-- `name FQDN PREFIX`
abbrev pub name_form : List (List ℕ) → Result FormValue Complaint
name_form (fqdn ∷ text ∷ []) =
    unless (is_name fqdn) mistake.HostName 1 (given (prefix_in text) (prefix_mistake text) 2 (λ value. Ok (name_line fqdn value)))
name_form _ = Err (of_line mistake.NameFields)

-- `ceiling SECONDS`
abbrev pub ceiling_form : List (List ℕ) → Result FormValue Complaint
ceiling_form (text ∷ []) = given (number_in 1 604800 text) mistake.Ceiling 1 (λ seconds. Ok (ceiling_line seconds))
ceiling_form _ = Err (of_line mistake.CeilingFields)

-- `indefinite yes` or `indefinite no`
abbrev pub indefinite_form : List (List ℕ) → Result FormValue Complaint
indefinite_form (text ∷ []) = given (granted_in text) mistake.YesOrNo 1 (λ granted. Ok (indefinite_line granted))
indefinite_form _ = Err (of_line mistake.IndefiniteFields)

-- `capacity WHAT LIMIT`; the limit is a number of any size, and none is taken from outside the range of the capacity
unfoldable pub capacity_of : List ℕ → List ℕ → Result FormValue Complaint
capacity_of name text =
    given (capacity_named name) mistake.CapacityName 1 (λ what.
    unless (is_number text) mistake.Limit 2 (Ok (capacity_line what (number_in 1 (greatest_of what) text))))

abbrev pub capacity_form : List (List ℕ) → Result FormValue Complaint
capacity_form (name ∷ text ∷ []) = capacity_of name text
capacity_form _ = Err (of_line mistake.CapacityFields)

-- two ports, or `-` for both where there are none
abbrev pub ports_in : List ℕ → List ℕ → Result (Option (ℕ × ℕ)) Complaint
ports_in source destination =
    if is_dash source && is_dash destination then Ok None
    else given (number_in 0 65535 source) mistake.Port 4 (λ from. given (number_in 0 65535 destination) mistake.Port 5 (λ to. Ok (Some (from, to))))

-- `packet SOURCE DESTINATION PROTOCOL SPORT DPORT`
abbrev pub packet_of : List ℕ → List ℕ → List ℕ → List ℕ → List ℕ → Result Packet Complaint
packet_of source destination protocol source_port destination_port =
    given (addr_in source) mistake.Address 1 (λ from.
    given (addr_in destination) mistake.Address 2 (λ to.
    given (number_in 0 255 protocol) mistake.Protocol 3 (λ number.
    mapped (λ ports. record { source = from; destination = to; protocol = number; ports = ports }) (ports_in source_port destination_port))))

abbrev pub packet_form : List (List ℕ) → Result FormValue Complaint
packet_form (source ∷ destination ∷ protocol ∷ source_port ∷ destination_port ∷ []) =
    mapped packet_line (packet_of source destination protocol source_port destination_port)
packet_form _ = Err (of_line mistake.PacketFields)

-- the form of a line by its first word and the fields behind it
unfoldable pub form_by_word : List ℕ → List (List ℕ) → Result FormValue Complaint
form_by_word word fields =
    if bytes_eq word (codes "domain") then domain_form fields
    else if bytes_eq word (codes "prefix") then prefix_form fields
    else if bytes_eq word (codes "client") then client_form fields
    else if bytes_eq word (codes "gateway") then gateway_form fields
    else if bytes_eq word (codes "upstream") then upstream_form fields
    else if bytes_eq word (codes "name") then name_form fields
    else if bytes_eq word (codes "ceiling") then ceiling_form fields
    else if bytes_eq word (codes "indefinite") then indefinite_form fields
    else if bytes_eq word (codes "capacity") then capacity_form fields
    else if bytes_eq word (codes "packet") then packet_form fields
    else Err (of_field mistake.Word 0)

abbrev pub form_of : List (List ℕ) → Result FormValue Complaint
form_of [] = Err (of_field mistake.Word 0)
form_of (word ∷ fields) = form_by_word word fields

-- the line has this form
abbrev pub Says : List ℕ → FormValue → Type 0
Says line form = form_of (fields_of line) ≡ Ok form
