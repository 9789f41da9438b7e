-- What the rows of a file have said up to some line, each kind of row by itself, in the file's order.
use Rattle.std.specs.Prelude.{ℕ, Bool, not, List, [], ◌∷◌, map, filter, bytes_eq, Option, Some, None}
use Rattle.std.specs.Char.{to_ascii_lowercase}
use Rattle.std.specs.List.{filter_map}
use Rattle.acl_lists.specs.declared.packet.Packet.{Packet}
use Rattle.dots_settings.specs.declared.draft.Address.{Address}
use Rattle.dots_settings.specs.declared.draft.Chosen.{Chosen}
use Rattle.dots_settings.specs.declared.draft.Peer.{Peer}
use Rattle.dots_settings.specs.declared.draft.Scope.{Scope}
use Rattle.dots_settings.specs.Form.{FormValue, domain_line, prefix_line, client_line, gateway_line, upstream_line, name_line, ceiling_line, indefinite_line, capacity_line, packet_line}
use Rattle.dots_settings.specs.Row.{Row}

pub record DraftValue : Type 0 where
  pub domains : List (List ℕ)
  pub scopes : List Scope
  pub peers : List Peer
  pub upstream : Option ℕ
  -- the host names, each with the spelling of its first line
  pub names : List (List ℕ)
  pub addresses : List Address
  pub ceiling : Option ℕ
  pub indefinite : Option Bool
  pub capacities : List Chosen
  pub packets : List Packet

-- host names are the same whatever the case of their letters
abbrev pub same_name : List ℕ → List ℕ → Bool
same_name one other = bytes_eq (map to_ascii_lowercase one) (map to_ascii_lowercase other)

-- the names of which none before is the same
abbrev pub firsts_of : List (List ℕ) → List (List ℕ)
firsts_of [] = []
firsts_of (name ∷ names) = name ∷ filter (λ other. not (same_name name other)) (firsts_of names)

abbrev pub first_of : {A : Type 0} → List A → Option A
first_of [] = None
first_of (x ∷ xs) = Some x

-- ---- what a line adds to each part

abbrev pub domain_in : FormValue → Option (List ℕ)
domain_in (domain_line name) = Some name
domain_in _ = None

abbrev pub scope_in : ℕ → FormValue → Option Scope
scope_in line (prefix_line name value) = Some (record { domain = name; prefix = value; line = line })
scope_in line _ = None

abbrev pub peer_in : FormValue → Option Peer
peer_in (client_line peer name) = Some (record { number = peer; domain = Some name })
peer_in (gateway_line peer) = Some (record { number = peer; domain = None })
peer_in _ = None

abbrev pub upstream_in : FormValue → Option ℕ
upstream_in (upstream_line peer) = Some peer
upstream_in _ = None

abbrev pub name_in : FormValue → Option (List ℕ)
name_in (name_line fqdn value) = Some fqdn
name_in _ = None

abbrev pub address_in : FormValue → Option Address
address_in (name_line fqdn value) = Some (record { name = fqdn; prefix = value })
address_in _ = None

abbrev pub ceiling_in : FormValue → Option ℕ
ceiling_in (ceiling_line seconds) = Some seconds
ceiling_in _ = None

abbrev pub indefinite_in : FormValue → Option Bool
indefinite_in (indefinite_line granted) = Some granted
indefinite_in _ = None

abbrev pub capacity_in : FormValue → Option Chosen
capacity_in (capacity_line what (Some limit)) = Some (record { what = what; limit = limit })
capacity_in _ = None

abbrev pub packet_in : FormValue → Option Packet
packet_in (packet_line value) = Some value
packet_in _ = None

-- ---- what all the rows say

abbrev pub forms_by : {A : Type 0} → (FormValue → Option A) → List Row → List A
forms_by part rows = filter_map (λ row. part row.form) rows

abbrev pub draft_of : List Row → DraftValue
draft_of rows = record {
  domains = forms_by domain_in rows;
  scopes = filter_map (λ row. scope_in row.number row.form) rows;
  peers = forms_by peer_in rows;
  upstream = first_of (forms_by upstream_in rows);
  names = firsts_of (forms_by name_in rows);
  addresses = forms_by address_in rows;
  ceiling = first_of (forms_by ceiling_in rows);
  indefinite = first_of (forms_by indefinite_in rows);
  capacities = forms_by capacity_in rows;
  packets = forms_by packet_in rows;
}
