-- The code's views, and what one more row adds to a draft.
use Rattle.std.specs.Prelude.{◌≡◌, ℕ, true, false, ⊤, bytes_eq, List, [], ◌∷◌, ◌++◌, Some, None, Result, Ok, Err, if◌then◌else◌}
use Rattle.std.specs.List.{list_any}
use Rattle.dots_settings.specs.declared.form.Form.{Form}
use Rattle.dots_settings.specs.declared.form.Form.TheVariants as form
use Rattle.dots_settings.specs.declared.complaint.Complaint.{Complaint}
use Rattle.dots_settings.specs.declared.draft.Draft.{Draft}
use Rattle.dots_lists.specs.Name.{is_name}
use Rattle.dots_settings.specs.Form.{FormValue, domain_line, prefix_line, client_line, gateway_line, upstream_line, name_line, ceiling_line, indefinite_line, capacity_line, packet_line}
use Rattle.dots_settings.specs.Draft.{DraftValue}
use Rattle.dots_settings.specs.Faults.{has_name}

-- a form without where its names stand
abbrev pub form_value : Form → FormValue
form_value (form.Domain name) = domain_line name.now
form_value (form.Prefix name value) = prefix_line name.now value
form_value (form.Client peer name) = client_line peer name.now
form_value (form.Gateway peer) = gateway_line peer
form_value (form.Upstream peer) = upstream_line peer
form_value (form.Name fqdn value) = name_line fqdn.now value
form_value (form.Ceiling seconds) = ceiling_line seconds
form_value (form.Indefinite granted) = indefinite_line granted
form_value (form.Capacity what limit) = capacity_line what limit
form_value (form.Packet value) = packet_line value

abbrev pub read_value : Result Form Complaint → Result FormValue Complaint
read_value (Ok form) = Ok (form_value form)
read_value (Err complaint) = Err complaint

abbrev pub draft_value : Draft → DraftValue
draft_value draft = record {
  domains = draft.domains.items;
  scopes = draft.scopes.items;
  peers = draft.peers.items;
  upstream = draft.upstream;
  names = draft.names.items;
  addresses = draft.addresses.items;
  ceiling = draft.ceiling;
  indefinite = draft.indefinite;
  capacities = draft.capacities.items;
  packets = draft.packets.items;
}

-- a host name is 1 to 64 visible ASCII characters
abbrev pub IsNamed : FormValue → Type 0
IsNamed (name_line fqdn value) = is_name fqdn ≡ true
IsNamed _ = ⊤

-- the draft after one more line, of this number and form
abbrev pub admitted : DraftValue → ℕ → FormValue → DraftValue
admitted draft line (domain_line name) = record draft { domains = draft.domains ++ name ∷ [] }
admitted draft line (prefix_line name value) = record draft { scopes = draft.scopes ++ record { domain = name; prefix = value; line = line } ∷ [] }
admitted draft line (client_line peer name) = record draft { peers = draft.peers ++ record { number = peer; domain = Some name } ∷ [] }
admitted draft line (gateway_line peer) = record draft { peers = draft.peers ++ record { number = peer; domain = None } ∷ [] }
admitted draft line (upstream_line peer) = record draft { upstream = Some peer }
admitted draft line (name_line fqdn value) = record draft {
  names = if has_name draft fqdn then draft.names else draft.names ++ fqdn ∷ [];
  addresses = draft.addresses ++ record { name = fqdn; prefix = value } ∷ [];
}
admitted draft line (ceiling_line seconds) = record draft { ceiling = Some seconds }
admitted draft line (indefinite_line granted) = record draft { indefinite = Some granted }
admitted draft line (capacity_line what (Some limit)) = record draft { capacities = draft.capacities ++ record { what = what; limit = limit } ∷ [] }
admitted draft line (capacity_line what None) = draft
admitted draft line (packet_line value) = record draft { packets = draft.packets ++ value ∷ [] }

-- no name is one of those before it
abbrev pub AreDistinct : List (List ℕ) → List (List ℕ) → Type 0
AreDistinct before [] = ⊤
AreDistinct before (name ∷ names) = (list_any (bytes_eq name) before ≡ false) × AreDistinct (before ++ name ∷ []) names
