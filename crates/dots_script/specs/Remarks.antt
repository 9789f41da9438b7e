-- What is to be mended in a line of the settings that is at fault: why, and the field where.
use Rattle.std.specs.Prelude.{ℕ, Bool, if◌then◌else◌, List, [], Some, None, Result, Ok, Err, slice_get, unwrap_or}
use Rattle.dots_settings.specs.declared.complaint.Complaint.{Complaint}
use Rattle.dots_settings.specs.declared.fault.SettingsFault.{SettingsFault}
use Rattle.dots_settings.specs.declared.fault.SettingsFault.TheVariants as fault
use Rattle.dots_settings.specs.Capacity.{greatest_of}
use Rattle.dots_settings.specs.Form.{FormValue, form_of, domain_line, prefix_line, client_line, gateway_line, upstream_line, name_line, ceiling_line, indefinite_line, capacity_line, packet_line}
use Rattle.dots_script.specs.declared.remark.Remark.{Remark}
use Rattle.dots_script.specs.declared.reason.Reason.{Reason}
use Rattle.dots_script.specs.declared.reason.Reason.TheVariants as reason

abbrev pub of_field : Reason → ℕ → Remark
of_field reason field = record { reason = reason; field = Some field }

abbrev pub of_line : Reason → Remark
of_line reason = record { reason = reason; field = None }

-- ---- a line that has none of the forms

abbrev pub of_complaint : Complaint → Remark
of_complaint complaint = record { reason = reason.Mistake complaint.mistake; field = complaint.field }

-- ---- a line that has a form, which the lines before it don't allow

-- what it gives stands already
abbrev pub twice_remark : FormValue → Remark
twice_remark (domain_line name) = of_field reason.DomainTwice 1
twice_remark (client_line peer name) = of_field reason.PeerTwice 1
twice_remark (gateway_line peer) = of_field reason.PeerTwice 1
twice_remark (upstream_line peer) = of_field reason.UpstreamTwice 1
twice_remark (ceiling_line seconds) = of_line reason.CeilingTwice
twice_remark (indefinite_line granted) = of_line reason.IndefiniteTwice
twice_remark (capacity_line what limit) = of_field reason.CapacityTwice 1
twice_remark _ = of_line reason.Twice

-- its domain isn't declared
abbrev pub unknown_remark : FormValue → Remark
unknown_remark (client_line peer name) = of_field reason.UnknownDomain 2
unknown_remark _ = of_field reason.UnknownDomain 1

-- it passes a limit
abbrev pub many_remark : FormValue → Remark
many_remark (domain_line name) = of_field reason.ManyDomains 1
many_remark (prefix_line name value) = of_field reason.ManyPrefixes 1
many_remark (client_line peer name) = of_field reason.ManyPeers 1
many_remark (gateway_line peer) = of_field reason.ManyGateways 1
many_remark (name_line fqdn value) = of_field reason.ManyNames 1
many_remark (capacity_line what limit) = of_field (reason.OutOfRange (greatest_of what)) 2
many_remark (packet_line value) = of_line reason.ManyPackets
many_remark _ = of_line reason.Many

abbrev pub form_remark : SettingsFault → FormValue → Remark
form_remark (fault.Twice n) form = twice_remark form
form_remark (fault.Unknown n) form = unknown_remark form
form_remark (fault.Overlap a b) form = of_field (reason.Overlap a) 2
form_remark (fault.Capacity n) form = many_remark form
form_remark _ form = of_line reason.Form

-- ---- any line at fault

abbrev pub remark_by : SettingsFault → Result FormValue Complaint → Remark
remark_by told (Ok form) = form_remark told form
remark_by told (Err complaint) = of_complaint complaint

-- that of a line with these fields which has this fault; past says whether the file is too long in this line
abbrev pub remark_of : SettingsFault → Bool → List (List ℕ) → Remark
remark_of told past fields = if past then of_line reason.TooLarge else remark_by told (form_of fields)

-- the field of a place; no bytes where there is none
abbrev pub field_of : List (List ℕ) → ℕ → List ℕ
field_of fields place = unwrap_or (slice_get fields place) []
