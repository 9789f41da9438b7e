-- The lines of the report, by their parts.
use Rattle.std.specs.Prelude.{ℕ, Bool, true, false, List, [], map, filter, ◌++◌, codes, decimal}
use Rattle.ip_scope.specs.Prefix.{PrefixValue}
use Rattle.ip_scope.specs.PrefixText.{prefix_text}
use Rattle.acl_lists.specs.declared.ace.Ace.{Ace}
use Rattle.acl_lists.specs.declared.packet.Packet.{Packet}
use Rattle.acl_lists.specs.declared.rows.ScrubRow.{ScrubRow}
use Rattle.acl_lists.specs.declared.rows.AclRow.{AclRow}
use Rattle.acl_lists.specs.Fates.{Fate, fate_by_rows}
use Rattle.filter_table.specs.declared.placed.PlacedAcl.{PlacedAcl}
use Rattle.filter_table.specs.Table.{TableValue}
use Rattle.filter_table.specs.TableRows.{row_of_scrub, row_of_acl}
use Rattle.dots_settings.specs.Settings.{SettingsValue}
use Rattle.dots_settings.specs.Lookups.{name_of, prefixes_of}
use Rattle.dots_machine.specs.Report.{any_or, texts_of, ports_text, asked_text, test_text, verdict_text}

-- ---- mitigations

-- `scrub DOMAIN CUID`
unfoldable pub line_client : SettingsValue → ScrubRow → List ℕ
line_client settings row = codes "scrub " ++ name_of settings row.domain ++ codes " " ++ row.cuid

-- ` MID PREFIX`
unfoldable pub line_prefix : ScrubRow → List ℕ
line_prefix row = codes " " ++ decimal row.mid ++ codes " " ++ prefix_text row.prefix

-- ` PROTOCOLS PORTS` and the end of the line
unfoldable pub line_end : ScrubRow → List ℕ
line_end row = codes " " ++ any_or (texts_of decimal row.protocols) ++ codes " " ++ any_or (texts_of ports_text row.ports) ++ codes "\n"

-- ---- access lists

-- the rows of the lists that filter
abbrev pub active_lists : List PlacedAcl → List AclRow
active_lists placed = filter (λ row. row.active) (map row_of_acl placed)

-- the text where the test holds, and else none
abbrev pub only_where : Bool → List ℕ → List ℕ
only_where true text = text
only_where false text = []

-- `acl DOMAIN CUID`
unfoldable pub list_front : SettingsValue → AclRow → List ℕ
list_front settings row = codes "acl " ++ name_of settings row.domain ++ codes " " ++ row.cuid

-- ` NAME ACE accept|drop`
unfoldable pub ace_front : AclRow → Ace → List ℕ
ace_front row ace = codes " " ++ row.acl.name ++ codes " " ++ ace.name ++ (codes " " ++ verdict_text ace.accept)

-- ` SOURCE DESTINATION`
unfoldable pub ace_aims : Ace → PrefixValue → List ℕ
ace_aims ace destination = codes " " ++ asked_text prefix_text ace.source ++ codes " " ++ prefix_text destination

-- ` PROTOCOL SPORT DPORT` and the end of the line
unfoldable pub ace_end : Ace → List ℕ
ace_end ace = codes " " ++ asked_text decimal ace.protocol ++ codes " " ++ test_text ace.source_port ++ codes " " ++ test_text ace.destination_port ++ codes "\n"

-- ---- sample packets

-- the fate of a packet by the rows of a table
abbrev pub fate_in : SettingsValue → TableValue → Packet → Fate
fate_in settings table packet = fate_by_rows (prefixes_of settings) (map row_of_scrub table.scrubs) (map row_of_acl table.acls) packet
