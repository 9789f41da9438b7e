-- The lines of the report, by their parts.
use Rattle.std.specs.Prelude.{ℕ, Bool, true, false, List, [], ◌++◌, map, filter, codes, decimal}
use Rattle.ip_scope.specs.Prefix.{PrefixValue}
use Rattle.ip_scope.specs.PrefixText.{prefix_text}
use Rattle.acl_lists.specs.declared.ace.Ace.{Ace}
use Rattle.acl_lists.specs.declared.rows.ScrubRow.{ScrubRow}
use Rattle.acl_lists.specs.declared.rows.AclRow.{AclRow}
use Rattle.filter_table.specs.declared.placed.PlacedAcl.{PlacedAcl}
use Rattle.filter_table.specs.TableRows.{row_of_acl}
use Rattle.dots_settings.specs.Settings.{SettingsValue}
use Rattle.dots_settings.specs.Lookups.{name_of}
use Rattle.dots_machine.specs.Report.{any_or, texts_of, ports_text, asked_text, test_text, verdict_text}

abbrev pub line_front : SettingsValue → ScrubRow → List ℕ
line_front settings row =
    codes "scrub " ++ name_of settings row.domain ++ codes " " ++ row.cuid ++ codes " " ++ decimal row.mid ++ codes " " ++ prefix_text row.prefix ++ codes " "

abbrev pub line_end : ScrubRow → List ℕ
line_end row = any_or (texts_of decimal row.protocols) ++ codes " " ++ any_or (texts_of ports_text row.ports) ++ codes "\n"

-- ---- access lists

-- the rows of the lists that filter
abbrev pub active_lists : List PlacedAcl → List AclRow
active_lists placed = filter (λ row. row.active) (map row_of_acl placed)

-- the text where the test holds, and else none
abbrev pub only_where : Bool → List ℕ → List ℕ
only_where true text = text
only_where false text = []

abbrev pub list_front : SettingsValue → AclRow → List ℕ
list_front settings row = codes "acl " ++ name_of settings row.domain ++ codes " " ++ row.cuid ++ codes " " ++ row.acl.name ++ codes " "

abbrev pub ace_front : Ace → List ℕ
ace_front ace = ace.name ++ codes " " ++ verdict_text ace.accept ++ codes " "

abbrev pub ace_aims : Ace → PrefixValue → List ℕ
ace_aims ace destination = asked_text prefix_text ace.source ++ codes " " ++ prefix_text destination ++ codes " "

abbrev pub ace_end : Ace → List ℕ
ace_end ace = asked_text decimal ace.protocol ++ codes " " ++ test_text ace.source_port ++ codes " " ++ test_text ace.destination_port ++ codes "\n"
