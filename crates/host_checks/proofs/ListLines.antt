-- The lines of access lists in their parts.
use Rattle.std.proofs.Common.{◌≡◌, ℕ, Bool, true, false, cond, List, [], ◌∷◌, ◌++◌, filter, flat_map, codes, decimal, refl, sym, ap, ◌∙◌, append_assoc}
use Rattle.ip_scope.specs.Prefix.{PrefixValue}
use Rattle.ip_scope.specs.PrefixText.{prefix_text}
use Rattle.acl_lists.specs.declared.ace.Ace.{Ace}
use Rattle.acl_lists.specs.declared.rows.AclRow.{AclRow}
use Rattle.dots_settings.specs.Settings.{SettingsValue}
use Rattle.dots_settings.specs.Lookups.{name_of}
use Rattle.dots_machine.specs.Report.{acl_line, asked_text, test_text, verdict_text}
use Rattle.host_checks.specs.Lines.{only_where, list_front, ace_front, ace_aims, ace_end}

listed : (text word blank feed domain cuid name ace verdict source destination protocol from to : List ℕ)
    → (((text ++ (word ++ domain ++ blank ++ cuid)) ++ (blank ++ name ++ blank ++ ace ++ (blank ++ verdict))) ++ (blank ++ source ++ blank ++ destination))
    ++ (blank ++ protocol ++ blank ++ from ++ blank ++ to ++ feed)
    ≡ text ++ (word ++ domain ++ blank ++ cuid ++ blank ++ name ++ blank ++ ace ++ blank ++ verdict ++ blank ++ source ++ blank ++ destination ++ blank ++ protocol ++ blank ++ from ++ blank ++ to ++ feed)
listed text word blank feed domain cuid name ace verdict source destination protocol from to = simp append_assoc

-- a line of an access list in its four parts
pub list_in_parts : (text : List ℕ) (settings : SettingsValue) (row : AclRow) (ace : Ace) (destination : PrefixValue)
    → (((text ++ list_front settings row) ++ ace_front row ace) ++ ace_aims ace destination) ++ ace_end ace ≡ text ++ acl_line settings row ace destination
unfolding list_front ace_front ace_aims ace_end
list_in_parts text settings row ace destination =
    listed text (codes "acl ") (codes " ") (codes "\n") (name_of settings row.domain) row.cuid row.acl.name ace.name (verdict_text ace.accept) (asked_text prefix_text ace.source)
    (prefix_text destination) (asked_text decimal ace.protocol) (test_text ace.source_port) (test_text ace.destination_port)
