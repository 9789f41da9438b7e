-- The lines of the report in their parts, and the report of a table.
use Rattle.std.proofs.Common.{◌≡◌, ℕ, List, ◌++◌, map, filter, flat_map, codes, decimal, sym, ap, ◌∙◌, append_assoc}
use Rattle.ip_scope.specs.PrefixText.{prefix_text}
use Rattle.acl_lists.specs.declared.rows.ScrubRow.{ScrubRow}
use Rattle.acl_lists.specs.declared.rows.AclRow.{AclRow}
use Rattle.acl_lists.specs.Fates.{fate_by_rows}
use Rattle.filter_table.specs.Table.{TableValue}
use Rattle.filter_table.specs.TableRows.{row_of_scrub, row_of_acl, is_active, active_rows}
use Rattle.dots_settings.specs.Settings.{SettingsValue}
use Rattle.dots_settings.specs.Lookups.{name_of, prefixes_of}
use Rattle.dots_history.specs.declared.entry.Entry.{Entry}
use Rattle.dots_history.specs.Rows.{plain_rows, acl_rows}
use Rattle.dots_machine.specs.Machine.{afresh}
use Rattle.dots_machine.specs.Report.{any_or, texts_of, ports_text, scrub_line, list_lines, packet_lines, report_of}
use Rattle.host_checks.specs.Lines.{line_client, line_prefix, line_end, active_lists, fate_in}

joined : (text scrub name cuid mid prefix protocols ports blank feed : List ℕ)
    → ((text ++ (scrub ++ name ++ blank ++ cuid)) ++ (blank ++ mid ++ blank ++ prefix)) ++ (blank ++ protocols ++ blank ++ ports ++ feed)
    ≡ text ++ (scrub ++ name ++ blank ++ cuid ++ blank ++ mid ++ blank ++ prefix ++ blank ++ protocols ++ blank ++ ports ++ feed)
joined text scrub name cuid mid prefix protocols ports blank feed = simp append_assoc

-- a line in its three parts
pub line_in_parts : (text : List ℕ) (settings : SettingsValue) (row : ScrubRow)
    → ((text ++ line_client settings row) ++ line_prefix row) ++ line_end row ≡ text ++ scrub_line settings row
unfolding line_client line_prefix line_end
line_in_parts text settings row =
    joined text (codes "scrub ") (name_of settings row.domain) row.cuid (decimal row.mid) (prefix_text row.prefix) (any_or (texts_of decimal row.protocols))
    (any_or (texts_of ports_text row.ports)) (codes " ") (codes "\n")

-- what is reported of these rows
abbrev lines_by : SettingsValue → List ScrubRow → List AclRow → List ℕ
lines_by settings rows lists =
    flat_map (scrub_line settings) (filter is_active rows) ++ flat_map (list_lines settings) (filter (λ row. row.active) lists)
    ++ packet_lines (fate_by_rows (prefixes_of settings) rows lists) 1 settings.packets

module _ (settings : SettingsValue) (t : ℕ) (entries : List Entry) where
  -- what is reported of a table of the rows of the history is the report
  pub report_is : (table : TableValue) → map row_of_scrub table.scrubs ≡ plain_rows t entries → map row_of_acl table.acls ≡ acl_rows t entries
      → flat_map (scrub_line settings) (active_rows table.scrubs) ++ flat_map (list_lines settings) (active_lists table.acls) ++ packet_lines (fate_in settings table) 1 settings.packets
      ≡ report_of settings (afresh settings entries t)
  report_is table rows lists =
      ap (λ held. lines_by settings held (map row_of_acl table.acls)) rows ∙ ap (λ held. lines_by settings (plain_rows t entries) held) lists
