-- The report of a server is the machine's.
use Rattle.std.proofs.Common.{◌≡◌, ℕ, List, [], ◌++◌, map, filter, flat_map, false, refl, ap, ◌∙◌}
use Rattle.dots_host.proofs.WriteLemmas.{owes_all}
use Rattle.acl_lists.specs.declared.rows.ScrubRow.{ScrubRow}
use Rattle.acl_lists.specs.declared.rows.AclRow.{AclRow}
use Rattle.acl_lists.specs.Fates.{fate_by_rows}
use Rattle.filter_table.specs.TableRows.{PlacedScrub, row_of_scrub, row_of_acl, is_active, active_rows}
use Rattle.filter_table.specs.declared.placed.PlacedAcl.{PlacedAcl}
use Rattle.dots_settings.specs.Settings.{SettingsValue}
use Rattle.dots_settings.specs.Lookups.{prefixes_of}
use Rattle.dots_history.specs.Rows.{plain_rows, acl_rows}
use Rattle.dots_machine.specs.Machine.{State}
use Rattle.dots_machine.specs.Report.{scrub_line, list_lines, packet_lines, report_of}
use Rattle.dots_server.specs.Gathering.{Sunk, HasWritten}
use Rattle.dots_server.specs.Lines.{active_lists}
use Rattle.dots_server.specs.ServerValues.{ServerValue, Represents}

-- what a table of these rows has to report
abbrev pub lines_of : SettingsValue → List PlacedScrub → List PlacedAcl → List ℕ
lines_of settings scrubs acls =
    (flat_map (scrub_line settings) (active_rows scrubs) ++ flat_map (list_lines settings) (active_lists acls))
    ++ packet_lines (fate_by_rows (prefixes_of settings) (map row_of_scrub scrubs) (map row_of_acl acls)) 1 settings.packets

-- the same of rows that stand in no table
abbrev lines_by : SettingsValue → List ScrubRow → List AclRow → List ℕ
lines_by settings rows lists =
    (flat_map (scrub_line settings) (filter is_active rows) ++ flat_map (list_lines settings) (filter (λ row. row.active) lists))
    ++ packet_lines (fate_by_rows (prefixes_of settings) rows lists) 1 settings.packets

pub report_is : (server : ServerValue) (settings : SettingsValue) (state : State) (scrubs : List PlacedScrub) (acls : List PlacedAcl) → Represents server settings state
    → map row_of_scrub scrubs ≡ plain_rows state.time state.history → map row_of_acl acls ≡ acl_rows state.time state.history
    → lines_of server.settings scrubs acls ≡ report_of settings state
report_is server settings state scrubs acls represents rows lists =
    ap (λ s. lines_of s scrubs acls) represents.settings_are
    ∙ ap (λ held. lines_by settings held (map row_of_acl acls)) rows
    ∙ ap (λ held. lines_by settings (plain_rows state.time state.history) held) lists

pub nothing_written : (now : Sunk) → HasWritten now now false [] []
nothing_written now = (owes_all now.written [], refl)
