-- The rows and the lists that filter at a time, with the seconds that are left of each.
use Rattle.std.specs.Prelude.{◌≡◌, ℕ, ℤ, pos, negsuc, Bool, ◌&&◌, ◌==◌, nat_lt, max, if◌then◌else◌, List, [], ◌∷◌, length, map, filter, Option, Some, None}
use Rattle.acl_lists.specs.declared.rows.ScrubRow.{ScrubRow}
use Rattle.acl_lists.specs.declared.rows.AclRow.{AclRow}
use Rattle.filter_table.specs.TableRows.{is_active, waits}
use Rattle.dots_settings.specs.Settings.{SettingsValue}
use Rattle.dots_history.specs.declared.entry.Entry.{Entry}
use Rattle.dots_history.specs.Rows.{plain_rows, acl_rows}
use Rattle.conflict_rules.specs.LiveViews.{LiveView}
use Rattle.conflict_rules.specs.Statuses.{views_in}
use Rattle.nft_script.specs.declared.timed.TimedRow.{TimedRow}
use Rattle.nft_script.specs.declared.timed.TimedList.{TimedList}
use Rattle.nft_script.specs.Script.{nft_text}

-- a row and a list, each with the seconds that are left of it where it ends
pub record TimedScrub : Type 0 where
  pub row : ScrubRow
  pub left : Option ℕ

pub record TimedAcl : Type 0 where
  pub list : AclRow
  pub left : Option ℕ

abbrev pub scrub_value : TimedRow → TimedScrub
scrub_value timed = record { row = timed.row.now; left = timed.left }

abbrev pub acl_value : TimedList → TimedAcl
acl_value timed = record { list = timed.list.now; left = timed.left }

-- an indefinite lifetime is below zero, and has no end
abbrev pub seconds_of : ℤ → Option ℕ
seconds_of (pos seconds) = Some seconds
seconds_of (negsuc below) = None

-- what is left of the mitigation of this mid
abbrev pub left_among : ℕ → List LiveView → Option ℕ
left_among mid [] = None
left_among mid (view ∷ views) = if view.put.mid == mid then seconds_of view.left else left_among mid views

-- a row ends with its mitigation (RFC 9132, section 4.4.1)
unfoldable pub left_of_row : SettingsValue → ℕ → List Entry → ScrubRow → Option ℕ
left_of_row settings t entries row =
    if nat_lt row.domain (length settings.domains) then left_among row.mid (views_in row.domain row.cuid t entries) else None

-- the later of two ends
abbrev pub later_end : Option ℕ → Option ℕ → Option ℕ
later_end None other = None
later_end (Some left) None = None
later_end (Some left) (Some other) = Some (max left other)

-- .., where the mitigation doesn't wait for a lost signal (status 8)
abbrev pub end_with : Option ℕ → LiveView → Option ℕ
end_with left view = if view.status == 8 then left else later_end left (seconds_of view.left)

abbrev pub longest_from : Option ℕ → List LiveView → Option ℕ
longest_from left [] = left
longest_from left (view ∷ views) = longest_from (end_with left view) views

-- a list that is active while its client mitigates ends with the last mitigation of the client (RFC 8783, section 7.2)
unfoldable pub left_of_list : SettingsValue → ℕ → List Entry → AclRow → Option ℕ
left_of_list settings t entries row =
    if waits row.acl.activation && nat_lt row.domain (length settings.domains)
    then longest_from (Some 0) (views_in row.domain row.cuid t entries)
    else None

abbrev pub timed_scrub : SettingsValue → ℕ → List Entry → ScrubRow → TimedScrub
timed_scrub settings t entries row = record { row = row; left = left_of_row settings t entries row }

abbrev pub timed_acl : SettingsValue → ℕ → List Entry → AclRow → TimedAcl
timed_acl settings t entries row = record { list = row; left = left_of_list settings t entries row }

-- the rows of the mitigations that filter, in order of their entries
abbrev pub timed_scrubs : SettingsValue → ℕ → List Entry → List TimedScrub
timed_scrubs settings t entries = map (timed_scrub settings t entries) (filter is_active (plain_rows t entries))

-- the access lists that are held, in order of writing
abbrev pub timed_acls : SettingsValue → ℕ → List Entry → List TimedAcl
timed_acls settings t entries = map (timed_acl settings t entries) (acl_rows t entries)

-- the text is the script of the filters that a history comes to at a time
pub record IsScript (settings : SettingsValue) (t : ℕ) (entries : List Entry) (text : List ℕ) : Type 0 where
  pub rows : List TimedRow
  pub lists : List TimedList
  pub rows_are : map scrub_value rows ≡ timed_scrubs settings t entries
  pub lists_are : map acl_value lists ≡ timed_acls settings t entries
  pub text_is : text ≡ nft_text settings rows lists
