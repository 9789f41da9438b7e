-- The slots of the entries that wrote what is held.
use Rattle.std.specs.Prelude.{ℕ, Bool, false, not, ◌&&◌, ◌||◌, ◌==◌, bytes_eq, if◌then◌else◌, List, ◌++◌, map, filter, Option, Some, None, option_map, option_to_list}
use Rattle.dots_history.specs.declared.entry.Entry.{Entry}
use Rattle.dots_history.specs.declared.change.Change.{Change}
use Rattle.dots_history.specs.declared.change.Change.TheVariants as change
use Rattle.dots_history.specs.Entries.{is_deregister, is_configuration, undoes_alias, undoes_acl, is_loss}
use Rattle.dots_history.specs.Histories.{sieve, stays}
use Rattle.dots_history.specs.Filed.{Filed, entry_of}
use Rattle.dots_history.specs.Slots.{number_in}
use Rattle.held_resources.specs.declared.row.HeldSlot.{HeldSlot}
use Rattle.held_resources.specs.declared.row.HeldName.{HeldName}
use Rattle.held_resources.specs.declared.row.HeldName.TheVariants as written

-- ---- what a row is of

-- what a change wrote that is held until a later one undoes it
abbrev pub written_of : Change → Option HeldName
written_of change.Register = Some written.Registration
written_of (change.SetAlias alias) = Some (written.Alias alias.name)
written_of (change.SetAcl acl) = Some (written.Acl acl.name)
written_of (change.SetConfig sid config) = Some written.Configuration
written_of change.Lost = Some written.Loss
written_of _ = None

abbrev pub row_with : Filed → HeldName → HeldSlot
row_with x what =
    record { peer = x.entry.peer; domain = x.entry.domain; cuid = x.entry.cuid; written = what; slot = x.slot }

-- the row of an entry in a slot, where it wrote something
abbrev pub row_of : Filed → Option HeldSlot
row_of x = option_map (row_with x) (written_of x.entry.change)

-- the rows of what a history leaves held whose entries stand in slots, in order of writing
abbrev pub rows_of : List Filed → List HeldSlot
rows_of filed = sieve (λ x later. if stays x.entry (map entry_of later) then row_of x else None) filed

-- ---- one more entry

-- of two changes of one client, the later undoes what the earlier wrote (RFC 8783, sections 5.2, 6 and 7)
abbrev pub undone_of_client : HeldName → Change → Bool
undone_of_client written.Registration later = is_deregister later
undone_of_client (written.Alias name) later = undoes_alias name later
undone_of_client (written.Acl name) later = undoes_acl name later
undone_of_client _ later = false

-- of two changes of one peer (RFC 9132, sections 4.5.2 and 4.5.4)
abbrev pub undone_of_peer : HeldName → Change → Bool
undone_of_peer written.Configuration later = is_configuration later
undone_of_peer _ later = false

-- of two changes of one peer in its domain
abbrev pub undone_of_signal : HeldName → Change → Bool
undone_of_signal written.Loss later = is_loss later
undone_of_signal _ later = false

-- the row is of a lost signal, and the entry says anew whether that is lost
abbrev pub is_resumed : HeldSlot → Entry → Bool
is_resumed row e = (row.peer == e.peer) && ((row.domain == e.domain) && undone_of_signal row.written e.change)

-- what the row is of is no longer held after this entry
abbrev pub is_undone : HeldSlot → Entry → Bool
is_undone row e =
    (((row.domain == e.domain) && bytes_eq row.cuid e.cuid) && undone_of_client row.written e.change)
    || (((row.peer == e.peer) && undone_of_peer row.written e.change) || is_resumed row e)

-- Of those before it those stay that it doesn't undo, and its own comes last.
abbrev pub rows_with : Filed → List HeldSlot → List HeldSlot
rows_with x rows = filter (λ row. not (is_undone row x.entry)) rows ++ option_to_list (row_of x)

-- ---- slots

-- the rows, and how many there may be
pub record HeldRows : Type 0 where
  pub room : ℕ
  pub rows : List HeldSlot

abbrev pub slots_in : List HeldSlot → List ℕ
slots_in rows = map (λ (row : HeldSlot). row.slot) rows

-- one more entry stands in a slot
abbrev pub rows_more : Filed → HeldRows → HeldRows
rows_more x rows = record { room = rows.room; rows = rows_with x rows.rows }

-- a slot becomes its place among those that are kept
abbrev pub renumbered : List ℕ → HeldSlot → HeldSlot
renumbered keep row = record {
  peer = row.peer;
  domain = row.domain;
  cuid = row.cuid;
  written = row.written;
  slot = number_in keep row.slot;
}

abbrev pub rows_moved : List ℕ → HeldRows → HeldRows
rows_moved keep rows = record { room = rows.room; rows = map (renumbered keep) rows.rows }
