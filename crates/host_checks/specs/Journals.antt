-- What is said of the journal that a host file names.
use Rattle.std.specs.Prelude.{◌≡◌, ℕ, ◌+◌, ◌-◌, ◌/◌, Bool, true, false, ◌&&◌, nat_le, if◌then◌else◌, List, [], ◌∷◌, ◌++◌, length, codes, decimal, Option, Some, None, ⊤}
use Rattle.dots_settings.specs.Settings.{SettingsValue}
use Rattle.dots_history.specs.declared.entry.Entry.{Entry}
use Rattle.slot_journal.specs.declared.fault.JournalFault.{JournalFault}
use Rattle.slot_journal.specs.declared.fault.JournalFault.TheVariants as fault
use Rattle.slot_journal.specs.DiskEntries.{HasEntries}
use Rattle.slot_journal.specs.Refused.{Refuses}
use Rattle.slot_journal.specs.Sizes.{slots_of}
use Rattle.dots_script.specs.Summary.{count_line}
use Rattle.host_checks.specs.declared.journal_state.JournalState.{JournalState}
use Rattle.host_checks.specs.declared.journal_state.JournalState.TheVariants as state
use Rattle.host_checks.specs.Findings.{numbered}

-- the time of the last of the entries, or that found before
abbrev pub last_behind : Option ℕ → List Entry → Option ℕ
last_behind found [] = found
last_behind found (entry ∷ entries) = last_behind (Some entry.time) entries

abbrev pub last_of : List Entry → Option ℕ
last_of entries = last_behind None entries

-- how many seconds the last entry is ahead of the clock, by which it may be an hour: more is a clock that was wrong, now or then
abbrev pub is_ahead : ℕ → Option ℕ → Bool
is_ahead now None = false
is_ahead now (Some last) = nat_le (now + 3601) last

unfoldable pub last_line : Option ℕ → List ℕ
last_line None = []
last_line (Some last) = count_line (codes "second of the last entry") last

-- a restart reads 250 entries a second at least, with the greatest settings
abbrev pub restart_seconds : ℕ → ℕ
restart_seconds used = used / 250 + 1

unfoldable pub ahead_line : ℕ → Option ℕ → List ℕ
ahead_line now None = []
ahead_line now (Some last) =
    if is_ahead now (Some last)
    then numbered (codes "fault: the last entry is ahead of the clock by ") (last - now) (codes " seconds\n") else []

unfoldable pub entries_count : ℕ → List ℕ
entries_count number = count_line (codes "entries of the journal") number

unfoldable pub slots_count : ℕ → List ℕ
slots_count number = count_line (codes "slots of a half") number

-- how many entries the journal has and may have, and the second of the last
unfoldable pub amounts_text : ℕ → ℕ → Option ℕ → List ℕ
amounts_text used slots last = entries_count used ++ slots_count slots ++ last_line last

unfoldable pub restart_line : ℕ → List ℕ
restart_line used = count_line (codes "seconds of a restart at most") (restart_seconds used)

unfoldable pub filled_text : ℕ → ℕ → ℕ → Option ℕ → List ℕ
filled_text now used slots last = amounts_text used slots last ++ restart_line used ++ ahead_line now last

-- with what status a server ends for the fault
unfoldable pub refused_text : JournalFault → List ℕ
refused_text (fault.TooSmall needed found) = codes "fault 10: the journal has fewer bytes than it needs\n"
refused_text (fault.NotOurs at) = numbered (codes "fault 7: what stands in the journal is no journal's at byte ") at (codes "\n")
refused_text (fault.SettingsChanged stored given) = codes "fault 8: the journal was written under other settings\n"
refused_text fault.DiskFault = codes "fault 6: the journal can't be read\n"
refused_text fault.NoMemory = []

unfoldable pub journal_text : ℕ → JournalState → List ℕ
journal_text now state.Missing = codes "journal: not there yet\n"
journal_text now state.Blank = codes "journal: empty\n"
journal_text now state.NotOne = codes "fault 6: at the path of the journal stands what is no journal\n"
journal_text now state.Unreadable = codes "fault 6: the journal can't be read\n"
journal_text now (state.Refused why) = refused_text why
journal_text now (state.Filled used slots last) = filled_text now used slots last

-- a server starts with it
abbrev pub is_fit : ℕ → JournalState → Bool
is_fit now state.Missing = true
is_fit now state.Blank = true
is_fit now state.NotOne = false
is_fit now state.Unreadable = false
is_fit now (state.Refused why) = false
is_fit now (state.Filled used slots last) = if is_ahead now last then false else true

-- What was found on a disk of this size that seems so: the entries that it holds, or why a server refuses it.
abbrev pub IsFound : SettingsValue → ℕ → (ℕ → ℕ) → JournalState → Type 0
IsFound settings extent seen (state.Filled used slots last) =
    (entries : List Entry) × HasEntries settings seen entries × (used ≡ length entries) × (slots ≡ slots_of settings) × (last ≡ last_of entries)
IsFound settings extent seen (state.Refused why) = Refuses settings extent seen why
IsFound settings extent seen _ = ⊤
