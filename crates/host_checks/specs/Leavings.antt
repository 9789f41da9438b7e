-- What is told of entries that don't go over to other settings, and why.
use Rattle.std.specs.Prelude.{◌≡◌, ℕ, Bool, true, false, not, ◌&&◌, ◌||◌, ◌==◌, if◌then◌else◌, List, [], ◌∷◌, ◌++◌, codes, map, length, Option, Some, None}
use Rattle.std.specs.List.{list_any}
use Rattle.dots_settings.specs.declared.peer.Role.{Role}
use Rattle.dots_settings.specs.declared.peer.Role.TheVariants as role
use Rattle.dots_settings.specs.Settings.{SettingsValue}
use Rattle.dots_settings.specs.Lookups.{role_of}
use Rattle.dots_history.specs.declared.entry.Entry.{Entry}
use Rattle.dots_history.specs.Entries.{is_configuration, is_loss}
use Rattle.dots_history.specs.Rows.{waits}
use Rattle.dots_history.specs.Calm.{may_act, may_configure, is_client_of, is_of_settings}
use Rattle.dots_history.specs.Fits.{joins}
use Rattle.dots_history.specs.Filed.{Filed, entry_of}
use Rattle.dots_script.specs.Summary.{count_line}
use Rattle.host_checks.specs.declared.left_out.LeftOut.{LeftOut}
use Rattle.host_checks.specs.declared.left_out.LeftOut.TheVariants as left
use Rattle.host_checks.specs.EntryLines.{when_text, client_text, change_text}
use Rattle.host_checks.specs.Migrating.{carried, might_return, candidate, with_joined}

-- a peer of this role may ask for what the entry changes
abbrev pub may_ask : SettingsValue → Role → Entry → Bool
may_ask settings r e = if is_configuration e.change then may_configure r e.domain else may_act settings r e.domain

-- and is a client of the entry's domain, where only a client may be the peer
abbrev pub is_client_where_asked : Role → Entry → Bool
is_client_where_asked r e = (not (is_loss e.change) || is_client_of r e.domain) && (not (waits e.change) || is_client_of r e.domain)

abbrev pub is_stranger : Role → Bool
is_stranger role.Stranger = true
is_stranger _ = false

-- why an entry isn't the settings' own
abbrev pub cause_alone : SettingsValue → Entry → LeftOut
cause_alone settings e =
    if is_stranger (role_of settings e.peer) then left.PeerGone
    else if may_ask settings (role_of settings e.peer) e && is_client_where_asked (role_of settings e.peer) e then left.Outside
    else left.PeerElsewhere

-- why an entry doesn't join those that were taken
abbrev pub cause_among : SettingsValue → List Entry → Entry → Option LeftOut
cause_among new before e =
    if is_of_settings new e then (if joins new before e then None else Some left.NoRoom) else Some (cause_alone new e)

abbrev pub cause_carried : SettingsValue → List Entry → Option Entry → Option LeftOut
cause_carried new before None = Some left.DomainGone
cause_carried new before (Some e) = cause_among new before e

-- why an entry is left out, of one with those after it
abbrev pub cause_of : SettingsValue → SettingsValue → List Entry → Entry → List Entry → Option LeftOut
cause_of old new before e later = if might_return old new e later then Some left.Over else cause_carried new before (carried old new e)

-- ---- in words
abbrev pub cause_words : LeftOut → List ℕ
cause_words left.Over = codes "it is over, and its client loses a later one"
cause_words left.DomainGone = codes "its domain isn't there any more"
cause_words left.PeerGone = codes "its peer isn't there any more"
cause_words left.PeerElsewhere = codes "its peer isn't of the domain any more"
cause_words left.Outside = codes "a prefix or a host name isn't inside the domain"
cause_words left.NoRoom = codes "a capacity is full, or its client isn't registered"

-- `left out slot N at SECOND peer N domain NAME cuid NAME CHANGE: CAUSE`
unfoldable pub left_line : SettingsValue → ℕ → Entry → LeftOut → List ℕ
left_line old slot e why = codes "left out " ++ when_text slot e ++ client_text old e ++ change_text e.change ++ codes ": " ++ cause_words why ++ codes "\n"

-- the line of an entry that is left out, and none of one that is taken
abbrev pub left_text : SettingsValue → Filed → Option LeftOut → List ℕ
left_text old x None = []
left_text old x (Some why) = left_line old x.slot x.entry why

-- the lines of these entries, behind those that were taken
abbrev pub left_after : SettingsValue → SettingsValue → List Entry → List Filed → List ℕ
left_after old new before [] = []
left_after old new before (x ∷ later) =
    left_text old x (cause_of old new before x.entry (map entry_of later))
    ++ left_after old new (with_joined new before (candidate old new x.entry (map entry_of later))) later

-- how many entries there are, and the lines of those that are left out
abbrev pub told_of : SettingsValue → SettingsValue → List Filed → List ℕ
told_of old new filed = count_line (codes "entries that count") (length filed) ++ left_after old new [] filed
