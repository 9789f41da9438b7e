-- What two entries are to each other.
use Rattle.std.specs.Prelude.{ℕ, ◌+◌, ℤ, pos, negsuc, ◌+ℤ◌, int_lt, Bool, true, false, not, ◌&&◌, ◌||◌, ◌==◌, bytes_eq, nat_le, zero, List, Option, Some, None}
use Rattle.std.specs.List.{list_any}
use Rattle.ip_scope.specs.Prefix.{PrefixValue, meets}
use Rattle.dots_history.specs.declared.entry.Entry.{Entry}
use Rattle.dots_history.specs.declared.entry.MessageKey.{MessageKey}
use Rattle.dots_history.specs.declared.entry.MessageKey.TheVariants as key
use Rattle.dots_history.specs.declared.put.Put.{Put}
use Rattle.dots_history.specs.declared.put.Target.{Target}
use Rattle.dots_history.specs.declared.change.Change.{Change}
use Rattle.dots_history.specs.declared.change.Change.TheVariants as change

-- A client is a domain and a cuid (RFC 9132, section 4.4.1: a cuid is unique in its domain).
unfoldable pub same_client : Entry → Entry → Bool
same_client a b = (a.domain == b.domain) && bytes_eq a.cuid b.cuid

-- a prefix of these targets passes the test
abbrev pub some_prefix : (PrefixValue → Bool) → List Target → Bool
some_prefix test targets = list_any (λ target. list_any test target.prefixes) targets

-- a prefix of the one's targets meets one of the other's, so that both scrub the traffic to some address
unfoldable pub targets_meet : Put → Put → Bool
targets_meet a b = some_prefix (λ prefix. some_prefix (meets prefix) b.targets) a.targets

-- both were asked for by a common alias
unfoldable pub share_alias : Put → Put → Bool
share_alias a b = list_any (λ name. list_any (bytes_eq name) b.asked.aliases) a.asked.aliases

-- Two mitigations overlap where their targets meet; those of one client also where they share an alias (RFC 9132,
-- section 4.4.1: overlapping target-prefix, target-fqdn, target-uri or alias-name). Ports and protocols don't count,
-- and the targets are those that were fixed at acceptance.
unfoldable pub overlaps : Bool → Put → Put → Bool
overlaps of_one_client a b = targets_meet a b || (of_one_client && share_alias a b)

-- the mitigation of a change, where it is one
abbrev pub put_of : Change → Option Put
put_of (change.Put put) = Some put
put_of _ = None

-- the mid of a change that withdraws
abbrev pub withdrawn_mid : Change → Option ℕ
withdrawn_mid (change.Withdraw mid) = Some mid
withdrawn_mid _ = None

-- both are there, and the test holds of them
abbrev pub holds_of_both : {A B : Type 0} → (A → B → Bool) → Option A → Option B → Bool
holds_of_both test None other = false
holds_of_both test (Some a) None = false
holds_of_both test (Some a) (Some b) = test a b

-- both are true, or both are false
abbrev pub same_flag : Bool → Bool → Bool
same_flag true b = b
same_flag false b = not b

-- of two changes of one client, the later takes the place of the earlier
unfoldable pub replaces : Change → Change → Bool
replaces earlier later =
    holds_of_both (λ a b. (a.mid == b.mid) || (same_flag a.trigger b.trigger && overlaps true a b)) (put_of earlier) (put_of later)

-- A later mitigation of its client that has its mid or overlaps with it ends a mitigation (RFC 9132, section 4.4.1:
-- a refresh, or the higher mid of two that overlap; the lower one is then deactivated).
unfoldable pub ends : Entry → Entry → Bool
ends earlier later = same_client earlier later && replaces earlier.change later.change

-- of two changes of one client, the later withdraws the earlier
unfoldable pub takes_back : Change → Change → Bool
takes_back earlier later = holds_of_both (λ put mid. put.mid == mid) (put_of earlier) (withdrawn_mid later)

-- the later entry withdraws the mitigation (RFC 9132, section 4.4.4)
unfoldable pub withdraws : Entry → Entry → Bool
withdraws earlier later = same_client earlier later && takes_back earlier.change later.change

-- At time t a lifetime granted at another time isn't over; -1 is an indefinite one, and others are in seconds (RFC
-- 9132, section 4.4.1).
unfoldable pub granted_at : ℕ → ℕ → ℤ → Bool
granted_at t at (negsuc zero) = true
granted_at t at granted = int_lt (pos t) (pos at +ℤ granted)

-- it is there, and the test holds of it
abbrev pub option_any : {A : Type 0} → (A → Bool) → Option A → Bool
option_any test None = false
option_any test (Some x) = test x

-- a mitigation that was granted at this time isn't over at time t
unfoldable pub is_unexpired : ℕ → ℕ → Change → Bool
is_unexpired t at change = option_any (λ put. granted_at t at put.granted) (put_of change)

-- the entry is a mitigation, and its lifetime isn't over
unfoldable pub runs : ℕ → Entry → Bool
runs t entry = is_unexpired t entry.time entry.change

-- what the signal channel changes
unfoldable pub is_signal : Change → Bool
is_signal (change.Put put) = true
is_signal (change.Withdraw mid) = true
is_signal (change.SetConfig sid config) = true
is_signal change.ClearConfig = true
is_signal _ = false

-- a change that a message of the peer made for the domain on the signal channel
unfoldable pub signals : ℕ → ℕ → Entry → Bool
signals peer domain entry = is_signal entry.change && ((entry.peer == peer) && (entry.domain == domain))

-- The message of the entry had this Message ID and may still be repeated at time t: for 145 seconds where it was
-- non-confirmable, and for 247 where it was confirmable, the last of these among them (RFC 7252, section 4.8.2:
-- NON_LIFETIME and EXCHANGE_LIFETIME).
unfoldable pub may_repeat : ℕ → ℕ → ℕ → MessageKey → Bool
may_repeat t id at key.Http = false
may_repeat t id at (key.Non other) = (id == other) && nat_le t (at + 145)
may_repeat t id at (key.Con other) = (id == other) && nat_le t (at + 247)

-- what is held until a later change undoes it: registrations, aliases and access lists (RFC 8783, sections 5.1, 6.1
-- and 7.2), and session configurations (RFC 9132, section 4.5.2)
unfoldable pub is_held : Change → Bool
is_held change.Register = true
is_held (change.SetAlias alias) = true
is_held (change.SetAcl acl) = true
is_held (change.SetConfig sid config) = true
is_held change.Lost = true
is_held _ = false

-- the later change takes the alias of this name away: it writes it anew or deletes it, or its client leaves (RFC 8783,
-- sections 5.2, 6.1 and 6.3)
unfoldable pub undoes_alias : List ℕ → Change → Bool
undoes_alias name (change.SetAlias other) = bytes_eq name other.name
undoes_alias name (change.DropAlias other) = bytes_eq name other
undoes_alias name change.Deregister = true
undoes_alias name _ = false

-- the same of the access list of this name (RFC 8783, sections 5.2, 7.2 and 7.4)
unfoldable pub undoes_acl : List ℕ → Change → Bool
undoes_acl name (change.SetAcl other) = bytes_eq name other.name
undoes_acl name (change.DropAcl other) = bytes_eq name other
undoes_acl name change.Deregister = true
undoes_acl name _ = false

-- the client leaves (RFC 8783, section 5.2)
unfoldable pub is_deregister : Change → Bool
is_deregister change.Deregister = true
is_deregister _ = false

-- of two changes of one client, the later undoes the earlier
unfoldable pub undoes_of_client : Change → Change → Bool
undoes_of_client change.Register later = is_deregister later
undoes_of_client (change.SetAlias alias) later = undoes_alias alias.name later
undoes_of_client (change.SetAcl acl) later = undoes_acl acl.name later
undoes_of_client _ later = false

-- another session configuration takes the place of the one before, or it is deleted: a peer has one at most (RFC 9132,
-- sections 4.5.2 and 4.5.4)
unfoldable pub is_configuration : Change → Bool
is_configuration (change.SetConfig sid config) = true
is_configuration change.ClearConfig = true
is_configuration _ = false

-- of two changes of one peer, the later undoes the earlier
unfoldable pub undoes_of_peer : Change → Change → Bool
undoes_of_peer (change.SetConfig sid config) later = is_configuration later
undoes_of_peer _ later = false

-- the later entry changes the session configuration that the earlier set
unfoldable pub reconfigures : Entry → Entry → Bool
reconfigures earlier later = (earlier.peer == later.peer) && undoes_of_peer earlier.change later.change

-- the signal of a client peer is lost, and lost or back
unfoldable pub is_lost : Change → Bool
is_lost change.Lost = true
is_lost _ = false

unfoldable pub is_loss : Change → Bool
is_loss change.Lost = true
is_loss change.Back = true
is_loss _ = false

-- of two changes of one peer in its domain, the later says anew whether the signal is lost
unfoldable pub undoes_loss : Change → Change → Bool
undoes_loss earlier later = is_lost earlier && is_loss later

unfoldable pub resumes : Entry → Entry → Bool
resumes earlier later = (earlier.peer == later.peer) && ((earlier.domain == later.domain) && undoes_loss earlier.change later.change)

-- what the earlier entry wrote is no longer held after the later one
unfoldable pub undoes : Entry → Entry → Bool
undoes earlier later =
    (same_client earlier later && undoes_of_client earlier.change later.change) || (reconfigures earlier later || resumes earlier later)
