-- What the tables of a server cite of a history.
use Rattle.std.specs.Prelude.{ℕ, zero, ℤ, pos, negsuc, ◌+ℤ◌, ◌-ℤ◌, ◌+◌, int_lt, Bool, true, false, not, ◌&&◌, ◌==◌, bytes_eq, if◌then◌else◌, ◌≡◌, List, [], ◌∷◌, ◌++◌, filter, Option, Some, None}
use Rattle.std.specs.List.{list_any}
use Rattle.dots_history.specs.declared.entry.Entry.{Entry}
use Rattle.dots_history.specs.declared.entry.MessageKey.TheVariants as key
use Rattle.dots_history.specs.declared.put.Put.{Put}
use Rattle.dots_history.specs.declared.status.Status.{Status}
use Rattle.dots_history.specs.declared.status.Status.TheVariants.{Ended, Open, Withdrawn}
use Rattle.dots_history.specs.declared.change.Change.{Change}
use Rattle.dots_history.specs.declared.change.Change.TheVariants as change
use Rattle.dots_history.specs.Entries.{same_client, put_of, holds_of_both, overlaps, option_any, runs, signals, same_flag}
use Rattle.dots_history.specs.Histories.{Mitigation}
use Rattle.dots_history.specs.Places.{lasts}

-- a client is a domain and a cuid (RFC 9132, section 4.4.1)
pub record Client : Type 0 where
  pub domain : ℕ
  pub cuid : List ℕ

abbrev pub client_of : Entry → Client
client_of e = record { domain = e.domain; cuid = e.cuid }

-- the entry is of the client
unfoldable pub is_of : Client → Entry → Bool
is_of client e = (client.domain == e.domain) && bytes_eq client.cuid e.cuid

-- an entry without its message and its reply
abbrev pub bare : Entry → Entry
bare e = record {
  time = e.time;
  peer = e.peer;
  domain = e.domain;
  cuid = e.cuid;
  key = key.Http;
  reply = [];
  change = e.change;
}

abbrev pub bare_mitigation : Mitigation → Mitigation
bare_mitigation m = record { put = bare m.put; status = m.status }

-- the entry is a mitigation of this mid
abbrev pub has_mid : ℕ → Entry → Bool
has_mid mid e = option_any (λ (put : Put). put.mid == mid) (put_of e.change)

abbrev pub same_overlap : Put → Put → Bool
same_overlap a b = same_flag a.trigger b.trigger && overlaps true a b

-- both are mitigations of one client with one trigger value, and overlap
unfoldable pub overlap_of_client : Entry → Entry → Bool
overlap_of_client a b = same_client a b && holds_of_both same_overlap (put_of a.change) (put_of b.change)

-- no later one of these overlaps with an earlier one of its client
abbrev pub AreApart : List Mitigation → Type 0
AreApart [] = Unit {0}
AreApart (m ∷ ms) = (list_any (λ (x : Mitigation). overlap_of_client m.put x.put) ms ≡ false) × AreApart ms

-- the change writes the alias of this name, the access list of this name, a session configuration
unfoldable pub writes_alias : List ℕ → Change → Bool
writes_alias name (change.SetAlias alias) = bytes_eq name alias.name
writes_alias name _ = false

unfoldable pub writes_acl : List ℕ → Change → Bool
writes_acl name (change.SetAcl acl) = bytes_eq name acl.name
writes_acl name _ = false

-- When a mitigation is over: from the start, at a second, which may lie before every time since a grant may be
-- negative, or never.
pub data End : Type 0 where
  Over : End
  Until : ℤ → End
  Never : End

abbrev pub end_of_grant : ℕ → ℤ → End
end_of_grant at (negsuc zero) = Never
end_of_grant at granted = Until (pos at +ℤ granted)

abbrev pub end_of_put : ℕ → Option Put → End
end_of_put at None = Over
end_of_put at (Some put) = end_of_grant at put.granted

-- By what the later entries have done to it: the end of its lifetime, or of the 120 seconds after its withdrawal, where
-- that came before the end of its lifetime (RFC 9132, sections 4.4.1 and 4.4.4).
abbrev pub end_of : Entry → Status → End
end_of put Ended = Over
end_of put Open = end_of_put put.time (put_of put.change)
end_of put (Withdrawn at) = if runs at put then Until (pos (at + 120)) else Over

-- the end hasn't come at time t
abbrev pub is_before : ℕ → End → Bool
is_before t Over = false
is_before t (Until end) = int_lt (pos t) end
is_before t Never = true

-- the seconds until then, -1 where it never comes
abbrev pub seconds_until : ℕ → End → ℤ
seconds_until t Over = pos 0
seconds_until t (Until end) = end -ℤ pos t
seconds_until t Never = negsuc zero

-- the mitigation is over at time u
abbrev pub is_due : ℕ → Mitigation → Bool
is_due u m = not (is_before u (end_of m.put m.status))

-- the last n signal entries of one peer and domain
abbrev pub ring : ℕ → ℕ → ℕ → List Entry → List Entry
ring n peer domain entries = lasts n (filter (signals peer domain) entries)

-- one more at the end of the last n
abbrev pub pushed : {A : Type 0} → ℕ → A → List A → List A
pushed n x xs = lasts n (xs ++ x ∷ [])
