-- The fate of a packet by the rows of a filter table.
use Rattle.std.specs.Prelude.{ℕ, Bool, ◌&&◌, max, if◌then◌else◌, List, [], ◌∷◌, map, filter, find, Option, Some, None}
use Rattle.ip_scope.specs.Prefix.{PrefixValue}
use Rattle.acl_lists.specs.declared.ace.Ace.{Ace}
use Rattle.acl_lists.specs.declared.acl.Acl.{Acl}
use Rattle.acl_lists.specs.declared.packet.Packet.{Packet}
use Rattle.acl_lists.specs.Matching.{ace_matches}
use Rattle.acl_lists.specs.declared.rows.ScrubRow.{ScrubRow}
use Rattle.acl_lists.specs.declared.rows.AclRow.{AclRow}
use Rattle.acl_lists.specs.RowMatching.{is_scrubbed}

-- what becomes of a packet; a list is told by its name, a mitigation by its mid
pub data Fate : Type 0 where
  Pass : Fate
  Accepted : List ℕ → Fate
  Dropped : List ℕ → Fate
  Scrubbed : ℕ → Fate

-- the first, or the second where there is none
abbrev pub or_else : {A : Type 0} → Option A → Option A → Option A
or_else (Some x) other = Some x
or_else None other = other

abbrev pub decision_by : Acl → Option Ace → Option Fate
decision_by acl None = None
decision_by acl (Some ace) = Some (if ace.accept then Accepted acl.name else Dropped acl.name)

-- what the first entry of a list that matches does, in a domain of these prefixes (RFC 8519, section 2)
abbrev pub decision : List PrefixValue → Packet → Acl → Option Fate
decision domain packet acl = decision_by acl (find (λ ace. ace_matches acl ace domain packet) acl.aces)

-- what an active list says; each domain has its prefixes
abbrev pub decision_of_row : (ℕ → List PrefixValue) → Packet → AclRow → Option Fate
decision_of_row prefixes packet row = if row.active then decision (prefixes row.domain) packet row.acl else None

-- what the first list that matches says
abbrev pub decision_of_rows : (ℕ → List PrefixValue) → Packet → List AclRow → Option Fate
decision_of_rows prefixes packet [] = None
decision_of_rows prefixes packet (row ∷ rows) =
    or_else (decision_of_row prefixes packet row) (decision_of_rows prefixes packet rows)

-- the row is active and matches
abbrev pub scrubs : Packet → ScrubRow → Bool
scrubs packet row = row.active && is_scrubbed row.prefix row.protocols row.ports packet

abbrev pub greatest_from : ℕ → Option ℕ → ℕ
greatest_from x None = x
greatest_from x (Some y) = max x y

-- the greatest, where there is one
abbrev pub greatest : List ℕ → Option ℕ
greatest [] = None
greatest (x ∷ xs) = Some (greatest_from x (greatest xs))

-- the greatest mid of the rows that scrub the packet
abbrev pub scrubbing_mid : Packet → List ScrubRow → Option ℕ
scrubbing_mid packet rows = greatest (map (λ (row : ScrubRow). row.mid) (filter (scrubs packet) rows))

abbrev pub fate_by : Option Fate → Option ℕ → Fate
fate_by (Some decided) mid = decided
fate_by None (Some mid) = Scrubbed mid
fate_by None None = Pass

-- What the first matching entry of the active lists says; else the packet is scrubbed by the greatest mid of the active
-- scrub rows that match; else it passes.
abbrev pub fate_by_rows : (ℕ → List PrefixValue) → List ScrubRow → List AclRow → Packet → Fate
fate_by_rows prefixes rows lists packet = fate_by (decision_of_rows prefixes packet lists) (scrubbing_mid packet rows)
