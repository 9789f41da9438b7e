-- The rows of the filter table that a history comes to at a time, and the fate of a packet by them.
use Rattle.std.specs.Prelude.{ℕ, Bool, true, false, ◌&&◌, ◌||◌, ◌==◌, List, [], ◌∷◌, ◌++◌, not, map, filter, Option, Some, None, option_to_list}
use Rattle.std.specs.List.{list_any, flat_map}
use Rattle.ip_scope.specs.Prefix.{PrefixValue}
use Rattle.acl_lists.specs.declared.acl.Acl.{Acl}
use Rattle.acl_lists.specs.declared.acl.Activation.{Activation}
use Rattle.acl_lists.specs.declared.acl.Activation.TheVariants.{WhenMitigating, Immediate, Deactivate}
use Rattle.acl_lists.specs.declared.packet.Packet.{Packet}
use Rattle.acl_lists.specs.declared.rows.ScrubRow.{ScrubRow}
use Rattle.acl_lists.specs.declared.rows.AclRow.{AclRow}
use Rattle.acl_lists.specs.Fates.{Fate, fate_by_rows}
use Rattle.dots_history.specs.declared.entry.Entry.{Entry}
use Rattle.dots_history.specs.declared.put.Target.{Target}
use Rattle.dots_history.specs.declared.change.Change.{Change}
use Rattle.dots_history.specs.declared.change.Change.TheVariants as change
use Rattle.dots_history.specs.Entries.{same_client, option_any, is_lost}
use Rattle.dots_history.specs.Histories.{Mitigation, mitigations, held}

-- A scrub row: the mitigation that it is of, whose domain, cuid and mid are the row's, one of its targets, whose ports
-- and protocols are the row's, and one prefix of the target.
pub record Row : Type 0 where
  pub put : Entry
  pub target : Target
  pub prefix : PrefixValue

abbrev pub targets_of : Change → List Target
targets_of (change.Put put) = put.targets
targets_of _ = []

-- a row for each prefix of each target, in order
abbrev pub rows_of : Entry → List Row
rows_of put =
    flat_map
    (λ (target : Target). map (λ (prefix : PrefixValue). record { put = put; target = target; prefix = prefix }) target.prefixes)
    (targets_of put.change)

-- the scrub rows: those of each live mitigation, in order of the entries
abbrev pub scrub_rows : ℕ → List Entry → List Row
scrub_rows t entries = flat_map (λ (m : Mitigation). rows_of m.put) (mitigations t entries)

abbrev pub acl_of : Change → Option Acl
acl_of (change.SetAcl acl) = Some acl
acl_of _ = None

-- the list rows: the access lists that are held, in order of their writing
abbrev pub list_rows : List Entry → List Entry
list_rows entries = filter (λ e. option_any (λ acl. true) (acl_of e.change)) (held entries)

-- the mitigation filters at once, and not only while the signal of its client is lost
abbrev pub triggers : Change → Bool
triggers (change.Put put) = put.trigger
triggers _ = false

-- it filters only while the signal of its client is lost
abbrev pub waits : Change → Bool
waits (change.Put put) = not put.trigger
waits _ = false

-- the entry says that the signal of this peer is lost
abbrev pub loses : ℕ → ℕ → Entry → Bool
loses peer domain e = is_lost e.change && ((e.peer == peer) && (e.domain == domain))

-- it is lost, by what is held
abbrev pub is_lost_in : List Entry → ℕ → ℕ → Bool
is_lost_in standing peer domain = list_any (loses peer domain) standing

-- a live mitigation is active
abbrev pub works : List Entry → Entry → Bool
works standing put = triggers put.change || is_lost_in standing put.peer put.domain

abbrev pub mitigates_by : List Entry → ℕ → List Entry → Entry → Bool
mitigates_by standing t entries e = list_any (λ m. same_client e m.put && works standing m.put) (mitigations t entries)

-- an active mitigation of the entry's client is live
abbrev pub is_mitigating : ℕ → List Entry → Entry → Bool
is_mitigating t entries e = mitigates_by (held entries) t entries e

-- a list that was written by this entry is active (RFC 8783, section 7.2: `activation-type`)
abbrev pub is_active : ℕ → List Entry → Entry → Activation → Bool
is_active t entries e Immediate = true
is_active t entries e WhenMitigating = is_mitigating t entries e
is_active t entries e Deactivate = false

abbrev pub mid_of : Change → ℕ
mid_of (change.Put put) = put.mid
mid_of _ = 0

-- the row as a filter table holds it
abbrev pub plain_row : List Entry → Row → ScrubRow
plain_row standing row = record {
  domain = row.put.domain;
  cuid = row.put.cuid;
  mid = mid_of row.put.change;
  prefix = row.prefix;
  ports = row.target.ports;
  protocols = row.target.protocols;
  active = works standing row.put;
}

-- the scrub rows of a history; each filters where its mitigation is active
abbrev pub plain_rows : ℕ → List Entry → List ScrubRow
plain_rows t entries = map (plain_row (held entries)) (scrub_rows t entries)

-- the row of the list that an entry wrote, where it wrote one
abbrev pub acl_row : ℕ → List Entry → Entry → Option Acl → Option AclRow
acl_row t entries e None = None
acl_row t entries e (Some acl) =
    Some (record { domain = e.domain; cuid = e.cuid; acl = acl; active = is_active t entries e acl.activation })

-- of what these entries wrote, by what the history comes to
abbrev pub acl_rows_of : ℕ → List Entry → List Entry → List AclRow
acl_rows_of t entries [] = []
acl_rows_of t entries (e ∷ es) = option_to_list (acl_row t entries e (acl_of e.change)) ++ acl_rows_of t entries es

-- the list rows of a history
abbrev pub acl_rows : ℕ → List Entry → List AclRow
acl_rows t entries = acl_rows_of t entries (list_rows entries)

-- the fate of a packet is what the rows make of it
abbrev pub fate : (ℕ → List PrefixValue) → ℕ → List Entry → Packet → Fate
fate prefixes t entries packet = fate_by_rows prefixes (plain_rows t entries) (acl_rows t entries) packet
