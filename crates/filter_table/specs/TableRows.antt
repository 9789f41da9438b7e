-- The rows that a filter table holds, in order of place, and what each call makes of them.
use Rattle.std.specs.Prelude.{◌≡◌, ℕ, ◌+◌, ◌<◌, Bool, not, ◌&&◌, ◌==◌, nat_le, true, false, if◌then◌else◌, List, [], ◌∷◌, map, filter, Option, None, bytes_eq}
use Rattle.std.specs.List.{insert, prefix_len, find}
use Rattle.acl_lists.specs.declared.acl.Activation.{Activation}
use Rattle.acl_lists.specs.declared.acl.Activation.TheVariants.{WhenMitigating, Immediate, Deactivate}
use Rattle.acl_lists.specs.declared.rows.ScrubRow.{ScrubRow}
use Rattle.acl_lists.specs.declared.rows.AclRow.{AclRow}
use Rattle.filter_table.specs.declared.rank.Rank.{Rank}
use Rattle.filter_table.specs.Ranks as order
use Rattle.filter_table.specs.declared.placed.PlacedAcl.{PlacedAcl}

-- a row of a mitigation, the slot that it stands in, and its place among the others
pub record PlacedScrub : Type 0 where
  pub slot : ℕ
  pub place : ℕ
  pub row : ScrubRow

-- the rows of mitigations, in order of place, and how many there may be
pub record ScrubsValue : Type 0 where
  pub room : ℕ
  pub placed : List PlacedScrub

-- the rows of access lists, in order of place, and how many there may be
pub record AclsValue : Type 0 where
  pub room : ℕ
  pub placed : List PlacedAcl

-- the client of a row is the one of this name in this domain
abbrev pub is_of_client : ℕ → List ℕ → ℕ → List ℕ → Bool
is_of_client domain cuid row_domain row_cuid = (row_domain == domain) && bytes_eq row_cuid cuid

-- ---- rows of mitigations

-- the row that stands in a slot
abbrev pub scrub_in : ℕ → List PlacedScrub → Option PlacedScrub
scrub_in slot placed = find (λ (scrub : PlacedScrub). scrub.slot == slot) placed

-- one more row, behind those whose place is not greater
abbrev pub with_scrub : PlacedScrub → List PlacedScrub → List PlacedScrub
with_scrub scrub placed = insert placed (prefix_len (λ (other : PlacedScrub). nat_le other.place scrub.place) placed) scrub

-- rows put in one after the other, each into a slot that no row stands in, the first at this place and each other at the next one
abbrev pub AreInstalled : ℕ → ℕ → List ScrubRow → List PlacedScrub → List PlacedScrub → Type 0
AreInstalled room place [] placed later = later ≡ placed
AreInstalled room place (row ∷ rows) placed later =
    (slot : ℕ) × (slot < room) × (scrub_in slot placed ≡ None)
    × AreInstalled room (place + 1) rows (with_scrub (record { slot = slot; place = place; row = row }) placed) later

abbrev pub row_is_of : ℕ → List ℕ → ℕ → ScrubRow → Bool
row_is_of domain cuid mid row = is_of_client domain cuid row.domain row.cuid && (row.mid == mid)

-- the row is one of this mitigation
abbrev pub is_of : ℕ → List ℕ → ℕ → PlacedScrub → Bool
is_of domain cuid mid scrub = is_of_client domain cuid scrub.row.domain scrub.row.cuid && (scrub.row.mid == mid)

abbrev pub without_mitigation : ℕ → List ℕ → ℕ → List PlacedScrub → List PlacedScrub
without_mitigation domain cuid mid placed = filter (λ scrub. not (is_of domain cuid mid scrub)) placed

abbrev pub row_set : Bool → ScrubRow → ScrubRow
row_set active row = record {
  domain = row.domain;
  cuid = row.cuid;
  mid = row.mid;
  prefix = row.prefix;
  ports = row.ports;
  protocols = row.protocols;
  active = active;
}

abbrev pub row_woken : ℕ → List ℕ → ℕ → Bool → ScrubRow → ScrubRow
row_woken domain cuid mid active row = if row_is_of domain cuid mid row then row_set active row else row

abbrev pub scrub_set : Bool → PlacedScrub → PlacedScrub
scrub_set active scrub = record {
  slot = scrub.slot;
  place = scrub.place;
  row = record {
    domain = scrub.row.domain;
    cuid = scrub.row.cuid;
    mid = scrub.row.mid;
    prefix = scrub.row.prefix;
    ports = scrub.row.ports;
    protocols = scrub.row.protocols;
    active = active;
  };
}

-- a row of this mitigation is active or not, as said; another is as it was
abbrev pub woken : ℕ → List ℕ → ℕ → Bool → PlacedScrub → PlacedScrub
woken domain cuid mid active scrub = if is_of domain cuid mid scrub then scrub_set active scrub else scrub

abbrev pub scrub_at_place : ℕ → PlacedScrub → PlacedScrub
scrub_at_place place scrub = record { slot = scrub.slot; place = place; row = scrub.row }

abbrev pub place_of_scrub : PlacedScrub → ℕ
place_of_scrub scrub = scrub.place

-- where its prefix stands among the others
abbrev pub rank_of : PlacedScrub → Rank
rank_of scrub = order.rank_of scrub.row.prefix scrub.place scrub.slot

-- ---- rows of access lists

-- one more row, behind those whose place is not greater
abbrev pub with_acl : PlacedAcl → List PlacedAcl → List PlacedAcl
with_acl list placed = insert placed (prefix_len (λ (other : PlacedAcl). nat_le other.place list.place) placed) list

-- the row is that of this client's list of this name
abbrev pub is_named : ℕ → List ℕ → List ℕ → PlacedAcl → Bool
is_named domain cuid name list = is_of_client domain cuid list.row.domain list.row.cuid && bytes_eq list.row.acl.name name

abbrev pub without_acl : ℕ → List ℕ → List ℕ → List PlacedAcl → List PlacedAcl
without_acl domain cuid name placed = filter (λ list. not (is_named domain cuid name list)) placed

abbrev pub waits : Activation → Bool
waits WhenMitigating = true
waits Immediate = false
waits Deactivate = false

abbrev pub acl_set : Bool → PlacedAcl → PlacedAcl
acl_set active list = record {
  place = list.place;
  row = record { domain = list.row.domain; cuid = list.row.cuid; acl = list.row.acl; active = active };
}

-- a row of this client whose list is active while the client mitigates is active or not, as said; another is as it was
abbrev pub activated : ℕ → List ℕ → Bool → PlacedAcl → PlacedAcl
activated domain cuid active list =
    if is_of_client domain cuid list.row.domain list.row.cuid && waits list.row.acl.activation then acl_set active list else list

abbrev pub acl_at_place : ℕ → PlacedAcl → PlacedAcl
acl_at_place place list = record { place = place; row = list.row }

abbrev pub place_of_acl : PlacedAcl → ℕ
place_of_acl list = list.place

-- ---- places anew

-- the number of a row behind one of this place and number: the same where their places are equal, and else the next
abbrev pub number_after : ℕ → ℕ → ℕ → ℕ
number_after last number place = if place == last then number else number + 1

abbrev pub renumbered_from : {A : Type 0} → (A → ℕ) → (ℕ → A → A) → ℕ → ℕ → List A → List A
renumbered_from place_of at last number [] = []
renumbered_from place_of at last number (x ∷ xs) =
    at (number_after last number (place_of x)) x ∷ renumbered_from place_of at (place_of x) (number_after last number (place_of x)) xs

-- rows in order of place get places from 0 on in their order, where equal places stay equal
abbrev pub renumbered : {A : Type 0} → (A → ℕ) → (ℕ → A → A) → List A → List A
renumbered place_of at [] = []
renumbered place_of at (x ∷ xs) = renumbered_from place_of at (place_of x) 0 (x ∷ xs)

-- ---- what a table comes to

abbrev pub row_of_scrub : PlacedScrub → ScrubRow
row_of_scrub scrub = scrub.row

abbrev pub row_of_acl : PlacedAcl → AclRow
row_of_acl list = list.row

abbrev pub is_active : ScrubRow → Bool
is_active row = row.active

abbrev pub active_rows : List PlacedScrub → List ScrubRow
active_rows placed = filter is_active (map row_of_scrub placed)
