-- When what is kept of the live mitigations is what a history comes to at a time.
use Rattle.std.specs.Prelude.{◌≡◌, ℕ, ◌+◌, ◌<◌, if◌then◌else◌, Bool, true, not, ◌&&◌, ◌||◌, ◌==◌, nat_le, nat_lt, List, [], ◌∷◌, ◌++◌, map, filter, length, slice_get, Some}
use Rattle.std.specs.List.{list_all, list_any}
use Rattle.dots_settings.specs.declared.limits.Limits.{Limits}
use Rattle.dots_history.specs.declared.entry.Entry.{Entry}
use Rattle.dots_history.specs.declared.put.Put.{Put}
use Rattle.dots_history.specs.Entries.{same_client, put_of, option_any}
use Rattle.dots_history.specs.Histories.{Mitigation, Within, tally, mitigations, alone}
use Rattle.dots_history.specs.Filed.{Filed}
use Rattle.dots_history.specs.Tables.{bare, is_due}
use Rattle.dots_history.specs.Views.{mitigations_at}
use Rattle.live_mitigations.specs.Rows.{LiveTable, rows_at, slots_of, count_rows, is_left, lives_at_first}
use Rattle.live_mitigations.specs.Slots.{live_slots, slots_at}

-- What is kept: how many domains there are, how much there is room for, the time, and a table of each domain.
pub record LiveValue : Type 0 where
  pub domains : ℕ
  pub limits : Limits
  pub time : ℕ
  pub tables : List LiveTable

-- the mitigations that are kept of a domain
abbrev pub rows_for : LiveValue → ℕ → List Mitigation
rows_for live domain = rows_at domain live.tables

-- how many are kept of all domains
abbrev pub count_live : LiveValue → ℕ
count_live live = count_rows live.tables

-- but for the mitigations the two are the same
pub record SameButRows (old new : LiveValue) : Type 0 where
  pub domains : new.domains ≡ old.domains
  pub limits : new.limits ≡ old.limits
  pub time : new.time ≡ old.time

-- a mitigation of this domain is over by this time
abbrev pub has_due : ℕ → LiveValue → ℕ → Bool
has_due now live domain = list_any (is_due now) (rows_for live domain)

-- the entry puts a mitigation
abbrev pub puts : Entry → Bool
puts e = option_any (λ (put : Put). true) (put_of e.change)

-- an entry that puts a mitigation is of one of the domains
abbrev pub is_inside : ℕ → Entry → Bool
is_inside domains e = not (puts e) || nat_lt e.domain domains

-- The tables are those of the domains, each with the room that the limits say.
pub record AreTables (live : LiveValue) : Type 0 where
  pub number : length live.tables ≡ live.domains
  pub rooms : (domain : ℕ) (table : LiveTable) → slice_get live.tables domain ≡ Some table → table.room ≡ live.limits.domain_mitigations

-- What is kept represents a history: of each domain it is what the domain's own entries come to at the time, without the
-- messages and the replies.
pub record Represents (live : LiveValue) (entries : List Entry) : Type 0 where
  pub in_order : Within 0 entries live.time
  pub inside : list_all (is_inside live.domains) entries ≡ true
  pub are_tables : AreTables live
  pub rows : (domain : ℕ) → domain < live.domains → rows_for live domain ≡ mitigations live.time (alone domain (map bare entries))

-- The same but for what is over by a later time: what is left of it at that time is what the history comes to then.
pub record ComesTo (now : ℕ) (live : LiveValue) (entries : List Entry) : Type 0 where
  pub in_order : Within 0 entries now
  pub inside : list_all (is_inside live.domains) entries ≡ true
  pub are_tables : AreTables live
  pub rows : (domain : ℕ) → domain < live.domains → mitigations_at now (rows_for live domain) ≡ mitigations now (alone domain (map bare entries))

-- In these live mitigations the entry's domain and its client keep the capacities: standing ones count, and terminating
-- ones too.
abbrev pub keeps_live_room : Limits → Entry → List Mitigation → Bool
keeps_live_room limits e ms =
    nat_le (tally (λ (m : Mitigation). m.put.domain == e.domain) ms) limits.domain_mitigations
    && nat_le (tally (λ (m : Mitigation). same_client e m.put) ms) limits.client_mitigations

-- the same by those that are kept of its domain
abbrev pub keeps_limits : Limits → Entry → List Mitigation → Bool
keeps_limits limits e kept =
    nat_le (tally (is_left e) kept + (if lives_at_first e then 1 else 0)) limits.domain_mitigations
    && nat_le (tally (λ (m : Mitigation). is_left e m && same_client e m.put) kept + (if lives_at_first e then 1 else 0)) limits.client_mitigations

-- with the entry, at its time, a history keeps the capacities
abbrev pub has_live_room : Limits → List Entry → Entry → Bool
has_live_room limits entries e = keeps_live_room limits e (mitigations e.time (entries ++ e ∷ []))

-- ---- the slots of a history whose entries stand in slots of a journal

-- those of a domain
abbrev pub filed_alone : ℕ → List Filed → List Filed
filed_alone domain filed = filter (λ (x : Filed). x.entry.domain == domain) filed

-- At this time the slots that are kept of each domain are those of its live mitigations.
abbrev pub SlotsAre : ℕ → List LiveTable → List Filed → Type 0
SlotsAre t tables filed = (domain : ℕ) → domain < length tables → slots_of domain tables ≡ live_slots t (filed_alone domain filed)

-- The same but for those of mitigations that are over by a later time: those that are left at that time are the ones of the history
-- then.
pub record SlotsCome (now : ℕ) (tables : List LiveTable) (filed : List Filed) : Type 0 where
  pub beside : (domain : ℕ) → domain < length tables → length (rows_at domain tables) ≡ length (slots_of domain tables)
  pub left : (domain : ℕ) → domain < length tables
      → slots_at now (rows_at domain tables) (slots_of domain tables) ≡ live_slots now (filed_alone domain filed)
