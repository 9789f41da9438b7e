-- Which entries of a history matter from a time on: those that its view names.
use Rattle.std.specs.Prelude.{◌≡◌, ℕ, ◌+◌, Bool, true, false, ◌&&◌, ◌||◌, if◌then◌else◌, List, [], ◌∷◌, ◌++◌, map, Some}
use Rattle.std.specs.List.{list_any, All}
use Rattle.dots_history.specs.declared.entry.Entry.{Entry}
use Rattle.dots_history.specs.declared.status.Status.{Status}
use Rattle.dots_history.specs.declared.status.Status.TheVariants.{Open}
use Rattle.dots_history.specs.Entries.{ends, withdraws}
use Rattle.dots_history.specs.Histories.{Mitigation, sieve, live, status, step, mitigations, is_recent, is_nil, stays}

abbrev pub is_open : Status → Bool
is_open Open = true
is_open _ = false

-- the entry is the first withdrawal of a mitigation before it, which is live in the end
abbrev pub is_first : ℕ → Entry → List Entry → Mitigation → Bool
is_first t e later m = (is_open m.status && withdraws m.put e) && live t m.put (status m.put (step m.put m.status e) later)

-- The view names an entry, given those before it with what was done to each so far, and those after it: it is a live
-- mitigation or the withdrawal of one, among the last n signal entries of its peer and domain, the last entry, or held.
abbrev pub names : ℕ → ℕ → List Mitigation → Entry → List Entry → Bool
names n t passed e later =
    (live t e (status e Open later) || list_any (is_first t e later) passed)
    || ((is_recent n e later || is_nil later) || stays e later)

-- what one more entry does to an entry before it
abbrev pub moved : Entry → Mitigation → Mitigation
moved e m = record { put = m.put; status = step m.put m.status e }

-- the entries so far, each with what was done to it, and one more
abbrev pub pass : List Mitigation → Entry → List Mitigation
pass passed e = map (moved e) passed ++ record { put = e; status = Open } ∷ []

-- the entries that a test keeps, which sees those before each and those after it
abbrev pub kept_by : (List Mitigation → Entry → List Entry → Bool) → List Mitigation → List Entry → List Entry
kept_by keep passed [] = []
kept_by keep passed (e ∷ later) =
    if keep passed e later then e ∷ kept_by keep (pass passed e) later else kept_by keep (pass passed e) later

-- the entries that the view names, in order
abbrev pub kept : ℕ → ℕ → List Entry → List Entry
kept n t entries = kept_by (names n t) [] entries

-- their places, of which the first is the given one
abbrev pub kept_places : (List Mitigation → Entry → List Entry → Bool) → List Mitigation → ℕ → List Entry → List ℕ
kept_places keep passed at [] = []
kept_places keep passed at (e ∷ later) =
    if keep passed e later then at ∷ kept_places keep (pass passed e) (at + 1) later
    else kept_places keep (pass passed e) (at + 1) later

-- each entry with what those after it have done to it
abbrev pub tracks : List Entry → List Mitigation
tracks entries = sieve (λ e later. Some (record { put = e; status = status e Open later })) entries

-- an entry has the peer of each mitigation before it that it ends or withdraws and that is live at its time
abbrev pub HasPeerOfEach : List Entry → Entry → Type 0
HasPeerOfEach entries e =
    All (λ (m : Mitigation). ends m.put e || withdraws m.put e ≡ true → e.peer ≡ m.put.peer) (mitigations e.time entries)
