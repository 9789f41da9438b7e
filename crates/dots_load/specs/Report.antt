-- The report of a generated run: counts of its events, of its sends by their codes, and of the rows in the end.
use Rattle.std.specs.Prelude.{◌≡◌, ℕ, Bool, true, false, ◌==◌, ◌||◌, not, List, [], ◌∷◌, ◌++◌, codes, decimal, count_by}
use Rattle.dots_host.specs.declared.event.Event.{Event}
use Rattle.dots_host.specs.declared.event.Event.TheVariants as event
use Rattle.dots_host.specs.declared.out.OwnedOut.{OwnedOut}
use Rattle.dots_host.specs.declared.out.OwnedOut.TheVariants as owned
use Rattle.dots_host.specs.Acts.{WireAct, took, gave, Timed}
use Rattle.dots_host.specs.Memory.{Coming}

-- the events that were taken, each with the time beside it
abbrev pub coming_by : WireAct → List Coming
coming_by (took event at) = (record { event = event; at = at }) ∷ []
coming_by (gave out done) = []

abbrev pub coming_in : List Timed → List Coming
coming_in [] = []
coming_in (timed ∷ acts) = coming_by timed.act ++ coming_in acts

-- the sends that were given
abbrev pub sends_by : WireAct → List OwnedOut
sends_by (took event at) = []
sends_by (gave out done) = out ∷ []

abbrev pub sends_in : List Timed → List OwnedOut
sends_in [] = []
sends_in (timed ∷ acts) = sends_by timed.act ++ sends_in acts

-- an event other than End
abbrev pub is_no_end : Event → Bool
is_no_end event.End = false
is_no_end _ = true

-- The second byte of a datagram is its code (RFC 7252, section 3).
abbrev pub has_code : ℕ → OwnedOut → Bool
has_code code (owned.To peer (first ∷ second ∷ bytes)) = second == code
has_code code _ = false

-- 2.01, 2.04, 2.02, 2.05, 4.09 and 5.00 (RFC 7252, section 12.1.2, and RFC 8132, section 6)
abbrev pub created : OwnedOut → Bool
created = has_code 0x41

abbrev pub changed : OwnedOut → Bool
changed = has_code 0x44

abbrev pub deleted : OwnedOut → Bool
deleted = has_code 0x42

abbrev pub content : OwnedOut → Bool
content = has_code 0x45

abbrev pub conflict : OwnedOut → Bool
conflict = has_code 0x89

abbrev pub unavailable : OwnedOut → Bool
unavailable = has_code 0xa0

-- a send that is none of the first five
abbrev pub other : OwnedOut → Bool
other out = not (created out || (changed out || (deleted out || (content out || conflict out))))

-- no reply is 5.00
abbrev pub NoneUnavailable : List Timed → Type 0
NoneUnavailable acts = count_by unavailable (sends_in acts) ≡ 0

-- `NAME N` in a line each
abbrev pub lines : List (List ℕ × ℕ) → List ℕ
lines [] = []
lines (line ∷ rest) = line.0 ++ (codes " " ++ (decimal line.1 ++ (codes "\n" ++ lines rest)))

-- The report of a run by these acts, with so many rows in the end.
abbrev pub load_text : List Timed → ℕ → List ℕ
load_text acts rows =
    let sends = sends_in acts in
    lines ((codes "events", count_by (λ coming. is_no_end coming.event) (coming_in acts))
    ∷ (codes "created", count_by created sends) ∷ (codes "changed", count_by changed sends) ∷ (codes "deleted", count_by deleted sends)
    ∷ (codes "content", count_by content sends) ∷ (codes "conflict", count_by conflict sends) ∷ (codes "other", count_by other sends)
    ∷ (codes "rows", rows) ∷ [])
