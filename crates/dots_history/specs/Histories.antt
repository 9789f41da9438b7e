-- What a list of entries comes to at a time, by what the later entries have done to each. `Places` says the same by
-- places in the list.
use Rattle.std.specs.Prelude.{◌≡◌, ℕ, zero, ℤ, pos, negsuc, ◌+ℤ◌, ◌-ℤ◌, ◌+◌, ◌≤◌, ◌<◌, ◌^◌, Bool, true, false, ◌&&◌, ◌||◌, ◌==◌, not, if◌then◌else◌, nat_lt, List, [], ◌∷◌, ◌++◌, filter, Option, Some, None, option_to_list, ◌⊎◌}
use Rattle.std.specs.List.{list_any}
use Rattle.dots_history.specs.declared.entry.Entry.{Entry}
use Rattle.dots_history.specs.declared.status.Status.{Status}
use Rattle.dots_history.specs.declared.status.Status.TheVariants.{Ended, Open, Withdrawn}
use Rattle.dots_history.specs.declared.put.Put.{Put}
use Rattle.dots_history.specs.Entries.{put_of, ends, withdraws, runs, is_signal, signals, may_repeat, is_held, undoes, reconfigures}

-- times don't fall, from one bound to the other
abbrev pub Within : ℕ → List Entry → ℕ → Type 0
Within low [] high = low ≤ high
Within low (e ∷ later) high = (low ≤ e.time) × Within e.time later high

-- a history: the times of its entries don't fall, and are below 2^48
abbrev pub IsHistory : List Entry → Type 0
IsHistory entries = (last : ℕ) × (last < 2 ^ 48) × Within 0 entries last

-- what each entry comes to by those after it, in order
abbrev pub sieve : {A B : Type 0} → (A → List A → Option B) → List A → List B
sieve pick [] = []
sieve pick (x ∷ later) = option_to_list (pick x later) ++ sieve pick later

-- the entries that pass a test which sees those after each
abbrev pub kept_where : (Entry → List Entry → Bool) → List Entry → List Entry
kept_where test entries = sieve (λ e later. if test e later then Some e else None) entries

-- The status of a mitigation after one more entry. Once withdrawn it stays so: a second withdrawal changes nothing.
abbrev pub step : Entry → Status → Entry → Status
step put Ended e = Ended
step put Open e = if ends put e then Ended else (if withdraws put e then Withdrawn e.time else Open)
step put (Withdrawn at) e = if ends put e then Ended else Withdrawn at

-- its status after these entries
abbrev pub status : Entry → Status → List Entry → Status
status put s [] = s
status put s (e ∷ later) = status put (step put s e) later

-- it isn't withdrawn nor ended, and its lifetime isn't over
abbrev pub stands : ℕ → Entry → Status → Bool
stands t put Open = runs t put
stands t put _ = false

-- It was withdrawn while its lifetime wasn't over, less than 120 seconds ago (RFC 9132, section 4.4.4: the server
-- goes on for an active-but-terminating period, by default 120 seconds).
abbrev pub terminates : ℕ → Entry → Status → Bool
terminates t put (Withdrawn at) = runs at put && nat_lt t (at + 120)
terminates t put _ = false

-- a mitigation is live where it stands or terminates
abbrev pub live : ℕ → Entry → Status → Bool
live t put s = stands t put s || terminates t put s

-- a mitigation with its status
pub record Mitigation : Type 0 where
  pub put : Entry
  pub status : Status

abbrev pub if_live : ℕ → Entry → Status → Option Mitigation
if_live t put s = if live t put s then Some (record { put = put; status = s }) else None

-- the live mitigations, each with its status
abbrev pub mitigations : ℕ → List Entry → List Mitigation
mitigations t entries = sieve (λ e later. if_live t e (status e Open later)) entries

-- the seconds until a lifetime granted at this time is over, or -1 where it is indefinite
abbrev pub seconds_of : ℕ → ℕ → ℤ → ℤ
seconds_of t at (negsuc zero) = negsuc zero
seconds_of t at granted = pos at +ℤ granted -ℤ pos t

abbrev pub seconds_of_grant : ℕ → ℕ → Option Put → ℤ
seconds_of_grant t at None = pos 0
seconds_of_grant t at (Some put) = seconds_of t at put.granted

-- The seconds left of a live mitigation: of its lifetime where it stands, else until 120 seconds after its withdrawal
-- (RFC 9132, sections 4.4.2 and 4.4.4).
abbrev pub seconds_left : ℕ → Entry → Status → ℤ
seconds_left t put Open = seconds_of_grant t put.time (put_of put.change)
seconds_left t put (Withdrawn at) = pos (at + 120) -ℤ pos t
seconds_left t put Ended = pos 0

-- how many pass
abbrev pub tally : {A : Type 0} → (A → Bool) → List A → ℕ
tally test [] = 0
tally test (x ∷ xs) = (if test x then 1 else 0) + tally test xs

-- a signal entry, with fewer than n signal entries of its peer and domain after it
abbrev pub is_recent : ℕ → Entry → List Entry → Bool
is_recent n e later = is_signal e.change && nat_lt (tally (signals e.peer e.domain) later) n

-- the last n signal entries of each peer and domain
abbrev pub recent : ℕ → List Entry → List Entry
recent n entries = kept_where (is_recent n) entries

-- the first, or the second where there is none
abbrev pub or_else : {A : Type 0} → Option A → Option A → Option A
or_else (Some x) other = Some x
or_else None other = other

-- The reply that a repeat of a message gets: that of the last entry which the message may be that of, among the last
-- n signal entries of its peer and domain (RFC 7252, section 4.5).
abbrev pub remembered : ℕ → ℕ → ℕ → ℕ → ℕ → List Entry → Option Entry
remembered n t peer domain id [] = None
remembered n t peer domain id (e ∷ later) =
    or_else
    (remembered n t peer domain id later)
    (if signals peer domain e && (is_recent n e later && may_repeat t id e.time e.key) then Some e else None)

-- what was written and no later entry undoes
abbrev pub stays : Entry → List Entry → Bool
stays e later = is_held e.change && not (list_any (undoes e) later)

-- the registrations, aliases, access lists and session configurations that are held
abbrev pub held : List Entry → List Entry
held entries = kept_where stays entries

abbrev pub is_nil : {A : Type 0} → List A → Bool
is_nil [] = true
is_nil (x ∷ xs) = false

-- the last entry
abbrev pub last : List Entry → List Entry
last entries = kept_where (λ e later. is_nil later) entries

-- What of a history matters from time t on: the live mitigations with what was done to them, the last n signal
-- entries of each peer and domain, what is held, and the last entry.
pub record View : Type 0 where
  pub mitigations : List Mitigation
  pub recent : List Entry
  pub held : List Entry
  pub last : List Entry

abbrev pub view : ℕ → ℕ → List Entry → View
view n t entries =
    record {
      mitigations = mitigations t entries;
      recent = recent n entries;
      held = held entries;
      last = last entries;
    }

-- xs is ys with some left out, in order
abbrev pub IsPart : {A : Type 0} → List A → List A → Type 0
IsPart [] ys = Unit {0}
IsPart (x ∷ xs) [] = ⊥
IsPart (x ∷ xs) (y ∷ ys) = ((x ≡ y) × IsPart xs ys) ⊎ IsPart (x ∷ xs) ys

-- few is a part of all with the same view at time t, when n messages of a peer and domain are remembered
pub record Kept (n t : ℕ) (few all : List Entry) : Type 0 where
  pub is_part : IsPart few all
  pub same_view : view n t few ≡ view n t all

-- the entries of a domain alone
abbrev pub alone : ℕ → List Entry → List Entry
alone domain entries = filter (λ e. e.domain == domain) entries

-- what ends or withdraws a mitigation while it is live has its peer
abbrev pub OnePeer : Entry → Status → List Entry → Type 0
OnePeer put s [] = Unit {0}
OnePeer put s (e ∷ later) =
    (live e.time put s ≡ true → ends put e || withdraws put e ≡ true → e.peer ≡ put.peer) × OnePeer put (step put s e) later

-- the session configurations of one peer are of one domain
abbrev pub OneDomain : Entry → List Entry → Type 0
OneDomain e [] = Unit {0}
OneDomain e (x ∷ later) = (reconfigures e x ≡ true → x.domain ≡ e.domain) × OneDomain e later

-- what an entry is to those after it, in a calm history
abbrev pub Calm : List Entry → Type 0
Calm [] = Unit {0}
Calm (e ∷ later) = OnePeer e Open later × OneDomain e later × Calm later
