-- The exchanges of a store, in the order in which they were passed on. Times are in seconds.
use Rattle.std.specs.Prelude.{◌≡◌, ℕ, ◌+◌, ◌-◌, ◌^◌, min, Bool, true, ◌&&◌, ◌||◌, ◌==◌, nat_le, nat_lt, List, [], ◌∷◌, ◌++◌, length, filter}
use Rattle.dots_gateway.specs.declared.exchange.Exchange.{Exchange}
use Rattle.dots_gateway.specs.Exchanges.{time_of}
use Rattle.gateway_agent.specs.Forms.{is_of_request}

-- An exchange that is at most 246 seconds old at this time: its Message ID may not mean another request yet (RFC 7252, section 4.8.2).
abbrev pub is_young : ℕ → Exchange → Bool
is_young now x = nat_le now (x.time + 246)

abbrev pub young_at : ℕ → List Exchange → List Exchange
young_at now exchanges = filter (is_young now) exchanges

-- the number of the last one, or this where there is none
abbrev pub number_or : ℕ → List Exchange → ℕ
number_or number [] = number
number_or number (x ∷ later) = number_or x.number later

-- numbers are from 1 on
abbrev pub last_number : List Exchange → ℕ
last_number exchanges = number_or 0 exchanges

abbrev pub next_number : List Exchange → ℕ
next_number exchanges = last_number exchanges + 1

abbrev pub last_time : List Exchange → ℕ
last_time exchanges = time_of 0 exchanges

-- How many may be young at once in a journal with this number of slots: as many as a gateway has room for, and so few that a slot
-- is free once the others are gone.
abbrev pub most_young : ℕ → ℕ
most_young slots = min 1024 (slots - 8)

-- An exchange joins those before it: its number is above that of the last one and isn't the greatest u64, its time isn't before that of
-- the last one, and with it no more than these are young at its time.
abbrev pub joins : ℕ → List Exchange → Exchange → Bool
joins most before x =
    is_of_request x
    && ((nat_lt (last_number before) x.number && nat_lt x.number (2 ^ 64 - 1))
    && (nat_le (last_time before) x.time && nat_le (length (young_at x.time (before ++ x ∷ []))) most))

-- the exchanges of a store: each joins those before it
abbrev pub IsStore : ℕ → List Exchange → Type 0
IsStore most exchanges = (before : List Exchange) (x : Exchange) (later : List Exchange) → exchanges ≡ before ++ x ∷ later → joins most before x ≡ true

-- what a compaction at this time keeps: the young ones, and the last
abbrev pub kept_at : ℕ → List Exchange → List Exchange
kept_at now exchanges = filter (λ (x : Exchange). is_young now x || (x.number == last_number exchanges)) exchanges
