-- How the exchanges that wait follow one another, and how they are found.
use Rattle.std.specs.Prelude.{◌≡◌, ℕ, ◌^◌, ◌<◌, ◌≤◌, Bool, false, ◌&&◌, ◌==◌, List, [], ◌∷◌, length, Option, option_map, ⊤}
use Rattle.std.specs.List.{find, AllByRecursion}
use Rattle.std.specs.Map.{lookup}
use Rattle.dots_gateway.specs.declared.exchange.Waiting.{Waiting}
use Rattle.dots_gateway.specs.declared.exchange.Key.{Key}
use Rattle.dots_gateway.specs.Exchanges.{ExchangesValue, is_over, key_of, is_from}

-- a later exchange has a higher number, and isn't of an earlier time
pub record IsBefore (one other : Waiting) : Type 0 where
  pub number : one.exchange.number < other.exchange.number
  pub time : one.exchange.time ≤ other.exchange.time

abbrev pub AreInOrder : List Waiting → Type 0
AreInOrder [] = Unit {0}
AreInOrder (k ∷ ks) = AllByRecursion (IsBefore k) ks × AreInOrder ks

pub record AreSound (e : ExchangesValue) : Type 0 where
  pub some : 0 < e.next
  pub next : e.next < 2 ^ 64
  pub few : length e.waiting ≤ e.room
  pub order : AreInOrder e.waiting
  pub below : AllByRecursion (λ (k : Waiting). k.exchange.number < e.next) e.waiting
  pub past : AllByRecursion (λ (k : Waiting). k.exchange.time ≤ e.time) e.waiting

-- the first one is over
abbrev pub is_first_over : ℕ → List Waiting → Bool
is_first_over now [] = false
is_first_over now (k ∷ ks) = is_over now k

abbrev pub has_number : ℕ → Waiting → Bool
has_number number k = k.exchange.number == number

abbrev pub number_of : Waiting → ℕ
number_of k = k.exchange.number

-- both are the same peer and Message ID
abbrev pub same_key : Key → Key → Bool
same_key one other = (one.peer == other.peer) && (one.id == other.id)

-- the number of the first exchange of a request
abbrev pub number_for : Key → List Waiting → Option ℕ
number_for key waiting = option_map number_of (find (is_from key.peer key.id) waiting)

-- beside each exchange stands the number of the next one of the same request
abbrev pub AreLinked : List (Option ℕ) → List Waiting → Type 0
AreLinked [] [] = ⊤
AreLinked [] (k ∷ ks) = ⊥
AreLinked (l ∷ ls) [] = ⊥
AreLinked (l ∷ ls) (k ∷ ks) = (l ≡ number_for (key_of k.exchange) ks) × AreLinked ls ks

-- a map has the number of the exchange of each peer and Message ID
abbrev pub AreNumbered : List (Key × ℕ) → List Waiting → Type 0
AreNumbered entries waiting = (key : Key) → lookup (same_key key) entries ≡ number_for key waiting
