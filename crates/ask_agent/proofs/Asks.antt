-- Asks, one after the other.
use Rattle.std.proofs.Common.{◌≡◌, ℕ, zero, suc, ◌+◌, ◌<◌, Bool, true, false, List, ◌++◌, length, Option, Some, None, refl, sym, ap, ◌∙◌, subst, get_or, arith}
use Rattle.std.specs.Prelude.{is_some, slice_get, nat_le, if◌then◌else◌, IsTrue}
use Rattle.std.specs.List.{list_any}
use Rattle.std.proofs.lemmas.Bool.{false≢true}
use Rattle.std.proofs.lemmas.Option.{slice_get_within, slice_get-get_or}
use Rattle.dots_client.specs.declared.ask.Ask.{Ask}
use Rattle.dots_client.specs.declared.ask.Ask.TheVariants as ask
use Rattle.dots_client.specs.declared.granted.Granted.{Granted}
use Rattle.dots_client.specs.Client.{ClientValue, has_mid, IsKnown}
use Rattle.ask_agent.specs.declared.planned.Planned.{Planned}
use Rattle.ask_agent.specs.declared.refusal.Refusal.{Refusal}
use Rattle.ask_agent.specs.declared.unsent.Unsent.{Unsent}
use Rattle.ask_agent.specs.declared.unsent.Why.{Why}
use Rattle.ask_agent.specs.Asking.{AskState, unknown_mid, Makes, noted, when_reached, next_ask, AsksNext, AsksEach, AsksDue}

-- ---- what may be asked

known_in : (found : Bool) (mid : ℕ) → (if found then None else Some mid) ≡ None → IsTrue found
known_in true mid none = refl
known_in false mid none = absurd (false≢true (sym (ap is_some none)))

pub known_of : (ledger : List Granted) (asked : Ask) → unknown_mid ledger asked ≡ None → IsKnown asked ledger
known_of ledger (ask.New asked lifetime) none = tt
known_of ledger (ask.Refresh mid lifetime) none = known_in (list_any (has_mid mid) ledger) mid none
known_of ledger (ask.Withdraw mid) none = known_in (list_any (has_mid mid) ledger) mid none

-- ---- the next one

reached_if : (b : Bool) (planned : Planned) → is_some (if b then Some planned else None) ≡ true → (if b then Some planned else None) ≡ Some planned
reached_if true planned some = refl
reached_if false planned some = absurd (false≢true some)

pub reached_is : (now : ℕ) (found : Option Planned) → is_some (when_reached now found) ≡ true → (planned : Planned) × (found ≡ Some planned) × (when_reached now found ≡ Some planned)
reached_is now None some = absurd (false≢true some)
reached_is now (Some planned) some = (planned, refl, reached_if (nat_le planned.at now) planned some)

pub reached_within : (now : ℕ) (asks : List Planned) (place : ℕ) → is_some (when_reached now (slice_get asks place)) ≡ true → place < length asks
reached_within now asks place some =
    let (planned, is, reached) = reached_is now (slice_get asks place) some in
    slice_get_within asks place planned is

-- it is the one at its place
pub reached_at : (now : ℕ) (asks : List Planned) (place : ℕ) (other : Planned) → is_some (when_reached now (slice_get asks place)) ≡ true
    → when_reached now (slice_get asks place) ≡ Some (get_or asks place other)
reached_at now asks place other some =
    let (planned, is, reached) = reached_is now (slice_get asks place) some in
    let same : Some planned ≡ Some (get_or asks place other) = sym is ∙ slice_get-get_or asks place other (slice_get_within asks place planned is) in
    reached ∙ same

is_some_if : (b : Bool) (planned : Planned) → is_some (if b then Some planned else None) ≡ b
is_some_if true planned = refl
is_some_if false planned = refl

pub reached_by : (now : ℕ) (found : Option Planned) (planned : Planned) → found ≡ Some planned → nat_le planned.at now ≡ is_some (when_reached now found)
reached_by now found planned is = sym (is_some_if (nat_le planned.at now) planned) ∙ ap (λ f. is_some (when_reached now f)) (sym is)

pub reached_none : (now : ℕ) (found : Option Planned) → found ≡ None → false ≡ is_some (when_reached now found)
reached_none now found is = ap (λ f. is_some (when_reached now f)) (sym is)

abbrev pub stated : ℕ → ℕ → ClientValue → List Planned → ℕ → List Unsent → Option Refusal → AskState
stated server time client asks reached unsent refused =
    record { server = server; time = time; client = client; asks = asks; reached = reached; unsent = unsent; refused = refused }

pub asked_next : (old new : AskState) (asks : List Planned) (other : Planned) (cause : Option Why) (client : ClientValue) → is_some (next_ask old) ≡ true → asks ≡ old.asks
    → Makes old.client (get_or asks old.reached other).ask old.time cause client
    → new ≡ record old { client = client; reached = old.reached + 1; unsent = old.unsent ++ noted (old.reached + 1) cause } → AsksNext old new
asked_next old new asks other cause client some same makes leaves = record {
  planned = get_or old.asks old.reached other;
  is_next = reached_at old.time old.asks old.reached other some;
  cause = cause;
  client = client;
  makes = subst (λ (xs : List Planned). Makes old.client (get_or xs old.reached other).ask old.time cause client) same makes;
  leaves = leaves;
}

-- the same of the value that the fields make
pub next_seen : (old fields new : AskState) → fields ≡ old → AsksNext fields new → AsksNext old new
next_seen old fields new seen next = subst (λ (s : AskState). AsksNext s new) seen next

-- ---- all whose time is reached

none_is : (answer : Option Planned) → is_some answer ≡ false → answer ≡ None
none_is None none = refl
none_is (Some planned) none = absurd (false≢true (sym none))

-- whatever asks are made from here on were made from the start
abbrev pub GoesOn : AskState → AskState → Type 0
GoesOn start state = (count : ℕ) (final : AskState) → AsksEach count state final → AsksDue start final

pub asks_none : (state : AskState) → GoesOn state state
asks_none state count final each = (count, each)

pub asks_more : (start state next : AskState) → GoesOn start state → AsksNext state next → GoesOn start next
asks_more start state next goes made count final each = goes (suc count) final (next, made, each)

pub asks_all : (start state : AskState) → GoesOn start state → is_some (next_ask state) ≡ false → AsksDue start state
asks_all start state goes none = goes zero state (none_is (next_ask state) none, refl)

-- fewer are left
pub asks_less : (state next : AskState) → AsksNext state next → length next.asks + state.reached + 1 ≡ length state.asks + next.reached
asks_less state next made =
    omega (arith, ap (λ (s : AskState). length s.asks) made.leaves, ap (λ (s : AskState). s.reached) made.leaves)
