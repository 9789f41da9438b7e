-- A gateway and its store go together, whatever time comes and whatever is new.
use Rattle.std.proofs.Common.{◌≡◌, ℕ, ◌+◌, ◌<◌, ◌≤◌, inl, inr, Bool, true, false, max, List, [], ◌∷◌, ◌++◌, length, map, refl, sym, ap, subst, ◌∙◌, arith}
use Rattle.std.specs.Prelude.{◌^◌, ◌-◌, ◌==◌, nat_le, not, Some}
use Rattle.std.proofs.lemmas.Bool.{cond-true, cond-false, leb-true, leb-false, le-leb, lt-leb, not_from_true, not_from_false, or_parts, eqb-false, cases_lt}
use Rattle.dots_settings.specs.Settings.{SettingsValue}
use Rattle.dots_gateway.specs.declared.exchange.Exchange.{Exchange}
use Rattle.dots_gateway.specs.declared.exchange.Waiting.{Waiting}
use Rattle.dots_gateway.specs.Exchanges.{ExchangesValue, is_over, is_full, left_at, at_time, with_one, waiting_again}
use Rattle.dots_gateway.specs.Gateway.{GatewayValue, gateway_at}
use Rattle.gateway_agent.specs.Crashes.{AreAlike}
use Rattle.gateway_agent.specs.Exchanges.{IsStore, is_young, young_at, last_time, most_young}
use Rattle.gateway_agent.specs.Stores.{StoreValue, CanKeep}
use Rattle.gateway_agent.proofs.Orders.{number_more, time_more}
use Rattle.gateway_agent.proofs.Young.{is_more, is_same, young_time, number_small}
use Rattle.gateway_agent.proofs.KeepingLemmas.{young_with}
use Rattle.gateway_agent.specs.Keeping.{AreJoined, Counts, IsOneMore, exchanges_in}
use Rattle.gateway_agent.specs.Turning.{HasAlike}
use Rattle.gateway_agent.proofs.Fresh.{IsFresh, fresh_key, fresh_time, fresh_number}

-- ---- young ones at two times

-- those that are young later are among those that are young now
pub young_later : (t u : ℕ) (xs : List Exchange) → t ≤ u → young_at u (young_at t xs) ≡ young_at u xs
young_later t u [] le = refl
young_later t u (x ∷ xs) le = by_first (young_later t u xs le) (is_young t x) (is_young u x) refl refl
  where
    by_first : young_at u (young_at t xs) ≡ young_at u xs → (b c : Bool) → is_young t x ≡ b → is_young u x ≡ c → young_at u (young_at t (x ∷ xs)) ≡ young_at u (x ∷ xs)
    by_first rest true true now later =
        ap (young_at u) (is_more t x xs now) ∙ is_more u x (young_at t xs) later ∙ ap (λ (l : List Exchange). x ∷ l) rest ∙ sym (is_more u x xs later)
    by_first rest true false now later =
        ap (young_at u) (is_more t x xs now) ∙ is_same u x (young_at t xs) later ∙ rest ∙ sym (is_same u x xs later)
    by_first rest false true now later =
        let under = young_time u x later in
        let over = leb-false t (x.time + 246) now in
        absurd (omega (arith, under, over, le))
    by_first rest false false now later = ap (young_at u) (is_same t x xs now) ∙ rest ∙ sym (is_same u x xs later)

pub alike_later : (t u : ℕ) (some others : List Exchange) → t ≤ u → AreAlike t some others → AreAlike u some others
alike_later t u some others le alike = record {
  young = sym (young_later t u some le) ∙ ap (young_at u) alike.young ∙ young_later t u others le;
  number = alike.number;
}

pub alike_then : (t : ℕ) (a b c : List Exchange) → AreAlike t a b → AreAlike t b c → AreAlike t a c
alike_then t a b c x y = record { young = x.young ∙ y.young; number = x.number ∙ y.number }

pub alike_same : (t : ℕ) (xs : List Exchange) → AreAlike t xs xs
alike_same t xs = record { young = refl; number = refl }

pub alike_more : (t : ℕ) (a b : List Exchange) (x : Exchange) → x.time ≡ t → AreAlike t a b → AreAlike t (a ++ x ∷ []) (b ++ x ∷ [])
alike_more t a b x same alike = record {
  young = young_with t a x same ∙ ap (λ (l : List Exchange). l ++ x ∷ []) alike.young ∙ sym (young_with t b x same);
  number = number_more 0 a x ∙ sym (number_more 0 b x);
}

pub counts_at : (some kept : List Exchange) (u : ℕ) → Counts some kept → last_time kept ≤ u → AreAlike u some kept
counts_at some kept u counts le = alike_later (last_time kept) u some kept le counts.alike

pub counts_same : (xs : List Exchange) → Counts xs xs
counts_same xs = record { alike = alike_same (last_time xs) xs; time = refl }

-- an image that holds what counts of these exchanges holds it later too
pub has_later : (settings : SettingsValue) (most t u : ℕ) (kept : List Exchange) (image : ℕ → ℕ) → t ≤ u → HasAlike settings most t kept image → HasAlike settings most u kept image
has_later settings most t u kept image le held = record { some = held.some; image_has = held.image_has; store = held.store; alike = alike_later t u held.some kept le held.alike }

-- ---- those that wait

pub it_waits : (now : ℕ) (k : Waiting) → is_young now k.exchange ≡ true → not (is_over now k) ≡ true
it_waits now k young =
    let at = leb-true now (k.exchange.time + 246) young in
    not_from_false (is_over now k) (lt-leb (k.exchange.time + 247) now (omega (arith, at)))

it_is_over : (now : ℕ) (k : Waiting) → is_young now k.exchange ≡ false → not (is_over now k) ≡ false
it_is_over now k old =
    let at = leb-false now (k.exchange.time + 246) old in
    not_from_true (is_over now k) (le-leb (k.exchange.time + 247) now (omega (arith, at)))

-- an exchange goes when it is no longer young
pub left_young : (now : ℕ) (ks : List Waiting) → exchanges_in (left_at now ks) ≡ young_at now (exchanges_in ks)
left_young now [] = refl
left_young now (k ∷ ks) = by_first (left_young now ks) (is_young now k.exchange) refl
  where
    by_first : exchanges_in (left_at now ks) ≡ young_at now (exchanges_in ks) → (b : Bool) → is_young now k.exchange ≡ b
        → exchanges_in (left_at now (k ∷ ks)) ≡ young_at now (exchanges_in (k ∷ ks))
    by_first rest true young =
        ap exchanges_in (cond-true (not (is_over now k)) (k ∷ left_at now ks) (left_at now ks) (it_waits now k young))
        ∙ ap (λ (l : List Exchange). k.exchange ∷ l) rest
        ∙ sym (is_more now k.exchange (exchanges_in ks) young)
    by_first rest false old =
        ap exchanges_in (cond-false (not (is_over now k)) (k ∷ left_at now ks) (left_at now ks) (it_is_over now k old))
        ∙ rest
        ∙ sym (is_same now k.exchange (exchanges_in ks) old)

pub in_again : (xs : List Exchange) → exchanges_in (map waiting_again xs) ≡ xs
in_again [] = refl
in_again (x ∷ xs) = ap (λ (l : List Exchange). x ∷ l) (in_again xs)

in_more : (ks : List Waiting) (k : Waiting) → exchanges_in (ks ++ k ∷ []) ≡ exchanges_in ks ++ k.exchange ∷ []
in_more [] k = refl
in_more (first ∷ ks) k = ap (λ (l : List Exchange). first.exchange ∷ l) (in_more ks k)

in_length : (ks : List Waiting) → length (exchanges_in ks) ≡ length ks
in_length [] = refl
in_length (k ∷ ks) = let rest = in_length ks in omega (arith, rest)

-- ---- the time comes

pub joined_at : (core : GatewayValue) (store : StoreValue) (at : ℕ) → AreJoined core store → at < 2 ^ 48 → AreJoined (gateway_at at core) store
joined_at core store at joined early =
    let past = joined.past in
    let before = joined.early in
    record {
      room = joined.room;
      next = joined.next;
      waiting =
          left_young (max at core.exchanges.time) core.exchanges.waiting
          ∙ ap (young_at (max at core.exchanges.time)) joined.waiting
          ∙ young_later core.exchanges.time (max at core.exchanges.time) store.exchanges (omega arith);
      past = omega (arith, past);
      early = omega (arith, before, early);
      order = joined.order;
    }

-- none of those that wait is over at the gateway's own time
pub all_wait : (core : GatewayValue) (store : StoreValue) → AreJoined core store → length (at_time 0 core.exchanges).waiting ≡ length core.exchanges.waiting
all_wait core store joined =
    let now : max 0 core.exchanges.time ≡ core.exchanges.time = omega arith in
    sym (in_length (left_at (max 0 core.exchanges.time) core.exchanges.waiting))
    ∙ ap length
    (left_young (max 0 core.exchanges.time) core.exchanges.waiting
    ∙ ap (young_at (max 0 core.exchanges.time)) joined.waiting
    ∙ young_later core.exchanges.time (max 0 core.exchanges.time) store.exchanges (omega arith)
    ∙ ap (λ (t : ℕ). young_at t store.exchanges) now
    ∙ sym joined.waiting)
    ∙ in_length core.exchanges.waiting

-- ---- a new one

free_room : (e : ExchangesValue) → is_full e ≡ false → length e.waiting < e.room
free_room e free = leb-false e.room (length e.waiting) (or_parts (nat_le e.room (length e.waiting)) (e.next == 2 ^ 64 - 1) free).0

free_number : (e : ExchangesValue) → is_full e ≡ false → e.next ≡ 2 ^ 64 - 1 → ⊥
free_number e free is = eqb-false e.next (2 ^ 64 - 1) (or_parts (nat_le e.room (length e.waiting)) (e.next == 2 ^ 64 - 1) free).1 is

below_last : (n : ℕ) → (n ≡ 2 ^ 64 - 1 → ⊥) → n ≤ 2 ^ 64 - 1 → n < 2 ^ 64 - 1
below_last n other le = elim (cases_lt n (2 ^ 64 - 1)) [ inl less ↦ less | inr more ↦ absurd (other (omega (arith, more, le))) ]

-- it may be kept
pub fresh_can : (core : GatewayValue) (store : StoreValue) (peer : ℕ) (x : Exchange) → AreJoined core store → IsFresh core.exchanges peer x → CanKeep store x.time x
fresh_can core store peer x joined fresh =
    let time = fresh_time core.exchanges peer x fresh in
    let number = fresh_number core.exchanges peer x fresh in
    let room = joined.room in
    let next = joined.next in
    let past = joined.past in
    let early = joined.early in
    let few = free_room core.exchanges fresh.free in
    let many = sym (in_length core.exchanges.waiting) ∙ ap length joined.waiting in
    let small = number_small (most_young store.journal.slots) store.exchanges joined.order in
    let young : length (young_at core.exchanges.time store.exchanges) ≡ length (young_at x.time store.exchanges) = ap (λ (t : ℕ). length (young_at t store.exchanges)) (sym time) in
    let under = below_last core.exchanges.next (free_number core.exchanges fresh.free) (omega (arith, next, small)) in
    record {
      room = omega (arith, few, many, room, young);
      early = omega (arith, early, time);
      later = omega (arith, past, time);
      time = refl;
      key = fresh_key core.exchanges peer x fresh;
      above = omega (arith, number, next);
      below = omega (arith, number, under);
    }

-- and then they go together still
pub joined_more : (core : GatewayValue) (old new : StoreValue) (peer : ℕ) (x : Exchange) (datagram : List ℕ) → AreJoined core old → IsFresh core.exchanges peer x → IsOneMore old new x
    → new.journal.slots ≡ old.journal.slots → AreJoined (record core { exchanges = with_one x datagram core.exchanges }) new
joined_more core old new peer x datagram joined fresh more slots =
    let time = fresh_time core.exchanges peer x fresh in
    let number = fresh_number core.exchanges peer x fresh in
    let last = more.number in
    let late = more.time in
    record {
      room = joined.room ∙ ap most_young (sym slots);
      next = omega (arith, number, last);
      waiting =
          in_more core.exchanges.waiting (record { exchange = x; asked = Some datagram })
          ∙ ap (λ (l : List Exchange). l ++ x ∷ []) (joined.waiting ∙ ap (λ (t : ℕ). young_at t old.exchanges) (sym time))
          ∙ sym more.young
          ∙ ap (λ (t : ℕ). young_at t new.exchanges) time;
      past = omega (arith, late, time);
      early = joined.early;
      order = subst (λ (s : ℕ). IsStore (most_young s) new.exchanges) (sym slots) more.store;
    }

pub counts_more : (old new : StoreValue) (kept : List Exchange) (x : Exchange) → Counts old.exchanges kept → last_time kept ≤ x.time → IsOneMore old new x
    → Counts new.exchanges (kept ++ x ∷ [])
counts_more old new kept x counts late more =
    let time = time_more 0 kept x in
    let alike = counts_at old.exchanges kept x.time counts late in
    record {
      alike = subst (λ (t : ℕ). AreAlike t new.exchanges (kept ++ x ∷ [])) (sym time) (record {
        young = more.young ∙ ap (λ (l : List Exchange). l ++ x ∷ []) alike.young ∙ sym (young_with x.time kept x refl);
        number = more.number ∙ sym (number_more 0 kept x);
      });
      time = more.time ∙ sym time;
    }
