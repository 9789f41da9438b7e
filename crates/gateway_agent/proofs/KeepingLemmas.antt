-- What a crash leaves while one more exchange is kept.
use Rattle.std.proofs.Common.{◌≡◌, ℕ, zero, suc, ◌+◌, ◌<◌, ◌≤◌, true, false, List, [], ◌∷◌, ◌++◌, length, drop, inl, inr, refl, sym, ap, subst, ◌∙◌, arith}
use Rattle.std.specs.Prelude.{◌^◌, ◌-◌, not, nat_le, nat_lt, Option, Result, Ok, Err, OnErr}
use Rattle.std.proofs.lemmas.Bool.{cond-true, cond-false, lt-ltb, le-ltb, le-leb, cases_lt, and_from, and_parts, not-true, not_from_false}
use Rattle.std.proofs.lemmas.List.{length-append}
use Rattle.std.proofs.lemmas.List.Elements.{filter-append}
use Rattle.dots_host.specs.Media.{Media}
use Rattle.dots_host.specs.Becoming.{Leaves}
use Rattle.dots_settings.specs.Settings.{SettingsValue}
use Rattle.dots_history.specs.Calm.{is_http}
use Rattle.dots_gateway.specs.declared.exchange.Exchange.{Exchange}
use Rattle.slot_store.proofs.Steps.{leaves_as}
use Rattle.gateway_agent.specs.Forms.{entry_of, entries_of, is_of_request}
use Rattle.gateway_agent.specs.Exchanges.{IsStore, is_young, young_at, last_number, last_time, most_young, joins, kept_at}
use Rattle.gateway_agent.specs.Stores.{StoreValue, CanKeep, once_free}
use Rattle.gateway_agent.specs.Crashes.{HasOne, HasStep, HasYoung, AreLeft}
use Rattle.gateway_agent.proofs.Orders.{joined, joining, one_more, dropped_are, number_more, time_dropped}
use Rattle.gateway_agent.proofs.Young.{is_more}
use Rattle.gateway_agent.proofs.Kept.{kept_alike, where_some, where_none}

pub free_is : (now : ℕ) (store : StoreValue) → store.journal.used < store.journal.slots → once_free now store ≡ store.exchanges
free_is now store free =
    cond-true (nat_lt store.journal.used store.journal.slots) store.exchanges (kept_at now store.exchanges) (lt-ltb store.journal.used store.journal.slots free)

pub full_is : (now : ℕ) (store : StoreValue) → store.journal.slots ≤ store.journal.used → once_free now store ≡ kept_at now store.exchanges
full_is now store full =
    cond-false (nat_lt store.journal.used store.journal.slots) store.exchanges (kept_at now store.exchanges) (le-ltb store.journal.used store.journal.slots full)

pub entries_more : (xs : List Exchange) (x : Exchange) → entries_of (xs ++ x ∷ []) ≡ entries_of xs ++ entry_of x ∷ []
entries_more [] x = refl
entries_more (y ∷ xs) x = ap (λ es. entry_of y ∷ es) (entries_more xs x)

pub same_left : (most now : ℕ) (xs : List Exchange) → IsStore most xs → AreLeft most now xs xs
same_left most now xs store = record { store = store; alike = record { young = refl; number = refl }; time = refl }

dropped_left : (most now k : ℕ) (xs : List Exchange) → IsStore most xs → k < length xs → drop k xs ≡ kept_at now xs → AreLeft most now (kept_at now xs) xs
dropped_left most now k xs store less is = record {
  store = subst (IsStore most) is (dropped_are most k xs store);
  alike = kept_alike now k xs less is;
  time = ap last_time (sym is) ∙ time_dropped 0 0 k xs less;
}

kept_left : (most now : ℕ) (xs : List Exchange) → IsStore most xs → 0 < length xs → AreLeft most now (kept_at now xs) xs
kept_left most now xs store some = by_many (length (young_at now xs)) refl
  where
    by_many : (n : ℕ) → length (young_at now xs) ≡ n → AreLeft most now (kept_at now xs) xs
    by_many zero none = dropped_left most now (length xs - 1) xs store (omega (arith, some)) (where_none most now xs store some none)
    by_many (suc n) more =
        dropped_left most now (length xs - length (young_at now xs)) xs store (omega (arith, some, more)) (where_some most now xs store (omega (arith, more)))

pub once_left : (most now : ℕ) (store : StoreValue) → IsStore most store.exchanges → store.journal.used ≡ length store.exchanges → 8 < store.journal.slots
    → AreLeft most now (once_free now store) store.exchanges
once_left most now store is used some =
    elim (cases_lt store.journal.used store.journal.slots) [
      | inl free ↦ subst (λ l. AreLeft most now l store.exchanges) (sym (free_is now store free)) (same_left most now store.exchanges is)
      | inr full ↦
          subst (λ l. AreLeft most now l store.exchanges) (sym (full_is now store full)) (kept_left most now store.exchanges is (omega (arith, full, some, used)))
    ]

young_now : (now : ℕ) (x : Exchange) → x.time ≡ now → is_young now x ≡ true
young_now now x same = le-leb now (x.time + 246) (omega (arith, same))

pub young_with : (now : ℕ) (xs : List Exchange) (x : Exchange) → x.time ≡ now → young_at now (xs ++ x ∷ []) ≡ young_at now xs ++ x ∷ []
young_with now xs x same = filter-append (is_young now) xs (x ∷ []) ∙ ap (λ l. young_at now xs ++ l) (is_more now x [] (young_now now x same))

pub young_more : (most now : ℕ) (few all : List Exchange) (x : Exchange) → AreLeft most now few all → x.time ≡ now → young_at now (few ++ x ∷ []) ≡ young_at now all ++ x ∷ []
young_more most now few all x left same = young_with now few x same ∙ ap (λ l. l ++ x ∷ []) left.alike.young

-- the new one joins what is left
pub joins_left : (most now : ℕ) (few all : List Exchange) (x : Exchange) → AreLeft most now few all → is_of_request x ≡ true → x.time ≡ now
    → last_number all < x.number → x.number < 2 ^ 64 - 1 → last_time all ≤ now → length (young_at now all) < most → joins most few x ≡ true
joins_left most now few all x left request same above below late room =
    let number = left.alike.number in
    let time = left.time in
    let many =
    ap (λ t. length (young_at t (few ++ x ∷ []))) same
    ∙ ap length (young_more most now few all x left same)
    ∙ length-append (young_at now all) (x ∷ []) in
    joining most few x (record {
      of_request = request;
      above = omega (arith, above, number);
      below = below;
      later = omega (arith, late, same, time);
      few = omega (arith, many, room);
    })

-- ---- each step

has_young : (settings : SettingsValue) (most now : ℕ) (all few : List Exchange) (x : Exchange) (image : ℕ → ℕ) → IsStore most all → AreLeft most now few all
    → joins most few x ≡ true → x.time ≡ now → HasStep settings all few x image → HasYoung settings most now all x image
has_young settings most now all few x image store left is same (inl old) =
    record { some = all; image_has = old; store = store; alike = inl (record { young = refl; number = refl }) }
has_young settings most now all few x image store left is same (inr (inl fewer)) =
    record { some = few; image_has = fewer; store = left.store; alike = inl left.alike }
has_young settings most now all few x image store left is same (inr (inr more)) =
    record {
      some = few ++ x ∷ [];
      image_has = more;
      store = one_more most few x left.store is;
      alike = inr (record {
        young = young_more most now few all x left same ∙ sym (young_with now all x same);
        number = number_more 0 few x ∙ sym (number_more 0 all x);
      });
    }

pub leaves_young : (old new : Option Media) (settings : SettingsValue) (most now : ℕ) (all few : List Exchange) (x : Exchange) → IsStore most all → AreLeft most now few all
    → joins most few x ≡ true → x.time ≡ now → Leaves old new (HasStep settings all few x) → Leaves old new (HasYoung settings most now all x)
leaves_young old new settings most now all few x store left is same =
    leaves_as old new (HasStep settings all few x) (HasYoung settings most now all x) (λ image. has_young settings most now all few x image store left is same)

first_step : (settings : SettingsValue) (all few : List Exchange) (x : Exchange) (image : ℕ → ℕ) → HasOne settings all few image → HasStep settings all few x image
first_step settings all few x image (inl old) = inl old
first_step settings all few x image (inr fewer) = inr (inl fewer)

pub leaves_first : (old new : Option Media) (settings : SettingsValue) (all few : List Exchange) (x : Exchange) → Leaves old new (HasOne settings all few)
    → Leaves old new (HasStep settings all few x)
leaves_first old new settings all few x =
    leaves_as old new (HasOne settings all few) (HasStep settings all few x) (λ image. first_step settings all few x image)

pub leaves_second : (old new : Option Media) (settings : SettingsValue) (all few : List Exchange) (x : Exchange) → Leaves old new (HasOne settings few (few ++ x ∷ []))
    → Leaves old new (HasStep settings all few x)
leaves_second old new settings all few x =
    leaves_as old new (HasOne settings few (few ++ x ∷ [])) (HasStep settings all few x) (λ image is. inr is)

-- ---- before the new one is appended

has_first : (settings : SettingsValue) (most now : ℕ) (all few : List Exchange) (x : Exchange) (image : ℕ → ℕ) → IsStore most all → AreLeft most now few all
    → HasOne settings all few image → HasYoung settings most now all x image
has_first settings most now all few x image store left (inl old) =
    record { some = all; image_has = old; store = store; alike = inl (record { young = refl; number = refl }) }
has_first settings most now all few x image store left (inr fewer) =
    record { some = few; image_has = fewer; store = left.store; alike = inl left.alike }

pub leaves_young_first : (old new : Option Media) (settings : SettingsValue) (most now : ℕ) (all few : List Exchange) (x : Exchange) → IsStore most all → AreLeft most now few all
    → Leaves old new (HasOne settings all few) → Leaves old new (HasYoung settings most now all x)
leaves_young_first old new settings most now all few x store left =
    leaves_as old new (HasOne settings all few) (HasYoung settings most now all x) (λ image. has_first settings most now all few x image store left)

-- ---- answers

pub on_err_as : {A E : Type 0} {P R : Type 0} (answer : Result A E) → (P → R) → OnErr answer P → OnErr answer R
on_err_as (Ok a) goes is = tt
on_err_as (Err e) goes is = goes is

pub of_request : (x : Exchange) → is_http x.key ≡ false → length x.token ≤ 8 → is_of_request x ≡ true
of_request x key small = and_from (not (is_http x.key)) (nat_le (length x.token) 8) (not_from_false (is_http x.key) key) (le-leb (length x.token) 8 small)

pub can_from : (store : StoreValue) (now : ℕ) (x : Exchange) → now < 2 ^ 48 → x.time ≡ now → joins (most_young store.journal.slots) store.exchanges x ≡ true → CanKeep store now x
can_from store now x early same is =
    let all = joined (most_young store.journal.slots) store.exchanges x is in
    let key = not-true (is_http x.key) (and_parts (not (is_http x.key)) (nat_le (length x.token) 8) all.of_request).0 in
    let few = all.few in
    let later = all.later in
    let many =
    ap (λ (t : ℕ). length (young_at t (store.exchanges ++ x ∷ []))) same
    ∙ ap length (young_with now store.exchanges x same)
    ∙ length-append (young_at now store.exchanges) (x ∷ []) in
    record {
      room = omega (arith, few, many);
      early = early;
      later = omega (arith, later, same);
      time = same;
      key = key;
      above = all.above;
      below = all.below;
    }

pub can_joins : (store : StoreValue) (now : ℕ) (x : Exchange) → CanKeep store now x → length x.token ≤ 8 → IsStore (most_young store.journal.slots) store.exchanges
    → joins (most_young store.journal.slots) store.exchanges x ≡ true
can_joins store now x can small store_is =
    joins_left
    (most_young store.journal.slots)
    now
    store.exchanges
    store.exchanges
    x
    (same_left (most_young store.journal.slots) now store.exchanges store_is)
    (of_request x can.key small)
    can.time
    can.above
    can.below
    can.later
    can.room
