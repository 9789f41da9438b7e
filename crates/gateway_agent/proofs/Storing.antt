-- A store in which one more exchange was kept.
use Rattle.std.proofs.Common.{◌≡◌, ℕ, zero, suc, ◌<◌, ◌≤◌, Bool, true, false, List, [], ◌∷◌, ◌++◌, length, drop, refl, sym, ap, subst, ◌∙◌, arith}
use Rattle.std.specs.Prelude.{◌-◌, nat_lt, Result, Ok, Err, OnOk}
use Rattle.std.proofs.lemmas.Bool.{cond-true, cond-false}
use Rattle.dots_gateway.specs.declared.exchange.Exchange.{Exchange}
use Rattle.gateway_agent.specs.Crashes.{AreLeft}
use Rattle.gateway_agent.specs.Exchanges.{IsStore, young_at, last_number, last_time, most_young, kept_at}
use Rattle.gateway_agent.specs.Stores.{StoreValue, CanKeep, once_free}
use Rattle.gateway_agent.proofs.KeepingLemmas.{same_left, joins_left, of_request}
use Rattle.gateway_agent.proofs.Kept.{kept_alike, where_some, where_none}
use Rattle.gateway_agent.proofs.Orders.{dropped_are, one_more, time_dropped, time_more}
use Rattle.gateway_agent.specs.Keeping.{IsOneMore}

-- ---- what is left where a slot is made free

dropped_left : (most now k : ℕ) (xs : List Exchange) → IsStore most xs → k < length xs → drop k xs ≡ kept_at now xs → AreLeft most now (kept_at now xs) xs
dropped_left most now k xs store less is = record {
  store = subst (IsStore most) is (dropped_are most k xs store);
  alike = kept_alike now k xs less is;
  time = ap last_time (sym is) ∙ time_dropped 0 0 k xs less;
}

kept_left : (most now : ℕ) (xs : List Exchange) → IsStore most xs → 0 < length xs → AreLeft most now (kept_at now xs) xs
kept_left most now xs store some = by_many (length (young_at now xs)) refl
  where
    by_many : (n : ℕ) → length (young_at now xs) ≡ n → AreLeft most now (kept_at now xs) xs
    by_many zero none = dropped_left most now (length xs - 1) xs store (omega (arith, some)) (where_none most now xs store some none)
    by_many (suc n) more =
        dropped_left most now (length xs - length (young_at now xs)) xs store (omega (arith, some, more)) (where_some most now xs store (omega (arith, more)))

any_left : (most now : ℕ) (xs : List Exchange) → IsStore most xs → AreLeft most now (kept_at now xs) xs
any_left most now [] store = same_left most now [] store
any_left most now (x ∷ xs) store = kept_left most now (x ∷ xs) store (omega arith)

pub free_left : (most now : ℕ) (store : StoreValue) → IsStore most store.exchanges → AreLeft most now (once_free now store) store.exchanges
free_left most now store is = by_test (nat_lt store.journal.used store.journal.slots) refl
  where
    by_test : (b : Bool) → nat_lt store.journal.used store.journal.slots ≡ b → AreLeft most now (once_free now store) store.exchanges
    by_test true free =
        subst (λ (l : List Exchange). AreLeft most now l store.exchanges) (sym (cond-true (nat_lt store.journal.used store.journal.slots) store.exchanges (kept_at now store.exchanges) free))
        (same_left most now store.exchanges is)
    by_test false full =
        subst (λ (l : List Exchange). AreLeft most now l store.exchanges) (sym (cond-false (nat_lt store.journal.used store.journal.slots) store.exchanges (kept_at now store.exchanges) full))
        (any_left most now store.exchanges is)

-- ---- one more

pub one_kept : (old new : StoreValue) (x : Exchange) → IsStore (most_young old.journal.slots) old.exchanges → CanKeep old x.time x → length x.token ≤ 8
    → new.exchanges ≡ once_free x.time old ++ x ∷ [] → young_at x.time new.exchanges ≡ young_at x.time old.exchanges ++ x ∷ [] → last_number new.exchanges ≡ x.number → IsOneMore old new x
one_kept old new x store can small kept young number =
    let most = most_young old.journal.slots in
    let few = once_free x.time old in
    let left = free_left most x.time old store in
    record {
      store = subst (IsStore most) (sym kept)
          (one_more most few x left.store (joins_left most x.time few old.exchanges x left (of_request x can.key small) can.time can.above can.below can.later can.room));
      young = young;
      number = number;
      time = ap last_time kept ∙ time_more 0 few x;
    }

pub ok_three : {A E : Type 0} {P Q R S : Type 0} (answer : Result A E) → (P → Q → R → S) → OnOk answer P → OnOk answer Q → OnOk answer R → OnOk answer S
ok_three (Ok a) goes p q r = goes p q r
ok_three (Err e) goes p q r = tt
