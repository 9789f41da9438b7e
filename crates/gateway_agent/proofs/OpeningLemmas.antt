-- How a gateway begins with what a disk held.
use Rattle.std.proofs.Common.{◌≡◌, ℕ, zero, suc, ◌<◌, ◌≤◌, ◌⊎◌, inl, inr, Bool, true, false, max, List, [], ◌∷◌, length, map, length-append, refl, sym, ap, subst, ◌∙◌, arith}
use Rattle.std.specs.Prelude.{◌^◌, ◌-◌, not, Option, Result, Ok, Err, IfOk}
use Rattle.std.proofs.lemmas.Bool.{cond-true, cases_lt}
use Rattle.dots_host.specs.Media.{Media}
use Rattle.dots_host.specs.Becoming.{Leaves}
use Rattle.slot_store.proofs.Steps.{leaves_as}
use Rattle.dots_settings.specs.Settings.{SettingsValue}
use Rattle.dots_gateway.specs.declared.exchange.Exchange.{Exchange}
use Rattle.dots_gateway.specs.declared.exchange.Waiting.{Waiting}
use Rattle.dots_gateway.specs.declared.routes.Route.{Route}
use Rattle.dots_gateway.specs.Exchanges.{is_over, left_at, restored, time_of, waiting_again}
use Rattle.dots_gateway.specs.Gateway.{GatewayValue, gateway_at}
use Rattle.dots_gateway.specs.Routes.{routes_of}
use Rattle.slot_journal.specs.Sizes.{slots_of}
use Rattle.slot_journal.proofs.Crashing.{one_history, represents_has}
use Rattle.gateway_agent.specs.Crashes.{HasThe}
use Rattle.gateway_agent.specs.Exchanges.{IsStore, is_young, young_at, last_time, next_number, most_young}
use Rattle.gateway_agent.specs.Forms.{entries_of}
use Rattle.gateway_agent.specs.Stores.{StoreValue, IsOn}
use Rattle.gateway_agent.proofs.KeepingLemmas.{young_with}
use Rattle.gateway_agent.proofs.Orders.{ordered, time_dropped, time_more}
use Rattle.gateway_agent.proofs.Strays.{same_exchanges}
use Rattle.gateway_agent.proofs.Young.{are_last, ends, few, is_more, is_same}
use Rattle.gateway_agent.specs.Passing.{GatewayState, begun, opened, restarted, time_from}
use Rattle.gateway_agent.specs.Keeping.{AgentValue, AreJoined, Counts, IsFor, IsIn, agent}
use Rattle.gateway_agent.proofs.Joining.{counts_same, in_again, it_waits}
use Rattle.gateway_agent.proofs.Restarting.{begun_alike}
use Rattle.gateway_agent.specs.Turning.{HasTurn, most_of, time_in}
use Rattle.gateway_agent.proofs.Runs.{has_the}

-- ---- the time

time_none : (xs : List Exchange) → length xs ≡ 0 → time_of 0 xs ≡ 0
time_none [] none = refl
time_none (x ∷ xs) none = absurd (omega (arith, none))

-- where one is young the last is
time_young : (most t : ℕ) (kept : List Exchange) → IsStore most kept → 0 < length (young_at t kept) → time_of 0 (young_at t kept) ≡ last_time kept
time_young most t kept store some =
    ap (time_of 0) (are_last t 0 0 kept (ordered most kept store))
    ∙ time_dropped 0 0 (length kept - length (young_at t kept)) kept (let less = few t kept in omega (arith, some, less))

-- and at its time the last is young
some_young : (t : ℕ) (kept : List Exchange) → 0 < length kept → last_time kept ≡ t → 0 < length (young_at t kept)
some_young t [] some at = absurd (omega (arith, some))
some_young t (x ∷ xs) some at =
    let end = ends x xs in
    let last : end.last.time ≡ t = sym (time_more 0 end.before end.last) ∙ sym (ap last_time end.cut) ∙ at in
    let many = ap (λ l. length (young_at t l)) end.cut ∙ ap length (young_with t end.before end.last last) ∙ length-append (young_at t end.before) (end.last ∷ []) in
    omega (arith, many)

some_kept : (kept : List Exchange) (at : ℕ) → at < last_time kept → 0 < length kept
some_kept [] at less = absurd (omega (arith, less))
some_kept (x ∷ xs) at less = omega arith

time_is : (most : ℕ) (kept : List Exchange) (at : ℕ) → IsStore most kept → max at (max (time_of 0 (young_at (time_from kept at) kept)) 0) ≡ time_from kept at
time_is most kept at store = by_many (length (young_at (time_from kept at) kept)) refl
  where
    by_time : length (young_at (time_from kept at) kept) ≡ 0 → (at < last_time kept) ⊎ (last_time kept ≤ at) → max at (max (time_of 0 (young_at (time_from kept at) kept)) 0) ≡ time_from kept at
    by_time none (inl less) =
        let some = some_young (time_from kept at) kept (some_kept kept at less) (omega (arith, less)) in
        absurd (omega (arith, none, some))
    by_time none (inr le) =
        let first = time_none (young_at (time_from kept at) kept) none in
        omega (arith, le, first)

    by_many : (n : ℕ) → length (young_at (time_from kept at) kept) ≡ n → max at (max (time_of 0 (young_at (time_from kept at) kept)) 0) ≡ time_from kept at
    by_many zero none = by_time none (cases_lt at (last_time kept))
    by_many (suc n) more =
        let last = time_young most (time_from kept at) kept store (omega (arith, more)) in
        omega (arith, last)

-- ---- those that wait

left_same : (t : ℕ) (xs : List Exchange) → left_at t (map waiting_again (young_at t xs)) ≡ map waiting_again (young_at t xs)
left_same t [] = refl
left_same t (x ∷ xs) = by_first (left_same t xs) (is_young t x) refl
  where
    again : List Waiting
    again = map waiting_again (young_at t xs)

    by_first : left_at t again ≡ again → (b : Bool) → is_young t x ≡ b → left_at t (map waiting_again (young_at t (x ∷ xs))) ≡ map waiting_again (young_at t (x ∷ xs))
    by_first rest true young =
        ap (λ l. left_at t (map waiting_again l)) (is_more t x xs young)
        ∙ cond-true (not (is_over t (waiting_again x))) (waiting_again x ∷ left_at t again) (left_at t again) (it_waits t (waiting_again x) young)
        ∙ ap (λ (l : List Waiting). waiting_again x ∷ l) rest
        ∙ sym (ap (map waiting_again) (is_more t x xs young))
    by_first rest false old =
        ap (λ l. left_at t (map waiting_again l)) (is_same t x xs old) ∙ rest ∙ sym (ap (map waiting_again) (is_same t x xs old))

-- ---- the gateway

module _ (routes : List Route) (upstream room : ℕ) where
  -- with these exchanges waiting again it is, at this time
  abbrev put_back : ℕ → ℕ → List Exchange → GatewayValue
  put_back at next young = gateway_at at (record { routes = routes; upstream = upstream; exchanges = restored young next (record { room = room; next = 1; time = 0; waiting = [] }) })

  abbrev waiting_at : ℕ → ℕ → List Waiting → GatewayValue
  waiting_at next time waiting = record { routes = routes; upstream = upstream; exchanges = record { room = room; next = next; time = time; waiting = waiting } }

  pub core_is : (most : ℕ) (kept : List Exchange) (at next : ℕ) (young : List Exchange) → IsStore most kept → young ≡ young_at (max at (last_time kept)) kept → next ≡ next_number kept
      → put_back at next young ≡ (begun routes upstream room kept at).core
  core_is most kept at next young store young_is next_is =
      let again = map waiting_again (young_at (time_from kept at) kept) in
      ap (put_back at next) young_is
      ∙ ap (λ (n : ℕ). put_back at n (young_at (time_from kept at) kept)) next_is
      ∙ ap (λ (t : ℕ). waiting_at (next_number kept) t (left_at t again)) (time_is most kept at store)
      ∙ ap (waiting_at (next_number kept) (time_from kept at)) (left_same (time_from kept at) kept)

begun_joined : (routes : List Route) (upstream : ℕ) (store : StoreValue) (at : ℕ) → IsStore (most_young store.journal.slots) store.exchanges → last_time store.exchanges < 2 ^ 48 → at < 2 ^ 48
    → AreJoined (begun routes upstream (most_young store.journal.slots) store.exchanges at).core store
begun_joined routes upstream store at is early now = record {
  room = refl;
  next = refl;
  waiting = in_again (young_at (time_from store.exchanges at) store.exchanges);
  past = omega arith;
  early = omega (arith, early, now);
  order = is;
}

pub begun_in : (settings : SettingsValue) (upstream : ℕ) (core : GatewayValue) (store : StoreValue) (at : ℕ) → IsStore (most_young store.journal.slots) store.exchanges → last_time store.exchanges < 2 ^ 48 → at < 2 ^ 48
    → store.journal.slots ≡ slots_of settings → core ≡ (begun (routes_of settings) upstream (most_young store.journal.slots) store.exchanges at).core
    → IsFor settings upstream (agent core store) × IsIn (agent core store) (opened settings upstream store.exchanges at)
begun_in settings upstream core store at is early now slots same = (
  record {
    routes = ap (λ (g : GatewayValue). g.routes) same;
    upstream_is = ap (λ (g : GatewayValue). g.upstream) same;
    slots = slots;
  },
  record {
    core = same ∙ ap (λ (s : ℕ). (begun (routes_of settings) upstream (most_young s) store.exchanges at).core) slots;
    joined = subst (λ (g : GatewayValue). AreJoined g store) (sym same) (begun_joined (routes_of settings) upstream store at is early now);
    counts = counts_same store.exchanges;
  },
)

-- ---- a restart

-- what rests on a disk for a store is found there
pub found_again : (settings : SettingsValue) (old new : StoreValue) (state : GatewayState) (core : GatewayValue) (seen : ℕ → ℕ) → IsIn (agent core old) state → IsOn settings old seen
    → IsStore (most_young new.journal.slots) new.exchanges → new.journal.slots ≡ old.journal.slots → HasThe settings new.exchanges seen → new.exchanges ≡ old.exchanges
found_again settings old new state core seen is on store slots held =
    same_exchanges (most_young old.journal.slots) new.exchanges old.exchanges (subst (λ (s : ℕ). IsStore (most_young s) new.exchanges) slots store) is.joined.order
    (one_history settings seen (entries_of new.exchanges) (entries_of old.exchanges) held (represents_has old.journal settings (entries_of old.exchanges) seen on))

-- and the gateway is in the state after the restart
pub restarted_in : (settings : SettingsValue) (upstream at : ℕ) (core : GatewayValue) (old : StoreValue) (now : AgentValue) (state : GatewayState) → IsFor settings upstream (agent core old) → IsIn (agent core old) state
    → now.store.exchanges ≡ old.exchanges → IsIn now (opened settings upstream now.store.exchanges at) → IsIn now (restarted state at)
restarted_in settings upstream at core old now state of is found begun_it =
    let alike = begun_alike old.exchanges state.kept at is.counts in
    let G : List Exchange → GatewayValue = λ kept. (opened settings upstream kept at).core in
    record {
      core =
          begun_it.core
          ∙ ap G found
          ∙ ap (λ (n : ℕ). waiting_at (routes_of settings) upstream (most_young (slots_of settings)) n (time_from old.exchanges at) (map waiting_again (young_at (time_from old.exchanges at) old.exchanges))) alike.2
          ∙ ap (λ (l : List Exchange). waiting_at (routes_of settings) upstream (most_young (slots_of settings)) (next_number state.kept) (time_from old.exchanges at) (map waiting_again l)) alike.1
          ∙ ap (λ (t : ℕ). waiting_at (routes_of settings) upstream (most_young (slots_of settings)) (next_number state.kept) t (map waiting_again (young_at (time_from state.kept at) state.kept))) alike.0
          ∙ ap (λ (rs : List Route). waiting_at rs upstream (most_young (slots_of settings)) (next_number state.kept) (time_from state.kept at) (map waiting_again (young_at (time_from state.kept at) state.kept)))
          (sym of.routes ∙ ap (λ (g : GatewayValue). g.routes) is.core)
          ∙ ap (λ (u : ℕ). waiting_at state.core.routes u (most_young (slots_of settings)) (next_number state.kept) (time_from state.kept at) (map waiting_again (young_at (time_from state.kept at) state.kept)))
          (sym of.upstream_is ∙ ap (λ (g : GatewayValue). g.upstream) is.core)
          ∙ ap (λ (r : ℕ). waiting_at state.core.routes state.core.upstream r (next_number state.kept) (time_from state.kept at) (map waiting_again (young_at (time_from state.kept at) state.kept)))
          (ap most_young (sym of.slots) ∙ sym is.joined.room ∙ ap (λ (g : GatewayValue). g.exchanges.room) is.core);
      joined = begun_it.joined;
      counts = subst (λ (l : List Exchange). Counts l state.kept) (sym found) is.counts;
    }

-- and a crash on the way leaves what was kept
pub restart_writes : (settings : SettingsValue) (now : AgentValue) (state : GatewayState) (at : ℕ) (a b : Option Media) → IsIn now state → Leaves a b (HasThe settings now.store.exchanges)
    → Leaves a b (HasTurn settings (most_of now) state (restarted state at))
restart_writes settings now state at a b is leaves =
    leaves_as a b (HasThe settings now.store.exchanges) (HasTurn settings (most_of now) state (restarted state at))
    (λ image held. inl (has_the settings (most_of now) now state (time_in (restarted state at)) image is refl (omega arith) held)) leaves

-- ---- answers

pub ok_both : {A E : Type 0} {P Q R : A → Type 0} (answer : Result A E) → ((x : A) → P x → Q x → R x) → IfOk answer P → IfOk answer Q → IfOk answer R
ok_both (Ok x) goes p q = goes x p q
ok_both (Err e) goes p q = tt
