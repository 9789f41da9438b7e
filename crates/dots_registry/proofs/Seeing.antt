-- What is seen at a place of a list of mitigations.
use Rattle.std.proofs.Common.{◌≡◌, ℕ, zero, suc, ◌+◌, ◌-◌, ◌<◌, ◌≤◌, Bool, true, false, cond, ◌&&◌, List, [], ◌∷◌, map, filter, length, take, drop, get_or, Option, Some, None, refl, sym, ap, ◌∙◌, drop-cons, add-one, arith}
use Rattle.std.specs.Prelude.{bytes_eq, nat_lt, slice_get}
use Rattle.std.proofs.lemmas.Bool.{cond-true, cond-false, cond_both, lt-ltb, le-ltb}
use Rattle.dots_history.specs.Histories.{Mitigation}
use Rattle.live_mitigations.specs.LiveValues.{rows_for}
use Rattle.conflict_rules.specs.LiveViews.{LiveView, live_view, of_cuid}
use Rattle.held_resources.specs.Tables.{lost_in}
use Rattle.conflict_rules.specs.Statuses.{view_with}
use Rattle.dots_registry.specs.RegistryValues.{RegistryValue, time_of, domains_of}
use Rattle.dots_registry.specs.ObserverViews.{seen, is_wanted, seen_of, views_among, seen_among, views_of}

-- ---- the first so many
pub get_taken : {A : Type 0} (n : ℕ) (xs : List A) (i : ℕ) → i < n → slice_get (take n xs) i ≡ slice_get xs i
get_taken zero xs i below = absurd (omega (arith, below))
get_taken (suc n) [] i below = refl
get_taken (suc n) (x ∷ xs) zero below = refl
get_taken (suc n) (x ∷ xs) (suc i) below = get_taken n xs i (omega (arith, below))

pub get_untaken : {A : Type 0} (n : ℕ) (xs : List A) (i : ℕ) → n ≤ i → slice_get (take n xs) i ≡ None
get_untaken zero xs i past = refl
get_untaken (suc n) [] i past = refl
get_untaken (suc n) (x ∷ xs) zero past = absurd (omega (arith, past))
get_untaken (suc n) (x ∷ xs) (suc i) past = get_untaken n xs i (omega (arith, past))

pub length_taken : {A : Type 0} (n : ℕ) (xs : List A) → length (take n xs) ≤ n
length_taken zero xs = omega arith
length_taken (suc n) [] = omega arith
length_taken (suc n) (x ∷ xs) = let rest = length_taken n xs in omega (arith, rest)

-- ---- one mitigation more
module _ (lost : ℕ → ℕ → Bool) (domain t : ℕ) (cuid : List ℕ) (mid : Option ℕ) where
  abbrev pub view_at : Mitigation → LiveView
  view_at m = view_with lost domain (live_view t m)

  abbrev pub all_seen : List Mitigation → List (ℕ × ℕ)
  all_seen ms = seen_among lost domain t cuid mid ms

  abbrev pub is_here : Mitigation → Bool
  is_here m = bytes_eq m.put.cuid cuid && is_wanted mid (view_at m)

  pub first_seen : (m : Mitigation) (ms : List Mitigation)
      → all_seen (m ∷ ms) ≡ cond (is_here m) (seen (view_at m) ∷ all_seen ms) (all_seen ms)
  first_seen m ms =
      elim (bytes_eq m.put.cuid cuid) as (λ b.
      map seen (filter (is_wanted mid) (map (view_with lost domain) (map (live_view t) (cond b (m ∷ of_cuid cuid ms) (of_cuid cuid ms)))))
      ≡ cond (b && is_wanted mid (view_at m)) (seen (view_at m) ∷ all_seen ms) (all_seen ms)) [
        | true ↦
            cond_both
            (is_wanted mid (view_at m))
            (view_at m ∷ filter (is_wanted mid) (views_among lost domain t cuid ms))
            (filter (is_wanted mid) (views_among lost domain t cuid ms))
            (λ xs. map seen xs ≡ cond (is_wanted mid (view_at m)) (seen (view_at m) ∷ all_seen ms) (all_seen ms))
            (λ is. sym (cond-true (is_wanted mid (view_at m)) (seen (view_at m) ∷ all_seen ms) (all_seen ms) is))
            (λ out. sym (cond-false (is_wanted mid (view_at m)) (seen (view_at m) ∷ all_seen ms) (all_seen ms) out))
        | false ↦ refl
      ]

  rest_seen : (m : Mitigation) (ms : List Mitigation) (i : ℕ) → i < length ms → m ≡ get_or ms i m
      → all_seen (drop i ms) ≡ cond (is_here m) (seen (view_at m) ∷ all_seen (drop (i + 1) ms)) (all_seen (drop (i + 1) ms))
  rest_seen m ms i below is =
      ap
      all_seen
      (drop-cons ms i m below
      ∙ ap (λ y. y ∷ drop (suc i) ms) (sym is)
      ∙ ap (λ n. m ∷ drop n ms) (sym (add-one i)))
      ∙ first_seen m (drop (i + 1) ms)

  pub skipped : (m : Mitigation) (ms : List Mitigation) (i before : ℕ) (all : Option (ℕ × ℕ)) → i < length ms → m ≡ get_or ms i m → is_here m ≡ false
      → slice_get (all_seen (drop i ms)) before ≡ all → slice_get (all_seen (drop (i + 1) ms)) before ≡ all
  skipped m ms i before all below is out so_far =
      let rest : List (ℕ × ℕ) = all_seen (drop (i + 1) ms) in
      sym (ap (λ xs. slice_get xs before) (rest_seen m ms i below is ∙ cond-false (is_here m) (seen (view_at m) ∷ rest) rest out)) ∙ so_far

  pub passed : (m : Mitigation) (ms : List Mitigation) (i before : ℕ) (all : Option (ℕ × ℕ)) → i < length ms → m ≡ get_or ms i m → is_here m ≡ true → 0 < before
      → slice_get (all_seen (drop i ms)) before ≡ all → slice_get (all_seen (drop (i + 1) ms)) (before - 1) ≡ all
  passed m ms i before all below is here some so_far =
      let rest : List (ℕ × ℕ) = all_seen (drop (i + 1) ms) in
      let next : before ≡ suc (before - 1) = omega (arith, some) in
      sym (ap (λ xs. slice_get xs before) (rest_seen m ms i below is ∙ cond-true (is_here m) (seen (view_at m) ∷ rest) rest here)
      ∙ ap (slice_get (seen (view_at m) ∷ rest)) next)
      ∙ so_far

  pub found_here : (m : Mitigation) (ms : List Mitigation) (i : ℕ) → i < length ms → m ≡ get_or ms i m → is_here m ≡ true
      → slice_get (all_seen (drop i ms)) 0 ≡ Some (seen (view_at m))
  found_here m ms i below is here =
      let rest : List (ℕ × ℕ) = all_seen (drop (i + 1) ms) in
      ap (λ xs. slice_get xs 0) (rest_seen m ms i below is ∙ cond-true (is_here m) (seen (view_at m) ∷ rest) rest here)

-- ---- of a registry
pub few_views : (registry : RegistryValue) (domain : ℕ) (cuid : List ℕ) (mid : Option ℕ) → length (views_of registry domain cuid mid) ≤ 64
few_views registry domain cuid mid =
    let all : List (ℕ × ℕ) = seen_of mid (views_among (lost_in registry.held) domain (time_of registry) cuid (rows_for registry.live domain)) in
    cond_both
    (nat_lt domain (domains_of registry))
    all
    []
    (λ xs. length xs ≤ 64)
    (λ is. length_taken 64 (seen_among (lost_in registry.held) domain (time_of registry) cuid mid (rows_for registry.live domain)))
    (λ out. omega arith)

pub views_inside : (registry : RegistryValue) (domain : ℕ) (cuid : List ℕ) (mid : Option ℕ) → domain < domains_of registry
    → views_of registry domain cuid mid ≡ seen_of mid (views_among (lost_in registry.held) domain (time_of registry) cuid (rows_for registry.live domain))
views_inside registry domain cuid mid inside =
    cond-true (nat_lt domain (domains_of registry)) (seen_of mid (views_among (lost_in registry.held) domain (time_of registry) cuid (rows_for registry.live domain))) [] (lt-ltb domain (domains_of registry) inside)

pub views_beyond : (registry : RegistryValue) (domain : ℕ) (cuid : List ℕ) (mid : Option ℕ) → domains_of registry ≤ domain → views_of registry domain cuid mid ≡ []
views_beyond registry domain cuid mid past =
    cond-false (nat_lt domain (domains_of registry)) (seen_of mid (views_among (lost_in registry.held) domain (time_of registry) cuid (rows_for registry.live domain))) [] (le-ltb domain (domains_of registry) past)
