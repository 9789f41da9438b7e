-- Lists of rows that stay in order, and ranks that are put in order.
use Rattle.std.proofs.Common.{◌≡◌, ◌≢◌, ℕ, ◌+◌, ◌≤◌, Bool, true, false, cond, if◌then◌else◌, ◌==◌, nat_le, nat_lt, List, [], ◌∷◌, map, zero, suc, refl, sym, ◌∙◌, arith, one-add, Some, None}
use Rattle.std.specs.List.{insert, remove, prefix_len, filter, AllByRecursion}
use Rattle.filter_table.specs.declared.placed.PlacedAcl.{PlacedAcl}
use Rattle.filter_table.specs.TableRows.{PlacedScrub, scrub_in, is_of, scrub_set, acl_set, woken, activated, number_after, renumbered_from, renumbered, place_of_scrub, scrub_at_place}
use Rattle.filter_table.specs.Laws.{AreInOrder, HaveTheirSlots}
use Rattle.filter_table.specs.Numbers.{Falls}
use Rattle.filter_table.proofs.Each.{each_insert, each_remove, each_weaker}

pub each_filter : {A : Type 0} → (P : A → Type 0) (p : A → Bool) (xs : List A) → AllByRecursion P xs → AllByRecursion P (filter p xs)
each_filter P p [] all = all
each_filter P p (x ∷ xs) all =
    elim (p x) as (λ v. AllByRecursion P (cond v (x ∷ filter p xs) (filter p xs))) [ true ↦ (all.0, each_filter P p xs all.1) | false ↦ each_filter P p xs all.1 ]

each_map : {A : Type 0} → (P Q : A → Type 0) (f : A → A) → ((x : A) → P x → Q (f x)) → (xs : List A) → AllByRecursion P xs → AllByRecursion Q (map f xs)
each_map P Q f step [] all = all
each_map P Q f step (x ∷ xs) all = (step x all.0, each_map P Q f step xs all.1)

-- ---- places

le_of : (a b : ℕ) → nat_le a b ≡ true → a ≤ b
le_of a b is = grind arith

gt_of : (a b : ℕ) → nat_le a b ≡ false → b ≤ a
gt_of a b is = grind arith

pub order_insert : {A : Type 0} → (place : A → ℕ) (x : A) (xs : List A) → AreInOrder place xs
    → AreInOrder place (insert xs (prefix_len (λ other. nat_le (place other) (place x)) xs) x)
order_insert place x [] order = (tt, tt)
order_insert place x (y ∷ xs) order =
    elim (nat_le (place y) (place x)) as (λ v. nat_le (place y) (place x) ≡ v
    → AreInOrder place (insert (y ∷ xs) (cond v (1 + prefix_len (λ other. nat_le (place other) (place x)) xs) 0) x)) [
      | true ↦ λ is. rw one-add
          (each_insert (λ later. place y ≤ place later) xs (prefix_len (λ other. nat_le (place other) (place x)) xs) x (le_of _ _ is) order.0, order_insert place x xs order.1)
      | false ↦ λ is.
          let less : place x ≤ place y = gt_of _ _ is in
          ((less, each_weaker (λ later. place y ≤ place later) (λ later. place x ≤ place later) (λ later more. omega (arith, less, more)) xs order.0), order)
    ] refl

beyond : (bound low high : ℕ) → nat_le low bound ≡ false → low ≤ high → nat_le high bound ≡ false
beyond bound low high fails more = grind arith

pub order_falls : {A : Type 0} → (place : A → ℕ) (bound : ℕ) (xs : List A) → AreInOrder place xs → Falls (λ x. nat_le (place x) bound) xs
order_falls place bound [] order = tt
order_falls place bound (x ∷ xs) order = (
  λ fails. each_weaker (λ later. place x ≤ place later) (λ later. nat_le (place later) bound ≡ false) (λ later more. beyond bound (place x) (place later) fails more) xs order.0,
  order_falls place bound xs order.1,
)

not_below : (bound low high : ℕ) → nat_lt low bound ≡ false → low ≤ high → nat_lt high bound ≡ false
not_below bound low high fails more = grind arith

pub order_falls_below : {A : Type 0} → (place : A → ℕ) (bound : ℕ) (xs : List A) → AreInOrder place xs → Falls (λ x. nat_lt (place x) bound) xs
order_falls_below place bound [] order = tt
order_falls_below place bound (x ∷ xs) order = (
  λ fails. each_weaker (λ later. place x ≤ place later) (λ later. nat_lt (place later) bound ≡ false) (λ later more. not_below bound (place x) (place later) fails more) xs order.0,
  order_falls_below place bound xs order.1,
)

pub order_remove : {A : Type 0} → (place : A → ℕ) (xs : List A) (i : ℕ) → AreInOrder place xs → AreInOrder place (remove xs i)
order_remove place [] zero order = order
order_remove place [] (suc i) order = order
order_remove place (x ∷ xs) zero order = order.1
order_remove place (x ∷ xs) (suc i) order = (each_remove (λ later. place x ≤ place later) xs i order.0, order_remove place xs i order.1)

pub order_filter : {A : Type 0} → (place : A → ℕ) (p : A → Bool) (xs : List A) → AreInOrder place xs → AreInOrder place (filter p xs)
order_filter place p [] order = order
order_filter place p (x ∷ xs) order =
    elim (p x) as (λ v. AreInOrder place (cond v (x ∷ filter p xs) (filter p xs))) [
      | true ↦ (each_filter (λ later. place x ≤ place later) p xs order.0, order_filter place p xs order.1)
      | false ↦ order_filter place p xs order.1
    ]

pub order_map : {A : Type 0} → (place : A → ℕ) (f : A → A) → ((x : A) → place (f x) ≡ place x) → (xs : List A) → AreInOrder place xs → AreInOrder place (map f xs)
order_map place f same [] order = order
order_map place f same (x ∷ xs) order = (
  each_map (λ later. place x ≤ place later) (λ later. place (f x) ≤ place later) f (λ later less. omega (arith, less, same x, same later)) xs order.0,
  order_map place f same xs order.1,
)

after_more : (last number place : ℕ) → number ≤ number_after last number place
after_more last number place = grind arith

each_from : {A : Type 0} → (place : A → ℕ) (at : ℕ → A → A) → ((n : ℕ) (x : A) → place (at n x) ≡ n) → (least last number : ℕ) (xs : List A) → least ≤ number
    → AllByRecursion (λ x. least ≤ place x) (renumbered_from place at last number xs)
each_from place at put least last number [] less = tt
each_from place at put least last number (x ∷ xs) less =
    let more : number ≤ number_after last number (place x) = after_more last number (place x) in
    (omega (arith, less, more, put (number_after last number (place x)) x), each_from place at put least (place x) (number_after last number (place x)) xs (omega (arith, less, more)))

order_from : {A : Type 0} → (place : A → ℕ) (at : ℕ → A → A) → ((n : ℕ) (x : A) → place (at n x) ≡ n) → (last number : ℕ) (xs : List A)
    → AreInOrder place (renumbered_from place at last number xs)
order_from place at put last number [] = tt
order_from place at put last number (x ∷ xs) =
    let n = number_after last number (place x) in
    (each_from place at put (place (at n x)) (place x) n xs (omega (arith, put n x)), order_from place at put (place x) n xs)

pub order_renumbered : {A : Type 0} → (place : A → ℕ) (at : ℕ → A → A) → ((n : ℕ) (x : A) → place (at n x) ≡ n) → (xs : List A) → AreInOrder place (renumbered place at xs)
order_renumbered place at put [] = tt
order_renumbered place at put (x ∷ xs) = order_from place at put (place x) 0 (x ∷ xs)

pub woken_place : (domain : ℕ) (cuid : List ℕ) (mid : ℕ) (active : Bool) (x : PlacedScrub) → (woken domain cuid mid active x).place ≡ x.place
woken_place domain cuid mid active x = elim (is_of domain cuid mid x) as (λ v. (if v then scrub_set active x else x).place ≡ x.place) [ true ↦ refl | false ↦ refl ]

pub woken_slot : (domain : ℕ) (cuid : List ℕ) (mid : ℕ) (active : Bool) (x : PlacedScrub) → (woken domain cuid mid active x).slot ≡ x.slot
woken_slot domain cuid mid active x = elim (is_of domain cuid mid x) as (λ v. (if v then scrub_set active x else x).slot ≡ x.slot) [ true ↦ refl | false ↦ refl ]

set_or_not : (b : Bool) (active : Bool) (x : PlacedAcl) → (if b then acl_set active x else x).place ≡ x.place
set_or_not true active x = refl
set_or_not false active x = refl

pub activated_place : (domain : ℕ) (cuid : List ℕ) (active : Bool) (x : PlacedAcl) → (activated domain cuid active x).place ≡ x.place
activated_place domain cuid active x = set_or_not _ active x

-- ---- slots

not_same : (a b : ℕ) → a ≡ b → a == b ≡ false → ⊥
not_same a b same is = grind arith

differs : (slot : ℕ) (placed : List PlacedScrub) → scrub_in slot placed ≡ None → AllByRecursion (λ (other : PlacedScrub). slot ≢ other.slot) placed
differs slot [] none = tt
differs slot (x ∷ placed) none =
    elim (x.slot == slot) as (λ v. x.slot == slot ≡ v → cond v (Some x) (scrub_in slot placed) ≡ None → AllByRecursion (λ (other : PlacedScrub). slot ≢ other.slot) (x ∷ placed)) [
      | true ↦ λ is none. absurd (cc)
      | false ↦ λ is none. (λ same. not_same x.slot slot (sym same) is, differs slot placed none)
    ] refl none

apart_insert : (xs : List PlacedScrub) (i : ℕ) (x : PlacedScrub) → AllByRecursion (λ (other : PlacedScrub). x.slot ≢ other.slot) xs → HaveTheirSlots xs → HaveTheirSlots (insert xs i x)
apart_insert [] zero x new apart = (tt, tt)
apart_insert [] (suc i) x new apart = (tt, tt)
apart_insert (y ∷ xs) zero x new apart = (new, apart)
apart_insert (y ∷ xs) (suc i) x new apart =
    (each_insert (λ (later : PlacedScrub). y.slot ≢ later.slot) xs i x (λ same. new.0 (sym same)) apart.0, apart_insert xs i x new.1 apart.1)

pub apart_installed : (x : PlacedScrub) (xs : List PlacedScrub) (i : ℕ) → scrub_in x.slot xs ≡ None → HaveTheirSlots xs → HaveTheirSlots (insert xs i x)
apart_installed x xs i none apart = apart_insert xs i x (differs x.slot xs none) apart

pub apart_filter : (p : PlacedScrub → Bool) (xs : List PlacedScrub) → HaveTheirSlots xs → HaveTheirSlots (filter p xs)
apart_filter p [] apart = apart
apart_filter p (x ∷ xs) apart =
    elim (p x) as (λ v. HaveTheirSlots (cond v (x ∷ filter p xs) (filter p xs))) [
      | true ↦ (each_filter (λ (later : PlacedScrub). x.slot ≢ later.slot) p xs apart.0, apart_filter p xs apart.1)
      | false ↦ apart_filter p xs apart.1
    ]

pub apart_map : (f : PlacedScrub → PlacedScrub) → ((x : PlacedScrub) → (f x).slot ≡ x.slot) → (xs : List PlacedScrub) → HaveTheirSlots xs → HaveTheirSlots (map f xs)
apart_map f same [] apart = apart
apart_map f same (x ∷ xs) apart = (
  each_map (λ (later : PlacedScrub). x.slot ≢ later.slot) (λ (later : PlacedScrub). (f x).slot ≢ later.slot) f
      (λ later differ equal. differ (sym (same x) ∙ equal ∙ same later)) xs apart.0,
  apart_map f same xs apart.1,
)

differs_from : (slot last number : ℕ) (xs : List PlacedScrub) → AllByRecursion (λ (later : PlacedScrub). slot ≢ later.slot) xs
    → AllByRecursion (λ (later : PlacedScrub). slot ≢ later.slot) (renumbered_from place_of_scrub scrub_at_place last number xs)
differs_from slot last number [] all = all
differs_from slot last number (x ∷ xs) all = (all.0, differs_from slot x.place (number_after last number x.place) xs all.1)

apart_from : (last number : ℕ) (xs : List PlacedScrub) → HaveTheirSlots xs → HaveTheirSlots (renumbered_from place_of_scrub scrub_at_place last number xs)
apart_from last number [] apart = apart
apart_from last number (x ∷ xs) apart =
    (differs_from x.slot x.place (number_after last number x.place) xs apart.0, apart_from x.place (number_after last number x.place) xs apart.1)

pub apart_renumbered : (xs : List PlacedScrub) → HaveTheirSlots xs → HaveTheirSlots (renumbered place_of_scrub scrub_at_place xs)
apart_renumbered [] apart = apart
apart_renumbered (x ∷ xs) apart = apart_from x.place 0 (x ∷ xs) apart
