-- The exchanges in the order of their numbers.
use Rattle.std.proofs.Common.{◌≡◌, ℕ, zero, suc, ◌+◌, ◌-◌, ◌^◌, ◌<◌, ◌≤◌, Bool, true, false, cond, List, [], ◌∷◌, ◌++◌, length, map, drop, get_or, refl, sym, ap, subst, ◌∙◌, inl, inr, length-append, arith}
use Rattle.std.specs.Prelude.{◌==◌, ◌&&◌, not, nat_le, max, filter, slice_get, option_map, Option, Some, None}
use Rattle.std.specs.List.{find, AllByRecursion}
use Rattle.std.specs.Option.{option_or}
use Rattle.std.proofs.lemmas.Bool.{cond-true, cond-false, cases_order, cases_eq, and_parts, or_parts, eq-eqb, ne_eqb, eqb-true, eqb-false, leb-false, lt-leb, false≢true}
use Rattle.std.proofs.lemmas.Option.{none-some, same_Some}
use Rattle.std.proofs.lemmas.List.{length-map}
use Rattle.std.proofs.lemmas.List.Folds.{find-append}
use Rattle.coap_message.specs.declared.kind.Kind.{Kind}
use Rattle.coap_message.specs.declared.kind.Kind.TheVariants.{Con, Non, Ack, Rst}
use Rattle.dots_gateway.specs.declared.exchange.Exchange.{Exchange}
use Rattle.dots_gateway.specs.declared.exchange.Waiting.{Waiting}
use Rattle.dots_gateway.specs.declared.exchange.Key.{Key}
use Rattle.dots_gateway.specs.Exchanges.{ExchangesValue, AreApart, AreRising, AreRestorable, waiting_again, time_of, key_of, is_over, left_at, at_time, is_from, id_of, key_for, is_full}
use Rattle.dots_gateway.specs.Finding.{IsBefore, AreInOrder, AreSound, AreLinked, number_for, is_first_over, has_number, number_of, same_key}

-- ---- all of a list

pub all_left : {A : Type 0} (P : A → Type 0) (t : A → Bool) (xs : List A) → AllByRecursion P xs → AllByRecursion P (filter t xs)
all_left P t [] all = tt
all_left {A} P t (x ∷ xs) all = by_test (t x) (all_left P t xs all.1)
  where
    by_test : (b : Bool) → AllByRecursion P (filter t xs) → AllByRecursion P (cond b (x ∷ filter t xs) (filter t xs))
    by_test true rest = (all.0, rest)
    by_test false rest = rest

pub all_with : {A : Type 0} (P : A → Type 0) (xs : List A) (x : A) → AllByRecursion P xs → P x → AllByRecursion P (xs ++ x ∷ [])
all_with P [] x all one = (one, tt)
all_with P (y ∷ xs) x all one = (all.0, all_with P xs x all.1 one)

pub all_mapped : {A : Type 0} (P Q : A → Type 0) → ((x : A) → P x → Q x) → (xs : List A) → AllByRecursion P xs → AllByRecursion Q xs
all_mapped P Q f [] all = tt
all_mapped P Q f (x ∷ xs) all = (f x all.0, all_mapped P Q f xs all.1)

all_at : {A : Type 0} (P : A → Type 0) (xs : List A) (i : ℕ) (x : A) → AllByRecursion P xs → slice_get xs i ≡ Some x → P x
all_at P [] i x all there = absurd (none-some x there)
all_at P (y ∷ xs) zero x all there = subst P (same_Some y x there) all.0
all_at P (y ∷ xs) (suc i) x all there = all_at P xs i x all.1 there

-- what is found is one of them
all_found : {A : Type 0} (P : A → Type 0) (t : A → Bool) (xs : List A) (x : A) → AllByRecursion P xs → find t xs ≡ Some x → P x
all_found P t [] x all found = absurd (none-some x found)
all_found {A} P t (y ∷ xs) x all found = by_test (t y) found (λ is. all_found P t xs x all.1 is)
  where
    by_test : (b : Bool) → cond b (Some y) (find t xs) ≡ Some x → (find t xs ≡ Some x → P x) → P x
    by_test true is rest = subst P (same_Some y x is) all.0
    by_test false is rest = rest is

-- where none is found all fail, and the other way round
pub none_passes : {A : Type 0} (t : A → Bool) (xs : List A) → find t xs ≡ None → AllByRecursion (λ (x : A). t x ≡ false) xs
none_passes t [] none = tt
none_passes {A} t (x ∷ xs) none = by_test (t x) refl none (λ is. none_passes t xs is)
  where
    by_test : (b : Bool) → t x ≡ b → cond b (Some x) (find t xs) ≡ None → (find t xs ≡ None → AllByRecursion (λ (y : A). t y ≡ false) xs)
        → (t x ≡ false) × AllByRecursion (λ (y : A). t y ≡ false) xs
    by_test true pass is rest = absurd (none-some x (sym is))
    by_test false fail is rest = (fail, rest is)

pub none_found : {A : Type 0} (t : A → Bool) (xs : List A) → AllByRecursion (λ (x : A). t x ≡ false) xs → find t xs ≡ None
none_found t [] all = refl
none_found t (x ∷ xs) all = cond-false (t x) (Some x) (find t xs) all.0 ∙ none_found t xs all.1

all_from : {A : Type 0} (P : A → Type 0) (xs : List A) → ((i : ℕ) (x : A) → slice_get xs i ≡ Some x → P x) → AllByRecursion P xs
all_from P [] each = tt
all_from P (x ∷ xs) each = (each zero x refl, all_from P xs (λ i y there. each (suc i) y there))

pub nowhere_found : {A : Type 0} (t : A → Bool) (xs : List A) → ((i : ℕ) (x : A) → slice_get xs i ≡ Some x → t x ≡ false) → find t xs ≡ None
nowhere_found {A} t xs each = none_found t xs (all_from (λ (x : A). t x ≡ false) xs each)

-- ---- the time

late_over : (time other now : ℕ) → time ≤ other → nat_le (time + 247) now ≡ false → nat_le (other + 247) now ≡ false
late_over time other now later not_yet = lt-leb (other + 247) now (omega (arith, later, leb-false (time + 247) now not_yet))

none_over : (now : ℕ) (k : Waiting) (ks : List Waiting) → AllByRecursion (IsBefore k) ks → is_over now k ≡ false → AllByRecursion (λ (x : Waiting). is_over now x ≡ false) ks
none_over now k ks all not_yet =
    all_mapped (IsBefore k) (λ (x : Waiting). is_over now x ≡ false) (λ x before. late_over k.exchange.time x.exchange.time now before.time not_yet) ks all

all_stay : (now : ℕ) (ks : List Waiting) → AllByRecursion (λ (x : Waiting). is_over now x ≡ false) ks → left_at now ks ≡ ks
all_stay now [] all = refl
all_stay now (k ∷ ks) all =
    cond-true (not (is_over now k)) (k ∷ left_at now ks) (left_at now ks) (ap not all.0) ∙ ap (λ (xs : List Waiting). k ∷ xs) (all_stay now ks all.1)

-- where the first isn't over none is
pub first_stays : (now : ℕ) (ks : List Waiting) → AreInOrder ks → is_first_over now ks ≡ false → left_at now ks ≡ ks
first_stays now [] order not_yet = refl
first_stays now (k ∷ ks) order not_yet = all_stay now (k ∷ ks) (not_yet, none_over now k ks order.0 not_yet)

-- and the first that is over leaves those that stay
pub first_goes : (now : ℕ) (ks : List Waiting) → is_first_over now ks ≡ true → left_at now (drop 1 ks) ≡ left_at now ks
first_goes now [] over = refl
first_goes now (k ∷ ks) over = sym (cond-false (not (is_over now k)) (k ∷ left_at now ks) (left_at now ks) (ap not over))

pub fewer_left : (now : ℕ) (ks : List Waiting) → is_first_over now ks ≡ true → length (drop 1 ks) < length ks
fewer_left now [] over = absurd (false≢true over)
fewer_left now (k ∷ ks) over = omega arith

pub order_dropped : (ks : List Waiting) → AreInOrder ks → AreInOrder (drop 1 ks)
order_dropped [] order = tt
order_dropped (k ∷ ks) order = order.1

order_left : (t : Waiting → Bool) (ks : List Waiting) → AreInOrder ks → AreInOrder (filter t ks)
order_left t [] order = tt
order_left t (k ∷ ks) order = by_test (t k) (order_left t ks order.1)
  where
    by_test : (b : Bool) → AreInOrder (filter t ks) → AreInOrder (cond b (k ∷ filter t ks) (filter t ks))
    by_test true rest = (all_left (IsBefore k) t ks order.0, rest)
    by_test false rest = rest

fewer : {A : Type 0} (t : A → Bool) (xs : List A) → length (filter t xs) ≤ length xs
fewer t [] = omega arith
fewer {A} t (x ∷ xs) = by_test (t x) (fewer t xs)
  where
    by_test : (b : Bool) → length (filter t xs) ≤ length xs → length (cond b (x ∷ filter t xs) (filter t xs)) ≤ suc (length xs)
    by_test true rest = omega (arith, rest)
    by_test false rest = omega (arith, rest)

pub sound_at : (now : ℕ) (e : ExchangesValue) → AreSound e → AreSound (at_time now e)
sound_at now e sound =
    let t : ℕ = max now e.time in
    let stays = λ (k : Waiting). not (is_over t k) in
    let few = fewer stays e.waiting in
    record {
      some = sound.some;
      next = sound.next;
      few = omega (arith, few, sound.few);
      order = order_left stays e.waiting sound.order;
      below = all_left (λ (k : Waiting). k.exchange.number < e.next) stays e.waiting sound.below;
      past = all_left (λ (k : Waiting). k.exchange.time ≤ t) stays e.waiting
          (all_mapped (λ (k : Waiting). k.exchange.time ≤ e.time) (λ (k : Waiting). k.exchange.time ≤ t) (λ k before. omega (arith, before)) e.waiting sound.past);
    }

-- ---- their requests

same_parts : (k : Waiting) (key : Key) → is_from key.peer key.id k ≡ true → (k.exchange.peer ≡ key.peer) × (id_of k.exchange.key ≡ key.id)
same_parts k key is =
    let both = and_parts (k.exchange.peer == key.peer) (id_of k.exchange.key == key.id) is in
    (eqb-true k.exchange.peer key.peer both.0, eqb-true (id_of k.exchange.key) key.id both.1)

-- two that are of one request have one number there
same_number : (k : Waiting) (ks : List Waiting) (key : Key) → is_from key.peer key.id k ≡ true → number_for (key_of k.exchange) ks ≡ number_for key ks
same_number k ks key is =
    let same = same_parts k key is in
    ap (λ (p : ℕ). option_map number_of (find (is_from p (id_of k.exchange.key)) ks)) same.0
    ∙ ap (λ (i : ℕ). option_map number_of (find (is_from key.peer i) ks)) same.1

-- the first one goes, and the next one of its request is the first of it
pub one_gone : (k : Waiting) (ks : List Waiting) (key : Key) (link before found : Option ℕ) → link ≡ number_for (key_of k.exchange) ks
    → before ≡ number_for key (k ∷ ks) → found ≡ cond (same_key (key_of k.exchange) key) link before → found ≡ number_for key ks
one_gone k ks key link before found next old new = new ∙ by_test (is_from key.peer key.id k) refl old
  where
    by_test : (b : Bool) → is_from key.peer key.id k ≡ b → before ≡ option_map number_of (cond b (Some k) (find (is_from key.peer key.id) ks)) → cond b link before ≡ number_for key ks
    by_test true is old = next ∙ same_number k ks key is
    by_test false is old = old

-- one more in front
pub one_before : (k : Waiting) (ks : List Waiting) (key : Key) (before found : Option ℕ) → before ≡ number_for key ks
    → found ≡ cond (same_key (key_of k.exchange) key) (Some k.exchange.number) before → found ≡ number_for key (k ∷ ks)
one_before k ks key before found old new = new ∙ by_test (is_from key.peer key.id k)
  where
    by_test : (b : Bool) → cond b (Some k.exchange.number) before ≡ option_map number_of (cond b (Some k) (find (is_from key.peer key.id) ks))
    by_test true = refl
    by_test false = old

or_none : (o : Option Waiting) → option_or o None ≡ o
or_none None = refl
or_none (Some x) = refl

-- one more, of another request
pub one_more : (ks : List Waiting) (one : Waiting) (key : Key) (before found : Option ℕ) → find (is_from one.exchange.peer (id_of one.exchange.key)) ks ≡ None
    → before ≡ option_map number_of (find (is_from key.peer key.id) ks) → found ≡ cond (same_key (key_of one.exchange) key) (Some one.exchange.number) before
    → found ≡ option_map number_of (find (is_from key.peer key.id) (ks ++ one ∷ []))
one_more ks one key before found none old new = new ∙ by_test (is_from key.peer key.id one) refl ∙ sym (ap (option_map number_of) (find-append (is_from key.peer key.id) ks (one ∷ [])))
  where
    by_test : (b : Bool) → is_from key.peer key.id one ≡ b
        → cond b (Some one.exchange.number) before ≡ option_map number_of (option_or (find (is_from key.peer key.id) ks) (cond b (Some one) None))
    by_test true is =
        let same = same_parts one key is in
        let nowhere : find (is_from key.peer key.id) ks ≡ None
        = subst (λ (p : ℕ). find (is_from p key.id) ks ≡ None) same.0 (subst (λ (i : ℕ). find (is_from one.exchange.peer i) ks ≡ None) same.1 none) in
        sym (ap (λ (o : Option Waiting). option_map number_of (option_or o (Some one))) nowhere)
    by_test false is = old ∙ ap (option_map number_of) (sym (or_none (find (is_from key.peer key.id) ks)))

pub id_for : (kind : Kind) (id : ℕ) → id_of (key_for kind id) ≡ id
id_for Con id = refl
id_for Non id = refl
id_for Ack id = refl
id_for Rst id = refl

eqb-sym : (a b : ℕ) → (a == b) ≡ (b == a)
eqb-sym a b =
    elim (cases_eq a b) [
      | inl same ↦ eq-eqb a b same ∙ sym (eq-eqb b a (sym same))
      | inr differ ↦ ne_eqb a b differ ∙ sym (ne_eqb b a (λ same. differ (sym same)))
    ]

turned : (a b c d : ℕ) → (a == b) && (c == d) ≡ false → (b == a) && (d == c) ≡ false
turned a b c d apart = ap (λ (x : Bool). x && (d == c)) (eqb-sym b a) ∙ ap (λ (x : Bool). (a == b) && x) (eqb-sym d c) ∙ apart

pub linked_then : (ls : List (Option ℕ)) (ks : List Waiting) (one : Waiting) → AreLinked ls ks → find (is_from one.exchange.peer (id_of one.exchange.key)) ks ≡ None
    → AreLinked (ls ++ None ∷ []) (ks ++ one ∷ [])
linked_then [] [] one linked none = (refl, tt)
linked_then [] (k ∷ ks) one linked none = absurd linked
linked_then (l ∷ ls) [] one linked none = absurd linked
linked_then (l ∷ ls) (k ∷ ks) one linked none =
    let t = is_from k.exchange.peer (id_of k.exchange.key) in
    let passes = none_passes (is_from one.exchange.peer (id_of one.exchange.key)) (k ∷ ks) none in
    let other : t one ≡ false = turned k.exchange.peer one.exchange.peer (id_of k.exchange.key) (id_of one.exchange.key) passes.0 in
    let found : find t (ks ++ one ∷ []) ≡ find t ks
    = find-append t ks (one ∷ []) ∙ ap (option_or (find t ks)) (cond-false (t one) (Some one) None other) ∙ or_none (find t ks) in
    (linked.0 ∙ sym (ap (option_map number_of) found), linked_then ls ks one linked.1 (none_found (is_from one.exchange.peer (id_of one.exchange.key)) ks passes.1))

pub linked_length : (ls : List (Option ℕ)) (ks : List Waiting) → AreLinked ls ks → length ls ≡ length ks
linked_length [] [] linked = refl
linked_length [] (k ∷ ks) linked = absurd linked
linked_length (l ∷ ls) [] linked = absurd linked
linked_length (l ∷ ls) (k ∷ ks) linked = ap suc (linked_length ls ks linked.1)

pub linked_dropped : (ls : List (Option ℕ)) (ks : List Waiting) → AreLinked ls ks → AreLinked (drop 1 ls) (drop 1 ks)
linked_dropped [] [] linked = tt
linked_dropped [] (k ∷ ks) linked = absurd linked
linked_dropped (l ∷ ls) [] linked = absurd linked
linked_dropped (l ∷ ls) (k ∷ ks) linked = linked.1

befores : (one : Waiting) (ks : List Waiting) → AllByRecursion (λ (k : Waiting). k.exchange.number < one.exchange.number) ks
    → AllByRecursion (λ (k : Waiting). k.exchange.time ≤ one.exchange.time) ks → AllByRecursion (λ (k : Waiting). IsBefore k one) ks
befores one [] below past = tt
befores one (k ∷ ks) below past = (record { number = below.0; time = past.0 }, befores one ks below.1 past.1)

order_then : (one : Waiting) (ks : List Waiting) → AreInOrder ks → AllByRecursion (λ (k : Waiting). IsBefore k one) ks → AreInOrder (ks ++ one ∷ [])
order_then one [] order all = (tt, tt)
order_then one (k ∷ ks) order all = (all_with (IsBefore k) ks one order.0 all.0, order_then one ks order.1 all.1)

pub sound_with : (e : ExchangesValue) (one : Waiting) → AreSound e → length e.waiting < e.room → e.next < 2 ^ 64 - 1 → one.exchange.number ≡ e.next → one.exchange.time ≡ e.time
    → AreSound (record { room = e.room; next = e.next + 1; time = e.time; waiting = e.waiting ++ one ∷ [] })
sound_with e one sound room left number time =
    let len = length-append e.waiting (one ∷ []) in
    let below = subst (λ (n : ℕ). AllByRecursion (λ (k : Waiting). k.exchange.number < n) e.waiting) (sym number) sound.below in
    let past = subst (λ (t : ℕ). AllByRecursion (λ (k : Waiting). k.exchange.time ≤ t) e.waiting) (sym time) sound.past in
    record {
      some = omega arith;
      next = omega (arith, left);
      few = omega (arith, len, room);
      order = order_then one e.waiting sound.order (befores one e.waiting below past);
      below = all_with (λ (k : Waiting). k.exchange.number < e.next + 1) e.waiting one
          (all_mapped (λ (k : Waiting). k.exchange.number < e.next) (λ (k : Waiting). k.exchange.number < e.next + 1) (λ k before. omega (arith, before)) e.waiting sound.below)
          (omega (arith, number));
      past = all_with (λ (k : Waiting). k.exchange.time ≤ e.time) e.waiting one sound.past (omega (arith, time));
    }

-- ---- places

pub rising : (ks : List Waiting) (i j : ℕ) (one other : Waiting) → AreInOrder ks → slice_get ks i ≡ Some one → slice_get ks j ≡ Some other → i < j → IsBefore one other
rising [] i j one other order at there less = absurd (none-some one at)
rising (k ∷ ks) i zero one other order at there less = absurd (omega (arith, less))
rising (k ∷ ks) zero (suc j) one other order at there less =
    subst (λ (x : Waiting). IsBefore x other) (same_Some k one at) (all_at (IsBefore k) ks j other order.0 there)
rising (k ∷ ks) (suc i) (suc j) one other order at there less = rising ks i j one other order.1 at there (omega (arith, less))

pub apart : (ks : List Waiting) → AreInOrder ks → AreApart ks
apart ks order i j one other at there same =
    elim (cases_order i j) [
      | inl equal ↦ equal
      | inr (inl less) ↦ absurd (omega (arith, same, (rising ks i j one other order at there less).number))
      | inr (inr more) ↦ absurd (omega (arith, same, (rising ks j i other one order there at more).number))
    ]

-- ---- numbers

number_later : (k : Waiting) (ks : List Waiting) (x : Waiting) → AllByRecursion (IsBefore k) ks → find (has_number x.exchange.number) ks ≡ Some x → has_number x.exchange.number k ≡ false
number_later k ks x all found = let before = all_found (IsBefore k) (has_number x.exchange.number) ks x all found in ne_eqb k.exchange.number x.exchange.number (λ same. absurd (omega (arith, same, before.number)))

-- the one at a place is that of its number
pub number_at : (ks : List Waiting) (i : ℕ) (x : Waiting) → AreInOrder ks → slice_get ks i ≡ Some x → find (has_number x.exchange.number) ks ≡ Some x
number_at [] i x order there = absurd (none-some x there)
number_at (k ∷ ks) zero x order there =
    let same = same_Some k x there in
    cond-true (has_number x.exchange.number k) (Some k) (find (has_number x.exchange.number) ks) (eq-eqb k.exchange.number x.exchange.number (ap number_of same)) ∙ there
number_at (k ∷ ks) (suc i) x order there =
    let rest = number_at ks i x order.1 there in
    cond-false (has_number x.exchange.number k) (Some k) (find (has_number x.exchange.number) ks) (number_later k ks x order.0 rest) ∙ rest

-- and that of a request is that of its number
pub number_found : (t : Waiting → Bool) (ks : List Waiting) (x : Waiting) → AreInOrder ks → find t ks ≡ Some x → find (has_number x.exchange.number) ks ≡ Some x
number_found t [] x order found = absurd (none-some x found)
number_found t (k ∷ ks) x order found = by_test (t k) found (λ is. number_found t ks x order.1 is)
  where
    by_test : (b : Bool) → cond b (Some k) (find t ks) ≡ Some x → (find t ks ≡ Some x → find (has_number x.exchange.number) ks ≡ Some x)
        → find (has_number x.exchange.number) (k ∷ ks) ≡ Some x
    by_test true is rest = number_at (k ∷ ks) zero x order is
    by_test false is rest =
        cond-false (has_number x.exchange.number k) (Some k) (find (has_number x.exchange.number) ks) (number_later k ks x order.0 (rest is)) ∙ rest is

-- the number that a map has of a request finds it
pub found_by_number : (t : Waiting → Bool) (ks : List Waiting) (number : ℕ) → AreInOrder ks → Some number ≡ option_map number_of (find t ks) → find (has_number number) ks ≡ find t ks
found_by_number t ks number order is = by_found (find t ks) refl is
  where
    by_found : (o : Option Waiting) → find t ks ≡ o → Some number ≡ option_map number_of o → find (has_number number) ks ≡ find t ks
    by_found None found is = absurd (none-some number (sym is))
    by_found (Some x) found is =
        subst (λ (n : ℕ). find (has_number n) ks ≡ find t ks) (sym (same_Some number x.exchange.number is)) (number_found t ks x order found ∙ sym found)

pub none_by_number : (t : Waiting → Bool) (ks : List Waiting) → None ≡ option_map number_of (find t ks) → None ≡ find t ks
none_by_number t ks is = by_found (find t ks) is
  where
    by_found : (o : Option Waiting) → None ≡ option_map number_of o → None ≡ o
    by_found None is = refl
    by_found (Some x) is = absurd (none-some x.exchange.number is)

-- ---- as the code has them

pub sound_then_at : (now t : ℕ) (e : ExchangesValue) (waiting : List Waiting) → AreSound e → t ≡ max now e.time → waiting ≡ left_at t e.waiting
    → AreSound (record { room = e.room; next = e.next; time = t; waiting = waiting })
sound_then_at now t e waiting sound time left =
    subst (λ (ks : List Waiting). AreSound (record { room = e.room; next = e.next; time = t; waiting = ks })) (sym left)
    (subst (λ (n : ℕ). AreSound (record { room = e.room; next = e.next; time = n; waiting = left_at n e.waiting })) (sym time) (sound_at now e sound))

-- the exchange of a request
abbrev pub one_of : ℕ → ℕ → ℕ → ℕ → Kind → List ℕ → Option (List ℕ) → Waiting
one_of number peer id time kind token asked = record { exchange = record { number = number; peer = peer; key = key_for kind id; token = token; time = time }; asked = asked }

pub nowhere_by_key : (kind : Kind) (peer id : ℕ) (ks : List Waiting) → find (is_from peer id) ks ≡ None → find (is_from peer (id_of (key_for kind id))) ks ≡ None
nowhere_by_key kind peer id ks none = subst (λ (i : ℕ). find (is_from peer i) ks ≡ None) (sym (id_for kind id)) none

pub entered : (ks : List Waiting) (number peer id time : ℕ) (kind : Kind) (token : List ℕ) (asked : Option (List ℕ)) (key : Key) (before found : Option ℕ)
    → find (is_from peer id) ks ≡ None → before ≡ option_map number_of (find (is_from key.peer key.id) ks)
    → found ≡ cond ((peer == key.peer) && (id == key.id)) (Some number) before
    → found ≡ option_map number_of (find (is_from key.peer key.id) (ks ++ one_of number peer id time kind token asked ∷ []))
entered ks number peer id time kind token asked key before found none old new =
    one_more ks (one_of number peer id time kind token asked) key before found (nowhere_by_key kind peer id ks none) old
    (new ∙ ap (λ (i : ℕ). cond ((peer == key.peer) && (i == key.id)) (Some number) before) (sym (id_for kind id)))

pub sound_entered : (e : ExchangesValue) (peer id : ℕ) (kind : Kind) (token : List ℕ) (asked : Option (List ℕ)) → AreSound e → is_full e ≡ false
    → AreSound (record { room = e.room; next = e.next + 1; time = e.time; waiting = e.waiting ++ one_of e.next peer id e.time kind token asked ∷ [] })
sound_entered e peer id kind token asked sound room =
    let parts = or_parts (nat_le e.room (length e.waiting)) (e.next == 2 ^ 64 - 1) room in
    let few = leb-false e.room (length e.waiting) parts.0 in
    let differ = eqb-false e.next (2 ^ 64 - 1) parts.1 in
    sound_with e (one_of e.next peer id e.time kind token asked) sound few (below_last e.next sound.next differ) refl refl
  where
    below_last : (n : ℕ) → n < 2 ^ 64 → (n ≡ 2 ^ 64 - 1 → ⊥) → n < 2 ^ 64 - 1
    below_last n most differ =
        elim (cases_order n (2 ^ 64 - 1)) [
          | inl equal ↦ absurd (differ equal)
          | inr (inl less) ↦ less
          | inr (inr more) ↦ absurd (omega (arith, more, most))
        ]

-- ---- halving

pub below_then : (ks : List Waiting) (m : ℕ) (here : Waiting) (n : ℕ) → AreInOrder ks → slice_get ks m ≡ Some here → here.exchange.number < n
    → (i : ℕ) (k : Waiting) → slice_get ks i ≡ Some k → i < m + 1 → k.exchange.number < n
below_then ks m here n order at less i k there before =
    elim (cases_order i m) [
      | inl equal ↦ subst (λ (x : Waiting). x.exchange.number < n) (same_Some here k (sym at ∙ ap (slice_get ks) (sym equal) ∙ there)) less
      | inr (inl lower) ↦ omega (arith, less, (rising ks i m k here order there at lower).number)
      | inr (inr higher) ↦ absurd (omega (arith, higher, before))
    ]

pub above_then : (ks : List Waiting) (m : ℕ) (here : Waiting) (n : ℕ) → AreInOrder ks → slice_get ks m ≡ Some here → n < here.exchange.number
    → (i : ℕ) (k : Waiting) → slice_get ks i ≡ Some k → m ≤ i → n < k.exchange.number
above_then ks m here n order at more i k there behind =
    elim (cases_order i m) [
      | inl equal ↦ subst (λ (x : Waiting). n < x.exchange.number) (same_Some here k (sym at ∙ ap (slice_get ks) (sym equal) ∙ there)) more
      | inr (inl lower) ↦ absurd (omega (arith, lower, behind))
      | inr (inr higher) ↦ omega (arith, more, (rising ks m i here k order at there higher).number)
    ]

-- ---- numbers that fit

pub all_small : (e : ExchangesValue) → AreSound e → AllByRecursion (λ (k : Waiting). k.exchange.number < 2 ^ 64) e.waiting
all_small e sound = all_mapped (λ (k : Waiting). k.exchange.number < e.next) (λ (k : Waiting). k.exchange.number < 2 ^ 64) (λ k below. omega (arith, below, sound.next)) e.waiting sound.below

-- ---- exchanges that are restored

rising_behind : (number time : ℕ) (xs : List Exchange) (next : ℕ) → AreRising number time xs next
    → AllByRecursion (λ (k : Waiting). (number < k.exchange.number) × (time ≤ k.exchange.time)) (map waiting_again xs)
rising_behind number time [] next rising = tt
rising_behind number time (x ∷ xs) next rising = (
  (rising.0, rising.1),
  all_mapped (λ (k : Waiting). (x.number < k.exchange.number) × (x.time ≤ k.exchange.time)) (λ (k : Waiting). (number < k.exchange.number) × (time ≤ k.exchange.time))
      (λ k behind. (omega (arith, behind.0, rising.0), omega (arith, behind.1, rising.1))) (map waiting_again xs) (rising_behind x.number x.time xs next rising.2),
)

order_restored : (number time : ℕ) (xs : List Exchange) (next : ℕ) → AreRising number time xs next → AreInOrder (map waiting_again xs)
order_restored number time [] next rising = tt
order_restored number time (x ∷ xs) next rising = (
  all_mapped (λ (k : Waiting). (x.number < k.exchange.number) × (x.time ≤ k.exchange.time)) (IsBefore (waiting_again x))
      (λ k behind. record { number = behind.0; time = behind.1 }) (map waiting_again xs) (rising_behind x.number x.time xs next rising.2),
  order_restored x.number x.time xs next rising.2,
)

below_restored : (number time : ℕ) (xs : List Exchange) (next : ℕ) → AreRising number time xs next
    → (number < next) × AllByRecursion (λ (k : Waiting). k.exchange.number < next) (map waiting_again xs)
below_restored number time [] next rising = (rising, tt)
below_restored number time (x ∷ xs) next rising =
    let rest = below_restored x.number x.time xs next rising.2 in
    (omega (arith, rising.0, rest.0), (rest.0, rest.1))

past_restored : (number time : ℕ) (xs : List Exchange) (next : ℕ) → AreRising number time xs next
    → (time ≤ time_of time xs) × AllByRecursion (λ (k : Waiting). k.exchange.time ≤ time_of time xs) (map waiting_again xs)
past_restored number time [] next rising = (omega arith, tt)
past_restored number time (x ∷ xs) next rising =
    let rest = past_restored x.number x.time xs next rising.2 in
    (omega (arith, rising.1, rest.0), (rest.0, rest.1))

pub sound_restored : (xs : List Exchange) (next : ℕ) (e : ExchangesValue) (time : ℕ) (waiting : List Waiting) → AreRestorable xs next → next < 2 ^ 64 → length xs ≤ e.room
    → time ≡ max (time_of 0 xs) e.time → waiting ≡ map waiting_again xs → AreSound (record { room = e.room; next = next; time = time; waiting = waiting })
sound_restored xs next e time waiting rising fits room at are =
    let t : ℕ = max (time_of 0 xs) e.time in
    let below = below_restored 0 0 xs next rising in
    let past = past_restored 0 0 xs next rising in
    let len = length-map xs waiting_again in
    let sound : AreSound (record { room = e.room; next = next; time = t; waiting = map waiting_again xs })
    = record {
      some = below.0;
      next = fits;
      few = omega (arith, len, room);
      order = order_restored 0 0 xs next rising;
      below = below.1;
      past = all_mapped (λ (k : Waiting). k.exchange.time ≤ time_of 0 xs) (λ (k : Waiting). k.exchange.time ≤ t) (λ k before. omega (arith, before)) (map waiting_again xs) past.1;
    } in
    subst (λ (n : ℕ). AreSound (record { room = e.room; next = next; time = n; waiting = waiting })) (sym at)
    (subst (λ (ks : List Waiting). AreSound (record { room = e.room; next = next; time = t; waiting = ks })) (sym are) sound)

-- where the next number is 1 there are none
pub none_restored : (xs : List Exchange) (next : ℕ) → AreRestorable xs next → next ≡ 1 → xs ≡ []
none_restored [] next rising one = refl
none_restored (x ∷ xs) next rising one = absurd (omega (arith, rising.0, (below_restored x.number x.time xs next rising.2).0, one))

-- the last one has the time
pub time_at_last : (time : ℕ) (xs : List Exchange) (d : Exchange) → 0 < length xs → time_of time xs ≡ (get_or xs (length xs - 1) d).time
time_at_last time [] d some = absurd (omega (arith, some))
time_at_last time (x ∷ []) d some = refl
time_at_last time (x ∷ y ∷ xs) d some =
    let same : length (x ∷ y ∷ xs) - 1 ≡ suc (length (y ∷ xs) - 1) = omega arith in
    time_at_last x.time (y ∷ xs) d (omega arith) ∙ ap (λ (n : ℕ). (get_or (x ∷ y ∷ xs) n d).time) (sym same)
