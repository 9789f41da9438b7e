-- The keys of observers.
use Rattle.std.proofs.Common.{◌≡◌, ◌≢◌, ℕ, zero, suc, ◌+◌, ◌<◌, Bool, true, false, cond, List, [], ◌∷◌, ◌++◌, length, filter, get_or, Option, Some, None, refl, sym, ap, subst, ◌∙◌, arith}
use Rattle.std.specs.Prelude.{not, ◌||◌, ◌==◌, option_map, slice_get}
use Rattle.std.specs.List.{find, remove}
use Rattle.std.proofs.lemmas.Bool.{eqb-true, eq-eqb, ne_eqb, false≢true}
use Rattle.dots_history.specs.Entries.{option_any}
use Rattle.dots_history.specs.Histories.{tally}
use Rattle.coap_exchange.specs.Firsts.{replace_at}
use Rattle.coap_exchange.proofs.Firsts.{NonePasses}
use Rattle.coap_observe.specs.Links.{Each, Apart, Distinct}
use Rattle.coap_observe.specs.Orders.{without}
use Rattle.coap_observe.proofs.Linking.{each_at}
use Rattle.coap_observe.specs.declared.observer.Observer.{Observer}
use Rattle.coap_observe.specs.Observed.{ObservedValue, is_token, registered_again}
use Rattle.coap_observe.specs.Observing.{entered}
use Rattle.coap_observe.specs.Rolls.{Member, key_of, one_of, keys_of, observed_of, is_key, has_key, one_at, without_key, with_key, first_key, peer_of, is_member_of, own_keys}

one_there : {A : Type 0} (x y : A) → Some x ≡ Some y → x ≡ y
one_there x y same = cc

-- ---- the one under a key

abbrev pub EachMember : (Member → Type 0) → List Member → Type 0
EachMember P [] = Unit {0}
EachMember P (r ∷ members) = P r × EachMember P members

at_front : (r : Member) (members : List Member) → one_at (key_of r) (r ∷ members) ≡ Some (one_of r)
at_front r members = ap (λ b. option_map one_of (cond b (Some r) (find (is_key (key_of r)) members))) (eq-eqb r.0 r.0 refl)

pub behind_front : (key : ℕ) (r : Member) (members : List Member) → key_of r ≢ key → one_at key (r ∷ members) ≡ one_at key members
behind_front key r members apart = ap (λ b. option_map one_of (cond b (Some r) (find (is_key key) members))) (ne_eqb r.0 key apart)

shifted : (r : Member) (members xs : List Member) → Apart (key_of r) (keys_of xs) → EachMember (λ member. one_at (key_of member) members ≡ Some (one_of member)) xs
    → EachMember (λ member. one_at (key_of member) (r ∷ members) ≡ Some (one_of member)) xs
shifted r members [] apart each = record {}
shifted r members (x ∷ xs) apart each = (behind_front (key_of x) r members (λ same. apart.0 (sym same)) ∙ each.0, shifted r members xs apart.1 each.1)

owned : (members : List Member) → Distinct (keys_of members) → EachMember (λ member. one_at (key_of member) members ≡ Some (one_of member)) members
owned [] distinct = record {}
owned (r ∷ members) distinct = (at_front r members, shifted r members members distinct.0 (owned members distinct.1))

-- ---- what is found among the keys of a peer is found among all

abbrev pub IsOwn : ℕ → (ObservedValue → Bool) → Type 0
IsOwn peer test = (x : ObservedValue) → test x ≡ true → (peer_of x == peer) ≡ true

found_own : (peer : ℕ) (at : ℕ → Option ObservedValue) (test : ObservedValue → Bool) (xs : List Member) → EachMember (λ member. at (key_of member) ≡ Some (one_of member)) xs → IsOwn peer test
    → find (λ key. option_any test (at key)) (own_keys peer xs) ≡ first_key test xs
found_own peer at test [] each own = refl
found_own peer at test (r ∷ xs) each own =
    by_test (is_member_of peer r) (test (one_of r)) (ap (option_any test) each.0) (own (one_of r)) (found_own peer at test xs each.1 own)
  where
    by_test : (b s : Bool) → option_any test (at (key_of r)) ≡ s → (s ≡ true → b ≡ true)
        → find (λ key. option_any test (at key)) (own_keys peer xs) ≡ first_key test xs
        → find (λ key. option_any test (at key)) (keys_of (cond b (r ∷ filter (is_member_of peer) xs) (filter (is_member_of peer) xs)))
        ≡ option_map key_of (cond s (Some r) (find (λ member. test (one_of member)) xs))
    by_test true true is own rest = ap (λ h. cond h (Some (key_of r)) (find (λ key. option_any test (at key)) (own_keys peer xs))) is
    by_test true false is own rest = ap (λ h. cond h (Some (key_of r)) (find (λ key. option_any test (at key)) (own_keys peer xs))) is ∙ rest
    by_test false true is own rest = absurd (false≢true (own refl))
    by_test false false is own rest = rest

pub found_key : (peer : ℕ) (test : ObservedValue → Bool) (members : List Member) → Distinct (keys_of members) → IsOwn peer test
    → find (λ key. option_any test (one_at key members)) (own_keys peer members) ≡ first_key test members
found_key peer test members distinct own = found_own peer (λ key. one_at key members) test members (owned members distinct) own

counted_own : (peer : ℕ) (at : ℕ → Option ObservedValue) (test : ObservedValue → Bool) (xs : List Member) → EachMember (λ member. at (key_of member) ≡ Some (one_of member)) xs → IsOwn peer test
    → tally (λ key. option_any test (at key)) (own_keys peer xs) ≡ tally test (observed_of xs)
counted_own peer at test [] each own = refl
counted_own peer at test (r ∷ xs) each own =
    by_test (is_member_of peer r) (test (one_of r)) (ap (option_any test) each.0) (own (one_of r)) (counted_own peer at test xs each.1 own)
  where
    by_test : (b s : Bool) → option_any test (at (key_of r)) ≡ s → (s ≡ true → b ≡ true)
        → tally (λ key. option_any test (at key)) (own_keys peer xs) ≡ tally test (observed_of xs)
        → tally (λ key. option_any test (at key)) (keys_of (cond b (r ∷ filter (is_member_of peer) xs) (filter (is_member_of peer) xs)))
        ≡ cond s 1 0 + tally test (observed_of xs)
    by_test true s is own rest =
        ap (λ h. cond {A = ℕ} h 1 0 + tally (λ key. option_any test (at key)) (own_keys peer xs)) is ∙ ap (λ t. cond {A = ℕ} s 1 0 + t) rest
    by_test false true is own rest = absurd (false≢true (own refl))
    by_test false false is own rest = omega (arith, rest)

pub counted : (peer : ℕ) (test : ObservedValue → Bool) (members : List Member) → Distinct (keys_of members) → IsOwn peer test
    → tally (λ key. option_any test (one_at key members)) (own_keys peer members) ≡ tally test (observed_of members)
counted peer test members distinct own = counted_own peer (λ key. one_at key members) test members (owned members distinct) own

-- ---- the first that passes

-- its key is one of the keys
each_first : (P : ℕ → Type 0) (test : ObservedValue → Bool) (members : List Member) (key : ℕ) → first_key test members ≡ Some key → Each P (keys_of members) → P key
each_first P test [] key found each = cc found
each_first P test (r ∷ members) key found each = by_test (test (one_of r)) found (λ is. each_first P test members key is each.1)
  where
    by_test : (b : Bool) → option_map key_of (cond b (Some r) (find (λ member. test (one_of member)) members)) ≡ Some key → (first_key test members ≡ Some key → P key) → P key
    by_test true is rest = subst P (one_there (key_of r) key is) each.0
    by_test false is rest = rest is

-- what stands under the key is the first that passes
pub first_own : (test : ObservedValue → Bool) (members : List Member) (key : ℕ) → Distinct (keys_of members) → first_key test members ≡ Some key → one_at key members ≡ find test (observed_of members)
first_own test [] key distinct found = cc found
first_own test (r ∷ members) key distinct found = by_test (test (one_of r)) found (λ is. first_own test members key distinct.1 is)
  where
    by_test : (b : Bool) → option_map key_of (cond b (Some r) (find (λ member. test (one_of member)) members)) ≡ Some key
        → (first_key test members ≡ Some key → one_at key members ≡ find test (observed_of members)) → one_at key (r ∷ members) ≡ cond b (Some (one_of r)) (find test (observed_of members))
    by_test true is rest = subst (λ k. one_at k (r ∷ members) ≡ Some (one_of r)) (one_there (key_of r) key is) (at_front r members)
    by_test false is rest = behind_front key r members (λ same. each_first (λ k. k ≢ key_of r) test members key is distinct.0 (sym same)) ∙ rest is

pub record IsFirst (test : ObservedValue → Bool) (members : List Member) (key : ℕ) : Type 0 where
  pub one : ObservedValue
  pub there : one_at key members ≡ Some one
  pub passes : test one ≡ true
  pub has : has_key key members ≡ true

pub is_first : (test : ObservedValue → Bool) (members : List Member) (key : ℕ) → Distinct (keys_of members) → first_key test members ≡ Some key → IsFirst test members key
is_first test [] key distinct found = cc found
is_first test (r ∷ members) key distinct found = by_test (test (one_of r)) refl found (λ is. is_first test members key distinct.1 is)
  where
    by_test : (b : Bool) → test (one_of r) ≡ b → option_map key_of (cond b (Some r) (find (λ member. test (one_of member)) members)) ≡ Some key
        → (first_key test members ≡ Some key → IsFirst test members key) → IsFirst test (r ∷ members) key
    by_test true passes is rest =
        let same = one_there (key_of r) key is in
        record {
          one = one_of r;
          there = subst (λ k. one_at k (r ∷ members) ≡ Some (one_of r)) same (at_front r members);
          passes = passes;
          has = ap (λ b. b || has_key key members) (eq-eqb r.0 key same);
        }
    by_test false passes is rest =
        let more = rest is in
        let apart : key_of r ≢ key = λ same. each_first (λ k. k ≢ key_of r) test members key is distinct.0 (sym same) in
        record {
          one = more.one;
          there = behind_front key r members apart ∙ more.there;
          passes = more.passes;
          has = ap (λ b. b || has_key key members) (ne_eqb r.0 key apart) ∙ more.has;
        }

-- where none has a key none passes
pub none_first : (test : ObservedValue → Bool) (members : List Member) → first_key test members ≡ None → NonePasses test (observed_of members)
none_first test [] none = record {}
none_first test (r ∷ members) none = by_test (test (one_of r)) refl none (λ is. none_first test members is)
  where
    by_test : (b : Bool) → test (one_of r) ≡ b → option_map key_of (cond b (Some r) (find (λ member. test (one_of member)) members)) ≡ None
        → (first_key test members ≡ None → NonePasses test (observed_of members)) → NonePasses test (observed_of (r ∷ members))
    by_test true is none rest = cc none
    by_test false is none rest = (is, rest none)

-- ---- other members are as they were

off_members : (key : ℕ) (members : List Member) → Apart key (keys_of members) → without_key key members ≡ members
off_members key [] apart = refl
off_members key (r ∷ members) apart =
    ap (λ b. cond (not b) (r ∷ without_key key members) (without_key key members)) (ne_eqb r.0 key apart.0)
    ∙ ap (λ rs. r ∷ rs) (off_members key members apart.1)

same_members : (key : ℕ) (becomes : ObservedValue → ObservedValue) (members : List Member) → Apart key (keys_of members) → with_key key becomes members ≡ members
same_members key becomes [] apart = refl
same_members key becomes (r ∷ members) apart =
    ap (λ b. cond b (r.0, becomes r.1) r ∷ with_key key becomes members) (ne_eqb r.0 key apart.0)
    ∙ ap (λ rs. r ∷ rs) (same_members key becomes members apart.1)

-- ---- registered again

pub entered_key : (observer : Observer) (seen : List (ℕ × ℕ)) (members : List Member) (key : ℕ) → Distinct (keys_of members) → first_key (is_token observer.peer observer.token) members ≡ Some key
    → observed_of (with_key key (registered_again observer seen) members) ≡ entered observer seen (observed_of members)
entered_key observer seen [] key distinct found = cc found
entered_key observer seen (r ∷ members) key distinct found = by_test (is_token observer.peer observer.token (one_of r)) found (λ is. entered_key observer seen members key distinct.1 is)
  where
    by_test : (b : Bool) → option_map key_of (cond b (Some r) (find (λ member. is_token observer.peer observer.token (one_of member)) members)) ≡ Some key
        → (first_key (is_token observer.peer observer.token) members ≡ Some key → observed_of (with_key key (registered_again observer seen) members) ≡ entered observer seen (observed_of members))
        → observed_of (with_key key (registered_again observer seen) (r ∷ members))
        ≡ cond b (registered_again observer seen (one_of r) ∷ observed_of members) (one_of r ∷ entered observer seen (observed_of members))
    by_test true is rest =
        let same = one_there (key_of r) key is in
        ap (λ b. one_of (cond b (r.0, registered_again observer seen r.1) r) ∷ observed_of (with_key key (registered_again observer seen) members)) (eq-eqb r.0 key same)
        ∙ ap (λ rs. registered_again observer seen (one_of r) ∷ observed_of rs) (same_members key (registered_again observer seen) members (subst (λ k. Apart k (keys_of members)) same distinct.0))
    by_test false is rest =
        let apart : key_of r ≢ key = λ same. each_first (λ k. k ≢ key_of r) (is_token observer.peer observer.token) members key is distinct.0 (sym same) in
        ap (λ b. one_of (cond b (r.0, registered_again observer seen r.1) r) ∷ observed_of (with_key key (registered_again observer seen) members)) (ne_eqb r.0 key apart)
        ∙ ap (λ os. one_of r ∷ os) (rest is)

-- ---- one less

-- without one that isn't kept, those that are kept are the same
pub others_same : (keep : ObservedValue → Bool) (members : List Member) (key : ℕ) (one : ObservedValue) → Distinct (keys_of members) → one_at key members ≡ Some one → keep one ≡ false
    → filter keep (observed_of (without_key key members)) ≡ filter keep (observed_of members)
others_same keep [] key one distinct there out = cc there
others_same keep (r ∷ members) key one distinct there out = by_test (r.0 == key) refl there (keep (one_of r)) refl (λ is. others_same keep members key one distinct.1 is out)
  where
    by_test : (b : Bool) → (r.0 == key) ≡ b → option_map one_of (cond b (Some r) (find (is_key key) members)) ≡ Some one → (s : Bool) → keep (one_of r) ≡ s
        → (one_at key members ≡ Some one → filter keep (observed_of (without_key key members)) ≡ filter keep (observed_of members))
        → filter keep (observed_of (cond (not b) (r ∷ without_key key members) (without_key key members))) ≡ cond s (one_of r ∷ filter keep (observed_of members)) (filter keep (observed_of members))
    by_test true same is true kept rest = absurd (false≢true (sym (ap keep (one_there (one_of r) one is) ∙ out) ∙ kept))
    by_test true same is false kept rest =
        ap (λ rs. filter keep (observed_of rs)) (off_members key members (subst (λ k. Apart k (keys_of members)) (eqb-true r.0 key same) distinct.0))
    by_test false same is true kept rest =
        ap (λ s. cond s (one_of r ∷ filter keep (observed_of (without_key key members))) (filter keep (observed_of (without_key key members)))) kept
        ∙ ap (λ os. one_of r ∷ os) (rest is)
    by_test false same is false kept rest =
        ap (λ s. cond s (one_of r ∷ filter keep (observed_of (without_key key members))) (filter keep (observed_of (without_key key members)))) kept
        ∙ rest is

no_longer : (key : ℕ) (members : List Member) → length (without_key key members) < length members + 1
no_longer key [] = omega arith
no_longer key (r ∷ members) = by_test (r.0 == key) (no_longer key members)
  where
    by_test : (b : Bool) → length (without_key key members) < length members + 1 → length (cond (not b) (r ∷ without_key key members) (without_key key members)) < length (r ∷ members) + 1
    by_test true rest = omega (arith, rest)
    by_test false rest = omega (arith, rest)

pub shorter : (key : ℕ) (members : List Member) → has_key key members ≡ true → length (without_key key members) < length members
shorter key [] has = absurd (false≢true has)
shorter key (r ∷ members) has = by_test (r.0 == key) has (no_longer key members) (shorter key members)
  where
    by_test : (b : Bool) → b || has_key key members ≡ true → length (without_key key members) < length members + 1 → (has_key key members ≡ true → length (without_key key members) < length members)
        → length (cond (not b) (r ∷ without_key key members) (without_key key members)) < length (r ∷ members)
    by_test true has most rest = omega (arith, most)
    by_test false has most rest = let less = rest has in omega (arith, less)

-- ---- by the place

pub length_keys : (members : List Member) → length (keys_of members) ≡ length members
length_keys [] = refl
length_keys (r ∷ members) = let rest = length_keys members in omega (arith, rest)

pub length_observed : (members : List Member) → length (observed_of members) ≡ length members
length_observed [] = refl
length_observed (r ∷ members) = let rest = length_observed members in omega (arith, rest)

off_front : (r : Member) (members : List Member) (place : ℕ) → place < length members → Apart (key_of r) (keys_of members) → key_of r ≢ get_or (keys_of members) place 0
off_front r members place less apart same =
    let long = length_keys members in
    each_at (λ k. k ≢ key_of r) (keys_of members) place apart (omega (arith, long, less)) (sym same)

pub one_placed : (members : List Member) (place : ℕ) → place < length members → Distinct (keys_of members) → one_at (get_or (keys_of members) place 0) members ≡ slice_get (observed_of members) place
one_placed [] place less distinct = absurd (omega (arith, less))
one_placed (r ∷ members) zero less distinct = at_front r members
one_placed (r ∷ members) (suc place) less distinct =
    behind_front (get_or (keys_of members) place 0) r members (off_front r members place (omega (arith, less)) distinct.0)
    ∙ one_placed members place (omega (arith, less)) distinct.1

pub has_placed : (members : List Member) (place : ℕ) → place < length members → has_key (get_or (keys_of members) place 0) members ≡ true
has_placed [] place less = absurd (omega (arith, less))
has_placed (r ∷ members) zero less = ap (λ b. b || has_key (key_of r) members) (eq-eqb r.0 r.0 refl)
has_placed (r ∷ members) (suc place) less = by_test (is_key (get_or (keys_of members) place 0) r) (has_placed members place (omega (arith, less)))
  where
    by_test : (b : Bool) → has_key (get_or (keys_of members) place 0) members ≡ true → b || has_key (get_or (keys_of members) place 0) members ≡ true
    by_test true rest = refl
    by_test false rest = rest

pub removed_placed : (members : List Member) (place : ℕ) → place < length members → Distinct (keys_of members)
    → observed_of (without_key (get_or (keys_of members) place 0) members) ≡ remove (observed_of members) place
removed_placed [] place less distinct = absurd (omega (arith, less))
removed_placed (r ∷ members) zero less distinct =
    ap (λ b. observed_of (cond (not b) (r ∷ without_key (key_of r) members) (without_key (key_of r) members))) (eq-eqb r.0 r.0 refl)
    ∙ ap observed_of (off_members (key_of r) members distinct.0)
removed_placed (r ∷ members) (suc place) less distinct =
    let key = get_or (keys_of members) place 0 in
    ap (λ b. observed_of (cond (not b) (r ∷ without_key key members) (without_key key members))) (ne_eqb r.0 key (off_front r members place (omega (arith, less)) distinct.0))
    ∙ ap (λ os. one_of r ∷ os) (removed_placed members place (omega (arith, less)) distinct.1)

pub changed_placed : (becomes : ObservedValue → ObservedValue) (members : List Member) (place : ℕ) → place < length members → Distinct (keys_of members)
    → observed_of (with_key (get_or (keys_of members) place 0) becomes members) ≡ replace_at place (λ o. becomes o ∷ []) (observed_of members)
changed_placed becomes [] place less distinct = absurd (omega (arith, less))
changed_placed becomes (r ∷ members) zero less distinct =
    ap (λ b. one_of (cond b (r.0, becomes r.1) r) ∷ observed_of (with_key (key_of r) becomes members)) (eq-eqb r.0 r.0 refl)
    ∙ ap (λ rs. becomes (one_of r) ∷ observed_of rs) (same_members (key_of r) becomes members distinct.0)
changed_placed becomes (r ∷ members) (suc place) less distinct =
    let key = get_or (keys_of members) place 0 in
    ap (λ b. one_of (cond b (r.0, becomes r.1) r) ∷ observed_of (with_key key becomes members)) (ne_eqb r.0 key (off_front r members place (omega (arith, less)) distinct.0))
    ∙ ap (λ os. one_of r ∷ os) (changed_placed becomes members place (omega (arith, less)) distinct.1)

-- ---- all keys

pub keys_last : (member : Member) (members : List Member) → keys_of (members ++ member ∷ []) ≡ keys_of members ++ key_of member ∷ []
keys_last member [] = refl
keys_last member (r ∷ members) = ap (λ ks. key_of r ∷ ks) (keys_last member members)

pub keys_less : (key : ℕ) (members : List Member) → keys_of (without_key key members) ≡ without key (keys_of members)
keys_less key [] = refl
keys_less key (r ∷ members) = by_test (r.0 == key) (keys_less key members)
  where
    by_test : (b : Bool) → keys_of (without_key key members) ≡ without key (keys_of members)
        → keys_of (cond (not b) (r ∷ without_key key members) (without_key key members)) ≡ cond (not b) (key_of r ∷ without key (keys_of members)) (without key (keys_of members))
    by_test true rest = rest
    by_test false rest = ap (λ ks. key_of r ∷ ks) rest

pub keys_with : (key : ℕ) (becomes : ObservedValue → ObservedValue) (members : List Member) → keys_of (with_key key becomes members) ≡ keys_of members
keys_with key becomes [] = refl
keys_with key becomes (r ∷ members) = by_test (is_key key r) (keys_with key becomes members)
  where
    by_test : (b : Bool) → keys_of (with_key key becomes members) ≡ keys_of members
        → key_of (cond b (r.0, becomes r.1) r) ∷ keys_of (with_key key becomes members) ≡ key_of r ∷ keys_of members
    by_test true rest = ap (λ ks. key_of r ∷ ks) rest
    by_test false rest = ap (λ ks. key_of r ∷ ks) rest

-- ---- the keys of a peer

pub own_last : (peer key : ℕ) (o : ObservedValue) (members : List Member) → own_keys peer (members ++ (key, o) ∷ []) ≡ own_keys peer members ++ cond (peer_of o == peer) (key ∷ []) []
own_last peer key o [] = by_test (peer_of o == peer)
  where
    by_test : (b : Bool) → keys_of (cond b ((key, o) ∷ []) []) ≡ cond b (key ∷ []) []
    by_test true = refl
    by_test false = refl
own_last peer key o (r ∷ members) = by_test (is_member_of peer r) (own_last peer key o members)
  where
    by_test : (b : Bool) → own_keys peer (members ++ (key, o) ∷ []) ≡ own_keys peer members ++ cond (peer_of o == peer) (key ∷ []) []
        → keys_of (cond b (r ∷ filter (is_member_of peer) (members ++ (key, o) ∷ [])) (filter (is_member_of peer) (members ++ (key, o) ∷ [])))
        ≡ keys_of (cond b (r ∷ filter (is_member_of peer) members) (filter (is_member_of peer) members)) ++ cond (peer_of o == peer) (key ∷ []) []
    by_test true rest = ap (λ ks. key_of r ∷ ks) rest
    by_test false rest = rest

pub own_less : (peer key : ℕ) (members : List Member) → own_keys peer (without_key key members) ≡ without key (own_keys peer members)
own_less peer key [] = refl
own_less peer key (r ∷ members) = by_test (r.0 == key) refl (is_member_of peer r) refl (own_less peer key members)
  where
    by_test : (b : Bool) → (r.0 == key) ≡ b → (s : Bool) → is_member_of peer r ≡ s → own_keys peer (without_key key members) ≡ without key (own_keys peer members)
        → own_keys peer (cond (not b) (r ∷ without_key key members) (without_key key members))
        ≡ without key (keys_of (cond s (r ∷ filter (is_member_of peer) members) (filter (is_member_of peer) members)))
    by_test true same true own rest = rest ∙ sym (ap (λ b. cond (not b) (key_of r ∷ without key (own_keys peer members)) (without key (own_keys peer members))) same)
    by_test true same false own rest = rest
    by_test false same true own rest =
        ap (λ s. keys_of (cond s (r ∷ filter (is_member_of peer) (without_key key members)) (filter (is_member_of peer) (without_key key members)))) own
        ∙ ap (λ ks. key_of r ∷ ks) rest
        ∙ sym (ap (λ b. cond (not b) (key_of r ∷ without key (own_keys peer members)) (without key (own_keys peer members))) same)
    by_test false same false own rest =
        ap (λ s. keys_of (cond s (r ∷ filter (is_member_of peer) (without_key key members)) (filter (is_member_of peer) (without_key key members)))) own
        ∙ rest

-- the keys of another peer stay
pub own_other : (peer key : ℕ) (one : ObservedValue) (members : List Member) → Distinct (keys_of members) → one_at key members ≡ Some one → (peer_of one == peer) ≡ false
    → own_keys peer (without_key key members) ≡ own_keys peer members
own_other peer key one [] distinct there out = cc there
own_other peer key one (r ∷ members) distinct there out = by_test (r.0 == key) refl there (is_member_of peer r) refl (λ is. own_other peer key one members distinct.1 is out)
  where
    by_test : (b : Bool) → (r.0 == key) ≡ b → option_map one_of (cond b (Some r) (find (is_key key) members)) ≡ Some one → (s : Bool) → is_member_of peer r ≡ s
        → (one_at key members ≡ Some one → own_keys peer (without_key key members) ≡ own_keys peer members)
        → own_keys peer (cond (not b) (r ∷ without_key key members) (without_key key members)) ≡ keys_of (cond s (r ∷ filter (is_member_of peer) members) (filter (is_member_of peer) members))
    by_test true same is true own rest = absurd (false≢true (sym (ap (λ o. peer_of o == peer) (one_there (one_of r) one is) ∙ out) ∙ own))
    by_test true same is false own rest =
        ap (own_keys peer) (off_members key members (subst (λ k. Apart k (keys_of members)) (eqb-true r.0 key same) distinct.0))
    by_test false same is true own rest =
        ap (λ s. keys_of (cond s (r ∷ filter (is_member_of peer) (without_key key members)) (filter (is_member_of peer) (without_key key members)))) own
        ∙ ap (λ ks. key_of r ∷ ks) (rest is)
    by_test false same is false own rest =
        ap (λ s. keys_of (cond s (r ∷ filter (is_member_of peer) (without_key key members)) (filter (is_member_of peer) (without_key key members)))) own
        ∙ rest is

one_key : (r other : Member) (members : List Member) (s : Bool) → key_of other ≡ key_of r → keys_of (cond s (other ∷ members) members) ≡ keys_of (cond s (r ∷ members) members)
one_key r other members true same = ap (λ k. k ∷ keys_of members) same
one_key r other members false same = refl

-- one that becomes another of the same peer
pub own_with : (peer key : ℕ) (becomes : ObservedValue → ObservedValue) (one : ObservedValue) (members : List Member) → Distinct (keys_of members) → one_at key members ≡ Some one
    → peer_of (becomes one) ≡ peer_of one → own_keys peer (with_key key becomes members) ≡ own_keys peer members
own_with peer key becomes one [] distinct there same_peer = cc there
own_with peer key becomes one (r ∷ members) distinct there same_peer = by_test (r.0 == key) refl there (is_member_of peer r) refl (λ is. own_with peer key becomes one members distinct.1 is same_peer)
  where
    by_test : (b : Bool) → (r.0 == key) ≡ b → option_map one_of (cond b (Some r) (find (is_key key) members)) ≡ Some one → (s : Bool) → is_member_of peer r ≡ s
        → (one_at key members ≡ Some one → own_keys peer (with_key key becomes members) ≡ own_keys peer members)
        → own_keys peer (cond b (r.0, becomes r.1) r ∷ with_key key becomes members) ≡ keys_of (cond s (r ∷ filter (is_member_of peer) members) (filter (is_member_of peer) members))
    by_test true same is s own rest =
        let peers : peer_of (becomes (one_of r)) ≡ peer_of (one_of r) = subst (λ o. peer_of (becomes o) ≡ peer_of o) (sym (one_there (one_of r) one is)) same_peer in
        ap (λ rs. own_keys peer ((r.0, becomes r.1) ∷ rs)) (same_members key becomes members (subst (λ k. Apart k (keys_of members)) (eqb-true r.0 key same) distinct.0))
        ∙ ap (λ p. keys_of (cond (p == peer) ((r.0, becomes r.1) ∷ filter (is_member_of peer) members) (filter (is_member_of peer) members))) peers
        ∙ ap (λ b. keys_of (cond b ((r.0, becomes r.1) ∷ filter (is_member_of peer) members) (filter (is_member_of peer) members))) own
        ∙ one_key r (r.0, becomes r.1) (filter (is_member_of peer) members) s refl
    by_test false same is true own rest =
        ap (λ s. keys_of (cond s (r ∷ filter (is_member_of peer) (with_key key becomes members)) (filter (is_member_of peer) (with_key key becomes members)))) own
        ∙ ap (λ ks. key_of r ∷ ks) (rest is)
    by_test false same is false own rest =
        ap (λ s. keys_of (cond s (r ∷ filter (is_member_of peer) (with_key key becomes members)) (filter (is_member_of peer) (with_key key becomes members)))) own
        ∙ rest is

pub observed_last : (member : Member) (members : List Member) → observed_of (members ++ member ∷ []) ≡ observed_of members ++ one_of member ∷ []
observed_last member [] = refl
observed_last member (r ∷ members) = ap (λ os. one_of r ∷ os) (observed_last member members)

-- ---- whose observer it is

pub record IsOwner (peer : ℕ) (o : Option ObservedValue) : Type 0 where
  pub one : ObservedValue
  pub there : o ≡ Some one
  pub peer_is : peer_of one ≡ peer

pub owner : (peer : ℕ) (o : Option ObservedValue) → option_map peer_of o ≡ Some peer → IsOwner peer o
owner peer None is = cc is
owner peer (Some one) is = record { one = one; there = refl; peer_is = one_there (peer_of one) peer is }

pub has_one : (key : ℕ) (one : ObservedValue) (members : List Member) → one_at key members ≡ Some one → has_key key members ≡ true
has_one key one [] there = cc there
has_one key one (r ∷ members) there = by_test (r.0 == key) there (has_one key one members)
  where
    by_test : (b : Bool) → option_map one_of (cond b (Some r) (find (is_key key) members)) ≡ Some one → (one_at key members ≡ Some one → has_key key members ≡ true)
        → b || has_key key members ≡ true
    by_test true is rest = refl
    by_test false is rest = rest is
