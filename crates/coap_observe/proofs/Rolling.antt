-- Observers by the slots that they stand in, and what one more, one less or another one makes of them.
use Rattle.std.proofs.Common.{◌≡◌, ◌≢◌, ℕ, ◌+◌, Bool, true, false, cond, List, [], ◌∷◌, ◌++◌, length, Option, Some, None, refl, sym, ap, subst, ◌∙◌, arith}
use Rattle.std.specs.Prelude.{not, ◌||◌, ◌==◌, is_some, option_map}
use Rattle.std.specs.List.{find}
use Rattle.std.proofs.lemmas.Bool.{eqb-true, eq-eqb, ne_eqb, false≢true}
use Rattle.std.proofs.lemmas.List.{length-map}
use Rattle.coap_observe.specs.Links.{Each, Apart, Distinct}
use Rattle.coap_observe.specs.Orders.{is_slot, has_slot, without}
use Rattle.coap_observe.proofs.Linking.{each_both, each_two, each_weaker}
use Rattle.coap_observe.proofs.Ringing.{apart_from, distinct_last}
use Rattle.coap_observe.specs.Observed.{ObservedValue}
use Rattle.coap_observe.specs.Rolls.{Member, key_of, one_of, keys_of, is_key, has_key, one_at, without_key, with_key, member_of, members_of, AreThere}

abbrev AllThere : (ℕ → Option ObservedValue) → List ℕ → Type 0
AllThere at keys = Each (λ key. is_some (at key) ≡ true) keys

-- ---- what the members say

pub keys_are : (at : ℕ → Option ObservedValue) (keys : List ℕ) → AllThere at keys → keys_of (members_of at keys) ≡ keys
keys_are at [] there = refl
keys_are at (k ∷ keys) there = by_one (at k) there.0 (keys_are at keys there.1)
  where
    by_one : (o : Option ObservedValue) → is_some o ≡ true → keys_of (members_of at keys) ≡ keys → keys_of (member_of k o ++ members_of at keys) ≡ k ∷ keys
    by_one None is rest = absurd (false≢true is)
    by_one (Some one) is rest = ap (λ ks. k ∷ ks) rest

pub length_members : (at : ℕ → Option ObservedValue) (keys : List ℕ) → AllThere at keys → length (members_of at keys) ≡ length keys
length_members at keys there = sym (length-map (members_of at keys) key_of) ∙ ap length (keys_are at keys there)

pub has_members : (at : ℕ → Option ObservedValue) (key : ℕ) (keys : List ℕ) → AllThere at keys → has_key key (members_of at keys) ≡ has_slot key keys
has_members at key [] there = refl
has_members at key (k ∷ keys) there = by_one (at k) there.0 (has_members at key keys there.1)
  where
    by_one : (o : Option ObservedValue) → is_some o ≡ true → has_key key (members_of at keys) ≡ has_slot key keys → has_key key (member_of k o ++ members_of at keys) ≡ is_slot key k || has_slot key keys
    by_one None is rest = absurd (false≢true is)
    by_one (Some one) is rest = ap (λ b. is_slot key k || b) rest

found_among : (at : ℕ → Option ObservedValue) (key : ℕ) (keys : List ℕ) → AllThere at keys → one_at key (members_of at keys) ≡ cond (has_slot key keys) (at key) None
found_among at key [] there = refl
found_among at key (k ∷ keys) there = by_one (at k) refl there.0 (found_among at key keys there.1)
  where
    by_test : (b : Bool) (one : ObservedValue) → (k == key) ≡ b → at k ≡ Some one → one_at key (members_of at keys) ≡ cond (has_slot key keys) (at key) None
        → option_map one_of (cond b (Some (k, one)) (find (is_key key) (members_of at keys))) ≡ cond (b || has_slot key keys) (at key) None
    by_test true one same is rest = sym is ∙ ap at (eqb-true k key same)
    by_test false one same is rest = rest

    by_one : (o : Option ObservedValue) → at k ≡ o → is_some o ≡ true → one_at key (members_of at keys) ≡ cond (has_slot key keys) (at key) None
        → one_at key (member_of k o ++ members_of at keys) ≡ cond (is_slot key k || has_slot key keys) (at key) None
    by_one None is some rest = absurd (false≢true some)
    by_one (Some one) is some rest = by_test (k == key) one refl is rest

pub found : (at : ℕ → Option ObservedValue) (key : ℕ) (keys : List ℕ) → AreThere at keys → one_at key (members_of at keys) ≡ at key
found at key keys kept = found_among at key keys kept.there ∙ by_test (has_slot key keys) refl
  where
    by_test : (b : Bool) → has_slot key keys ≡ b → cond b (at key) None ≡ at key
    by_test true is = refl
    by_test false is = sym (kept.nowhere key (apart_from key keys is))

appended : (xs ys zs : List Member) → (xs ++ ys) ++ zs ≡ xs ++ (ys ++ zs)
appended [] ys zs = refl
appended (x ∷ xs) ys zs = ap (λ members. x ∷ members) (appended xs ys zs)

-- ---- one more

pub members_last : (at new : ℕ → Option ObservedValue) (key : ℕ) (one : ObservedValue) (keys : List ℕ) → Apart key keys → new key ≡ Some one
    → ((other : ℕ) → other ≢ key → new other ≡ at other) → members_of new (keys ++ key ∷ []) ≡ members_of at keys ++ (key, one) ∷ []
members_last at new key one [] apart is others = ap (λ o. member_of key o ++ []) is
members_last at new key one (k ∷ keys) apart is others =
    ap (λ o. member_of k o ++ members_of new (keys ++ key ∷ [])) (others k apart.0)
    ∙ ap (λ members. member_of k (at k) ++ members) (members_last at new key one keys apart.1 is others)
    ∙ sym (appended (member_of k (at k)) (members_of at keys) ((key, one) ∷ []))

-- a slot without one is none of the keys
pub off_keys : (at : ℕ → Option ObservedValue) (key : ℕ) (keys : List ℕ) → AllThere at keys → at key ≡ None → Apart key keys
off_keys at key keys there none =
    each_weaker (λ k. is_some (at k) ≡ true) (λ k. k ≢ key) keys (λ k is same. absurd (false≢true (sym (ap is_some none) ∙ ap (λ j. is_some (at j)) (sym same) ∙ is))) there

pub none_has : (key : ℕ) (keys : List ℕ) → Apart key keys → has_slot key keys ≡ false
none_has key [] apart = refl
none_has key (k ∷ keys) apart = ap (λ b. b || has_slot key keys) (ne_eqb k key apart.0) ∙ none_has key keys apart.1

pub pushed_there : (at new : ℕ → Option ObservedValue) (key : ℕ) (one : ObservedValue) (keys : List ℕ) → AreThere at keys → at key ≡ None → new key ≡ Some one
    → ((other : ℕ) → other ≢ key → new other ≡ at other) → AreThere new (keys ++ key ∷ [])
pushed_there at new key one keys kept none is others =
    let apart = off_keys at key keys kept.there none in
    record {
      there =
          each_both (λ k. is_some (new k) ≡ true) keys (key ∷ [])
          (each_two (λ k. is_some (at k) ≡ true) (λ k. k ≢ key) (λ k. is_some (new k) ≡ true) keys (λ k some off. ap is_some (others k off) ∙ some) kept.there apart)
          (ap is_some is, record {});
      nowhere = λ k off. out k off;
      distinct = distinct_last key keys kept.distinct apart;
    }
  where
    front : (k : ℕ) (ks : List ℕ) → Apart k (ks ++ key ∷ []) → Apart k ks × (key ≢ k)
    front k [] off = (record {}, off.0)
    front k (x ∷ ks) off = let rest = front k ks off.1 in ((off.0, rest.0), rest.1)

    out : (k : ℕ) → Apart k (keys ++ key ∷ []) → new k ≡ None
    out k off = let both = front k keys off in others k (λ same. both.1 (sym same)) ∙ kept.nowhere k both.0

-- ---- one less

pub members_less : (at new : ℕ → Option ObservedValue) (key : ℕ) (keys : List ℕ) → ((other : ℕ) → other ≢ key → new other ≡ at other)
    → members_of new (without key keys) ≡ without_key key (members_of at keys)
members_less at new key [] others = refl
members_less at new key (k ∷ keys) others = by_test (k == key) refl (at k) refl (members_less at new key keys others)
  where
    by_test : (b : Bool) → (k == key) ≡ b → (o : Option ObservedValue) → at k ≡ o → members_of new (without key keys) ≡ without_key key (members_of at keys)
        → members_of new (cond (not b) (k ∷ without key keys) (without key keys)) ≡ without_key key (member_of k o ++ members_of at keys)
    by_test true same None is rest = rest
    by_test true same (Some one) is rest = rest ∙ sym (ap (λ b. cond (not b) ((k, one) ∷ without_key key (members_of at keys)) (without_key key (members_of at keys))) same)
    by_test false same None is rest =
        ap (λ o. member_of k o ++ members_of new (without key keys)) (others k (λ one. absurd (false≢true (sym same ∙ eq-eqb k key one))) ∙ is) ∙ rest
    by_test false same (Some one) is rest =
        ap (λ o. member_of k o ++ members_of new (without key keys)) (others k (λ same_key. absurd (false≢true (sym same ∙ eq-eqb k key same_key))) ∙ is)
        ∙ ap (λ members. (k, one) ∷ members) rest
        ∙ sym (ap (λ b. cond (not b) ((k, one) ∷ without_key key (members_of at keys)) (without_key key (members_of at keys))) same)

each_less : (P : ℕ → Type 0) (key : ℕ) (keys : List ℕ) → Each P keys → Each P (without key keys)
each_less P key [] each = record {}
each_less P key (k ∷ keys) each = by_test (is_slot key k) (each_less P key keys each.1)
  where
    by_test : (b : Bool) → Each P (without key keys) → Each P (cond (not b) (k ∷ without key keys) (without key keys))
    by_test true rest = rest
    by_test false rest = (each.0, rest)

off_without : (key : ℕ) (keys : List ℕ) → Apart key (without key keys)
off_without key [] = record {}
off_without key (k ∷ keys) = by_test (k == key) refl (off_without key keys)
  where
    by_test : (b : Bool) → (k == key) ≡ b → Apart key (without key keys) → Apart key (cond (not b) (k ∷ without key keys) (without key keys))
    by_test true same rest = rest
    by_test false same rest = (λ is. absurd (false≢true (sym same ∙ eq-eqb k key is)), rest)

pub distinct_without : (key : ℕ) (keys : List ℕ) → Distinct keys → Distinct (without key keys)
distinct_without key [] distinct = record {}
distinct_without key (k ∷ keys) distinct = by_test (is_slot key k) (distinct_without key keys distinct.1)
  where
    by_test : (b : Bool) → Distinct (without key keys) → Distinct (cond (not b) (k ∷ without key keys) (without key keys))
    by_test true rest = rest
    by_test false rest = (each_less (λ x. x ≢ k) key keys distinct.0, rest)

off_more : (key other : ℕ) (keys : List ℕ) → other ≢ key → Apart other (without key keys) → Apart other keys
off_more key other [] apart off = record {}
off_more key other (k ∷ keys) apart off = by_test (k == key) refl off (λ rest. off_more key other keys apart rest)
  where
    by_test : (b : Bool) → (k == key) ≡ b → Apart other (cond (not b) (k ∷ without key keys) (without key keys)) → (Apart other (without key keys) → Apart other keys) → Apart other (k ∷ keys)
    by_test true same rest more = (λ is. apart (sym is ∙ eqb-true k key same), more rest)
    by_test false same rest more = (rest.0, more rest.1)

pub removed_there : (at new : ℕ → Option ObservedValue) (key : ℕ) (keys : List ℕ) → AreThere at keys → new key ≡ None
    → ((other : ℕ) → other ≢ key → new other ≡ at other) → AreThere new (without key keys)
removed_there at new key keys kept is others = record {
  there =
      each_two (λ k. is_some (at k) ≡ true) (λ k. k ≢ key) (λ k. is_some (new k) ≡ true) (without key keys) (λ k some off. ap is_some (others k off) ∙ some)
      (each_less (λ k. is_some (at k) ≡ true) key keys kept.there) (off_without key keys);
  nowhere = λ k off. by_test k (k == key) refl off;
  distinct = distinct_without key keys kept.distinct;
}
  where
    by_test : (k : ℕ) (b : Bool) → (k == key) ≡ b → Apart k (without key keys) → new k ≡ None
    by_test k true same off = ap new (eqb-true k key same) ∙ is
    by_test k false same off =
        let apart : k ≢ key = λ one. absurd (false≢true (sym same ∙ eq-eqb k key one)) in
        others k apart ∙ kept.nowhere k (off_more key k keys apart off)

length_apart : (key : ℕ) (keys : List ℕ) → Apart key keys → length (without key keys) ≡ length keys
length_apart key [] apart = refl
length_apart key (k ∷ keys) apart =
    let rest = length_apart key keys apart.1 in
    ap (λ b. length (cond (not b) (k ∷ without key keys) (without key keys))) (ne_eqb k key apart.0)
    ∙ omega (arith, rest)

pub length_less : (key : ℕ) (keys : List ℕ) → Distinct keys → has_slot key keys ≡ true → length (without key keys) + 1 ≡ length keys
length_less key [] distinct there = absurd (false≢true there)
length_less key (k ∷ keys) distinct there = by_test (k == key) refl there (length_less key keys distinct.1)
  where
    by_test : (b : Bool) → (k == key) ≡ b → b || has_slot key keys ≡ true → (has_slot key keys ≡ true → length (without key keys) + 1 ≡ length keys)
        → length (cond (not b) (k ∷ without key keys) (without key keys)) + 1 ≡ length (k ∷ keys)
    by_test true same there rest = let long = length_apart key keys (subst (λ x. Apart x keys) (eqb-true k key same) distinct.0) in omega (arith, long)
    by_test false same there rest = let more = rest there in omega (arith, more)

-- ---- another one

pub members_with : (at new : ℕ → Option ObservedValue) (key : ℕ) (becomes : ObservedValue → ObservedValue) (keys : List ℕ) → new key ≡ option_map becomes (at key)
    → ((other : ℕ) → other ≢ key → new other ≡ at other) → members_of new keys ≡ with_key key becomes (members_of at keys)
members_with at new key becomes [] is others = refl
members_with at new key becomes (k ∷ keys) is others = by_test (k == key) refl (at k) refl (members_with at new key becomes keys is others)
  where
    by_test : (b : Bool) → (k == key) ≡ b → (o : Option ObservedValue) → at k ≡ o → members_of new keys ≡ with_key key becomes (members_of at keys)
        → member_of k (new k) ++ members_of new keys ≡ with_key key becomes (member_of k o ++ members_of at keys)
    by_test true same None none rest =
        ap (λ o. member_of k o ++ members_of new keys) (ap new (eqb-true k key same) ∙ is ∙ ap (λ j. option_map becomes (at j)) (sym (eqb-true k key same)) ∙ ap (option_map becomes) none)
        ∙ rest
    by_test true same (Some one) some rest =
        ap (λ o. member_of k o ++ members_of new keys) (ap new (eqb-true k key same) ∙ is ∙ ap (λ j. option_map becomes (at j)) (sym (eqb-true k key same)) ∙ ap (option_map becomes) some)
        ∙ ap (λ members. (k, becomes one) ∷ members) rest
        ∙ sym (ap (λ b. cond b (k, becomes one) (k, one) ∷ with_key key becomes (members_of at keys)) same)
    by_test false same None none rest =
        ap (λ o. member_of k o ++ members_of new keys) (others k (λ one. absurd (false≢true (sym same ∙ eq-eqb k key one))) ∙ none) ∙ rest
    by_test false same (Some one) some rest =
        ap (λ o. member_of k o ++ members_of new keys) (others k (λ same_key. absurd (false≢true (sym same ∙ eq-eqb k key same_key))) ∙ some)
        ∙ ap (λ members. (k, one) ∷ members) rest
        ∙ sym (ap (λ b. cond b (k, becomes one) (k, one) ∷ with_key key becomes (members_of at keys)) same)

pub put_there : (at new : ℕ → Option ObservedValue) (key : ℕ) (one : ObservedValue) (keys : List ℕ) → AreThere at keys → has_slot key keys ≡ true → new key ≡ Some one
    → ((other : ℕ) → other ≢ key → new other ≡ at other) → AreThere new keys
put_there at new key one keys kept there is others = record {
  there = each_weaker (λ k. is_some (at k) ≡ true) (λ k. is_some (new k) ≡ true) keys (λ k some. by_test k (k == key) refl some) kept.there;
  nowhere = λ k off. out k off;
  distinct = kept.distinct;
}
  where
    by_test : (k : ℕ) (b : Bool) → (k == key) ≡ b → is_some (at k) ≡ true → is_some (new k) ≡ true
    by_test k true same some = ap (λ j. is_some (new j)) (eqb-true k key same) ∙ ap is_some is
    by_test k false same some = ap is_some (others k (λ one. absurd (false≢true (sym same ∙ eq-eqb k key one)))) ∙ some

    out : (k : ℕ) → Apart k keys → new k ≡ None
    out k off = others k (λ same. absurd (false≢true (sym (none_has k keys off) ∙ ap (λ j. has_slot j keys) same ∙ there))) ∙ kept.nowhere k off

-- ---- one that is there

pub each_has : (P : ℕ → Type 0) (key : ℕ) (keys : List ℕ) → Each P keys → has_slot key keys ≡ true → P key
each_has P key [] each there = absurd (false≢true there)
each_has P key (k ∷ keys) each there = by_test (k == key) refl there (λ has. each_has P key keys each.1 has)
  where
    by_test : (b : Bool) → (k == key) ≡ b → b || has_slot key keys ≡ true → (has_slot key keys ≡ true → P key) → P key
    by_test true same there rest = subst P (eqb-true k key same) each.0
    by_test false same there rest = rest there

pub is_there : (at : ℕ → Option ObservedValue) (key : ℕ) (keys : List ℕ) → AllThere at keys → has_slot key keys ≡ true → is_some (at key) ≡ true
is_there at key keys there has = each_has (λ k. is_some (at k) ≡ true) key keys there has
