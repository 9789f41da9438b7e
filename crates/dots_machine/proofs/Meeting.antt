-- Mitigations that meet, either way round.
use Rattle.std.proofs.Common.{◌≡◌, ℕ, Bool, true, false, ◌&&◌, ◌||◌, ◌==◌, List, [], ◌∷◌, inl, inr, refl, sym, ap, ◌∙◌, subst}
use Rattle.std.specs.Prelude.{bytes_eq}
use Rattle.std.specs.List.{list_any, list_all}
use Rattle.std.proofs.lemmas.Bool.{and_parts, and_from, eqb-true, eq-eqb, or_cases, or_left, or_right, or_parts, both_ways, false_from_ne_true}
use Rattle.std.proofs.lemmas.List.Folds.{list_any-append}
use Rattle.std.proofs.lemmas.Slice.Eq.{bytes_eq-Decides}
use Rattle.ip_scope.specs.Prefix.{PrefixValue, meets}
use Rattle.ip_scope.proofs.Prefixes.{meets-sym}
use Rattle.acl_lists.specs.declared.asked.Asked.{Asked}
use Rattle.dots_history.specs.declared.entry.Entry.{Entry}
use Rattle.dots_history.specs.declared.put.Put.{Put}
use Rattle.dots_history.specs.declared.put.Target.{Target}
use Rattle.dots_history.specs.declared.change.Change.TheVariants as change
use Rattle.dots_history.specs.Entries.{same_client, some_prefix, targets_meet, share_alias, overlaps, replaces, ends, same_flag}
use Rattle.dots_history.proofs.Members.{In, any_of}
use Rattle.conflict_rules.specs.Asking.{same_prefix, same_ports, all_among, same_set, asks_the_same, would_refresh}
use Rattle.conflict_rules.specs.ByOverlap.{resolved, rivals}
use Rattle.conflict_rules.proofs.LivePlaces.{in_any}

-- ---- tests over two lists
or_middle : (a b c d : Bool) → (a || b) || (c || d) ≡ (a || c) || (b || d)
or_middle true b c d = refl
or_middle false true true d = refl
or_middle false true false d = refl
or_middle false false true d = refl
or_middle false false false d = refl

any_same : {A : Type 0} (p q : A → Bool) (xs : List A) → ((x : A) → p x ≡ q x) → list_any p xs ≡ list_any q xs
any_same p q [] same = refl
any_same p q (x ∷ xs) same = ap (λ b. b || list_any p xs) (same x) ∙ ap (λ b. q x || b) (any_same p q xs same)

any_none : {A : Type 0} (xs : List A) → list_any (λ x. false) xs ≡ false
any_none [] = refl
any_none (x ∷ xs) = any_none xs

any_or : {A : Type 0} (p q : A → Bool) (xs : List A) → list_any (λ x. p x || q x) xs ≡ list_any p xs || list_any q xs
any_or p q [] = refl
any_or p q (x ∷ xs) = ap (λ b. (p x || q x) || b) (any_or p q xs) ∙ or_middle (p x) (q x) (list_any p xs) (list_any q xs)

any_turned : {A B : Type 0} (r : A → B → Bool) (xs : List A) (ys : List B) → list_any (λ x. list_any (r x) ys) xs ≡ list_any (λ y. list_any (λ x. r x y) xs) ys
any_turned r [] ys = sym (any_none ys)
any_turned r (x ∷ xs) ys = ap (λ b. list_any (r x) ys || b) (any_turned r xs ys) ∙ sym (any_or (r x) (λ y. list_any (λ x. r x y) xs) ys)

-- ---- targets
pub some_resolved : (test : PrefixValue → Bool) (targets : List Target) → some_prefix test targets ≡ list_any test (resolved targets)
some_resolved test [] = refl
some_resolved test (x ∷ xs) = ap (λ b. list_any test x.prefixes || b) (some_resolved test xs) ∙ sym (list_any-append test x.prefixes (resolved xs))

meet_turned : (own others : List Target) → some_prefix (λ p. some_prefix (meets p) others) own ≡ some_prefix (λ q. some_prefix (meets q) own) others
meet_turned own others =
    some_resolved (λ p. some_prefix (meets p) others) own
    ∙ any_same (λ p. some_prefix (meets p) others) (λ p. list_any (meets p) (resolved others)) (resolved own) (λ p. some_resolved (meets p) others)
    ∙ any_turned meets (resolved own) (resolved others)
    ∙ any_same (λ q. list_any (λ p. meets p q) (resolved own)) (λ q. some_prefix (meets q) own) (resolved others)
    (λ q. any_same (λ p. meets p q) (meets q) (resolved own) (λ p. meets-sym p q) ∙ sym (some_resolved (meets q) own))
    ∙ sym (some_resolved (λ q. some_prefix (meets q) own) others)

pub meet_sym : (a b : Put) → targets_meet a b ≡ targets_meet b a
unfolding targets_meet
meet_sym a b = meet_turned a.targets b.targets

-- by the targets of the second
pub meet_by : (a b : Put) → targets_meet a b ≡ some_prefix (λ p. some_prefix (meets p) a.targets) b.targets
unfolding targets_meet
meet_by a b = meet_turned a.targets b.targets

pub same_targets : (a b c : Put) → b.targets ≡ c.targets → targets_meet a b ≡ targets_meet a c
unfolding targets_meet
same_targets a b c same = ap (λ ts. some_prefix (λ p. some_prefix (meets p) ts) a.targets) same

-- ---- aliases
bytes_own : (a b : List ℕ) → bytes_eq a b ≡ true → a ≡ b
bytes_own a b is = (bytes_eq-Decides a b).0 is

bytes_same : (a b : List ℕ) → a ≡ b → bytes_eq a b ≡ true
bytes_same a b is = (bytes_eq-Decides a b).1 is

true_both : (a b : Bool) → (a ≡ true → b ≡ true) → (b ≡ true → a ≡ true) → a ≡ b
true_both true b to from = sym (to refl)
true_both false true to from = from refl
true_both false false to from = refl

bytes_sym : (a b : List ℕ) → bytes_eq a b ≡ bytes_eq b a
bytes_sym a b = true_both (bytes_eq a b) (bytes_eq b a) (λ is. bytes_same b a (sym (bytes_own a b is))) (λ is. bytes_same a b (sym (bytes_own b a is)))

alias_sym : (a b : Put) → share_alias a b ≡ share_alias b a
unfolding share_alias
alias_sym a b =
    any_turned bytes_eq a.asked.aliases b.asked.aliases
    ∙ any_same (λ y. list_any (λ x. bytes_eq x y) a.asked.aliases) (λ y. list_any (bytes_eq y) a.asked.aliases) b.asked.aliases
    (λ y. any_same (λ x. bytes_eq x y) (bytes_eq y) a.asked.aliases (λ x. bytes_sym x y))

all_have : {A : Type 0} (test : A → Bool) (xs : List A) (x : A) → list_all test xs ≡ true → In x xs → test x ≡ true
all_have test [] x all is = absurd is
all_have test (y ∷ ys) x all (inl same) = ap test same ∙ (and_parts (test y) (list_all test ys) all).0
all_have test (y ∷ ys) x all (inr more) = all_have test ys x (and_parts (test y) (list_all test ys) all).1 more

aliases_among : (a b : Asked) → asks_the_same a b ≡ true → all_among bytes_eq b.aliases a.aliases ≡ true
aliases_among a b is =
    let one = (and_parts (same_set same_prefix a.prefixes b.prefixes) _ is).1 in
    let two = (and_parts (same_set same_ports a.ports b.ports) _ one).1 in
    let three = (and_parts _ (same_set bytes_eq a.names b.names && same_set bytes_eq a.aliases b.aliases) two).1 in
    let four = (and_parts (same_set bytes_eq a.names b.names) (same_set bytes_eq a.aliases b.aliases) three).1 in
    (and_parts (all_among bytes_eq a.aliases b.aliases) (all_among bytes_eq b.aliases a.aliases) four).1

-- what shares an alias with a request shares it with what the request asks for again
pub alias_again : (a b c : Put) → asks_the_same c.asked b.asked ≡ true → share_alias a b ≡ true → share_alias a c ≡ true
unfolding share_alias
alias_again a b c same is =
    let name = in_any (λ name. list_any (bytes_eq name) b.asked.aliases) a.asked.aliases is in
    let other = in_any (bytes_eq name.0) b.asked.aliases name.2 in
    let among = all_have (λ x. list_any (bytes_eq x) c.asked.aliases) b.asked.aliases other.0 (aliases_among c.asked b.asked same) other.1 in
    any_of (λ name. list_any (bytes_eq name) c.asked.aliases) name.0 a.asked.aliases name.1
    (subst (λ n. list_any (bytes_eq n) c.asked.aliases ≡ true) (sym (bytes_own name.0 other.0 other.2)) among)

-- ---- overlap
pub overlap_of : (a b : Put) → overlaps true a b ≡ targets_meet a b || share_alias a b
unfolding overlaps
overlap_of a b = refl

pub overlap_sym : (a b : Put) → overlaps true a b ≡ overlaps true b a
overlap_sym a b =
    overlap_of a b ∙ ap (λ m. m || share_alias a b) (meet_sym a b) ∙ ap (λ m. targets_meet b a || m) (alias_sym a b) ∙ sym (overlap_of b a)

-- what overlaps with a refresh overlaps with what is refreshed
pub overlap_again : (a b c : Put) → b.targets ≡ c.targets → asks_the_same c.asked b.asked ≡ true → overlaps true a b ≡ true → overlaps true a c ≡ true
overlap_again a b c targets same is =
    elim (or_cases (targets_meet a b) (share_alias a b) (sym (overlap_of a b) ∙ is)) [
      | inl met ↦ overlap_of a c ∙ or_left (targets_meet a c) (share_alias a c) (sym (same_targets a b c targets) ∙ met)
      | inr shared ↦ overlap_of a c ∙ or_right (targets_meet a c) (share_alias a c) (alias_again a b c same shared)
    ]

-- what doesn't overlap doesn't meet
pub apart_by_overlap : (a b : Put) → overlaps true a b ≡ false → targets_meet a b ≡ false
apart_by_overlap a b out = (or_parts (targets_meet a b) (share_alias a b) (sym (overlap_of a b) ∙ out)).0

-- only the mid, what was asked and the targets count
pub same_overlap : (a b c : Put) → b.targets ≡ c.targets → b.asked ≡ c.asked → overlaps true a b ≡ overlaps true a c
unfolding overlaps targets_meet share_alias
same_overlap a b c targets asked =
    ap (λ ts. some_prefix (λ p. some_prefix (meets p) ts) a.targets || share_alias a b) targets
    ∙ ap (λ (q : Asked). some_prefix (λ p. some_prefix (meets p) c.targets) a.targets || list_any (λ name. list_any (bytes_eq name) q.aliases) a.asked.aliases) asked

-- ---- trigger values
pub flag_same : (a b : Bool) → a ≡ b → same_flag a b ≡ true
flag_same true true is = refl
flag_same true false is = sym is
flag_same false true is = is
flag_same false false is = refl

pub flag_own : (a b : Bool) → same_flag a b ≡ true → a ≡ b
flag_own true b is = sym is
flag_own false true is = is
flag_own false false is = refl

-- of one trigger value, what can stay beside another doesn't overlap with it
pub apart_by_rivals : (a b : Put) → a.trigger ≡ b.trigger → rivals a b ≡ false → overlaps true a b ≡ false
apart_by_rivals a b same out =
    sym (ap (λ f. f && overlaps true a b) (flag_same a.trigger b.trigger same)) ∙ out

pub rivals_sym : (a b : Put) → rivals a b ≡ true → rivals b a ≡ true
rivals_sym a b is =
    let parts = and_parts (same_flag a.trigger b.trigger) (overlaps true a b) is in
    and_from (same_flag b.trigger a.trigger) (overlaps true b a)
    (flag_same b.trigger a.trigger (sym (flag_own a.trigger b.trigger parts.0)))
    (sym (overlap_sym a b) ∙ parts.1)

-- only the mid, what was asked, the targets and the trigger value count
pub same_rivals : (a b c : Put) → b.targets ≡ c.targets → b.asked ≡ c.asked → b.trigger ≡ c.trigger → rivals a b ≡ rivals a c
same_rivals a b c targets asked trigger =
    ap (λ flag. same_flag a.trigger flag && overlaps true a b) trigger
    ∙ ap (λ f. same_flag a.trigger c.trigger && f) (same_overlap a b c targets asked)

-- what can't stay beside a refresh can't stay beside what is refreshed
pub rivals_again : (a b c : Put) → b.targets ≡ c.targets → would_refresh b.asked b.trigger c ≡ true → rivals a b ≡ true → rivals a c ≡ true
rivals_again a b c targets again is =
    let parts = and_parts (same_flag a.trigger b.trigger) (overlaps true a b) is in
    let same = and_parts (asks_the_same c.asked b.asked) (same_flag c.trigger b.trigger) again in
    and_from (same_flag a.trigger c.trigger) (overlaps true a c)
    (flag_same a.trigger c.trigger (flag_own a.trigger b.trigger parts.0 ∙ sym (flag_own c.trigger b.trigger same.1)))
    (overlap_again a b c targets same.0 parts.1)

-- ---- one that ends another
replaced : (a b : Put) → replaces (change.Put a) (change.Put b) ≡ ((a.mid == b.mid) || rivals a b)
unfolding replaces
replaced a b = refl

end_parts : (a b : Entry) → ends a b ≡ same_client a b && replaces a.change b.change
unfolding ends
end_parts a b = refl

client_parts : (a b : Entry) → a.domain ≡ b.domain → a.cuid ≡ b.cuid → same_client a b ≡ true
unfolding same_client
client_parts a b domain cuid =
    ap (λ d. (d == b.domain) && bytes_eq a.cuid b.cuid) domain ∙ ap (λ c. (b.domain == b.domain) && bytes_eq c b.cuid) cuid ∙ both (eq-eqb b.domain b.domain refl) (bytes_same b.cuid b.cuid refl)
  where
    both : (b.domain == b.domain) ≡ true → bytes_eq b.cuid b.cuid ≡ true → ((b.domain == b.domain) && bytes_eq b.cuid b.cuid) ≡ true
    both one other = and_from (b.domain == b.domain) (bytes_eq b.cuid b.cuid) one other

same_parts : (a b : Entry) → same_client a b ≡ true → (a.domain ≡ b.domain) × (a.cuid ≡ b.cuid)
unfolding same_client
same_parts a b is =
    let parts = and_parts (a.domain == b.domain) (bytes_eq a.cuid b.cuid) is in (eqb-true a.domain b.domain parts.0, bytes_own a.cuid b.cuid parts.1)

-- it is of the client, and has the mid, or the trigger value and overlaps
pub ends_so : (a b : Entry) (one other : Put) → a.change ≡ change.Put one → b.change ≡ change.Put other → ends a b ≡ true
    → (a.domain ≡ b.domain) × (a.cuid ≡ b.cuid) × (((one.mid == other.mid) || rivals one other) ≡ true)
ends_so a b one other puts too is =
    let parts = and_parts (same_client a b) (replaces a.change b.change) (sym (end_parts a b) ∙ is) in
    let client = same_parts a b parts.0 in
    (client.0, client.1, sym (replaced one other) ∙ sym (ap (λ c. replaces c (change.Put other)) puts) ∙ sym (ap (λ c. replaces a.change c) too) ∙ parts.1)

-- one of the client that isn't ended has another trigger value, or doesn't overlap
pub unended_so : (a b : Entry) (one other : Put) → a.domain ≡ b.domain → a.cuid ≡ b.cuid → a.change ≡ change.Put one → b.change ≡ change.Put other → ends a b ≡ false
    → rivals one other ≡ false
unended_so a b one other domain cuid puts too out =
    false_from_ne_true (rivals one other) (
    λ is. both_ways (ends a b) out (
    end_parts a b
    ∙ and_from (same_client a b) (replaces a.change b.change) (client_parts a b domain cuid)
    (ap (λ c. replaces c b.change) puts ∙ ap (λ c. replaces (change.Put one) c) too ∙ replaced one other ∙ or_right (one.mid == other.mid) (rivals one other) is)))
