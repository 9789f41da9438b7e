-- Where GETs came from, after all that passed.
use Rattle.std.proofs.Common.{◌≡◌, ℕ, suc, zero, ◌+◌, ◌<◌, ◌≤◌, Bool, true, false, not, ◌&&◌, List, [], ◌∷◌, ◌++◌, length, take, Option, Some, None, refl, sym, ap, subst, ◌∙◌, cond, arith}
use Rattle.std.specs.Prelude.{find, bytes_eq, option_map, nat_le}
use Rattle.std.specs.Set.{remove_key}
use Rattle.std.proofs.lemmas.Slice.Eq.{bytes_eq-Decides}
use Rattle.dots_edge.specs.declared.head.Head.{Head}
use Rattle.dots_edge.specs.declared.getter.Getter.{Getter}
use Rattle.dots_edge.specs.declared.way.Way.{Way}
use Rattle.dots_edge.specs.Headers.{is_get, is_response, is_reply_to}
use Rattle.dots_edge.specs.Returns.{Reached, has_token, way_of, is_answered, goes_to, with_getter, getters_after, found_first, renewed, after_received, after_sent}
use Rattle.dots_edge.specs.Passed.{Passed, came, went, reached, last_way, last_get, IsRecent}

-- ---- where the last datagram of the peer came from

pub last_is : (known : Option Way) (passed : List Passed) → (reached known passed).last ≡ last_way known passed
last_is known [] = refl
last_is known (came way head ∷ earlier) = refl
last_is known (went None ∷ earlier) = last_is known earlier
last_is known (went (Some head) ∷ earlier) =
    elim (is_answered (reached known earlier).asked head) as (λ v. (cond v (record (reached known earlier) { asked = None }) (cond (is_response head) (record (reached known earlier) { getters = renewed head.token (reached known earlier).getters }) (reached known earlier))).last ≡ last_way known earlier) [
      | true ↦ last_is known earlier
      | false ↦ elim (is_response head) as (λ v. (cond v (record (reached known earlier) { getters = renewed head.token (reached known earlier).getters }) (reached known earlier)).last ≡ last_way known earlier) [
        | true ↦ last_is known earlier
        | false ↦ last_is known earlier
      ]
    ]

-- what is known of GETs after a datagram went
abbrev getters_sent : Option Head → Option Head → List Getter → List Getter
getters_sent asked None getters = getters
getters_sent asked (Some head) getters = cond (is_answered asked head) getters (cond (is_response head) (renewed head.token getters) getters)

getters_are : (head : Option Head) (r : Reached) → (after_sent head r).getters ≡ getters_sent r.asked head r.getters
getters_are None r = refl
getters_are (Some head) r =
    elim (is_answered r.asked head) as (λ v. (cond v (record r { asked = None }) (cond (is_response head) (record r { getters = renewed head.token r.getters }) r)).getters ≡ cond v r.getters (cond (is_response head) (renewed head.token r.getters) r.getters)) [
      | true ↦ refl
      | false ↦ elim (is_response head) as (λ v. (cond v (record r { getters = renewed head.token r.getters }) r).getters ≡ cond v (renewed head.token r.getters) r.getters) [ true ↦ refl | false ↦ refl ]
    ]

-- ---- lists of which a part passes a test

-- what is found near the front is found further on
found_further : {X : Type 0} (p : X → Bool) (n : ℕ) (xs : List X) (x : X) → find p (take n xs) ≡ Some x → find p xs ≡ Some x
found_further p zero xs x found = absurd cc
found_further p (suc n) [] x found = absurd cc
found_further p (suc n) (y ∷ ys) x found =
    elim (p y) as (λ v. cond v (Some y) (find p (take n ys)) ≡ Some x → cond v (Some y) (find p ys) ≡ Some x) [
      | true ↦ λ same. same
      | false ↦ λ found. found_further p n ys x found
    ] found

found_next : {X : Type 0} (p : X → Bool) (n : ℕ) (xs : List X) (x : X) → find p (take n xs) ≡ Some x → find p (take (suc n) xs) ≡ Some x
found_next p zero xs x found = absurd cc
found_next p (suc n) [] x found = absurd cc
found_next p (suc n) (y ∷ ys) x found =
    elim (p y) as (λ v. cond v (Some y) (find p (take n ys)) ≡ Some x → cond v (Some y) (find p (take (suc n) ys)) ≡ Some x) [
      | true ↦ λ same. same
      | false ↦ λ found. found_next p n ys x found
    ] found

-- the one test passes nothing that the other does
abbrev Apart : {X : Type 0} → (X → Bool) → (X → Bool) → Type 0
Apart {X} p q = (x : X) → p x ≡ true → q x ≡ false

found_without : {X : Type 0} (p q : X → Bool) (xs : List X) → Apart p q → find q (remove_key p xs) ≡ find q xs
found_without p q [] apart = refl
found_without p q (x ∷ xs) apart =
    elim (p x) as (λ v. p x ≡ v → find q (cond v xs (x ∷ remove_key p xs)) ≡ find q (x ∷ xs)) [
      | true ↦ λ is. let none : q x ≡ false = apart x is in sym (ap (λ v. cond v (Some x) (find q xs)) none)
      | false ↦ λ is. ap (λ rest. cond (q x) (Some x) rest) (found_without p q xs apart)
    ] refl

near_without : {X : Type 0} (p q : X → Bool) (n : ℕ) (xs : List X) (r : X) → Apart p q → find q (take n xs) ≡ Some r → find q (take n (remove_key p xs)) ≡ Some r
near_without p q zero xs r apart found = absurd cc
near_without p q (suc n) [] r apart found = absurd cc
near_without p q (suc n) (x ∷ xs) r apart found =
    elim (p x) as (λ v. p x ≡ v → find q (take (suc n) (cond v xs (x ∷ remove_key p xs))) ≡ Some r) [
      | true ↦ λ is.
          let none : q x ≡ false = apart x is in
          let rest : find q (take n xs) ≡ Some r = sym (ap (λ v. cond v (Some x) (find q (take n xs))) none) ∙ found in
          found_next q n xs r rest
      | false ↦ λ is. elim (q x) as (λ v. cond v (Some x) (find q (take n xs)) ≡ Some r → cond v (Some x) (find q (take n (remove_key p xs))) ≡ Some r) [
        | true ↦ λ same. same
        | false ↦ λ found. near_without p q n xs r apart found
      ] found
    ] refl

-- what was found passes the test
passes : {X : Type 0} (p : X → Bool) (xs : List X) (r : X) → find p xs ≡ Some r → p r ≡ true
passes p [] r found = absurd cc
passes p (x ∷ xs) r found =
    elim (p x) as (λ v. p x ≡ v → cond v (Some x) (find p xs) ≡ Some r → p r ≡ true) [
      | true ↦ λ is found. let same : x ≡ r = cc in subst (λ y. p y ≡ true) same is
      | false ↦ λ is found. passes p xs r found
    ] refl found

take_twice : {X : Type 0} (n m : ℕ) (xs : List X) → n ≤ m → take n (take m xs) ≡ take n xs
take_twice zero m xs h = refl
take_twice (suc n) zero xs h = absurd (omega (arith, h))
take_twice (suc n) (suc m) [] h = refl
take_twice (suc n) (suc m) (x ∷ xs) h = ap (λ rest. x ∷ rest) (take_twice n m xs (omega (arith, h)))

-- ---- getters

same_token : (a b : List ℕ) → bytes_eq a b ≡ true → a ≡ b
same_token a b is = (bytes_eq-Decides a b).0 is

apart_tokens : (one other : List ℕ) → bytes_eq one other ≡ false → Apart (has_token one) (has_token other)
apart_tokens one other differ = λ getter is. ap (λ token. bytes_eq token other) (same_token getter.token one is) ∙ differ

-- a getter with the token that was found is that which is found
found_renewed : (one token : List ℕ) (getters : List Getter) (r : Getter) → find (has_token token) (renewed one getters) ≡ Some r → find (has_token token) getters ≡ Some r
found_renewed one token getters r =
    elim (find (has_token one) getters) as (λ v. find (has_token one) getters ≡ v → find (has_token token) (found_first one getters v) ≡ Some r → find (has_token token) getters ≡ Some r) [
      | None ↦ λ e found. found
      | Some g ↦ λ e.
          let of_one : bytes_eq g.token one ≡ true = passes (has_token one) getters g e in
          let is_one : g.token ≡ one = same_token g.token one of_one in
          elim (bytes_eq one token) as (λ v. bytes_eq one token ≡ v → cond (bytes_eq g.token token) (Some g) (find (has_token token) (remove_key (has_token one) getters)) ≡ Some r → find (has_token token) getters ≡ Some r) [
            | true ↦ λ same found.
                let q : bytes_eq g.token token ≡ true = ap (λ y. bytes_eq y token) is_one ∙ same in
                let first : Some g ≡ Some r = sym (ap (λ v. cond v (Some g) (find (has_token token) (remove_key (has_token one) getters))) q) ∙ found in
                ap (λ y. find (has_token y) getters) (sym (same_token one token same)) ∙ e ∙ first
            | false ↦ λ differ found.
                let q : bytes_eq g.token token ≡ false = ap (λ y. bytes_eq y token) is_one ∙ differ in
                let rest : find (has_token token) (remove_key (has_token one) getters) ≡ Some r = sym (ap (λ v. cond v (Some g) (find (has_token token) (remove_key (has_token one) getters))) q) ∙ found in
                sym (found_without (has_token one) (has_token token) getters (apart_tokens one token differ)) ∙ rest
          ] refl
    ] refl

near_renewed : (one token : List ℕ) (n : ℕ) (getters : List Getter) (r : Getter) → find (has_token token) (take n getters) ≡ Some r → find (has_token token) (take (suc n) (renewed one getters)) ≡ Some r
near_renewed one token n getters r found =
    elim (find (has_token one) getters) as (λ v. find (has_token one) getters ≡ v → find (has_token token) (take (suc n) (found_first one getters v)) ≡ Some r) [
      | None ↦ λ e. found_next (has_token token) n getters r found
      | Some g ↦ λ e.
          let of_one : bytes_eq g.token one ≡ true = passes (has_token one) getters g e in
          let is_one : g.token ≡ one = same_token g.token one of_one in
          elim (bytes_eq one token) as (λ v. bytes_eq one token ≡ v → cond (bytes_eq g.token token) (Some g) (find (has_token token) (take n (remove_key (has_token one) getters))) ≡ Some r) [
            | true ↦ λ same.
                let q : bytes_eq g.token token ≡ true = ap (λ y. bytes_eq y token) is_one ∙ same in
                ap (λ v. cond v (Some g) (find (has_token token) (take n (remove_key (has_token one) getters)))) q
                ∙ sym e
                ∙ ap (λ y. find (has_token y) getters) (same_token one token same)
                ∙ found_further (has_token token) n getters r found
            | false ↦ λ differ.
                let q : bytes_eq g.token token ≡ false = ap (λ y. bytes_eq y token) is_one ∙ differ in
                ap (λ v. cond v (Some g) (find (has_token token) (take n (remove_key (has_token one) getters)))) q
                ∙ near_without (has_token one) (has_token token) n getters r (apart_tokens one token differ) found
          ] refl
    ] refl

near_getter : (g : Getter) (token : List ℕ) (n : ℕ) (getters : List Getter) (r : Getter) → n ≤ 135 → bytes_eq g.token token ≡ false → find (has_token token) (take n getters) ≡ Some r → find (has_token token) (take (suc n) (with_getter g getters)) ≡ Some r
near_getter g token n getters r few differ found =
    let others = remove_key (has_token g.token) getters in
    ap (λ v. cond v (Some g) (find (has_token token) (take n (take 135 others)))) differ
    ∙ ap (λ rest. find (has_token token) rest) (take_twice n 135 others few)
    ∙ near_without (has_token g.token) (has_token token) n getters r (apart_tokens g.token token differ) found

-- ---- all that passed

found_sent : (asked : Option Head) (head : Option Head) (token : List ℕ) (getters : List Getter) (r : Getter) → find (has_token token) (getters_sent asked head getters) ≡ Some r → find (has_token token) getters ≡ Some r
found_sent asked None token getters r found = found
found_sent asked (Some head) token getters r found =
    elim (is_answered asked head) as (λ v. find (has_token token) (cond v getters (cond (is_response head) (renewed head.token getters) getters)) ≡ Some r → find (has_token token) getters ≡ Some r) [
      | true ↦ λ found. found
      | false ↦ elim (is_response head) as (λ v. find (has_token token) (cond v (renewed head.token getters) getters) ≡ Some r → find (has_token token) getters ≡ Some r) [
        | true ↦ λ found. found_renewed head.token token getters r found
        | false ↦ λ found. found
      ]
    ] found

near_sent : (asked : Option Head) (head : Option Head) (token : List ℕ) (n : ℕ) (getters : List Getter) (r : Getter) → find (has_token token) (take n getters) ≡ Some r → find (has_token token) (take (suc n) (getters_sent asked head getters)) ≡ Some r
near_sent asked None token n getters r found = found_next (has_token token) n getters r found
near_sent asked (Some head) token n getters r found =
    elim (is_answered asked head) as (λ v. find (has_token token) (take (suc n) (cond v getters (cond (is_response head) (renewed head.token getters) getters))) ≡ Some r) [
      | true ↦ found_next (has_token token) n getters r found
      | false ↦ elim (is_response head) as (λ v. find (has_token token) (take (suc n) (cond v (renewed head.token getters) getters)) ≡ Some r) [
        | true ↦ near_renewed head.token token n getters r found
        | false ↦ found_next (has_token token) n getters r found
      ]
    ]

found_is_last : (known : Option Way) (passed : List Passed) (token : List ℕ) (r : Getter) → find (has_token token) (reached known passed).getters ≡ Some r → last_get token passed ≡ Some r.way
found_is_last known [] token r found = absurd cc
found_is_last known (came way None ∷ earlier) token r found = found_is_last known earlier token r found
found_is_last known (came way (Some head) ∷ earlier) token r found =
    let getters = (reached known earlier).getters in
    let g : Getter = record { token = head.token; way = way } in
    let others = remove_key (has_token head.token) getters in
    elim (is_get head) as (λ v. find (has_token token) (cond v (with_getter g getters) getters) ≡ Some r → cond (v && bytes_eq head.token token) (Some way) (last_get token earlier) ≡ Some r.way) [
      | true ↦ λ found.
          elim (bytes_eq head.token token) as (λ v. bytes_eq head.token token ≡ v → cond v (Some g) (find (has_token token) others) ≡ Some r → cond v (Some way) (last_get token earlier) ≡ Some r.way) [
            | true ↦ λ same first. ap (option_map (λ getter. getter.way)) first
            | false ↦ λ differ rest. found_is_last known earlier token r (sym (found_without (has_token head.token) (has_token token) getters (apart_tokens head.token token differ)) ∙ rest)
          ] refl (found_further (has_token token) 136 (g ∷ others) r found)
      | false ↦ λ found. found_is_last known earlier token r found
    ] found
found_is_last known (went head ∷ earlier) token r found =
    let before = reached known earlier in
    found_is_last known earlier token r (found_sent before.asked head token before.getters r (sym (ap (find (has_token token)) (getters_are head before)) ∙ found))

pub get_is_last : (known : Option Way) (passed : List Passed) (token : List ℕ) (way : Way) → way_of token (reached known passed).getters ≡ Some way → last_get token passed ≡ Some way
get_is_last known passed token way =
    let getters = (reached known passed).getters in
    elim (find (has_token token) getters) as (λ v. find (has_token token) getters ≡ v → option_map (λ getter. getter.way) v ≡ Some way → last_get token passed ≡ Some way) [
      | None ↦ λ e is. absurd cc
      | Some r ↦ λ e is. found_is_last known passed token r e ∙ is
    ] refl

recent_near : (known : Option Way) (newer earlier : List Passed) (get : Head) (way : Way) → is_get get ≡ true → last_get get.token newer ≡ None → length newer < 136
    → find (has_token get.token) (take (suc (length newer)) (reached known (newer ++ came way (Some get) ∷ earlier)).getters) ≡ Some (record { token = get.token; way = way })
recent_near known [] earlier get way is none few =
    let g : Getter = record { token = get.token; way = way } in
    let getters = (reached known earlier).getters in
    ap (λ v. find (has_token get.token) (take 1 (cond v (with_getter g getters) getters))) is ∙ ap (λ v. cond v (Some g) None) ((bytes_eq-Decides get.token get.token).1 refl)
recent_near known (came from None ∷ newer) earlier get way is none few =
    found_next (has_token get.token) (suc (length newer)) (reached known (newer ++ came way (Some get) ∷ earlier)).getters _ (recent_near known newer earlier get way is none (omega (arith, few)))
recent_near known (came from (Some head) ∷ newer) earlier get way is none few =
    let n = length newer in
    let token = get.token in
    let getters = (reached known (newer ++ came way (Some get) ∷ earlier)).getters in
    let r : Getter = record { token = token; way = way } in
    let g : Getter = record { token = head.token; way = from } in
    let room : suc n ≤ 135 = omega (arith, few) in
    let fewer : n < 136 = omega (arith, few) in
    elim (is_get head) as (λ v. cond (v && bytes_eq head.token token) (Some from) (last_get token newer) ≡ None → find (has_token token) (take (suc (suc n)) (cond v (with_getter g getters) getters)) ≡ Some r) [
      | true ↦ elim (bytes_eq head.token token) as (λ v. bytes_eq head.token token ≡ v → cond v (Some from) (last_get token newer) ≡ None → find (has_token token) (take (suc (suc n)) (with_getter g getters)) ≡ Some r) [
        | true ↦ λ same other. absurd cc
        | false ↦ λ differ other. near_getter g token (suc n) getters r room differ (recent_near known newer earlier get way is other fewer)
      ] refl
      | false ↦ λ other. found_next (has_token token) (suc n) getters r (recent_near known newer earlier get way is other fewer)
    ] none
recent_near known (went head ∷ newer) earlier get way is none few =
    let before = reached known (newer ++ came way (Some get) ∷ earlier) in
    ap (λ getters. find (has_token get.token) (take (suc (suc (length newer))) getters)) (getters_are head before)
    ∙ near_sent before.asked head get.token (suc (length newer)) before.getters _ (recent_near known newer earlier get way is none (omega (arith, few)))

recent_way : (known : Option Way) (newer earlier : List Passed) (get : Head) (way : Way) → IsRecent get way newer → way_of get.token (reached known (newer ++ came way (Some get) ∷ earlier)).getters ≡ Some way
recent_way known newer earlier get way recent =
    let getters = (reached known (newer ++ came way (Some get) ∷ earlier)).getters in
    ap (option_map (λ getter. getter.way)) (found_further (has_token get.token) (suc (length newer)) getters _ (recent_near known newer earlier get way recent.is recent.none recent.few))

-- a notification goes to where it is known that the GETs with its token come from
notified : (sent : Head) (r : Reached) (way : Way) → is_response sent ≡ true → is_answered r.asked sent ≡ false → way_of sent.token r.getters ≡ Some way → goes_to (Some sent) r ≡ Some way
notified sent r way response answered is = rw (answered, response, is) refl

pub recent_goes : (known : Option Way) (newer earlier : List Passed) (get sent : Head) (way : Way) → IsRecent get way newer
    → sent.token ≡ get.token → is_response sent ≡ true
    → is_answered (reached known (newer ++ came way (Some get) ∷ earlier)).asked sent ≡ false
    → goes_to (Some sent) (reached known (newer ++ came way (Some get) ∷ earlier)) ≡ Some way
recent_goes known newer earlier get sent way recent same response answered =
    let r = reached known (newer ++ came way (Some get) ∷ earlier) in
    notified sent r way response answered (ap (λ token. way_of token r.getters) same ∙ recent_way known newer earlier get way recent)
