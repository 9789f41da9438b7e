-- Spots in a row, and the slots that stand in them.
use Rattle.std.proofs.Common.{◌≡◌, ℕ, zero, suc, ◌+◌, ◌-◌, ◌<◌, ◌≤◌, List, [], ◌∷◌, ◌++◌, length, get_or, set, replicate, Option, None, Some, Box, refl, sym, ap, ◌∙◌, arith, length-append}
use Rattle.std.proofs.Math.Seq.{get_or-append_seam}
use Rattle.std.proofs.lemmas.List.{get_or_append_left, get_or-append_right, set-append_right, replicate-append-replicate}
use Rattle.std.specs.Global.{Global}
use Rattle.coap_observe.specs.declared.spots.Fork.{Fork}
use Rattle.coap_observe.specs.Rooted.{spots_of}
use Rattle.coap_observe.specs.Spots.{filled}

pub filled-append : (l m : List (Option ℕ)) → filled (l ++ m) ≡ filled l ++ filled m
filled-append [] m = refl
filled-append (None ∷ l) m = filled-append l m
filled-append (Some slot ∷ l) m = ap (λ slots. slot ∷ slots) (filled-append l m)

pub filled_short : (l : List (Option ℕ)) → length (filled l) ≤ length l
filled_short [] = omega arith
filled_short (None ∷ l) = let rest = filled_short l in omega (arith, rest)
filled_short (Some slot ∷ l) = let rest = filled_short l in omega (arith, rest)

pub filled_vacant : (n : ℕ) → filled (replicate n None) ≡ []
filled_vacant zero = refl
filled_vacant (suc n) = filled_vacant n

pub at_root : {root : Option (Box Fork Global)} {spots : List (Option ℕ)} {fork : Box Fork Global} → spots_of root ≡ spots → root ≡ Some fork
    → spots ≡ fork.value.left ++ fork.value.slot ∷ fork.value.right
at_root view is = sym view ∙ ap spots_of is

-- ---- around a spot

pub filled_around : (l r : List (Option ℕ)) (spot : Option ℕ) → length (filled (l ++ spot ∷ r)) ≡ length (filled l) + length (filled (spot ∷ [])) + length (filled r)
filled_around l r spot = ap length (filled-append l (spot ∷ r)) ∙ length-append (filled l) (filled (spot ∷ r)) ∙ by_case spot
  where
    by_case : (spot : Option ℕ) → length (filled l) + length (filled (spot ∷ r)) ≡ length (filled l) + length (filled (spot ∷ [])) + length (filled r)
    by_case None = omega arith
    by_case (Some slot) = omega arith

pub at_left : (l r : List (Option ℕ)) (spot : Option ℕ) (place : ℕ) → place < length (filled l) → get_or (filled (l ++ spot ∷ r)) place 0 ≡ get_or (filled l) place 0
at_left l r spot place less =
    ap (λ slots. get_or slots place 0) (filled-append l (spot ∷ r))
    ∙ get_or_append_left (filled l) (filled (spot ∷ r)) 0 place less

pub at_none : (l r : List (Option ℕ)) (spot : Option ℕ) (place : ℕ) → spot ≡ None → length (filled l) ≤ place
    → get_or (filled (l ++ spot ∷ r)) place 0 ≡ get_or (filled r) (place - length (filled l)) 0
at_none l r spot place none over =
    ap (λ s. get_or (filled (l ++ s ∷ r)) place 0) none
    ∙ ap (λ slots. get_or slots place 0) (filled-append l (None ∷ r))
    ∙ get_or-append_right (filled l) (filled r) (length (filled l)) place 0 refl over

pub at_own : (l r : List (Option ℕ)) (spot : Option ℕ) (slot place : ℕ) → spot ≡ Some slot → place ≡ length (filled l) → get_or (filled (l ++ spot ∷ r)) place 0 ≡ slot
at_own l r spot slot place some is =
    ap (λ s. get_or (filled (l ++ s ∷ r)) place 0) some
    ∙ ap (λ slots. get_or slots place 0) (filled-append l (Some slot ∷ r))
    ∙ ap (λ k. get_or (filled l ++ slot ∷ filled r) k 0) is
    ∙ get_or-append_seam (filled l) slot (filled r) 0

pub at_right : (l r : List (Option ℕ)) (spot : Option ℕ) (slot place : ℕ) → spot ≡ Some slot → length (filled l) < place
    → get_or (filled (l ++ spot ∷ r)) place 0 ≡ get_or (filled r) (place - length (filled l) - 1) 0
at_right l r spot slot place some over =
    let next : place - length (filled l) ≡ suc (place - length (filled l) - 1) = omega (arith, over) in
    ap (λ s. get_or (filled (l ++ s ∷ r)) place 0) some
    ∙ ap (λ slots. get_or slots place 0) (filled-append l (Some slot ∷ r))
    ∙ get_or-append_right (filled l) (slot ∷ filled r) (length (filled l)) place 0 refl (omega (arith, over))
    ∙ ap (λ k. get_or (slot ∷ filled r) k 0) next

pub set_right : (l r : List (Option ℕ)) (spot slot : Option ℕ) (position : ℕ) → length l < position
    → set (l ++ spot ∷ r) position slot ≡ l ++ spot ∷ set r (position - length l - 1) slot
set_right l r spot slot position over =
    let next : position - length l ≡ suc (position - length l - 1) = omega (arith, over) in
    set-append_right l (spot ∷ r) (length l) position slot refl (omega (arith, over))
    ∙ ap (λ k. l ++ set (spot ∷ r) k slot) next

pub vacant_around : (l r : List (Option ℕ)) (spot : Option ℕ) → replicate {A = Option ℕ} (length l) None ++ None ∷ replicate (length r) None ≡ replicate (length (l ++ spot ∷ r)) None
vacant_around l r spot =
    let long : length l + suc (length r) ≡ length (l ++ spot ∷ r) = omega (arith, length-append l (spot ∷ r)) in
    replicate-append-replicate {A = Option ℕ} (length l) (suc (length r)) None ∙ ap (λ n. replicate {A = Option ℕ} n None) long

pub vacant_both : (l r : List (Option ℕ)) (a b n : ℕ) → l ≡ replicate a None → r ≡ replicate b None → n ≡ a + b + 1 → l ++ None ∷ r ≡ replicate n None
vacant_both l r a b n is_l is_r sum =
    let more : a + suc b ≡ n = omega (arith, sum) in
    ap (λ spots. spots ++ None ∷ r) is_l
    ∙ ap (λ spots. replicate {A = Option ℕ} a None ++ None ∷ spots) is_r
    ∙ replicate-append-replicate {A = Option ℕ} a (suc b) None
    ∙ ap (λ k. replicate {A = Option ℕ} k None) more
