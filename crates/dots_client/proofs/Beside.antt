-- Requests beside their messages, by their places.
use Rattle.std.proofs.Common.{◌≡◌, ℕ, zero, suc, ◌<◌, ◌+◌, Bool, true, false, cond, List, [], ◌∷◌, ◌++◌, length, get_or, Option, Some, None, refl, sym, ap, ◌∙◌, arith}
use Rattle.std.specs.Prelude.{slice_get, option_map, position, IfNone, not, nat_lt, ◌==◌, ◌||◌}
use Rattle.std.specs.List.{remove, find, list_any, position_or_len}
use Rattle.std.proofs.lemmas.Bool.{cond-true, cond-false, ne_eqb}
use Rattle.coap_exchange.specs.Sent.{SentValue}
use Rattle.dots_client.specs.declared.request.Request.{Request}
use Rattle.dots_client.specs.Client.{WaitingValue, is_of, waits_for, is_empty}
use Rattle.dots_client.specs.Receiving.{has_token, waits_by}
use Rattle.dots_client.specs.Waiting.{pairs}

abbrev pub waiting : Request → SentValue → WaitingValue
waiting r s = record { request = r; sent = s }

abbrev request_of : WaitingValue → Request
request_of w = w.request

pub pairs_length : (rs : List Request) (ss : List SentValue) → length rs ≡ length ss → length (pairs rs ss) ≡ length ss
pairs_length [] [] same = refl
pairs_length [] (s ∷ ss) same = absurd (omega (arith, same))
pairs_length (r ∷ rs) [] same = absurd (omega (arith, same))
pairs_length (r ∷ rs) (s ∷ ss) same = ap suc (pairs_length rs ss (omega (arith, same)))

pub pairs_empty : (rs : List Request) (ss : List SentValue) → length rs ≡ length ss → (length rs == 0) ≡ is_empty (pairs rs ss)
pairs_empty [] ss same = refl
pairs_empty (r ∷ rs) [] same = absurd (omega (arith, same))
pairs_empty (r ∷ rs) (s ∷ ss) same = ne_eqb (suc (length rs)) 0 (λ is. absurd (omega (arith, is)))

pub pairs_any : (mid : ℕ) (rs : List Request) (ss : List SentValue) → length rs ≡ length ss → list_any (is_of mid) rs ≡ list_any (waits_for mid) (pairs rs ss)
pairs_any mid [] ss same = refl
pairs_any mid (r ∷ rs) [] same = absurd (omega (arith, same))
pairs_any mid (r ∷ rs) (s ∷ ss) same = ap (λ (b : Bool). is_of mid r || b) (pairs_any mid rs ss (omega (arith, same)))

places : (token : List ℕ) (rs : List Request) (ss : List SentValue) → length rs ≡ length ss → position_or_len (has_token token) rs ≡ position_or_len (waits_by token) (pairs rs ss)
places token [] ss same = refl
places token (r ∷ rs) [] same = absurd (omega (arith, same))
places token (r ∷ rs) (s ∷ ss) same = ap (λ (n : ℕ). cond (not (has_token token r)) (1 + n) 0) (places token rs ss (omega (arith, same)))

pub pairs_place : (token : List ℕ) (rs : List Request) (ss : List SentValue) → length rs ≡ length ss → position (has_token token) rs ≡ position (waits_by token) (pairs rs ss)
pairs_place token rs ss same =
    ap (λ (n : ℕ). cond (nat_lt n (length rs)) (Some n) None) (places token rs ss same)
    ∙ ap (λ (k : ℕ). cond (nat_lt (position_or_len (waits_by token) (pairs rs ss)) k) (Some (position_or_len (waits_by token) (pairs rs ss))) None) (same ∙ sym (pairs_length rs ss same))

pub pairs_get : (rs : List Request) (ss : List SentValue) (k : ℕ) → length rs ≡ length ss → option_map request_of (slice_get (pairs rs ss) k) ≡ slice_get rs k
pairs_get [] ss k same = refl
pairs_get (r ∷ rs) [] k same = absurd (omega (arith, same))
pairs_get (r ∷ rs) (s ∷ ss) zero same = refl
pairs_get (r ∷ rs) (s ∷ ss) (suc k) same = pairs_get rs ss k (omega (arith, same))

pub pairs_remove : (rs : List Request) (ss : List SentValue) (k : ℕ) → length rs ≡ length ss → pairs (remove rs k) (remove ss k) ≡ remove (pairs rs ss) k
pairs_remove [] [] zero same = refl
pairs_remove [] [] (suc k) same = refl
pairs_remove [] (s ∷ ss) k same = absurd (omega (arith, same))
pairs_remove (r ∷ rs) [] k same = absurd (omega (arith, same))
pairs_remove (r ∷ rs) (s ∷ ss) zero same = refl
pairs_remove (r ∷ rs) (s ∷ ss) (suc k) same = ap (λ (ws : List WaitingValue). waiting r s ∷ ws) (pairs_remove rs ss k (omega (arith, same)))

pub pairs_push : (rs : List Request) (ss : List SentValue) (r : Request) (s : SentValue) → length rs ≡ length ss → pairs (rs ++ r ∷ []) (ss ++ s ∷ []) ≡ pairs rs ss ++ waiting r s ∷ []
pairs_push [] [] r s same = refl
pairs_push [] (t ∷ ss) r s same = absurd (omega (arith, same))
pairs_push (q ∷ rs) [] r s same = absurd (omega (arith, same))
pairs_push (q ∷ rs) (t ∷ ss) r s same = ap (λ (ws : List WaitingValue). waiting q t ∷ ws) (pairs_push rs ss r s (omega (arith, same)))

pub there : {A : Type 0} (xs : List A) (k : ℕ) (d : A) → k < length xs → slice_get xs k ≡ Some (get_or xs k d)
there [] k d less = absurd (omega (arith, less))
there (x ∷ xs) zero d less = refl
there (x ∷ xs) (suc k) d less = there xs k d (omega (arith, less))

-- one that is there
pub some_there : {A : Type 0} (xs : List A) (k : ℕ) → k < length xs → (x : A) × (slice_get xs k ≡ Some x)
some_there [] k less = absurd (omega (arith, less))
some_there (x ∷ xs) zero less = (x, refl)
some_there (x ∷ xs) (suc k) less = some_there xs k (omega (arith, less))

pub any_found : {A : Type 0} (test : A → Bool) (xs : List A) → list_any test xs ≡ true → find test xs ≡ None → ⊥
any_found test [] is none = absurd (cc)
any_found test (x ∷ xs) is none = by (test x) refl is none (any_found test xs)
  where
    by : (b : Bool) → test x ≡ b → (test x || list_any test xs) ≡ true → cond (test x) (Some x) (find test xs) ≡ None → (list_any test xs ≡ true → find test xs ≡ None → ⊥) → ⊥
    by true same is none later = let found = cond-true (test x) (Some x) (find test xs) same in absurd (cc)
    by false other is none later =
        later (ap (λ (b : Bool). b || list_any test xs) (sym other) ∙ is) (sym (cond-false (test x) (Some x) (find test xs) other) ∙ none)

-- by whether there is one
pub by_none : {A : Type 0} {P : Type 0} (o : Option A) → (o ≡ None → P) → IfNone o P
by_none None f = f refl
by_none (Some x) f = tt
