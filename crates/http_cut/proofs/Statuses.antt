-- The statuses of replies have phrases, and these are short.
use Rattle.std.proofs.Common.{◌≡◌, ℕ, ◌≤◌, Bool, true, false, IsTrue, List, [], ◌∷◌, ◌&&◌, length, refl, subst, ◌∙◌, ap, inl, inr}
use Rattle.std.specs.Prelude.{nat_le, nat_lt, ◌==◌}
use Rattle.std.specs.List.{list_any, list_all}
use Rattle.std.proofs.lemmas.Bool.{or_cases, and_parts, eqb-true, leb-true, ltb-true, both_ways}
use Rattle.std.specs.Prelude.{Option, Some, None, option_map, unwrap_or}
use Rattle.http.specs.StatusCode.{IsStatusCode, reason_phrase}
use Rattle.http_cut.specs.Reply.{is_reply_status, reply_statuses, phrase_of}

-- what holds of each of some numbers holds of a number that is among them
among : (test : ℕ → Bool) (n : ℕ) (ns : List ℕ) → list_all test ns ≡ true → list_any (λ known. known == n) ns ≡ true → test n ≡ true
among test n [] all any = absurd (both_ways false refl any)
among test n (k ∷ ns) all any =
    let parts = and_parts (test k) (list_all test ns) all in
    elim (or_cases (k == n) (list_any (λ known. known == n) ns) any) [
      | inl here ↦ subst (λ (m : ℕ). test m ≡ true) (eqb-true k n here) parts.0
      | inr later ↦ among test n ns parts.1 later
    ]

abbrev is_sound : ℕ → Bool
is_sound n = (nat_le 100 n && nat_lt n 1000) && nat_le (length (phrase_of n)) 22

all_sound : list_all is_sound reply_statuses ≡ true
unfolding phrase_of
all_sound = refl

pub reply_status : (n : ℕ) → IsTrue (is_reply_status n) → IsStatusCode n × (length (phrase_of n) ≤ 22)
reply_status n is =
    let sound = among is_sound n reply_statuses all_sound is in
    let parts = and_parts (nat_le 100 n && nat_lt n 1000) (nat_le (length (phrase_of n)) 22) sound in
    let range = and_parts (nat_le 100 n) (nat_lt n 1000) parts.0 in
    ((leb-true 100 n range.0, ltb-true n 1000 range.1), leb-true (length (phrase_of n)) 22 parts.1)

-- a phrase, or the text that stands in for none
pub phrase_is : {X : Type 0} (bytes : X → List ℕ) (r : Option X) (instead x : X) (n : ℕ) → option_map bytes r ≡ reason_phrase n → bytes instead ≡ [] → x ≡ unwrap_or r instead → bytes x ≡ phrase_of n
unfolding phrase_of
phrase_is bytes None instead x n is none e = ap bytes e ∙ none ∙ ap (λ (o : Option (List ℕ)). unwrap_or o []) is
phrase_is bytes (Some y) instead x n is none e = ap bytes e ∙ ap (λ (o : Option (List ℕ)). unwrap_or o []) is
