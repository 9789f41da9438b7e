-- What an observer sees, place by place.
use Rattle.std.proofs.Common.{◌≡◌, ℕ, suc, ◌+◌, ◌<◌, true, false, List, [], ◌∷◌, length, drop, get_or, add-one, Option, Some, None, refl, sym, ap, ◌∙◌, le_refl}
use Rattle.std.specs.Prelude.{◌&&◌, slice_get, is_none}
use Rattle.std.proofs.lemmas.Bool.{false≢true}
use Rattle.std.proofs.lemmas.List.{drop_all}
use Rattle.dots_history.specs.Entries.{option_any}
use Rattle.dots_history.specs.Histories.{is_nil}
use Rattle.coap_observe.specs.Seen.{same_one, same_seen}
use Rattle.coap_exchange.proofs.Places.{drop_more, at_front, drop_front}

one_more : (x : ℕ × ℕ) (xs rest : List (ℕ × ℕ)) (o : Option (ℕ × ℕ)) → option_any (same_one x) o ≡ true → same_seen (x ∷ xs) (at_front o rest) ≡ same_seen xs rest
one_more x xs rest None is = absurd (false≢true is)
one_more x xs rest (Some y) is = ap (λ b. b && same_seen xs rest) is

one_other : (x : ℕ × ℕ) (xs rest : List (ℕ × ℕ)) (o : Option (ℕ × ℕ)) → option_any (same_one x) o ≡ false → same_seen (x ∷ xs) (at_front o rest) ≡ false
one_other x xs rest None is = refl
one_other x xs rest (Some y) is = ap (λ b. b && same_seen xs rest) is

at_place : (items list : List (ℕ × ℕ)) (i : ℕ) (x : ℕ × ℕ) → i < length items → x ≡ get_or items i x
    → same_seen (drop i items) (drop i list) ≡ same_seen (x ∷ drop (i + 1) items) (at_front (slice_get list i) (drop (suc i) list))
at_place items list i x less is =
    ap (λ xs. same_seen xs (drop i list)) (drop_more items i x less is) ∙ ap (same_seen (x ∷ drop (i + 1) items)) (drop_front list i)

pub more_seen : (items list : List (ℕ × ℕ)) (i : ℕ) (x : ℕ × ℕ) → i < length items → x ≡ get_or items i x → option_any (same_one x) (slice_get list i) ≡ true
    → same_seen (drop (i + 1) items) (drop (i + 1) list) ≡ same_seen (drop i items) (drop i list)
more_seen items list i x less is same =
    sym
    (at_place items list i x less is
    ∙ one_more x (drop (i + 1) items) (drop (suc i) list) (slice_get list i) same
    ∙ ap (λ k. same_seen (drop (i + 1) items) (drop k list)) (sym (add-one i)))

pub other_seen : (items list : List (ℕ × ℕ)) (i : ℕ) (x : ℕ × ℕ) → i < length items → x ≡ get_or items i x → option_any (same_one x) (slice_get list i) ≡ false
    → same_seen (drop i items) (drop i list) ≡ false
other_seen items list i x less is other =
    at_place items list i x less is ∙ one_other x (drop (i + 1) items) (drop (suc i) list) (slice_get list i) other

at_end : (rest : List (ℕ × ℕ)) (o : Option (ℕ × ℕ)) → same_seen [] (at_front o rest) ≡ is_none o
at_end rest None = refl
at_end rest (Some y) = refl

pub all_seen : (items list : List (ℕ × ℕ)) → same_seen (drop (length items) items) (drop (length items) list) ≡ is_none (slice_get list (length items))
all_seen items list =
    ap (λ xs. same_seen xs (drop (length items) list)) (drop_all (length items) items (le_refl (length items)))
    ∙ ap (same_seen []) (drop_front list (length items))
    ∙ at_end (drop (suc (length items)) list) (slice_get list (length items))

pub nil_none : (xs : List (ℕ × ℕ)) → is_none (slice_get xs 0) ≡ is_nil xs
nil_none [] = refl
nil_none (x ∷ xs) = refl
