-- The timeout of the message at a place.
use Rattle.std.proofs.Common.{◌≡◌, ℕ, zero, suc, ◌<◌, Bool, true, false, List, [], ◌∷◌, length, get_or, set, Option, Some, sym, ap, ◌∙◌, subst, arith, inl, inr}
use Rattle.std.specs.Prelude.{slice_get, option_map, unwrap_or}
use Rattle.std.specs.List.{remove}
use Rattle.std.proofs.lemmas.Bool.{cases_Bool, cond-true, cond-false}
use Rattle.coap_exchange.specs.declared.sender.Turn.{Turn}
use Rattle.coap_exchange.specs.declared.sender.Turn.TheVariants as turn
use Rattle.coap_exchange.specs.Firsts.{replace_at}
use Rattle.coap_exchange.specs.Sent.{SentValue, is_due, repeated, may_repeat}
use Rattle.coap_exchange.specs.Resending.{Resending, Again, GaveUp, after_timeout, answer_to_timeout, bytes_at, turn_of, IsFirstDue, NoneIsDue, IsTurnIn}
use Rattle.coap_exchange.proofs.Firsts.{set_at, remove_at, set_there, NoneBefore, NonePasses}

pub turned_again : (xs : List SentValue) (i : ℕ) (x new : SentValue) → slice_get xs i ≡ Some x → may_repeat x ≡ true → new ≡ repeated x
    → set xs i new ≡ replace_at i after_timeout xs
turned_again xs i x new there may same =
    set_at after_timeout xs i x new there (cond-true (may_repeat x) (repeated x ∷ []) [] may ∙ ap (λ y. y ∷ []) (sym same))

pub answered_again : (xs : List SentValue) (i : ℕ) (x new : SentValue) → i < length xs → slice_get xs i ≡ Some x → may_repeat x ≡ true → new ≡ repeated x
    → Some (Again (bytes_at i (set xs i new))) ≡ option_map answer_to_timeout (slice_get xs i)
answered_again xs i x new less there may same =
    ap (λ o. Some (Again (unwrap_or (option_map (λ (s : SentValue). s.bytes) o) []))) (set_there xs i new less)
    ∙ ap (λ (s : SentValue). Some (Again s.bytes)) same
    ∙ sym (ap (option_map answer_to_timeout) there ∙ ap Some (cond-true (may_repeat x) (Again x.bytes) (GaveUp x.id) may))

pub turned_up : (xs : List SentValue) (i : ℕ) (x : SentValue) → slice_get xs i ≡ Some x → may_repeat x ≡ false → remove xs i ≡ replace_at i after_timeout xs
turned_up xs i x there not = remove_at after_timeout xs i x there (cond-false (may_repeat x) (repeated x ∷ []) [] not)

pub answered_up : (xs : List SentValue) (i : ℕ) (x : SentValue) → slice_get xs i ≡ Some x → may_repeat x ≡ false
    → Some (GaveUp x.id) ≡ option_map answer_to_timeout (slice_get xs i)
answered_up xs i x there not =
    sym (ap (option_map answer_to_timeout) there ∙ ap Some (cond-false (may_repeat x) (Again x.bytes) (GaveUp x.id) not))

-- ---- by places

pub turn_is : (xs : List SentValue) (i : ℕ) (x : SentValue) (t : Turn) → slice_get xs i ≡ Some x → turn_of i x ≡ t → Some t ≡ option_map (turn_of i) (slice_get xs i)
turn_is xs i x t there is = sym (ap (option_map (turn_of i)) there ∙ ap Some is)

pub none_due : (now : ℕ) (xs : List SentValue) → NonePasses (is_due now) xs → NoneIsDue now xs
none_due now [] none = tt
none_due now (x ∷ xs) none = (none.0, none_due now xs none.1)

first_due : (now : ℕ) (xs : List SentValue) (i : ℕ) (d : SentValue) (may : Bool) → i < length xs → is_due now (get_or xs i d) ≡ true → NoneBefore (is_due now) xs i d
    → may_repeat (get_or xs i d) ≡ may → IsFirstDue now xs i may
first_due now [] i d may less is before known = absurd (omega (arith, less))
first_due now (x ∷ xs) zero d may less is before known = (is, known)
first_due now (x ∷ xs) (suc i) d may less is before known =
    (before zero (omega arith), first_due now xs i d may (omega (arith, less)) is (λ k below. before (suc k) (omega (arith, below))) known)

one_turn : (a b : Turn) → Some a ≡ Some b → a ≡ b
one_turn a b e = cc

there : (ys : List SentValue) (k : ℕ) (d : SentValue) → k < length ys → slice_get ys k ≡ Some (get_or ys k d)
there [] k d less = absurd (omega (arith, less))
there (y ∷ ys) zero d less = cc
there (y ∷ ys) (suc k) d less = there ys k d (omega (arith, less))

-- the turn of a place that is the first due
pub turn_there : (now : ℕ) (xs : List SentValue) (i : ℕ) (d : SentValue) (t : Turn) → i < length xs → is_due now (get_or xs i d) ≡ true → NoneBefore (is_due now) xs i d
    → Some t ≡ option_map (turn_of i) (slice_get xs i) → IsTurnIn now xs (Some t)
turn_there now xs i d t less is before answer =
    let x = get_or xs i d in
    let own : t ≡ turn_of i x = one_turn t (turn_of i x) (answer ∙ ap (option_map (turn_of i)) (there xs i d less)) in
    elim (cases_Bool (may_repeat x)) [
      | inl may ↦ subst (λ t. IsTurnIn now xs (Some t)) (sym (own ∙ cond-true (may_repeat x) (turn.Again i) (turn.GaveUp i x.id) may)) (first_due now xs i d true less is before may)
      | inr up ↦ subst
          (λ t. IsTurnIn now xs (Some t))
          (sym (own ∙ cond-false (may_repeat x) (turn.Again i) (turn.GaveUp i x.id) up))
          (first_due now xs i d false less is before up, ap (option_map (λ (s : SentValue). s.id)) (there xs i d less))
    ]
