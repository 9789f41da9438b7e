-- The numbers of notifications, and lists that are the same.
use Rattle.std.proofs.Common.{◌≡◌, ◌≢◌, ℕ, zero, suc, ◌+◌, ◌<◌, Bool, true, false, List, [], ◌∷◌, Some, refl, sym, ap, subst, ◌∙◌, inl, inr, arith}
use Rattle.std.specs.Prelude.{◌==◌, option_map, unwrap_or, slice_get, bytes_eq, not}
use Rattle.std.proofs.lemmas.Slice.Eq.{bytes_eq-Decides}
use Rattle.std.proofs.lemmas.Bool.{and_parts, and_from, eqb-true, eq-eqb, cases_Bool, cond-true, cond-false, false≢true, both_ways, not_from_true}
use Rattle.coap_observe.specs.declared.observer.Observer.{Observer}
use Rattle.coap_observe.specs.Seen.{Lists, list_for, same_one, same_seen}
use Rattle.coap_observe.specs.Observed.{ObservedValue, Sending, Replies, Notifies, next_number, number_after, is_token, is_due, notified, registered_again, after_sending, numbers_of}
use Rattle.coap_exchange.proofs.Firsts.{one_there}
use Rattle.coap_observe.specs.Observing.{own_of, number_for, registered_first, entered}

pub rise : (n k : ℕ) → next_number (number_after k n) ≡ number_after (k + 1) n
rise n k = omega arith

pub apart : (n j k : ℕ) → j < k → k < j + 16777216 → number_after j n ≢ number_after k n
apart n j k less near same = omega arith

-- ---- all that is sent to an observer

number_now : (n : ℕ) → n < 16777216 → n ≡ number_after 0 n
number_now n less = omega (arith, less)

number_later : (n k : ℕ) → number_after k (next_number n) ≡ number_after (suc k) n
number_later n k = omega arith

number_next : (o : ObservedValue) (sending : Sending) → (after_sending o sending).number ≡ next_number o.number
number_next o (Replies observer seen) = refl
number_next o (Notifies id seen) = refl

below_next : (n : ℕ) → next_number n < 16777216
below_next n = omega arith

number_sent : (sendings : List Sending) (o : ObservedValue) (k n : ℕ) → o.number < 16777216 → slice_get (numbers_of o sendings) k ≡ Some n
    → n ≡ number_after k o.number
number_sent [] o k n less there = cc there
number_sent (sending ∷ sendings) o zero n less there = sym (one_there o.number n there) ∙ number_now o.number less
number_sent (sending ∷ sendings) o (suc k) n less there =
    let next = number_next o sending in
    let below : (after_sending o sending).number < 16777216 = subst (λ m. m < 16777216) (sym next) (below_next o.number) in
    number_sent sendings (after_sending o sending) k n below there
    ∙ ap (number_after k) next
    ∙ number_later o.number k

pub sent_apart : (o : ObservedValue) (sendings : List Sending) (j k first second : ℕ) → o.number < 16777216
    → slice_get (numbers_of o sendings) j ≡ Some first → slice_get (numbers_of o sendings) k ≡ Some second
    → j < k → k < j + 16777216 → first ≢ second
sent_apart o sendings j k first second less one other before near same =
    apart o.number j k before near
    (sym (number_sent sendings o j first less one) ∙ same ∙ number_sent sendings o k second less other)

-- ---- the same lists

same_pair : (a b : ℕ × ℕ) → same_one a b ≡ true → a ≡ b
same_pair a b is =
    let parts = and_parts (a.0 == b.0) (a.1 == b.1) is in
    let first : a.0 ≡ b.0 = eqb-true a.0 b.0 parts.0 in
    let second : a.1 ≡ b.1 = eqb-true a.1 b.1 parts.1 in
    ap (λ x. (x, a.1)) first ∙ ap (λ y. (b.0, y)) second

same_lists : (xs ys : List (ℕ × ℕ)) → same_seen xs ys ≡ true → xs ≡ ys
same_lists [] [] is = refl
same_lists [] (y ∷ ys) is = absurd (false≢true is)
same_lists (x ∷ xs) [] is = absurd (false≢true is)
same_lists (x ∷ xs) (y ∷ ys) is =
    let parts = and_parts (same_one x y) (same_seen xs ys) is in
    ap (λ z. z ∷ xs) (same_pair x y parts.0) ∙ ap (λ zs. y ∷ zs) (same_lists xs ys parts.1)

own_list : (xs : List (ℕ × ℕ)) → same_seen xs xs ≡ true
own_list [] = refl
own_list (x ∷ xs) =
    and_from (same_one x x) (same_seen xs xs) (and_from (x.0 == x.0) (x.1 == x.1) (eq-eqb x.0 x.0 refl) (eq-eqb x.1 x.1 refl)) (own_list xs)

pub due_differs : (lists : Lists) (o : ObservedValue) → is_due lists o ≡ true → o.seen ≢ list_for lists o.observer
due_differs lists o due same =
    both_ways (is_due lists o) (not_from_true (same_seen o.seen (list_for lists o.observer)) (ap (same_seen o.seen) (sym same) ∙ own_list o.seen)) due

pub notified_same : (lists : Lists) (o : ObservedValue) → is_due lists o ≡ false → o.seen ≡ list_for lists o.observer
notified_same lists o not_due = same_lists o.seen (list_for lists o.observer) (of_not (same_seen o.seen (list_for lists o.observer)) not_due)
  where
    of_not : (b : Bool) → not b ≡ false → b ≡ true
    of_not true is = refl
    of_not false is = sym is

pub then_notified : (lists : Lists) (id : ℕ) (o : ObservedValue) → is_due lists (notified id (list_for lists o.observer) o) ≡ false
then_notified lists id o = ap not (own_list (list_for lists o.observer))

-- ---- the number of a reply

own_token : (peer : ℕ) (token : List ℕ) (o : ObservedValue) → o.observer.peer ≡ peer → o.observer.token ≡ token → is_token peer token o ≡ true
own_token peer token o same also = and_from (o.observer.peer == peer) (bytes_eq o.observer.token token) (eq-eqb o.observer.peer peer same) (bytes_same o.observer.token token also)
  where
    bytes_same : (xs ys : List ℕ) → xs ≡ ys → bytes_eq xs ys ≡ true
    bytes_same xs ys is = (bytes_eq-Decides xs ys).1 is

pub reply_number : (observer : Observer) (seen : List (ℕ × ℕ)) (observed : List ObservedValue)
    → option_map (λ (o : ObservedValue). o.number) (own_of observer (entered observer seen observed)) ≡ Some (next_number (number_for observer observed))
reply_number observer seen [] =
    ap (option_map (λ (o : ObservedValue). o.number))
    (cond-true (is_token observer.peer observer.token (registered_first observer seen)) (Some (registered_first observer seen)) _
    (own_token observer.peer observer.token (registered_first observer seen) refl refl))
reply_number observer seen (o ∷ os) =
    elim (cases_Bool (is_token observer.peer observer.token o)) [
      | inl is ↦
          ap (λ xs. option_map (λ (y : ObservedValue). y.number) (own_of observer xs))
          (cond-true (is_token observer.peer observer.token o) (registered_again observer seen o ∷ os) (o ∷ entered observer seen os) is)
          ∙ ap (option_map (λ (y : ObservedValue). y.number))
          (cond-true (is_token observer.peer observer.token (registered_again observer seen o)) (Some (registered_again observer seen o)) (own_of observer os)
          (own_token observer.peer observer.token (registered_again observer seen o) refl refl))
          ∙ ap (λ x. Some (next_number (unwrap_or (option_map (λ (y : ObservedValue). y.number) x) 1)))
          (sym (cond-true (is_token observer.peer observer.token o) (Some o) (own_of observer os) is))
      | inr out ↦
          ap (λ xs. option_map (λ (y : ObservedValue). y.number) (own_of observer xs))
          (cond-false (is_token observer.peer observer.token o) (registered_again observer seen o ∷ os) (o ∷ entered observer seen os) out)
          ∙ ap (option_map (λ (y : ObservedValue). y.number)) (cond-false (is_token observer.peer observer.token o) (Some o) (own_of observer (entered observer seen os)) out)
          ∙ reply_number observer seen os
          ∙ ap (λ x. Some (next_number (unwrap_or (option_map (λ (y : ObservedValue). y.number) x) 1)))
          (sym (cond-false (is_token observer.peer observer.token o) (Some o) (own_of observer os) out))
    ]
