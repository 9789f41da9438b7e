-- An observer that is due, and one that is notified.
use Rattle.std.proofs.Common.{◌≡◌, ℕ, ◌+◌, zero, suc, true, false, List, [], ◌∷◌, ◌++◌, Some, refl, sym, ap, ◌∙◌, inl, inr, arith}
use Rattle.std.specs.Prelude.{slice_get, nat_le, ◌&&◌}
use Rattle.std.specs.List.{remove}
use Rattle.std.proofs.lemmas.Bool.{cases_lt, and_cases, cond-true, cond-false, leb-false}
use Rattle.dots_history.specs.Entries.{option_any}
use Rattle.dots_history.specs.Histories.{is_nil}
use Rattle.coap_exchange.specs.Firsts.{replace_at}
use Rattle.coap_observe.specs.Seen.{Lists, list_for}
use Rattle.coap_observe.specs.Observed.{ObservedValue, is_due, notified}
use Rattle.coap_observe.specs.declared.due_among.DueAmong.{DueAmong}
use Rattle.coap_observe.specs.DueAmong.{includes_one}
use Rattle.coap_observe.specs.Observing.{NoneIsDue, after_notice}
use Rattle.coap_exchange.proofs.Firsts.{one_there, remove_at}

pub gone_at : (lists : Lists) (id : ℕ) (xs : List ObservedValue) (i : ℕ) (x : ObservedValue) (seen : List (ℕ × ℕ)) → slice_get xs i ≡ Some x
    → seen ≡ list_for lists x.observer → is_nil seen ≡ true → remove xs i ≡ replace_at i (after_notice lists id) xs
gone_at lists id xs i x seen there is nil =
    remove_at (after_notice lists id) xs i x there
    (cond-true (is_nil (list_for lists x.observer)) [] (notified id (list_for lists x.observer) x ∷ []) (ap is_nil (sym is) ∙ nil))

replace_same : (one other : ObservedValue → List ObservedValue) (xs : List ObservedValue) (i : ℕ) (x : ObservedValue) → slice_get xs i ≡ Some x → one x ≡ other x
    → replace_at i one xs ≡ replace_at i other xs
replace_same one other [] i x there same = refl
replace_same one other (y ∷ xs) zero x there same = ap (λ z. one z ++ xs) (one_there y x there) ∙ ap (λ ys. ys ++ xs) same ∙ ap (λ z. other z ++ xs) (sym (one_there y x there))
replace_same one other (y ∷ xs) (suc i) x there same = ap (λ ys. y ∷ ys) (replace_same one other xs i x there same)

pub notified_at : (lists : Lists) (id : ℕ) (xs : List ObservedValue) (i : ℕ) (x : ObservedValue) (seen : List (ℕ × ℕ)) → slice_get xs i ≡ Some x
    → seen ≡ list_for lists x.observer → is_nil seen ≡ false → replace_at i (λ o. notified id seen o ∷ []) xs ≡ replace_at i (after_notice lists id) xs
notified_at lists id xs i x seen there is some =
    replace_same (λ o. notified id seen o ∷ []) (after_notice lists id) xs i x there
    (ap (λ s. notified id s x ∷ []) is
    ∙ sym (cond-false (is_nil (list_for lists x.observer)) [] (notified id (list_for lists x.observer) x ∷ []) (ap is_nil (sym is) ∙ some)))

pub none_more : (lists : Lists) (among : DueAmong) (from i : ℕ) (xs : List ObservedValue)
    → nat_le from i && option_any (λ o. includes_one among o && is_due lists o) (slice_get xs i) ≡ false → NoneIsDue lists among from i xs → NoneIsDue lists among from (i + 1) xs
none_more lists among from i xs out before place o later less at within =
    elim (cases_lt place i) [
      | inl below ↦ before place o later below at within
      | inr over ↦
          let same : place ≡ i = omega (arith, over, less) in
          let here : slice_get xs i ≡ Some o = ap (slice_get xs) (sym same) ∙ at in
          elim (and_cases (nat_le from i) (option_any (λ o. includes_one among o && is_due lists o) (slice_get xs i)) out) [
            | inl not_behind ↦ let low = leb-false from i not_behind in absurd (omega (arith, low, later, same))
            | inr not_both ↦
                ap (λ b. b && is_due lists o) (sym within)
                ∙ sym (ap (option_any (λ o. includes_one among o && is_due lists o)) here)
                ∙ not_both
          ]
    ]
