-- Each message that is handed out leaves fewer to hand out.
use Rattle.std.proofs.Common.{◌≡◌, ℕ, ◌<◌, Bool, true, false, cond, List, [], ◌∷◌, Option, Some, sym, ap, ◌∙◌, subst, arith, inl, inr}
use Rattle.std.specs.Prelude.{◌||◌, option_map}
use Rattle.std.specs.List.{list_any, find}
use Rattle.std.proofs.lemmas.Bool.{cases_Bool, cond-true, cond-false, ltb-true}
use Rattle.coap_exchange.specs.Firsts.{replace_first}
use Rattle.coap_exchange.specs.Sent.{is_due, may_repeat}
use Rattle.dots_client.specs.Client.{WaitingValue, is_unsent, handed_out, handed, bytes_of, again, repeat_answer, repeat_after, due_answer, due_after}
use Rattle.dots_client.specs.Ending.{turns_left}

abbrev hand : List WaitingValue → List WaitingValue
hand ws = replace_first is_unsent handed_out ws

abbrev out : WaitingValue → WaitingValue
out w = record { request = handed w.request; sent = w.sent }

or_later : (a b : Bool) → a ≡ false → (a || b) ≡ true → b ≡ true
or_later true b is any = absurd (cc)
or_later false b is any = any

handed_falls : (ws : List WaitingValue) → list_any is_unsent ws ≡ true → turns_left (hand ws) < turns_left ws
handed_falls [] any = absurd (cc)
handed_falls (w ∷ ws) any = elim (cases_Bool (is_unsent w)) [
  | inl new ↦
      let after = ap turns_left (cond-true (is_unsent w) (out w ∷ ws) (w ∷ hand ws) new) in
      let one = cond-true {A = ℕ} (is_unsent w) 1 0 new in
      omega (arith, after, one)
  | inr old ↦
      let after = ap turns_left (cond-false (is_unsent w) (out w ∷ ws) (w ∷ hand ws) old) in
      let rest = handed_falls ws (or_later (is_unsent w) (list_any is_unsent ws) old any) in
      omega (arith, after, rest)
]

-- of one whose timeout is over
abbrev after_due : ℕ → WaitingValue → List WaitingValue → List WaitingValue
after_due now w ws = cond (may_repeat w.sent) (again w ∷ ws) (repeat_after now ws)

abbrev answer_due : ℕ → WaitingValue → List WaitingValue → Option (List ℕ)
answer_due now w ws = cond (may_repeat w.sent) (Some w.sent.bytes) (repeat_answer now ws)

repeat_falls : (now : ℕ) (ws : List WaitingValue) (bytes : List ℕ) → repeat_answer now ws ≡ Some bytes → turns_left (repeat_after now ws) < turns_left ws
repeat_falls now [] bytes is = absurd (cc)
repeat_falls now (w ∷ ws) bytes is = elim (cases_Bool (is_due now w.sent)) [
  | inl due ↦ elim (cases_Bool (may_repeat w.sent)) [
    | inl may ↦
        let after = ap turns_left (cond-true (is_due now w.sent) (after_due now w ws) (w ∷ repeat_after now ws) due ∙ cond-true (may_repeat w.sent) (again w ∷ ws) (repeat_after now ws) may) in
        let few = ltb-true w.sent.repeats 3 may in
        omega (arith, after, few)
    | inr up ↦
        let after = ap turns_left (cond-true (is_due now w.sent) (after_due now w ws) (w ∷ repeat_after now ws) due ∙ cond-false (may_repeat w.sent) (again w ∷ ws) (repeat_after now ws) up) in
        let answer = sym (cond-true (is_due now w.sent) (answer_due now w ws) (repeat_answer now ws) due ∙ cond-false (may_repeat w.sent) (Some w.sent.bytes) (repeat_answer now ws) up) ∙ is in
        let rest = repeat_falls now ws bytes answer in
        omega (arith, after, rest)
  ]
  | inr early ↦
      let after = ap turns_left (cond-false (is_due now w.sent) (after_due now w ws) (w ∷ repeat_after now ws) early) in
      let answer = sym (cond-false (is_due now w.sent) (answer_due now w ws) (repeat_answer now ws) early) ∙ is in
      let rest = repeat_falls now ws bytes answer in
      omega (arith, after, rest)
]

pub due_falls : (now : ℕ) (ws : List WaitingValue) (bytes : List ℕ) → due_answer now ws ≡ Some bytes → turns_left (due_after now ws) < turns_left ws
due_falls now ws bytes is = elim (cases_Bool (list_any is_unsent ws)) [
  | inl new ↦ subst (λ (vs : List WaitingValue). turns_left vs < turns_left ws) (sym (cond-true (list_any is_unsent ws) (hand ws) (repeat_after now ws) new)) (handed_falls ws new)
  | inr old ↦
      let answer = sym (cond-false (list_any is_unsent ws) (option_map bytes_of (find is_unsent ws)) (repeat_answer now ws) old) ∙ is in
      subst (λ (vs : List WaitingValue). turns_left vs < turns_left ws) (sym (cond-false (list_any is_unsent ws) (hand ws) (repeat_after now ws) old)) (repeat_falls now ws bytes answer)
]
