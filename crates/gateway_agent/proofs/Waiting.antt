-- The young exchanges are those that wait in a gateway.
use Rattle.std.proofs.Common.{◌≡◌, ℕ, ◌+◌, Bool, true, false, List, [], ◌∷◌, map, refl, sym, ap, ◌∙◌, arith}
use Rattle.std.specs.Prelude.{not}
use Rattle.std.proofs.lemmas.Bool.{cond-true, cond-false, leb-true, leb-false, le-leb, lt-leb, not_from_true, not_from_false}
use Rattle.dots_gateway.specs.declared.exchange.Exchange.{Exchange}
use Rattle.dots_gateway.specs.declared.exchange.Waiting.{Waiting}
use Rattle.dots_gateway.specs.Exchanges.{is_over, left_at, waiting_again}
use Rattle.gateway_agent.specs.Exchanges.{is_young, young_at}
use Rattle.gateway_agent.proofs.Young.{is_more, is_same}

abbrev of : List Waiting → List Exchange
of waiting = map (λ (k : Waiting). k.exchange) waiting

it_waits : (now : ℕ) (x : Exchange) → is_young now x ≡ true → not (is_over now (waiting_again x)) ≡ true
it_waits now x young =
    let at = leb-true now (x.time + 246) young in
    not_from_false (is_over now (waiting_again x)) (lt-leb (x.time + 247) now (omega (arith, at)))

it_is_over : (now : ℕ) (x : Exchange) → is_young now x ≡ false → not (is_over now (waiting_again x)) ≡ false
it_is_over now x old =
    let at = leb-false now (x.time + 246) old in
    not_from_true (is_over now (waiting_again x)) (le-leb (x.time + 247) now (omega (arith, at)))

pub young_wait : (now : ℕ) (xs : List Exchange) → map (λ (k : Waiting). k.exchange) (left_at now (map waiting_again xs)) ≡ young_at now xs
young_wait now [] = refl
young_wait now (x ∷ xs) = by_first (young_wait now xs) (is_young now x) refl
  where
    by_first : of (left_at now (map waiting_again xs)) ≡ young_at now xs → (b : Bool) → is_young now x ≡ b
        → of (left_at now (map waiting_again (x ∷ xs))) ≡ young_at now (x ∷ xs)
    by_first rest true young =
        ap of (cond-true (not (is_over now (waiting_again x))) (waiting_again x ∷ left_at now (map waiting_again xs)) (left_at now (map waiting_again xs)) (it_waits now x young))
        ∙ ap (λ (l : List Exchange). x ∷ l) rest
        ∙ sym (is_more now x xs young)
    by_first rest false old =
        ap of (cond-false (not (is_over now (waiting_again x))) (waiting_again x ∷ left_at now (map waiting_again xs)) (left_at now (map waiting_again xs)) (it_is_over now x old))
        ∙ rest
        ∙ sym (is_same now x xs old)
