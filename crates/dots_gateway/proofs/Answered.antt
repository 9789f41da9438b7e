-- What goes to a client for a message of the upstream.
use Rattle.std.proofs.Common.{◌≡◌, ℕ, zero, suc, ◌%◌, ◌^◌, Bool, true, false, cond, List, [], ◌∷◌, Option, Some, None, refl, sym, ap, subst, ◌∙◌, inl, inr}
use Rattle.std.specs.Prelude.{◌==◌, ◌⊎◌, not, bytes_eq, slice_get}
use Rattle.std.specs.Int.{w64, to_be_bytes}
use Rattle.std.specs.List.{find}
use Rattle.std.proofs.lemmas.Bool.{and_parts, eqb-true, ne_eqb}
use Rattle.std.proofs.lemmas.Option.{none-some, same_Some}
use Rattle.std.proofs.lemmas.Slice.Eq.{bytes_eq-Decides}
use Rattle.coap_message.specs.Message.{CoapOption, CoapMessage, IsMessage, spelling}
use Rattle.dots_keys.specs.Options.{values_of}
use Rattle.dots_gateway.specs.declared.exchange.Waiting.{Waiting}
use Rattle.dots_gateway.specs.declared.passed.Passed.{Passed}
use Rattle.dots_gateway.specs.declared.passed.Passed.TheVariants as passed
use Rattle.dots_gateway.specs.Answered.{IsAnswered}
use Rattle.dots_gateway.specs.Exchanges.{ExchangesValue, is_passed}
use Rattle.dots_gateway.specs.Forwarding.{without_observe, answered}
use Rattle.dots_gateway.specs.Gateway.{GatewayValue, Downs, no_message, beating, answering, IsBeat, is_response, answer_to, response_said}

-- what is found is somewhere, and passes
abbrev Found : {A : Type 0} → (A → Bool) → List A → A → Type 0
Found t xs x = (i : ℕ) × (slice_get xs i ≡ Some x) × (t x ≡ true)

found_at : {A : Type 0} (t : A → Bool) (xs : List A) (x : A) → find t xs ≡ Some x → Found t xs x
found_at t [] x found = absurd (none-some x found)
found_at {A} t (y ∷ xs) x found = by_test (t y) refl found (λ is. found_at t xs x is)
  where
    by_test : (b : Bool) → t y ≡ b → cond b (Some y) (find t xs) ≡ Some x → (find t xs ≡ Some x → Found t xs x) → Found t (y ∷ xs) x
    by_test true pass is rest = (zero, is, subst (λ (z : A). t z ≡ true) (same_Some y x is) pass)
    by_test false fail is rest = let there = rest is in (suc there.0, there.1, there.2)

-- ---- options without Observe

others_stay : (number : ℕ) (os : List CoapOption) → (number ≡ 6 → ⊥) → values_of number (without_observe os) ≡ values_of number os
others_stay number [] other = refl
others_stay number (o ∷ os) other = by_test (o.number == 6) refl (others_stay number os other)
  where
    by_test : (b : Bool) → (o.number == 6) ≡ b → values_of number (without_observe os) ≡ values_of number os
        → values_of number (cond (not b) (o ∷ without_observe os) (without_observe os)) ≡ values_of number (o ∷ os)
    by_test true is rest =
        rest ∙ sym (ap (λ (c : Bool). cond c (o.value ∷ values_of number os) (values_of number os)) (ne_eqb o.number number (λ same. other (sym same ∙ eqb-true o.number 6 is))))
    by_test false is rest = ap (λ (vs : List (List ℕ)). cond (o.number == number) (o.value ∷ vs) vs) rest

observe_goes : (os : List CoapOption) → values_of 6 (without_observe os) ≡ []
observe_goes [] = refl
observe_goes (o ∷ os) = by_test (o.number == 6) refl (observe_goes os)
  where
    by_test : (b : Bool) → (o.number == 6) ≡ b → values_of 6 (without_observe os) ≡ [] → values_of 6 (cond (not b) (o ∷ without_observe os) (without_observe os)) ≡ []
    by_test true is rest = rest
    by_test false is rest = ap (λ (c : Bool). cond c (o.value ∷ values_of 6 (without_observe os)) (values_of 6 (without_observe os))) is ∙ rest

-- ---- the answer

same_reply : (to other : ℕ) (bytes reply : List ℕ) → ◌≡◌ {A = Passed} (passed.Reply to bytes) (passed.Reply other reply) → (to ≡ other) × (bytes ≡ reply)
same_reply to other bytes reply is = (cc, cc)

no_silence : {to : ℕ} {bytes : List ℕ} → ◌≡◌ {A = Passed} (passed.Reply to bytes) passed.Nothing → ⊥
no_silence is = absurd (cc)

found_answers : (e : ExchangesValue) (datagram : List ℕ) (to : ℕ) (bytes : List ℕ) (m : CoapMessage) (o : Option Waiting) → IsMessage m → datagram ≡ spelling m
    → find (is_passed m.token m.identifier) e.waiting ≡ o → passed.Reply to bytes ≡ answer_to o m → IsAnswered e datagram to bytes
found_answers e datagram to bytes m None message spelled found is = absurd (no_silence is)
found_answers e datagram to bytes m (Some k) message spelled found is =
    let there = found_at (is_passed m.token m.identifier) e.waiting k found in
    let both = and_parts (bytes_eq (to_be_bytes w64 k.exchange.number) m.token) (k.exchange.number % 2 ^ 16 == m.identifier) there.2 in
    let same = same_reply to k.exchange.peer bytes (spelling (answered k.exchange m)) is in
    record {
      place = there.0;
      waits = k;
      message = m;
      answer = answered k.exchange m;
      waiting = there.1;
      is_message = message;
      spelled = spelled;
      written = same.1;
      client = same.0;
      number = sym ((bytes_eq-Decides (to_be_bytes w64 k.exchange.number) m.token).0 both.0);
      number_id = sym (eqb-true (k.exchange.number % 2 ^ 16) m.identifier both.1);
      token = refl;
      id = refl;
      code = refl;
      payload = refl;
      options = λ number other. others_stay number m.options other;
      observe = observe_goes m.options;
    }

response_answers : (e : ExchangesValue) (datagram : List ℕ) (to : ℕ) (bytes : List ℕ) (m : CoapMessage) → IsMessage m → datagram ≡ spelling m
    → passed.Reply to bytes ≡ response_said e m → IsAnswered e datagram to bytes
response_answers e datagram to bytes m message spelled is = by_test (is_response m) is
  where
    by_test : (b : Bool) → passed.Reply to bytes ≡ cond b (answer_to (find (is_passed m.token m.identifier) e.waiting) m) passed.Nothing → IsAnswered e datagram to bytes
    by_test true is = found_answers e datagram to bytes m (find (is_passed m.token m.identifier) e.waiting) message spelled refl is
    by_test false is = absurd (no_silence is)

pub is_answered_to : (g : GatewayValue) (datagram : List ℕ) (to : ℕ) (bytes : List ℕ) → Downs g datagram (passed.Reply to bytes)
    → ((m : CoapMessage) × (datagram ≡ spelling m) × IsBeat m × (to ≡ g.upstream)) ⊎ IsAnswered g.exchanges datagram to bytes
is_answered_to g datagram to bytes (no_message none said) = absurd (no_silence said)
is_answered_to g datagram to bytes (beating m message spelled beats said) = inl (m, spelled, beats, (same_reply to g.upstream bytes _ said).0)
is_answered_to g datagram to bytes (answering m message spelled other said) = inr (response_answers g.exchanges datagram to bytes m message spelled said)
