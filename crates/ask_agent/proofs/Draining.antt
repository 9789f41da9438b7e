-- What is due is handed out, one message after the other.
use Rattle.std.proofs.Common.{◌≡◌, ℕ, ◌<◌, true, false, List, [], ◌∷◌, ◌++◌, Option, Some, None, refl, sym, ap, subst, append_assoc}
use Rattle.std.specs.Prelude.{is_some}
use Rattle.std.proofs.lemmas.Bool.{false≢true}
use Rattle.dots_host.specs.Acts.{Timed}
use Rattle.dots_host.specs.Sending.{Handed}
use Rattle.dots_host.proofs.Sends.{handed_none}
use Rattle.dots_client.specs.Client.{ClientValue, milliseconds, tick_answer, tick_after}
use Rattle.dots_client.specs.Ending.{turns_left}
use Rattle.dots_client.proofs.Falls.{due_falls}
use Rattle.ask_agent.specs.Asking.{Drains, messages_in, to_server}
use Rattle.ask_agent.proofs.Turns.{sends_joined}

-- These messages were handed out, and whatever is handed out from here on was so from the start.
pub record Drained (now server : ℕ) (start core : ClientValue) (a : Option (List Timed)) (k : ℕ) (b : Option (List Timed)) (l : ℕ) : Type 0 where
  pub messages : List (List ℕ)
  pub handed : Handed a k b l (to_server server messages)
  pub goes_on : (rest : List (List ℕ)) (final : ClientValue) → Drains now core rest final → Drains now start (messages ++ rest) final

pub drained_none : (now server : ℕ) (core : ClientValue) (a : Option (List Timed)) (k : ℕ) → Drained now server core core a k a k
drained_none now server core a k = record { messages = []; handed = handed_none a k; goes_on = λ rest final drains. drains }

there_is : (answer : Option (List ℕ)) → is_some answer ≡ true → (message : List ℕ) × (answer ≡ Some message)
there_is None some = absurd (false≢true some)
there_is (Some message) some = (message, refl)

none_is : (answer : Option (List ℕ)) → is_some answer ≡ false → answer ≡ None
none_is None none = refl
none_is (Some message) none = absurd (false≢true (sym none))

-- one more message
pub drained_more : (now server : ℕ) (start core next : ClientValue) (a b c : Option (List Timed)) (k l m : ℕ) → Drained now server start core a k b l → is_some (tick_answer now core) ≡ true
    → next ≡ tick_after now core → Handed b l c m (to_server server (messages_in (tick_answer now core))) → Drained now server start next a k c m
drained_more now server start core next a b c k l m drained some after handed =
    let (message, is) = there_is (tick_answer now core) some in
    record {
      messages = drained.messages ++ message ∷ [];
      handed = sends_joined server server drained.messages (message ∷ []) a b c k l m refl drained.handed (subst (λ answer. Handed b l c m (to_server server (messages_in answer))) is handed);
      goes_on = λ rest final drains.
          subst (λ all. Drains now start all final) (sym (append_assoc drained.messages (message ∷ []) rest))
          (drained.goes_on (message ∷ rest) final (is, subst (λ client. Drains now client rest final) after drains));
    }

-- none is left
pub drained_all : (now server : ℕ) (start core next : ClientValue) (a b c : Option (List Timed)) (k l m : ℕ) → Drained now server start core a k b l → is_some (tick_answer now core) ≡ false
    → next ≡ tick_after now core → Handed b l c m (to_server server (messages_in (tick_answer now core)))
    → (messages : List (List ℕ)) × Drains now start messages next × Handed a k c m (to_server server messages)
drained_all now server start core next a b c k l m drained none after handed =
    let is = none_is (tick_answer now core) none in (
      drained.messages ++ [],
      drained.goes_on [] next (is, after),
      sends_joined server server drained.messages [] a b c k l m refl drained.handed (subst (λ answer. Handed b l c m (to_server server (messages_in answer))) is handed),
    )

-- fewer messages can still be handed out
pub drained_less : (now : ℕ) (core next : ClientValue) → is_some (tick_answer now core) ≡ true → next ≡ tick_after now core → turns_left next.waiting < turns_left core.waiting
drained_less now core next some after =
    let (message, is) = there_is (tick_answer now core) some in
    subst (λ ws. turns_left ws < turns_left core.waiting) (sym (ap (λ (client : ClientValue). client.waiting) after)) (due_falls (milliseconds now) core.waiting message is)
