-- What is due is handed out, one message after the other.
use Rattle.std.proofs.Common.{◌≡◌, ℕ, ◌<◌, Bool, true, false, List, [], ◌∷◌, ◌++◌, map, Option, Some, None, refl, sym, ap, ◌∙◌, subst, append_assoc, append-nil}
use Rattle.std.specs.Prelude.{is_some, option_to_list}
use Rattle.std.proofs.lemmas.Bool.{false≢true}
use Rattle.dots_client.specs.Client.{ClientValue, milliseconds, tick_answer, tick_after}
use Rattle.dots_client.specs.Ending.{turns_left}
use Rattle.dots_client.proofs.Falls.{due_falls}
use Rattle.dots_world.specs.declared.party.Packet.{Packet}
use Rattle.dots_world.specs.Worlds.{Drains}
use Rattle.world_play.specs.Packets.{packet_of}

-- These messages were handed out, and whatever is handed out from here on was so from the start.
pub record Drained (now place : ℕ) (behind : Bool) (start core : ClientValue) (packets packets_now : List Packet) : Type 0 where
  pub messages : List (List ℕ)
  pub posted : packets_now ≡ packets ++ map (packet_of place behind) messages
  pub goes_on : (rest : List (List ℕ)) (final : ClientValue) → Drains now core rest final → Drains now start (messages ++ rest) final

pub drained_none : (now place : ℕ) (behind : Bool) (core : ClientValue) (packets : List Packet) → Drained now place behind core core packets packets
drained_none now place behind core packets = record { messages = []; posted = sym (append-nil packets); goes_on = λ rest final drains. drains }

there_is : (answer : Option (List ℕ)) → is_some answer ≡ true → (message : List ℕ) × (answer ≡ Some message)
there_is None some = absurd (false≢true some)
there_is (Some message) some = (message, refl)

none_is : (answer : Option (List ℕ)) → is_some answer ≡ false → answer ≡ None
none_is None none = refl
none_is (Some message) none = absurd (false≢true (sym none))

mapped : (place : ℕ) (behind : Bool) (xs ys : List (List ℕ)) → map (packet_of place behind) xs ++ map (packet_of place behind) ys ≡ map (packet_of place behind) (xs ++ ys)
mapped place behind [] ys = refl
mapped place behind (x ∷ xs) ys = ap (λ more. packet_of place behind x ∷ more) (mapped place behind xs ys)

-- one more message
pub drained_more : (now place : ℕ) (behind : Bool) (start core next : ClientValue) (packets between packets_now : List Packet) → Drained now place behind start core packets between
    → is_some (tick_answer now core) ≡ true → next ≡ tick_after now core → packets_now ≡ between ++ map (packet_of place behind) (option_to_list (tick_answer now core))
    → Drained now place behind start next packets packets_now
drained_more now place behind start core next packets between packets_now drained some after posted =
    let (message, is) = there_is (tick_answer now core) some in
    record {
      messages = drained.messages ++ message ∷ [];
      posted = posted ∙ ap (λ answer. between ++ map (packet_of place behind) (option_to_list answer)) is ∙ ap (λ front. front ++ packet_of place behind message ∷ []) drained.posted
          ∙ append_assoc packets (map (packet_of place behind) drained.messages) (packet_of place behind message ∷ []) ∙ ap (λ more. packets ++ more) (mapped place behind drained.messages (message ∷ []));
      goes_on = λ rest final drains.
          subst (λ all. Drains now start all final) (sym (append_assoc drained.messages (message ∷ []) rest))
          (drained.goes_on (message ∷ rest) final (is, subst (λ client. Drains now client rest final) after drains));
    }

-- none is left
pub drained_all : (now place : ℕ) (behind : Bool) (start core next : ClientValue) (packets between packets_now : List Packet) → Drained now place behind start core packets between
    → is_some (tick_answer now core) ≡ false → next ≡ tick_after now core → packets_now ≡ between ++ map (packet_of place behind) (option_to_list (tick_answer now core))
    → (messages : List (List ℕ)) × Drains now start messages next × (packets_now ≡ packets ++ map (packet_of place behind) messages)
drained_all now place behind start core next packets between packets_now drained none after posted =
    let is = none_is (tick_answer now core) none in (
      drained.messages ++ [],
      drained.goes_on [] next (is, after),
      posted ∙ ap (λ answer. between ++ map (packet_of place behind) (option_to_list answer)) is ∙ append-nil between ∙ drained.posted
          ∙ ap (λ all. packets ++ map (packet_of place behind) all) (sym (append-nil drained.messages)),
    )

-- fewer messages can still be handed out
pub drained_less : (now : ℕ) (core next : ClientValue) → is_some (tick_answer now core) ≡ true → next ≡ tick_after now core → turns_left next.waiting < turns_left core.waiting
drained_less now core next some after =
    let (message, is) = there_is (tick_answer now core) some in
    subst (λ ws. turns_left ws < turns_left core.waiting) (sym (ap (λ (client : ClientValue). client.waiting) after)) (due_falls (milliseconds now) core.waiting message is)
