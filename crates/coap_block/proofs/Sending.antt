-- A datagram that is sent is the reply that is awaited, a long notification, or neither.
use Rattle.std.proofs.Common.{inl, inr, ◌≡◌, ℕ, List, Some, None, Option, Bool, true, false, refl, sym, ap, subst, ◌∙◌}
use Rattle.std.specs.Prelude.{option_map, if◌then◌else◌}
use Rattle.coap_message.specs.Message.{CoapMessage, IsMessage, spelling}
use Rattle.coap_block.specs.declared.awaiting.Awaiting.{Awaiting}
use Rattle.coap_block.specs.declared.stored.StoredBody.{StoredBody}
use Rattle.coap_block.specs.declared.observed.ObservedRequest.{ObservedRequest}
use Rattle.coap_block.specs.Knowing.{asked_with}
use Rattle.coap_block.specs.Blocks.{Asked, Blocks, is_reply, has_observe, IsNoReply, IsOther, IsAnswered, Notes, answer_of, noticed_in, IsNoticed, Sends}

-- what is awaited isn't answered by the message
pub no_reply : (old : Blocks) (awaited : Option Awaiting) (request : List ℕ) (peer : ℕ) (m : CoapMessage) → old.awaited ≡ option_map (asked_with request) awaited
    → ((one : Awaiting) (request : List ℕ) → awaited ≡ Some one → is_reply (asked_with request one) peer m ≡ false) → IsNoReply old peer m
no_reply old None request peer m is none asked awaits = absurd (cc (sym is ∙ awaits))
no_reply old (Some one) request peer m is none asked awaits =
    let same : asked_with request one ≡ asked = some_once (sym is ∙ awaits) in
    subst (λ a. is_reply a peer m ≡ false) same (none one request refl)
  where
    some_once : {a b : Asked} → Some a ≡ Some b → a ≡ b
    some_once e = cc e

module _ (old : Blocks) (peer : ℕ) (bytes out : List ℕ) (m : CoapMessage) (now : List StoredBody) (is : IsMessage m) (spells : bytes ≡ spelling m)
    (one : (n : CoapMessage) → IsMessage n → bytes ≡ spelling n → m ≡ n) (none : IsNoReply old peer m)
  where
    noticed : (observed : Option ObservedRequest) → noticed_in old.observed peer m ≡ observed → IsNoticed observed m old.stored out now → Sends old peer bytes out (record old { stored = now })
    noticed None of left = inr (inr (other, left.0 ∙ sym spells, ap (λ stored. record old { stored = stored }) left.1))
      where
        other : IsOther old peer bytes
        other message is_message spells_message = subst (λ n. IsNoReply old peer n × (noticed_in old.observed peer n ≡ None)) (one message is_message spells_message) (none, of)
    noticed (Some observed) of left = inr (inl (record {
      message = m;
      observed = observed;
      is = is;
      spells = spells;
      no_reply = none;
      of = of;
      notified = left;
      awaits = refl;
      observes = refl;
    }))

    other_sends : IsNoticed (noticed_in old.observed peer m) m old.stored out now → Sends old peer bytes out (record old { stored = now })
    other_sends = noticed (noticed_in old.observed peer m) refl

pub notice_sends : (old : Blocks) (peer : ℕ) (bytes filled : List ℕ) (written : Bool) (m : CoapMessage) (awaited : Option Asked) (stored now : List StoredBody) (observed known : List ObservedRequest) → IsMessage m → bytes ≡ spelling m
    → ((n : CoapMessage) → IsMessage n → bytes ≡ spelling n → m ≡ n) → IsNoReply old peer m → old ≡ record { awaited = awaited; stored = stored; observed = observed } → known ≡ observed
    → IsNoticed (noticed_in known peer m) m stored (if written then filled else spelling m) now → Sends old peer bytes (if written then filled else bytes) (record { awaited = awaited; stored = now; observed = observed })
notice_sends old peer bytes filled written m awaited stored now observed known is spells one none old_is known_is noticed =
    let blocks : Blocks = record { awaited = awaited; stored = stored; observed = observed } in
    let left = subst (λ text. IsNoticed (noticed_in observed peer m) m stored (if written then filled else text) now) (sym spells)
    (subst (λ all. IsNoticed (noticed_in all peer m) m stored (if written then filled else spelling m) now) known_is noticed) in
    subst (λ b. Sends b peer bytes (if written then filled else bytes) (record { awaited = awaited; stored = now; observed = observed })) (sym old_is)
    (other_sends blocks peer bytes (if written then filled else bytes) m now is spells one (subst (λ b. IsNoReply b peer m) old_is none) left)

pub reply_sends : (old : Blocks) (peer : ℕ) (bytes filled : List ℕ) (written : Bool) (m : CoapMessage) (asked : Asked) (stored now : List StoredBody) (observed known : List ObservedRequest) → IsMessage m → bytes ≡ spelling m → old.awaited ≡ Some asked
    → is_reply asked peer m ≡ true → old.stored ≡ stored → old.observed ≡ observed → IsAnswered (answer_of stored asked m) asked m stored (if written then filled else spelling m) now → Notes (has_observe m) asked observed known
    → Sends old peer bytes (if written then filled else bytes) (record { awaited = None; stored = now; observed = known })
reply_sends old peer bytes filled written m asked stored now observed known is spells awaits reply stored_is observed_is answered notes = inl (record {
  message = m;
  asked = asked;
  is = is;
  spells = spells;
  awaited = awaits;
  reply = reply;
  answered = subst (λ all. IsAnswered (answer_of all asked m) asked m all (if written then filled else bytes) now) (sym stored_is)
      (subst (λ text. IsAnswered (answer_of stored asked m) asked m stored (if written then filled else text) now) (sym spells) answered);
  noted = subst (λ all. Notes (has_observe m) asked all known) (sym observed_is) notes;
  over = refl;
})
