-- What is decided on what is received.
use Rattle.std.proofs.Common.{◌≡◌, ℕ, Bool, true, false, List, [], ◌∷◌, Result, Ok, Err, inl, inr, refl, ap, ◌∙◌, subst}
use Rattle.std.specs.Prelude.{IsOk}
use Rattle.dots_keys.specs.declared.reject.Reject.{Reject}
use Rattle.dots_keys.specs.declared.request.Request.{Request}
use Rattle.dots_keys.specs.Heads.{Head, head_of}
use Rattle.dots_keys.specs.Meaning.{ReadsAs, Means}
use Rattle.dots_settings.specs.Settings.{SettingsValue}
use Rattle.dots_keys.specs.declared.exchange.Exchange.{Exchange}
use Rattle.dots_keys.specs.declared.dismissal.Dismissal.{Dismissal}
use Rattle.dots_machine.specs.declared.received.Received.{Received}
use Rattle.dots_machine.specs.declared.received.Received.TheVariants as received
use Rattle.dots_machine.specs.Verdict.{Verdict}
use Rattle.dots_machine.specs.declared.verdict.Verdict.TheVariants as verdict
use Rattle.dots_settings.specs.Lookups.{role_of}
use Rattle.dots_machine.specs.Domains.{is_gateway, is_stranger}
use Rattle.dots_keys.specs.Exchanges.{exchange_in}
use Rattle.dots_machine.specs.Requests.{received_as, IsReceived, unread, asks_nothing, meant}
use Rattle.dots_machine.specs.Replies.{unavailable}
use Rattle.dots_machine.specs.Machine.{State, facts_in, Decides, by_silence, by_rules, for_want_of_memory}
use Rattle.dots_machine.proofs.Verdicts.{ruled}
use Rattle.dots_server.specs.Receiving.{Lacks}
use Rattle.dots_host.specs.declared.out.OwnedOut.TheVariants as owned
use Rattle.coap_observe.specs.Seen.{Lists}
use Rattle.dots_machine.specs.declared.watching.Watching.{Watching}
use Rattle.dots_machine.specs.declared.watching.Watching.TheVariants as watching
use Rattle.dots_machine.specs.Observing.{asked_by, unless_dismissed, watching_in, watching_of, by_message, by_stranger, observing}
use Rattle.dots_machine.proofs.Observing.{received_watches, unavailable_leaves}
use Rattle.dots_server.specs.Asking.{IsUnavailable, DecidesOn, DoesOn}
use Rattle.dots_server.specs.Observing.{DoesDecided}

module _ (settings : SettingsValue) (state : State) (peer : ℕ) (datagram : List ℕ) (known : is_stranger (role_of settings peer) ≡ false) where
  abbrev gateway : Bool
  gateway = is_gateway (role_of settings peer)

  -- a request has all that stands before its body
  head_is_right : (head : Result Head Reject) (payload : List ℕ) (r : Request) → ReadsAs head payload (Ok r) → IsOk head
  head_is_right (Ok head) payload r answers = refl
  head_is_right (Err e) payload r answers = absurd (cc answers)

  same_request : (x : Exchange) (r : Request) (y : Exchange) (answer : Result Request Reject) → received.Asked x r ≡ received_as y answer → (x ≡ y) × (answer ≡ Ok r)
  same_request x r y (Ok s) e = (cc e, cc e)
  same_request x r y (Err s) e = absurd (cc e)

  never_unread : (answer : Dismissal) (x : Exchange) (r : Request) → received.Asked x r ≡ received.Unread answer → ⊥
  never_unread answer x r e = cc e

  never_dismissed : (answer : Dismissal) (x : Exchange) (r : Request) → received.Asked x r ≡ received.Dismissed answer → ⊥
  never_dismissed answer x r e = cc e

  lacks_memory : (x : Exchange) (r : Request) (v : Verdict) → IsReceived datagram gateway (received.Asked x r) → v ≡ verdict.Reply (unavailable x) → Decides settings state peer datagram v
  lacks_memory x r v (unread fault breaks e) is = absurd (never_unread _ x r e)
  lacks_memory x r v (asks_nothing message answer m spelled dismisses e) is = absurd (never_dismissed answer x r e)
  lacks_memory x r v (meant message answer m spelled asks means e) is =
      let same = same_request x r (exchange_in message) answer e in
      let right = head_is_right (head_of message gateway) message.payload r (subst (Means message gateway) same.1 means) in
      for_want_of_memory known (record { message = message; is_message = m; spelled = spelled; asks = asks; head = right; answer = is ∙ ap (λ x. verdict.Reply (unavailable x)) same.0 })

  unavailable_decided : (got : Received) (v : Verdict) → IsReceived datagram gateway got → IsUnavailable settings (facts_in settings state) peer got v → Decides settings state peer datagram v
  unavailable_decided (received.Asked x r) v got lacks = lacks_memory x r v got lacks.1
  unavailable_decided (received.Refused x e) v got lacks = absurd lacks
  unavailable_decided (received.Unread d) v got lacks = absurd lacks
  unavailable_decided (received.Dismissed d) v got lacks = absurd lacks

  pub decided : (got : Received) (v : Verdict) → IsReceived datagram gateway got → DecidesOn settings state peer got v → Decides settings state peer datagram v
  decided got v is (inl rules) = by_rules known got is (ruled settings state peer got v rules)
  decided got v is (inr lacks) = unavailable_decided got v is lacks

  pub lacking : (x : Exchange) (v : Verdict) → Lacks datagram gateway x → v ≡ verdict.Reply (unavailable x) → Decides settings state peer datagram v
  lacking x v lacks is =
      for_want_of_memory known (record {
        message = lacks.message;
        is_message = lacks.is_message;
        spelled = lacks.spelled;
        asks = lacks.asks;
        head = lacks.head;
        answer = is ∙ ap (λ x. verdict.Reply (unavailable x)) lacks.exchange_is;
      })

  -- ---- with what becomes of the observers
  pub does_decided : (got : Received) (watching : Watching) (v : Verdict) → IsReceived datagram gateway got → DoesOn settings state peer got watching v → DoesDecided settings state peer datagram watching v
  does_decided got watching v is does = record {
    decided = does.0;
    decides = decided got does.0 is does.1;
    asked = watching_of settings peer got;
    watches = received_watches settings peer datagram got known is;
    does = does.2;
  }

  pub lacking_decided : (x : Exchange) (reply : List ℕ) → Lacks datagram gateway x → reply ≡ unavailable x → DoesDecided settings state peer datagram watching.Nothing (verdict.Reply reply)
  lacking_decided x reply lacks is = record {
    decided = verdict.Reply reply;
    decides = lacking x (verdict.Reply reply) lacks (ap verdict.Reply is);
    asked = watching_in settings peer lacks.message;
    watches = by_message known lacks.message lacks.is_message lacks.spelled refl;
    does = record { verdict_is = refl; observers = λ lists. leaves lists };
  }
    where
      y : Exchange
      y = exchange_in lacks.message

      asked : Watching
      asked = asked_by settings peer y (head_of lacks.message gateway)

      leaves : (lists : Lists) → observing settings lists peer (watching_in settings peer lacks.message) (verdict.Reply reply) (owned.To peer reply ∷ []) state.observers ≡ state.observers
      leaves lists =
          ap (λ d. observing settings lists peer (unless_dismissed d asked) (verdict.Reply reply) (owned.To peer reply ∷ []) state.observers) lacks.asks
          ∙ ap (λ r. observing settings lists peer asked (verdict.Reply r) (owned.To peer r ∷ []) state.observers) (is ∙ ap unavailable lacks.exchange_is)
          ∙ unavailable_leaves settings peer y lists y state.observers (head_of lacks.message gateway)

-- by what came of a datagram
pub stranger_decided : (settings : SettingsValue) (state : State) (peer : ℕ) (datagram : List ℕ) → is_stranger (role_of settings peer) ≡ true
    → DoesDecided settings state peer datagram watching.Nothing verdict.Silent
stranger_decided settings state peer datagram unknown = record {
  decided = verdict.Silent;
  decides = by_silence unknown refl;
  asked = watching.Nothing;
  watches = by_stranger unknown refl;
  does = record { verdict_is = refl; observers = λ lists. refl };
}
