-- The exchange that is new where a request is passed on first.
use Rattle.std.proofs.Common.{◌≡◌, ℕ, ◌≤◌, Bool, true, false, cond, List, [], length, refl, sym, ap, subst, ◌∙◌}
use Rattle.std.specs.Prelude.{◌==◌, ⊤, Option, Some, None, Result, Ok, Err}
use Rattle.std.specs.List.{find}
use Rattle.coap_message.specs.declared.kind.Kind.{Kind}
use Rattle.coap_message.specs.declared.kind.Kind.TheVariants.{Con, Non, Ack, Rst}
use Rattle.coap_message.specs.Message.{CoapMessage, IsMessage, spelling}
use Rattle.coap_message.specs.Salvage.{salvaged}
use Rattle.dots_keys.specs.Exchanges.{exchange_in, is_request, rejected, dismissed_unread}
use Rattle.dots_keys.specs.Replies.{plain}
use Rattle.dots_keys.specs.declared.reject.Reject.{Reject}
use Rattle.dots_keys.specs.declared.reject.Reject.TheVariants as reject
use Rattle.dots_history.specs.Calm.{is_http}
use Rattle.dots_gateway.specs.declared.exchange.Exchange.{Exchange}
use Rattle.dots_gateway.specs.declared.exchange.Waiting.{Waiting}
use Rattle.dots_gateway.specs.declared.passed.Passed.TheVariants as passed
use Rattle.dots_gateway.specs.declared.passed.GatewayFault.TheVariants as fault
use Rattle.dots_gateway.specs.Exchanges.{ExchangesValue, is_full, is_from, exchange_for, key_for}
use Rattle.dots_gateway.specs.Forwarding.{forwarded}
use Rattle.dots_gateway.specs.Gateway.{GatewayValue, Said, Ups, of_no_client, unreadable, asking, asked_said, wanted_said, passed_on, passed_by, passed_again, passed_first, came_again, refused, refused_option, dismissed_said}
use Rattle.dots_gateway.specs.Wanted.{Passage, Wanted, beat, passage, wanted_of}

-- it is that of a message, with the next number, and there was room
pub record IsFresh (e : ExchangesValue) (peer : ℕ) (x : Exchange) : Type 0 where
  pub m : CoapMessage
  pub is_message : IsMessage m
  pub is : x ≡ exchange_for e peer m
  pub free : is_full e ≡ false

-- where an exchange is new in what is said of a message
abbrev Sound : ExchangesValue → ℕ → CoapMessage → Said → Type 0
Sound e peer m (Ok (passed.Forward bytes (Some x))) = (x ≡ exchange_for e peer m) × (is_full e ≡ false)
Sound e peer m _ = ⊤

module _ (e : ExchangesValue) (peer : ℕ) (m : CoapMessage) where
  rejected_sound : (kind : Kind) (id : ℕ) → Sound e peer m (dismissed_said peer (rejected kind id))
  rejected_sound Con id = tt
  rejected_sound Non id = tt
  rejected_sound Ack id = tt
  rejected_sound Rst id = tt

  option_sound : (kind : Kind) (reply : List ℕ) → Sound e peer m (refused_option peer kind reply)
  option_sound Con reply = tt
  option_sound Non reply = tt
  option_sound Ack reply = tt
  option_sound Rst reply = tt

  refused_sound : (why : Reject) → Sound e peer m (refused peer m why)
  refused_sound (reject.Critical number) = option_sound m.kind _
  refused_sound reject.Path = tt
  refused_sound reject.Method = tt
  refused_sound reject.HopLimit = tt
  refused_sound reject.Parameter = tt
  refused_sound reject.Accept = tt
  refused_sound reject.Format = tt
  refused_sound reject.Query = tt
  refused_sound (reject.Body cause) = tt
  refused_sound reject.NoMemory = tt

  again_sound : (domain datagram : List ℕ) (p : Passage) (k : Waiting) → Sound e peer m (passed_again domain datagram m p k)
  again_sound domain datagram p k = by_test (came_again k.asked k.exchange datagram m)
    where
      by_test : (b : Bool) → Sound e peer m (cond {A = Said} b (Ok (passed.Forward (spelling (forwarded k.exchange.number domain p m)) None)) (Ok passed.Nothing))
      by_test true = tt
      by_test false = tt

  first_sound : (domain : List ℕ) (p : Passage) → Sound e peer m (passed_first e peer domain m p)
  first_sound domain p = by_test (is_full e) refl
    where
      by_test : (b : Bool) → is_full e ≡ b
          → Sound e peer m (cond {A = Said} b (Err fault.TableFull) (Ok (passed.Forward (spelling (forwarded e.next domain p m)) (Some (exchange_for e peer m)))))
      by_test true is = tt
      by_test false is = (refl, is)

  by_sound : (domain datagram : List ℕ) (p : Passage) (o : Option Waiting) → Sound e peer m (passed_by e peer domain datagram m p o)
  by_sound domain datagram p (Some k) = again_sound domain datagram p k
  by_sound domain datagram p None = first_sound domain p

  on_sound : (domain datagram : List ℕ) (p : Passage) → Sound e peer m (passed_on e peer domain datagram m p)
  on_sound domain datagram p = by_test (p.hop == 1)
    where
      by_test : (b : Bool) → Sound e peer m (cond {A = Said} b (Ok (passed.Reply peer (plain 0xa8 (exchange_in m) []))) (passed_by e peer domain datagram m p (find (is_from peer m.identifier) e.waiting)))
      by_test true = tt
      by_test false = by_sound domain datagram p (find (is_from peer m.identifier) e.waiting)

  wanted_sound : (domain datagram : List ℕ) (w : Result Wanted Reject) → Sound e peer m (wanted_said e peer domain datagram m w)
  wanted_sound domain datagram (Err why) = refused_sound why
  wanted_sound domain datagram (Ok beat) = tt
  wanted_sound domain datagram (Ok (passage p)) = on_sound domain datagram p

  asked_sound : (domain datagram : List ℕ) → Sound e peer m (asked_said e peer domain datagram m)
  asked_sound domain datagram = by_test (is_request m)
    where
      by_test : (b : Bool) → Sound e peer m (cond {A = Said} b (wanted_said e peer domain datagram m (wanted_of m)) (dismissed_said peer (rejected m.kind m.identifier)))
      by_test true = wanted_sound domain datagram (wanted_of m)
      by_test false = rejected_sound m.kind m.identifier

pub ok_same : {A E : Type 0} {x y : A} → ◌≡◌ {A = Result A E} (Ok x) (Ok y) → x ≡ y
ok_same is = cc

no_silence : {bytes : List ℕ} {x : Exchange} → ◌≡◌ {A = Said} (Ok (passed.Forward bytes (Some x))) (Ok passed.Nothing) → ⊥
no_silence is = absurd (cc)

no_reply : {peer : ℕ} {reply bytes : List ℕ} {x : Exchange} → ◌≡◌ {A = Said} (Ok (passed.Forward bytes (Some x))) (Ok (passed.Reply peer reply)) → ⊥
no_reply is = absurd (cc)

rejected_none : (peer : ℕ) (kind : Kind) (id : ℕ) (bytes : List ℕ) (x : Exchange) → Ok (passed.Forward bytes (Some x)) ≡ dismissed_said peer (rejected kind id) → ⊥
rejected_none peer Con id bytes x is = no_reply is
rejected_none peer Non id bytes x is = no_silence is
rejected_none peer Ack id bytes x is = no_silence is
rejected_none peer Rst id bytes x is = no_silence is

unread_none : (peer : ℕ) (o : Option (Kind × ℕ)) (bytes : List ℕ) (x : Exchange) → Ok (passed.Forward bytes (Some x)) ≡ dismissed_said peer (dismissed_unread o) → ⊥
unread_none peer None bytes x is = no_silence is
unread_none peer (Some message) bytes x is = rejected_none peer message.0 message.1 bytes x is

pub fresh_of : (g : GatewayValue) (peer : ℕ) (datagram bytes : List ℕ) (x : Exchange) → Ups g peer datagram (Ok (passed.Forward bytes (Some x))) → IsFresh g.exchanges peer x
fresh_of g peer datagram bytes x (of_no_client none said) = absurd (no_silence said)
fresh_of g peer datagram bytes x (unreadable domain is none said) = absurd (unread_none peer (salvaged datagram) bytes x said)
fresh_of g peer datagram bytes x (asking domain m is message spelled said) =
    let sound = subst (Sound g.exchanges peer m) (sym said) (asked_sound g.exchanges peer m domain datagram) in
    record { m = m; is_message = message; is = sound.0; free = sound.1 }

-- ---- what is known of it

no_http : (kind : Kind) (id : ℕ) → is_http (key_for kind id) ≡ false
no_http Con id = refl
no_http Non id = refl
no_http Ack id = refl
no_http Rst id = refl

pub fresh_key : (e : ExchangesValue) (peer : ℕ) (x : Exchange) → IsFresh e peer x → is_http x.key ≡ false
fresh_key e peer x fresh = ap (λ (x : Exchange). is_http x.key) fresh.is ∙ no_http fresh.m.kind fresh.m.identifier

pub fresh_token : (e : ExchangesValue) (peer : ℕ) (x : Exchange) → IsFresh e peer x → length x.token ≤ 8
fresh_token e peer x fresh = subst (λ (x : Exchange). length x.token ≤ 8) (sym fresh.is) fresh.is_message.token

pub fresh_time : (e : ExchangesValue) (peer : ℕ) (x : Exchange) → IsFresh e peer x → x.time ≡ e.time
fresh_time e peer x fresh = ap (λ (x : Exchange). x.time) fresh.is

pub fresh_number : (e : ExchangesValue) (peer : ℕ) (x : Exchange) → IsFresh e peer x → x.number ≡ e.next
fresh_number e peer x fresh = ap (λ (x : Exchange). x.number) fresh.is
