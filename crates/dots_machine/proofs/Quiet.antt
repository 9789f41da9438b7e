-- A datagram is answered or it isn't, whatever is chosen.
use Rattle.std.proofs.Common.{◌≡◌, ℕ, Bool, true, false, List, length, Option, Some, None, Result, Ok, Err, IsOk, refl, sym, ap, ◌∙◌, subst}
use Rattle.std.proofs.lemmas.Bool.{false≢true}
use Rattle.coap_message.specs.Message.{CoapMessage, IsMessage, spelling}
use Rattle.coap_message.proofs.Whole.{one_message}
use Rattle.coap_message.proofs.Faults.{breaks_no_message}
use Rattle.dots_settings.specs.Settings.{SettingsValue}
use Rattle.dots_settings.specs.Lookups.{role_of}
use Rattle.dots_keys.specs.declared.reject.Reject.{Reject}
use Rattle.dots_keys.specs.declared.reject.Reject.TheVariants as reject
use Rattle.dots_keys.specs.Heads.{Head, head_of}
use Rattle.dots_keys.specs.declared.request.Request.{Request}
use Rattle.dots_keys.specs.Meaning.{Means}
use Rattle.dots_keys.specs.Meaning as meaning
use Rattle.dots_keys.specs.declared.exchange.Exchange.{Exchange}
use Rattle.dots_machine.specs.declared.received.Received.{Received}
use Rattle.dots_machine.specs.declared.received.Received.TheVariants as received
use Rattle.dots_machine.specs.Verdict.{Verdict}
use Rattle.dots_machine.specs.declared.verdict.Verdict.TheVariants as verdict
use Rattle.dots_machine.specs.Domains.{is_gateway, is_stranger}
use Rattle.dots_keys.specs.Exchanges.{exchange_in, dismissed}
use Rattle.dots_machine.specs.Requests.{received_as, IsReceived, unread, asks_nothing, meant}
use Rattle.dots_machine.specs.Facts.{Facts}
use Rattle.dots_machine.specs.Machine.{State, LacksMemory, Decides, by_silence, by_rules, for_want_of_memory, reject_verdict, rules_say, sends_of, facts_in}
use Rattle.dots_machine.proofs.BodyRefusals.{IsBodily, completes_bodily}
use Rattle.dots_machine.proofs.Outcomes.{Speaks, asked_speaks}
use Rattle.dots_machine.proofs.Verdicts.{valued}

-- how many replies carry a verdict out
abbrev pub size_of : Verdict → ℕ
size_of verdict.Silent = 0
size_of _ = 1

pub sends_size : (number : Option ℕ) (v : Verdict) (peer : ℕ) → length (sends_of number v peer) ≡ size_of v
sends_size number verdict.Silent peer = refl
sends_size number (verdict.Reply reply) peer = refl
sends_size number (verdict.LongReply reply) peer = refl
sends_size number (verdict.Retrieves x body) peer = refl
sends_size number (verdict.Accept reply entry) peer = refl

speaks_once : (v : Verdict) → Speaks v → size_of v ≡ 1
speaks_once verdict.Silent speaks = absurd speaks
speaks_once (verdict.Reply reply) speaks = refl
speaks_once (verdict.LongReply reply) speaks = refl
speaks_once (verdict.Retrieves x body) speaks = refl
speaks_once (verdict.Accept reply entry) speaks = refl

bodily_speaks : (x : Exchange) (e : Reject) → IsBodily e → Speaks (reject_verdict x e)
bodily_speaks x (reject.Critical number) bodily = absurd bodily
bodily_speaks x reject.Path bodily = tt
bodily_speaks x reject.Method bodily = tt
bodily_speaks x reject.HopLimit bodily = tt
bodily_speaks x reject.Parameter bodily = tt
bodily_speaks x reject.Accept bodily = tt
bodily_speaks x reject.Format bodily = tt
bodily_speaks x reject.Query bodily = tt
bodily_speaks x (reject.Body cause) bodily = tt
bodily_speaks x reject.NoMemory bodily = tt

some_same : {X : Type 0} (x y : X) → Some x ≡ Some y → x ≡ y
some_same x y e = cc

some_or_none : {X : Type 0} (x : X) → Some x ≡ None → ⊥
some_or_none x e = cc

module _ (settings : SettingsValue) (facts : Facts) (peer : ℕ) where
  abbrev size : Received → ℕ
  size got = size_of (rules_say settings facts peer got)

  -- what has a right head is answered
  head_speaks : (x : Exchange) (head : Head) (payload : List ℕ) (answer : Result Request Reject) → meaning.ReadsAs (Ok head) payload answer → size (received_as x answer) ≡ 1
  head_speaks x head payload (Ok r) a = speaks_once _ (asked_speaks settings facts peer x r)
  head_speaks x head payload (Err e) a = speaks_once _ (bodily_speaks x e (completes_bodily head.operation head.content head.observe payload e a))

  read_size : (x : Exchange) (head : Result Head Reject) (payload : List ℕ) (a b : Result Request Reject) → meaning.ReadsAs head payload a → meaning.ReadsAs head payload b
      → size (received_as x a) ≡ size (received_as x b)
  read_size x (Ok head) payload a b one other = head_speaks x head payload a one ∙ sym (head_speaks x head payload b other)
  read_size x (Err refusal) payload a b one other = ap (λ answer. size (received_as x answer)) (one ∙ sym other)

  ok_speaks : (x : Exchange) (head : Result Head Reject) (payload : List ℕ) (a : Result Request Reject) → IsOk head → meaning.ReadsAs head payload a → size (received_as x a) ≡ 1
  ok_speaks x (Ok head) payload a is one = head_speaks x head payload a one
  ok_speaks x (Err refusal) payload a is one = absurd (false≢true is)

  module _ (datagram : List ℕ) (gateway : Bool) where
    same_message : (m n : CoapMessage) → IsMessage m → IsMessage n → datagram ≡ spelling m → datagram ≡ spelling n → m ≡ n
    same_message m n a b s t = one_message m n a b (sym s ∙ t)

    received_size : (h g : Received) → IsReceived datagram gateway h → IsReceived datagram gateway g → size h ≡ size g
    received_size h g (unread f d e) (unread f2 d2 e2) = ap size (e ∙ sym e2)
    received_size h g (unread f d e) (asks_nothing m x is s t e2) = absurd (breaks_no_message datagram f m d is s)
    received_size h g (unread f d e) (meant m a is s t x e2) = absurd (breaks_no_message datagram f m d is s)
    received_size h g (asks_nothing m x is s t e) (unread f d e2) = absurd (breaks_no_message datagram f m d is s)
    received_size h g (meant m a is s t x e) (unread f d e2) = absurd (breaks_no_message datagram f m d is s)
    received_size h g (asks_nothing m x is s t e) (asks_nothing n y is2 s2 t2 e2) =
        ap size (e ∙ ap received.Dismissed (some_same x y (sym t ∙ ap dismissed (same_message m n is is2 s s2) ∙ t2)) ∙ sym e2)
    received_size h g (asks_nothing m x is s t e) (meant n b is2 s2 t2 y e2) =
        absurd (some_or_none x (sym t ∙ ap dismissed (same_message m n is is2 s s2) ∙ t2))
    received_size h g (meant n b is2 s2 t2 y e2) (asks_nothing m x is s t e) =
        absurd (some_or_none x (sym t ∙ ap dismissed (same_message m n is is2 s s2) ∙ t2))
    received_size h g (meant m a is s t x e) (meant n b is2 s2 t2 y e2) =
        let same = same_message m n is is2 s s2 in
        ap size (e ∙ ap (λ (m : CoapMessage). received_as (exchange_in m) a) same)
        ∙ read_size (exchange_in n) (head_of n gateway) n.payload a b (subst (λ m. Means m gateway a) same x) y
        ∙ sym (ap size e2)

    lacking_size : (h : Received) (m : CoapMessage) → IsMessage m → datagram ≡ spelling m → dismissed m ≡ None → IsOk (head_of m gateway) → IsReceived datagram gateway h → size h ≡ 1
    lacking_size h m is s t head (unread f d e) = absurd (breaks_no_message datagram f m d is s)
    lacking_size h m is s t head (asks_nothing n y is2 s2 t2 e) = absurd (some_or_none y (sym t2 ∙ ap dismissed (same_message n m is2 is s2 s) ∙ t))
    lacking_size h m is s t head (meant n b is2 s2 t2 y e) =
        let same = same_message n m is2 is s2 s in
        ap size e ∙ ok_speaks (exchange_in n) (head_of n gateway) n.payload b (subst (λ (m : CoapMessage). IsOk (head_of m gateway)) (sym same) head) y

module _ (settings : SettingsValue) (state : State) (peer : ℕ) (datagram : List ℕ) where
  abbrev gateway : Bool
  gateway = is_gateway (role_of settings peer)

  known_or_not : {A : Type 0} → is_stranger (role_of settings peer) ≡ false → is_stranger (role_of settings peer) ≡ true → A
  known_or_not known unknown = absurd (false≢true (sym known ∙ unknown))

  lacks_one : (v : Verdict) → LacksMemory datagram gateway v → size_of v ≡ 1
  lacks_one v lacks = ap size_of lacks.answer

  ruled_size : (got : Received) (v : Verdict) → v ≡ rules_say settings (facts_in settings state) peer got → size_of v ≡ size settings (facts_in settings state) peer got
  ruled_size got v is = ap size_of is

  lacking_ruled : (got : Received) (w : Verdict) → LacksMemory datagram gateway w → IsReceived datagram gateway got → size settings (facts_in settings state) peer got ≡ size_of w
  lacking_ruled got w lacks is =
      lacking_size settings (facts_in settings state) peer datagram gateway got lacks.message lacks.is_message lacks.spelled lacks.asks lacks.head is ∙ sym (lacks_one w lacks)

  pub one_size : (v w : Verdict) → Decides settings state peer datagram v → Decides settings state peer datagram w → size_of v ≡ size_of w
  one_size v w (by_silence n is) (by_silence m at) = ap size_of (is ∙ sym at)
  one_size v w (by_silence n is) (by_rules m got received at) = known_or_not m n
  one_size v w (by_silence n is) (for_want_of_memory m lacks) = known_or_not m n
  one_size v w (by_rules n got received is) (by_silence m at) = known_or_not n m
  one_size v w (for_want_of_memory n lacks) (by_silence m at) = known_or_not n m
  one_size v w (by_rules n got received is) (by_rules m other also at) =
      ruled_size got v (valued settings state peer got v is) ∙ received_size settings (facts_in settings state) peer datagram gateway got other received also
      ∙ sym (ruled_size other w (valued settings state peer other w at))
  one_size v w (by_rules n got received is) (for_want_of_memory m lacks) = ruled_size got v (valued settings state peer got v is) ∙ lacking_ruled got w lacks received
  one_size v w (for_want_of_memory n lacks) (by_rules m got received at) = sym (ruled_size got w (valued settings state peer got w at) ∙ lacking_ruled got v lacks received)
  one_size v w (for_want_of_memory n lacks) (for_want_of_memory m also) = lacks_one v lacks ∙ sym (lacks_one w also)
