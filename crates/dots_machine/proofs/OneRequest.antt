-- A datagram is one thing.
use Rattle.std.proofs.Common.{◌≡◌, ℕ, Bool, List, [], Some, None, Result, Ok, Err, refl, sym, ap, ◌∙◌, subst}
use Rattle.cbor_profile.specs.Tree.{Tree}
use Rattle.cbor_profile.specs.Spelling.{Spells}
use Rattle.cbor_profile.proofs.WholeReading.{same_reading}
use Rattle.coap_message.specs.Message.{CoapMessage, IsMessage, spelling}
use Rattle.coap_message.proofs.Whole.{one_message}
use Rattle.coap_message.proofs.Faults.{breaks_no_message}
use Rattle.dots_keys.specs.declared.reject.Reject.{Reject}
use Rattle.dots_keys.specs.declared.request.Request.{Request}
use Rattle.dots_keys.specs.declared.head_request.Content.{Content}
use Rattle.dots_keys.specs.declared.head_request.Observe.{Observe}
use Rattle.dots_keys.specs.Heads.{Head, head_of}
use Rattle.dots_keys.specs.Meaning.{IsBody, AnswersBody, Completes, Means, put_mitigation_with, put_config_with, put_heartbeat_with}
use Rattle.dots_keys.specs.Meaning as meaning
use Rattle.dots_keys.specs.Operations.{Operation, put_mitigation, get_mitigation, delete_mitigation, put_config, get_config, delete_config, put_heartbeat}
use Rattle.dots_keys.specs.Results.{◌>>=◌}
use Rattle.dots_keys.proofs.OneMeaning.{OneReading, means_once}
use Rattle.dots_machine.specs.declared.received.Received.{Received}
use Rattle.dots_machine.specs.declared.received.Received.TheVariants as received
use Rattle.dots_keys.specs.Exchanges.{exchange_in, dismissed}
use Rattle.dots_machine.specs.Requests.{received_as, IsReceived, unread, asks_nothing, meant}

abbrev result : Result Request Reject → Result Request Reject
result r = r

ok_same : (x y : Request) → result (Ok x) ≡ Ok y → x ≡ y
ok_same x y e = cc

not_err : (x : Request) (e : Reject) → result (Ok x) ≡ Err e → ⊥
not_err x e same = cc

one_tree : (payload : List ℕ) (s t : Tree) → Spells payload s 0 → Spells payload t 0 → s ≡ t
one_tree payload s t a b = (same_reading payload payload [] [] s t 16 a.1 b.1 refl).0

-- two requests of one body
one_ok : (payload : List ℕ) (read : Tree → Result Request Reject) (r q : Request) → AnswersBody payload read (Ok r) → AnswersBody payload read (Ok q) → r ≡ q
one_ok payload read r q a b = by_bodies a.0 b.0 a.1 b.1 a.2 b.2
  where
    by_bodies : (x y : Result Tree Reject) → IsBody payload x → IsBody payload y → Ok r ≡ (x >>= read) → Ok q ≡ (y >>= read) → r ≡ q
    by_bodies (Ok s) (Ok t) m n e f = ok_same r q (e ∙ ap read (one_tree payload s t m n) ∙ sym f)
    by_bodies (Err s) y m n e f = absurd (not_err r s e)
    by_bodies (Ok s) (Err t) m n e f = absurd (not_err q t f)

completed_once : (operation : Operation) (content : Content) (observe : Observe) (payload : List ℕ) (r q : Request)
    → Completes operation content observe payload (Ok r) → Completes operation content observe payload (Ok q) → r ≡ q
completed_once (put_mitigation path) content observe payload r q a b = one_ok payload (put_mitigation_with path) r q a b
completed_once (get_mitigation path) content observe payload r q a b = ok_same r q (a ∙ sym b)
completed_once (delete_mitigation path) content observe payload r q a b = ok_same r q (a ∙ sym b)
completed_once (put_config sid) content observe payload r q a b = one_ok payload (put_config_with sid) r q a b
completed_once (get_config sid) content observe payload r q a b = ok_same r q (a ∙ sym b)
completed_once (delete_config sid) content observe payload r q a b = ok_same r q (a ∙ sym b)
completed_once put_heartbeat content observe payload r q a b = one_ok payload put_heartbeat_with r q a b

answered_once : (head : Result Head Reject) (payload : List ℕ) (r q : Request) → meaning.ReadsAs head payload (Ok r) → meaning.ReadsAs head payload (Ok q) → r ≡ q
answered_once (Ok head) payload r q a b = completed_once head.operation head.content head.observe payload r q a b
answered_once (Err e) payload r q a b = absurd (not_err r e a)

one_request : (message : CoapMessage) (gateway : Bool) (r q : Request) → Means message gateway (Ok r) → Means message gateway (Ok q) → r ≡ q
one_request message gateway r q a b = answered_once (head_of message gateway) message.payload r q a b

same_message : (datagram : List ℕ) (m n : CoapMessage) → IsMessage m → IsMessage n → datagram ≡ spelling m → datagram ≡ spelling n → m ≡ n
same_message datagram m n a b s t = one_message m n a b (sym s ∙ t)

some_same : {X : Type 0} (x y : X) → Some x ≡ Some y → x ≡ y
some_same x y e = cc

some_or_none : {X : Type 0} (x : X) → Some x ≡ None → ⊥
some_or_none x e = cc

-- Whatever bytes there are, two things that a datagram is are one, or one of them is refused.
pub data Same (h g : Received) : Type 0 where
  one : h ≡ g → Same h g
  first_refused : (m : CoapMessage) (e : Reject) → h ≡ received.Refused (exchange_in m) e → Same h g
  second_refused : (m : CoapMessage) (e : Reject) → g ≡ received.Refused (exchange_in m) e → Same h g

of_one_message : (m : CoapMessage) (gateway : Bool) (h g : Received) (a b : Result Request Reject) → Means m gateway a → Means m gateway b
    → h ≡ received_as (exchange_in m) a → g ≡ received_as (exchange_in m) b → Same h g
of_one_message m gateway h g (Ok r) (Ok q) x y e f = one (e ∙ ap (received.Asked (exchange_in m)) (one_request m gateway r q x y) ∙ sym f)
of_one_message m gateway h g (Err d) b x y e f = first_refused m d e
of_one_message m gateway h g (Ok r) (Err d) x y e f = second_refused m d f

pub same_received : (datagram : List ℕ) (gateway : Bool) (h g : Received) → IsReceived datagram gateway h → IsReceived datagram gateway g → Same h g
same_received datagram gateway h g (unread f d e) (unread f2 d2 e2) = one (e ∙ sym e2)
same_received datagram gateway h g (unread f d e) (asks_nothing m x is s t e2) = absurd (breaks_no_message datagram f m d is s)
same_received datagram gateway h g (unread f d e) (meant m a is s t x e2) = absurd (breaks_no_message datagram f m d is s)
same_received datagram gateway h g (asks_nothing m x is s t e) (unread f d e2) = absurd (breaks_no_message datagram f m d is s)
same_received datagram gateway h g (meant m a is s t x e) (unread f d e2) = absurd (breaks_no_message datagram f m d is s)
same_received datagram gateway h g (asks_nothing m x is s t e) (asks_nothing n y is2 s2 t2 e2) =
    one (e ∙ ap received.Dismissed (some_same x y (sym t ∙ ap dismissed (same_message datagram m n is is2 s s2) ∙ t2)) ∙ sym e2)
same_received datagram gateway h g (asks_nothing m x is s t e) (meant n b is2 s2 t2 y e2) =
    absurd (some_or_none x (sym t ∙ ap dismissed (same_message datagram m n is is2 s s2) ∙ t2))
same_received datagram gateway h g (meant n b is2 s2 t2 y e2) (asks_nothing m x is s t e) =
    absurd (some_or_none x (sym t ∙ ap dismissed (same_message datagram m n is is2 s s2) ∙ t2))
same_received datagram gateway h g (meant m a is s t x e) (meant n b is2 s2 t2 y e2) =
    let same = same_message datagram m n is is2 s s2 in
    of_one_message
    n
    gateway
    h
    g
    a
    b
    (subst (λ m. Means m gateway a) same x)
    y
    (e ∙ ap (λ (m : CoapMessage). received_as (exchange_in m) a) same)
    e2

-- Where its payload can be read in one way, a datagram is one thing.
pub one_received : (datagram : List ℕ) (gateway : Bool) (h g : Received) → ((m : CoapMessage) → datagram ≡ spelling m → OneReading m.payload)
    → IsReceived datagram gateway h → IsReceived datagram gateway g → h ≡ g
one_received datagram gateway h g read (unread f d e) (unread f2 d2 e2) = e ∙ sym e2
one_received datagram gateway h g read (unread f d e) (asks_nothing m x is s t e2) = absurd (breaks_no_message datagram f m d is s)
one_received datagram gateway h g read (unread f d e) (meant m a is s t x e2) = absurd (breaks_no_message datagram f m d is s)
one_received datagram gateway h g read (asks_nothing m x is s t e) (unread f d e2) = absurd (breaks_no_message datagram f m d is s)
one_received datagram gateway h g read (meant m a is s t x e) (unread f d e2) = absurd (breaks_no_message datagram f m d is s)
one_received datagram gateway h g read (asks_nothing m x is s t e) (asks_nothing n y is2 s2 t2 e2) =
    e ∙ ap received.Dismissed (some_same x y (sym t ∙ ap dismissed (same_message datagram m n is is2 s s2) ∙ t2)) ∙ sym e2
one_received datagram gateway h g read (asks_nothing m x is s t e) (meant n b is2 s2 t2 y e2) =
    absurd (some_or_none x (sym t ∙ ap dismissed (same_message datagram m n is is2 s s2) ∙ t2))
one_received datagram gateway h g read (meant n b is2 s2 t2 y e2) (asks_nothing m x is s t e) =
    absurd (some_or_none x (sym t ∙ ap dismissed (same_message datagram m n is is2 s s2) ∙ t2))
one_received datagram gateway h g read (meant m a is s t x e) (meant n b is2 s2 t2 y e2) =
    let same = same_message datagram m n is is2 s s2 in
    let answer : a ≡ b = means_once n gateway a b (read n s2) (subst (λ m. Means m gateway a) same x) y in
    e ∙ ap (λ (m : CoapMessage). received_as (exchange_in m) a) same ∙ ap (received_as (exchange_in n)) answer ∙ sym e2
