-- What a gateway does with a datagram of a client, and with one of its upstream.
use Rattle.std.specs.Prelude.{bytes_eq}
use Rattle.std.specs.Int.{w64, to_be_bytes}
use Rattle.std.proofs.Common.{◌≡◌, ◌⊎◌, inl, inr, ℕ, ℤ, ◌<◌, ◌≤◌, ◌^◌, ◌/◌, ◌%◌, ◌==◌, not, Bool, true, false, cond, List, [], ◌∷◌, length, find, Contains, Option, Some, None, Result, Ok, Err, refl, sym, ap, ◌∙◌, subst, arith}
use Rattle.std.specs.Prelude.{⊤}
use Rattle.std.proofs.lemmas.Bool.{and_parts}
use Rattle.std.proofs.lemmas.Slice.Eq.{bytes_eq-Decides}
use Rattle.coap_message.specs.declared.codes.TheConstants.{CREATED, CHANGED}
use Rattle.coap_message.specs.declared.kind.Kind.{Kind}
use Rattle.coap_message.specs.declared.kind.Kind.TheVariants.{Con, Non, Ack, Rst}
use Rattle.coap_message.specs.Message.{CoapOption, CoapMessage, IsMessage, AreOptions, spelling}
use Rattle.coap_message.specs.Salvage.{salvaged}
use Rattle.coap_message.proofs.Whole.{one_message}
use Rattle.dots_keys.specs.declared.dismissal.Dismissal.{Dismissal}
use Rattle.dots_keys.specs.declared.dismissal.Dismissal.TheVariants as dismissal
use Rattle.dots_keys.specs.Exchanges.{exchange_in, reply_kind, is_request, rejected, dismissed_unread}
use Rattle.dots_keys.specs.Replies.{plain, rejection}
use Rattle.dots_keys.specs.declared.reject.Reject.{Reject}
use Rattle.dots_keys.specs.declared.reject.Reject.TheVariants as reject
use Rattle.dots_keys.specs.RejectText.{reject_code, reject_text}
use Rattle.dots_gateway.specs.declared.exchange.Exchange.{Exchange}
use Rattle.dots_gateway.specs.declared.exchange.Waiting.{Waiting}
use Rattle.dots_gateway.specs.declared.passed.Passed.{Passed}
use Rattle.dots_gateway.specs.declared.passed.Passed.TheVariants as passed
use Rattle.dots_gateway.specs.declared.passed.GatewayFault.TheVariants as fault
use Rattle.dots_gateway.specs.Exchanges.{is_full, exchange_for, id_of, is_from, is_passed}
use Rattle.dots_gateway.specs.Forwarding.{forwarded, answered, without_observe}
use Rattle.dots_gateway.specs.Gateway.{GatewayValue, Said, Ups, of_no_client, unreadable, asking, dismissed_said, refused, refused_option, came_again, passed_by, passed_on, wanted_said, asked_said, Downs, no_message, beating, answering, is_response, answer_to, beat_answer}
use Rattle.dots_gateway.specs.Routes.{domain_for}
use Rattle.dots_gateway.specs.Wanted.{Passage, Wanted, beat, passage, hop_in, wanted_of}
use Rattle.cbor_profile.specs.Spelling.{Spells}
use Rattle.reply_bodies.specs.Mitigations.{granted_tree}
use Rattle.dots_world.specs.Granting.{IsGrant}
use Rattle.dots_world.proofs.Telling.{IsQuiet, quiet, grant_says, may_grant}
use Rattle.dots_world.proofs.Lists.{found_in}
use Rattle.dots_world.proofs.Messages.{IsAnswer}

by_bool : {A : Type 0} (P : A → Type 0) (b : Bool) (x y : A) → (b ≡ true → P x) → (b ≡ false → P y) → P (cond b x y)
by_bool P true x y one other = one refl
by_bool P false x y one other = other refl

abbrev plain_message : ℕ → CoapMessage → List ℕ → CoapMessage
plain_message code m text = record { kind = reply_kind m.kind; code = code; identifier = m.identifier; token = m.token; options = []; payload = text }

-- ---- a client's datagram

-- The bytes are the client's request, under this number and for its domain.
pub record IsPassed (g : GatewayValue) (peer : ℕ) (datagram bytes : List ℕ) (number : ℕ) (message : CoapMessage) : Type 0 where
  pub domain : List ℕ
  pub of : domain_for g.routes g.upstream peer ≡ Some domain
  pub is_message : IsMessage message
  pub spelled : datagram ≡ spelling message
  pub asks : is_request message ≡ true
  pub taken : Passage
  pub wanted : wanted_of message ≡ Ok (passage taken)
  pub written : bytes ≡ spelling (forwarded number domain taken message)

-- the exchange is new
pub record IsFresh (g : GatewayValue) (peer : ℕ) (datagram bytes : List ℕ) (x : Exchange) : Type 0 where
  pub message : CoapMessage
  pub passes : IsPassed g peer datagram bytes g.exchanges.next message
  pub room : is_full g.exchanges ≡ false
  pub is : x ≡ exchange_for g.exchanges peer message

-- it is one that waits, of the same peer, whose request came again
pub record IsAgain (g : GatewayValue) (peer : ℕ) (datagram bytes : List ℕ) : Type 0 where
  pub message : CoapMessage
  pub k : Waiting
  pub passes : IsPassed g peer datagram bytes k.exchange.number message
  pub waits : Contains g.exchanges.waiting k
  pub from : is_from peer message.identifier k ≡ true
  pub came : came_again k.asked k.exchange datagram message ≡ true

module _ (g : GatewayValue) (peer : ℕ) (datagram : List ℕ) where
  abbrev pub UpFine : Said → Type 0
  UpFine (Ok (passed.Forward bytes (Some x))) = IsFresh g peer datagram bytes x
  UpFine (Ok (passed.Forward bytes None)) = IsAgain g peer datagram bytes
  UpFine (Ok (passed.Reply to bytes)) = (to ≡ peer) × IsQuiet bytes
  UpFine _ = ⊤

  dismissed_fine : (d : Dismissal) → UpFine (dismissed_said peer d)
  dismissed_fine (dismissal.Reset id) = (refl, quiet (record { kind = Rst; code = 0; identifier = id; token = []; options = []; payload = [] }) refl)
  dismissed_fine (dismissal.Rejected id) = tt
  dismissed_fine dismissal.Ignored = tt

  option_fine : (kind : Kind) (m : CoapMessage) (number : ℕ) → UpFine (refused_option peer kind (rejection (exchange_in m) (reject.Critical number)))
  option_fine Con m number = (refl, quiet (plain_message 0x82 m (reject_text (reject.Critical number))) refl)
  option_fine Non m number = tt
  option_fine Ack m number = tt
  option_fine Rst m number = tt

  said_fine : (m : CoapMessage) (r : Reject) → may_grant (reject_code r) ≡ false → UpFine (Ok (passed.Reply peer (rejection (exchange_in m) r)))
  said_fine m r none = (refl, quiet (plain_message (reject_code r) m (reject_text r)) none)

  refused_fine : (m : CoapMessage) (r : Reject) → UpFine (refused peer m r)
  refused_fine m (reject.Critical number) = option_fine m.kind m number
  refused_fine m reject.Path = said_fine m reject.Path refl
  refused_fine m reject.Method = said_fine m reject.Method refl
  refused_fine m reject.HopLimit = said_fine m reject.HopLimit refl
  refused_fine m reject.Parameter = said_fine m reject.Parameter refl
  refused_fine m reject.Accept = said_fine m reject.Accept refl
  refused_fine m reject.Format = said_fine m reject.Format refl
  refused_fine m reject.Query = said_fine m reject.Query refl
  refused_fine m (reject.Body cause) = said_fine m (reject.Body cause) refl
  refused_fine m reject.NoMemory = said_fine m reject.NoMemory refl

  module _ (m : CoapMessage) (domain : List ℕ) (of : domain_for g.routes g.upstream peer ≡ Some domain) (is : IsMessage m) (spelled : datagram ≡ spelling m) (asks : is_request m ≡ true) where
    module _ (p : Passage) (wanted : wanted_of m ≡ Ok (passage p)) where
      passes : (number : ℕ) → IsPassed g peer datagram (spelling (forwarded number domain p m)) number m
      passes number = record { domain = domain; of = of; is_message = is; spelled = spelled; asks = asks; taken = p; wanted = wanted; written = refl }

      by_fine : (o : Option Waiting) → find (is_from peer m.identifier) g.exchanges.waiting ≡ o → UpFine (passed_by g.exchanges peer domain datagram m p o)
      by_fine None found =
          by_bool UpFine (is_full g.exchanges) (Err fault.TableFull) (Ok (passed.Forward (spelling (forwarded g.exchanges.next domain p m)) (Some (exchange_for g.exchanges peer m))))
          (λ full. tt) (λ room. record { message = m; passes = passes g.exchanges.next; room = room; is = refl })
      by_fine (Some k) found =
          let there = found_in (is_from peer m.identifier) g.exchanges.waiting k found in
          by_bool UpFine (came_again k.asked k.exchange datagram m) (Ok (passed.Forward (spelling (forwarded k.exchange.number domain p m)) None)) (Ok passed.Nothing)
          (λ came. record { message = m; k = k; passes = passes k.exchange.number; waits = there.0; from = there.1; came = came }) (λ other. tt)

      on_fine : UpFine (passed_on g.exchanges peer domain datagram m p)
      on_fine =
          by_bool UpFine (p.hop == 1) (Ok (passed.Reply peer (plain 0xa8 (exchange_in m) []))) (passed_by g.exchanges peer domain datagram m p (find (is_from peer m.identifier) g.exchanges.waiting))
          (λ last. (refl, quiet (plain_message 0xa8 m []) refl)) (λ more. by_fine (find (is_from peer m.identifier) g.exchanges.waiting) refl)

    -- an answer without a payload grants nothing
    beat_quiet : IsQuiet (plain CHANGED (exchange_in m) [])
    beat_quiet says =
        let right : IsMessage (plain_message CHANGED m []) = record { code = omega arith; identifier = is.identifier; token = is.token; options = tt; empty = λ none. absurd (cc none) } in
        says.filled (ap (λ (n : CoapMessage). n.payload) (one_message says.message (plain_message CHANGED m []) says.is_message right (sym says.spelled)))

    wanted_fine : (w : Result Wanted Reject) → wanted_of m ≡ w → UpFine (wanted_said g.exchanges peer domain datagram m w)
    wanted_fine (Err r) e = refused_fine m r
    wanted_fine (Ok beat) e = (refl, beat_quiet)
    wanted_fine (Ok (passage p)) e = on_fine p e

  asked_fine : (m : CoapMessage) (domain : List ℕ) → domain_for g.routes g.upstream peer ≡ Some domain → IsMessage m → datagram ≡ spelling m
      → UpFine (asked_said g.exchanges peer domain datagram m)
  asked_fine m domain of is spelled =
      by_bool UpFine (is_request m) (wanted_said g.exchanges peer domain datagram m (wanted_of m)) (dismissed_said peer (rejected m.kind m.identifier))
      (λ asks. wanted_fine m domain of is spelled asks (wanted_of m) refl) (λ none. dismissed_fine (rejected m.kind m.identifier))

  pub ups_fine : (said : Said) → Ups g peer datagram said → UpFine said
  ups_fine said (of_no_client none is) = subst UpFine (sym is) tt
  ups_fine said (unreadable domain of none is) = subst UpFine (sym is) (dismissed_fine (dismissed_unread (salvaged datagram)))
  ups_fine said (asking domain m of message spelled is) = subst UpFine (sym is) (asked_fine m domain of message spelled)

-- ---- a datagram of the upstream

-- an answer to what was passed on, and what the client gets of it
pub record IsReturned (g : GatewayValue) (datagram : List ℕ) (to : ℕ) (bytes : List ℕ) : Type 0 where
  pub message : CoapMessage
  pub k : Waiting
  pub waits : Contains g.exchanges.waiting k
  pub is_message : IsMessage message
  pub spelled : datagram ≡ spelling message
  pub token : message.token ≡ to_be_bytes w64 k.exchange.number
  pub peer : to ≡ k.exchange.peer
  pub written : bytes ≡ spelling (answered k.exchange message)

-- what goes to the upstream answers a heartbeat
abbrev pub IsBeaten : GatewayValue → ℕ → List ℕ → Type 0
IsBeaten g to bytes = (to ≡ g.upstream) × IsAnswer bytes

module _ (g : GatewayValue) (datagram : List ℕ) where
  abbrev pub DownFine : Passed → Type 0
  DownFine (passed.Reply to bytes) = IsBeaten g to bytes ⊎ IsReturned g datagram to bytes
  DownFine (passed.Forward bytes fresh) = ⊥
  DownFine _ = ⊤

  asks_nothing : (kind : Kind) (code identifier : ℕ) (token text : List ℕ) → (code == 0) ≡ false → (code / 32 == 0) ≡ false
      → is_request (record { kind = reply_kind kind; code = code; identifier = identifier; token = token; options = []; payload = text }) ≡ false
  asks_nothing Con code identifier token text some class = refl
  asks_nothing Non code identifier token text some class = rw (some, class) refl
  asks_nothing Ack code identifier token text some class = rw (some, class) refl
  asks_nothing Rst code identifier token text some class = rw (some, class) refl

  plain_answer : (m : CoapMessage) (code : ℕ) (text : List ℕ) → IsMessage m → code < 256 → (code ≡ 0 → ⊥) → (code == 0) ≡ false → (code / 32 == 0) ≡ false → IsAnswer (plain code (exchange_in m) text)
  plain_answer m code text is small some not_empty class = record {
    message = plain_message code m text;
    is_message = record { code = small; identifier = is.identifier; token = is.token; options = tt; empty = λ none. absurd (some none) };
    spelled = refl;
    asks = asks_nothing m.kind code m.identifier m.token text not_empty class;
  }

  beaten : (m : CoapMessage) → IsMessage m → IsAnswer (beat_answer m)
  beaten m is =
      by_bool IsAnswer (hop_in m.options == 0) (rejection (exchange_in m) reject.HopLimit) (plain CHANGED (exchange_in m) [])
      (λ spent. plain_answer m 0x80 (reject_text reject.HopLimit) is (omega arith) (λ none. cc none) refl refl)
      (λ more. plain_answer m CHANGED [] is (omega arith) (λ none. cc none) refl refl)

  response_fine : (m : CoapMessage) (o : Option Waiting) → IsMessage m → datagram ≡ spelling m → find (is_passed m.token m.identifier) g.exchanges.waiting ≡ o → DownFine (answer_to o m)
  response_fine m None is spelled found = tt
  response_fine m (Some k) is spelled found =
      let there = found_in (is_passed m.token m.identifier) g.exchanges.waiting k found in
      let both = and_parts (bytes_eq (to_be_bytes w64 k.exchange.number) m.token) (k.exchange.number % 2 ^ 16 == m.identifier) there.1 in
      inr (record {
        message = m;
        k = k;
        waits = there.0;
        is_message = is;
        spelled = spelled;
        token = sym ((bytes_eq-Decides (to_be_bytes w64 k.exchange.number) m.token).0 both.0);
        peer = refl;
        written = refl;
      })

  pub downs_fine : (said : Passed) → Downs g datagram said → DownFine said
  downs_fine said (no_message none is) = subst DownFine (sym is) tt
  downs_fine said (beating m message spelled beats is) = subst DownFine (sym is) (inl (refl, beaten m message))
  downs_fine said (answering m message spelled other is) =
      subst DownFine (sym is)
      (by_bool DownFine (is_response m) (answer_to (find (is_passed m.token m.identifier) g.exchanges.waiting) m) passed.Nothing
      (λ answers. response_fine m (find (is_passed m.token m.identifier) g.exchanges.waiting) message spelled refl) (λ none. tt))

-- ---- a grant that is passed on is one

weaker : (low previous : ℕ) (os : List CoapOption) → low ≤ previous → AreOptions previous os → AreOptions low os
weaker low previous [] le are = tt
weaker low previous (o ∷ os) le are = let first = are.0 in (omega (arith, le, first), are.1, are.2, are.3)

left_options : (previous : ℕ) (os : List CoapOption) → AreOptions previous os → AreOptions previous (without_observe os)
left_options previous [] are = tt
left_options previous (o ∷ os) are = by (o.number == 6) (left_options o.number os are.3)
  where
    by : (b : Bool) → AreOptions o.number (without_observe os) → AreOptions previous (cond (not b) (o ∷ without_observe os) (without_observe os))
    by true rest = weaker previous o.number (without_observe os) are.0 rest
    by false rest = (are.0, are.1, are.2, rest)

-- what an exchange has of the client's request
pub record IsKeyed (x : Exchange) : Type 0 where
  pub id : id_of x.key < 2 ^ 16
  pub token : length x.token ≤ 8

module _ (x : Exchange) (m : CoapMessage) (token : List ℕ) (mid : ℕ) (lifetime : ℤ) (keyed : IsKeyed x) (is : IsMessage m) where
  -- the code of a grant isn't that of an empty message
  answered_message : (m.code ≡ 0 → ⊥) → IsMessage (answered x m)
  answered_message some = record { code = is.code; identifier = keyed.id; token = keyed.token; options = left_options 0 m.options is.options; empty = λ none. absurd (some none) }

  grants_some : IsGrant (spelling (answered x m)) token mid lifetime → m.code ≡ 0 → ⊥
  grants_some g none = quiet (answered x m) (ap may_grant none) (grant_says (spelling (answered x m)) token mid lifetime g)

  pub grant_returned : IsGrant (spelling (answered x m)) token mid lifetime → IsGrant (spelling m) m.token mid lifetime × (x.token ≡ token)
  grant_returned g =
      let same : g.message ≡ answered x m = one_message g.message (answered x m) g.is_message (answered_message (grants_some g)) (sym g.spelled) in (
        record {
          message = m;
          is_message = is;
          spelled = refl;
          token_is = refl;
          grants = record {
            code = subst (λ (n : CoapMessage). (n.code ≡ CREATED) ⊎ (n.code ≡ CHANGED)) same g.grants.code;
            body = subst (λ (n : CoapMessage). Spells n.payload (granted_tree mid lifetime) 0) same g.grants.body;
            lasts = g.grants.lasts;
          };
        },
        sym (ap (λ (n : CoapMessage). n.token) same) ∙ g.token_is,
      )
