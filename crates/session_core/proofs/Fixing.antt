-- The sends fix who was notified.
use Rattle.std.proofs.Common.{◌≡◌, ℕ, ◌+◌, ◌-◌, Bool, true, false, cond, List, [], ◌∷◌, ◌++◌, length, take, drop, Some, sym, ap, ◌∙◌, subst, arith, inl, inr, append_assoc}
use Rattle.std.proofs.lemmas.List.{take_at}
use Rattle.dots_host.specs.declared.out.OwnedOut.{OwnedOut}
use Rattle.dots_host.specs.declared.out.OwnedOut.TheVariants as owned
use Rattle.std.specs.Prelude.{codes, ◌*◌}
use Rattle.coap_message.specs.declared.codes.TheConstants.{CONTENT, NOT_FOUND}
use Rattle.coap_message.specs.declared.kind.Kind.TheVariants.{Non}
use Rattle.coap_message.specs.Message.{CoapOption, options_bytes, payload_bytes, spelling}
use Rattle.dots_keys.specs.Replies.{dots_cbor}
use Rattle.coap_observe.specs.Seen.{Lists}
use Rattle.coap_observe.specs.Observed.{ObservedValue}
use Rattle.coap_observe.specs.Observing.{after_notice}
use Rattle.session_core.specs.declared.contact.PeerContact.{PeerContact}
use Rattle.session_core.specs.Contacts.{numbered}
use Rattle.session_core.specs.Notices.{content_notice, gone_notice, observe}
use Rattle.session_core.specs.Notifying.{Bodies, is_gone, notice_bytes, notice, Notifies, Unlike, Apart}

-- to whom a send goes, and the token of a message that isn't confirmable
abbrev peer_of : OwnedOut → ℕ
peer_of (owned.To peer bytes) = peer
peer_of (owned.Conn conn bytes) = 0
peer_of (owned.Close conn) = 0

abbrev first_in : List ℕ → ℕ
first_in [] = 0
first_in (b ∷ bytes) = b

abbrev token_in : List ℕ → List ℕ
token_in bytes = take (first_in bytes - 80) (drop 4 bytes)

abbrev token_of : OwnedOut → List ℕ
token_of (owned.To peer bytes) = token_in bytes
token_of (owned.Conn conn bytes) = []
token_of (owned.Close conn) = []

abbrev first_out : List OwnedOut → OwnedOut
first_out [] = owned.Close 0
first_out (out ∷ outs) = out

abbrev others : List OwnedOut → List OwnedOut
others [] = []
others (out ∷ outs) = outs

-- the token is read off the bytes
behind : (token rest : List ℕ) (n : ℕ) → n ≡ 80 + length token → take (n - 80) (token ++ rest) ≡ token
behind token rest n is = take_at token rest (n - 80) (omega (arith, is))

spelled : (code id : ℕ) (token : List ℕ) (options : List CoapOption) (payload : List ℕ)
    → token_in (spelling (record { kind = Non; code = code; identifier = id; token = token; options = options; payload = payload })) ≡ token
spelled code id token options payload =
    let size = 64 + 16 * 1 + length token in
    ap (take (size - 80)) (append_assoc token (options_bytes 0 options) (payload_bytes payload))
    ∙ behind token (options_bytes 0 options ++ payload_bytes payload) size (omega arith)

gone_token : (id : ℕ) (token : List ℕ) → token_in (gone_notice id token) ≡ token
gone_token id token = spelled NOT_FOUND id token [] (codes "absent")

content_token : (id : ℕ) (token : List ℕ) (number : ℕ) (body : List ℕ) → token_in (content_notice id token number body) ≡ token
content_token id token number body = spelled CONTENT id token (observe number ∷ dots_cbor ∷ []) body

pub token_read : (lists : Lists) (bodies : Bodies) (id : ℕ) (o : ObservedValue) → token_in (notice_bytes lists bodies id o) ≡ o.observer.token
token_read lists bodies id o = by_gone (is_gone lists o)
  where
    by_gone : (b : Bool) → token_in (cond b (gone_notice id o.observer.token) (content_notice id o.observer.token o.number (bodies o.observer))) ≡ o.observer.token
    by_gone true = gone_token id o.observer.token
    by_gone false = content_token id o.observer.token o.number (bodies o.observer)

-- no notification of one that isn't there
none_of : (lists : Lists) (bodies : Bodies) (x : ObservedValue) (id : ℕ) (os : List ObservedValue) (contacts : List PeerContact) (later : List OwnedOut) (new : List ObservedValue) (left : List PeerContact)
    → Unlike x os → Notifies lists bodies os contacts (notice lists bodies id x ∷ later) new left → ⊥
none_of lists bodies x id [] contacts later new left unlike n = let is = ap length n.0 in omega (arith, is)
none_of lists bodies x id (o ∷ os) contacts later new left unlike (inl n) = none_of lists bodies x id os contacts later n.0 left unlike.1 n.2
none_of lists bodies x id (o ∷ os) contacts later new left unlike (inr n) =
    unlike.0 (
      sym (ap (λ outs. peer_of (first_out outs)) n.5),
      sym (token_read lists bodies n.0 o) ∙ sym (ap (λ outs. token_of (first_out outs)) n.5) ∙ token_read lists bodies id x,
    )

one_is : (a b : ℕ) → Some a ≡ Some b → a ≡ b
one_is a b same = cc

pub fixed : (lists : Lists) (bodies : Bodies) (old new other : List ObservedValue) (contacts left last : List PeerContact) (sends : List OwnedOut) → Apart old
    → Notifies lists bodies old contacts sends new left → Notifies lists bodies old contacts sends other last → (new ≡ other) × (left ≡ last)
fixed lists bodies [] new other contacts left last sends apart a b = (a.1 ∙ sym b.1, a.2 ∙ sym b.2)
fixed lists bodies (o ∷ os) new other contacts left last sends apart (inl a) (inl b) =
    let rest = fixed lists bodies os a.0 b.0 contacts left last sends apart.1 a.2 b.2 in
    (a.1 ∙ ap (λ xs. o ∷ xs) rest.0 ∙ sym b.1, rest.1)
fixed lists bodies (o ∷ os) new other contacts left last sends apart (inl a) (inr b) =
    absurd (none_of lists bodies o b.0 os contacts b.1 a.0 left apart.0 (subst (λ outs. Notifies lists bodies os contacts outs a.0 left) b.5 a.2))
fixed lists bodies (o ∷ os) new other contacts left last sends apart (inr a) (inl b) =
    absurd (none_of lists bodies o a.0 os contacts a.1 b.0 last apart.0 (subst (λ outs. Notifies lists bodies os contacts outs b.0 last) a.5 b.2))
fixed lists bodies (o ∷ os) new other contacts left last sends apart (inr a) (inr b) =
    let same : b.1 ≡ a.1 = ap others (sym b.5 ∙ a.5) in
    let id : b.0 ≡ a.0 = one_is b.0 a.0 (sym b.4 ∙ a.4) in
    let rest = fixed lists bodies os a.2 b.2 (numbered o.observer.peer contacts) left last a.1 apart.1 a.7 (subst (λ outs. Notifies lists bodies os (numbered o.observer.peer contacts) outs b.2 last) same b.7) in
    (a.6 ∙ ap (λ xs. after_notice lists a.0 o ++ xs) rest.0 ∙ ap (λ i. after_notice lists i o ++ b.2) (sym id) ∙ sym b.6, rest.1)
