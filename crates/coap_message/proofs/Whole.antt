-- A message that is read is the one that was written, and no other is.
use Rattle.std.proofs.Common.{◌≡◌, ℕ, List, [], ◌∷◌, ◌++◌, Some, None, refl, sym, ap, ◌∙◌, append_assoc}
use Rattle.coap_message.specs.Message.{last_number, CoapOption, CoapMessage, IsMessage, header, options_bytes, payload_bytes, spelling}
use Rattle.coap_message.specs.MessageReading.{Head, head_at, Splits}
use Rattle.coap_message.proofs.Steps.{IsBytes, some_is}
use Rattle.coap_message.proofs.Heads.{head_takes, head_again}
use Rattle.coap_message.proofs.OptionList.{one_ending, payload_none}

abbrev pub with_rest : Head → List CoapOption → List ℕ → CoapMessage
with_rest head options payload = record { kind = head.kind; code = head.code; identifier = head.identifier; token = head.token; options = options; payload = payload }

abbrev pub head_of : CoapMessage → Head
head_of m = record { kind = m.kind; code = m.code; identifier = m.identifier; token = m.token }

-- where nothing stands there is no option and no payload
nothing : (options : List CoapOption) (payload : List ℕ) → [] ≡ options_bytes 0 options ++ payload_bytes payload → (options ≡ []) × (payload ≡ [])
nothing [] [] e = (refl, refl)
nothing [] (b ∷ payload) e = absurd cc
nothing (o ∷ options) payload e = absurd cc

pub whole_found : (bytes : List ℕ) (head : Head) (rest : List ℕ) (options : List CoapOption) (payload : List ℕ) → IsBytes bytes → head_at bytes ≡ Some (head, rest) → Splits rest options payload
    → IsMessage (with_rest head options payload) × (bytes ≡ spelling (with_rest head options payload))
whole_found bytes head rest options payload fits e split =
    let h = head_takes bytes head rest fits e in (
      record {
        code = h.code;
        identifier = h.identifier;
        token = h.token;
        options = split.are;
        empty = λ zero_code. let none = h.empty zero_code in let more = nothing options payload (sym none.1 ∙ split.parts) in (none.0, more.0, more.1);
      },
      h.parts ∙ ap (λ (y : List ℕ). header head.kind head.code head.identifier head.token ++ y) split.parts ∙ sym (append_assoc (header head.kind head.code head.identifier head.token) (options_bytes 0 options) (payload_bytes payload)),
    )

-- a spelling is read again
pub whole_head : (m : CoapMessage) → IsMessage m → head_at (spelling m) ≡ Some (head_of m, options_bytes 0 m.options ++ payload_bytes m.payload)
whole_head m is =
    ap head_at (append_assoc (header m.kind m.code m.identifier m.token) (options_bytes 0 m.options) (payload_bytes m.payload))
    ∙ head_again m.kind m.code m.identifier m.token (options_bytes 0 m.options ++ payload_bytes m.payload) is.identifier is.token
    (λ zero_code. let none = is.empty zero_code in (none.0, rw (none.1, none.2) refl))

pub whole_missing : (bytes : List ℕ) (m : CoapMessage) → head_at bytes ≡ None → IsMessage m → bytes ≡ spelling m → ⊥
whole_missing bytes m e is spelled = let read = whole_head m is in let same = ap head_at spelled in cc

pub whole_splits : (bytes : List ℕ) (head : Head) (rest : List ℕ) (m : CoapMessage) → head_at bytes ≡ Some (head, rest) → IsMessage m → bytes ≡ spelling m → (head ≡ head_of m) × Splits rest m.options m.payload
whole_splits bytes head rest m e is spelled =
    let both : (head, rest) ≡ (head_of m, options_bytes 0 m.options ++ payload_bytes m.payload) = some_is _ _ (sym e ∙ ap head_at spelled ∙ whole_head m is) in
    (ap (λ (x : Head × List ℕ). x.0) both, record { are = is.options; parts = ap (λ (x : Head × List ℕ). x.1) both })

payload_of : List ℕ → List ℕ
payload_of [] = []
payload_of (b ∷ bs) = bs

one_payload : (a b : List ℕ) → payload_bytes a ≡ payload_bytes b → a ≡ b
one_payload [] [] e = refl
one_payload [] (b ∷ bs) e = absurd cc
one_payload (a ∷ rest) [] e = absurd cc
one_payload (a ∷ rest) (b ∷ bs) e = cc

pub one_split : (bytes : List ℕ) (os others : List CoapOption) (payload other : List ℕ) → Splits bytes os payload → Splits bytes others other → (os ≡ others) × (payload ≡ other)
one_split bytes os others payload other a b =
    let ends = one_ending 0 os others (payload_bytes payload) (payload_bytes other) a.are b.are (payload_none (last_number 0 os) payload) (payload_none (last_number 0 others) other) (sym a.parts ∙ b.parts) in
    (ends.0, one_payload payload other ends.1)

-- no bytes spell two messages
pub one_message : (m n : CoapMessage) → IsMessage m → IsMessage n → spelling m ≡ spelling n → m ≡ n
one_message m n is are e =
    let left = whole_splits (spelling m) (head_of m) (options_bytes 0 m.options ++ payload_bytes m.payload) m (whole_head m is) is refl in
    let right = whole_splits (spelling m) (head_of m) (options_bytes 0 m.options ++ payload_bytes m.payload) n (whole_head m is) are e in
    let split = one_split (options_bytes 0 m.options ++ payload_bytes m.payload) m.options n.options m.payload n.payload left.1 right.1 in
    ap (λ (h : Head). with_rest h m.options m.payload) right.0
    ∙ ap (λ (os : List CoapOption). with_rest (head_of n) os m.payload) split.0
    ∙ ap (λ (p : List ℕ). with_rest (head_of n) n.options p) split.1
