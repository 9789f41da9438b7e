-- Whether bytes spell a message is decided by the bytes. So what becomes of one that is no GET is known without reading it.
use Rattle.std.proofs.Common.{inl, inr, ◌⊎◌, ◌≡◌, ◌≢◌, ℕ, zero, suc, ◌≤◌, List, [], ◌∷◌, ◌++◌, length, slice_index, Option, Some, None, refl, sym, ap, subst, ◌∙◌, append_assoc, arith, ne_eqb, false, unwrap_or}
use Rattle.std.proofs.lemmas.Bool.{cases_eq}
use Rattle.coap_message.specs.Message.{CoapOption, CoapMessage, AreOptions, IsMessage, option_bytes, options_bytes, payload_bytes, spelling}
use Rattle.coap_message.specs.MessageReading.{Head, head_at, option_at}
use Rattle.coap_message.proofs.Steps.{IsBytes}
use Rattle.coap_message.proofs.OneOption.{option_takes, option_again}
use Rattle.coap_message.proofs.OptionList.{option_shorter, none_at, payload_none}
use Rattle.coap_message.proofs.Heads.{head_takes}
use Rattle.coap_message.proofs.Whole.{with_rest, whole_found, whole_missing, whole_splits}
use Rattle.coap_block.specs.Blocks.{is_get, IsNoMessage, Sees}

-- the bytes behind an option with the number `previous` are these options and this payload
abbrev AreParts : ℕ → List ℕ → List CoapOption → List ℕ → Type 0
AreParts previous bytes options payload = AreOptions previous options × (bytes ≡ options_bytes previous options ++ payload_bytes payload)

abbrev IsSplit : ℕ → List ℕ → Type 0
IsSplit previous bytes = (options : List CoapOption) × (payload : List ℕ) × AreParts previous bytes options payload

abbrev IsUnsplit : ℕ → List ℕ → Type 0
IsUnsplit previous bytes = (options : List CoapOption) (payload : List ℕ) → AreParts previous bytes options payload → ⊥

cases_option : {A : Type 0} (x : Option A) → (x ≡ None) ⊎ ((y : A) × (x ≡ Some y))
cases_option None = inl refl
cases_option (Some y) = inr (y, refl)

some_once : {A : Type 0} (x y : A) → Some x ≡ Some y → x ≡ y
some_once {A = A} x y e = ap (λ (o : Option A). unwrap_or o x) e

-- options that stand in front are read
front_reads : (previous : ℕ) (bytes : List ℕ) (o : CoapOption) (os : List CoapOption) (payload : List ℕ) → AreParts previous bytes (o ∷ os) payload
    → option_at previous bytes ≡ Some (o, options_bytes o.number os ++ payload_bytes payload)
front_reads previous bytes o os payload parts =
    let tail : List ℕ = options_bytes o.number os ++ payload_bytes payload in
    ap (option_at previous) (parts.1 ∙ append_assoc (option_bytes previous o) (options_bytes o.number os) (payload_bytes payload))
    ∙ option_again previous o tail parts.0.0 parts.0.1 parts.0.2

-- Where no option stands in front, the bytes are a payload with its marker, nothing, or no parts.
unsplit_unless : (previous : ℕ) (bytes : List ℕ) → option_at previous bytes ≡ None → ((payload : List ℕ) → bytes ≡ payload_bytes payload → ⊥) → IsUnsplit previous bytes
unsplit_unless previous bytes none other [] payload parts = other payload parts.1
unsplit_unless previous bytes none other (o ∷ os) payload parts = let reads = front_reads previous bytes o os payload parts in cc (sym none ∙ reads)

no_single : (b : ℕ) (payload : List ℕ) → b ∷ [] ≡ payload_bytes payload → ⊥
no_single b [] e = cc e
no_single b (p ∷ ps) e = cc e

no_marker : (b c : ℕ) (cs payload : List ℕ) → b ≢ 255 → b ∷ c ∷ cs ≡ payload_bytes payload → ⊥
no_marker b c cs [] other e = cc e
no_marker b c cs (p ∷ ps) other e = other (cc e)

at_end : (previous : ℕ) (bytes : List ℕ) → option_at previous bytes ≡ None → IsSplit previous bytes ⊎ IsUnsplit previous bytes
at_end previous [] none = inl ([], [], (tt, refl))
at_end previous (b ∷ []) none = inr (unsplit_unless previous (b ∷ []) none (no_single b))
at_end previous (b ∷ c ∷ cs) none =
    elim (cases_eq b 255) [
      | inl marker ↦ inl ([], c ∷ cs, (tt, ap (λ (first : ℕ). first ∷ c ∷ cs) marker))
      | inr other ↦ inr (unsplit_unless previous (b ∷ c ∷ cs) none (λ payload e. no_marker b c cs payload other e))
    ]

-- what stands behind an option decides
still_unsplit : (previous : ℕ) (bytes : List ℕ) (o : CoapOption) (behind : List ℕ) → option_at previous bytes ≡ Some (o, behind) → IsUnsplit o.number behind → IsUnsplit previous bytes
still_unsplit previous bytes o behind e none [] payload parts =
    let ends = ap (option_at previous) parts.1 ∙ payload_none previous payload in cc (sym e ∙ ends)
still_unsplit previous bytes o behind e none (p ∷ ps) payload parts =
    let reads = sym e ∙ front_reads previous bytes p ps payload parts in
    let both = some_once (o, behind) (p, options_bytes p.number ps ++ payload_bytes payload) reads in
    let same : o ≡ p = ap (λ (x : CoapOption × List ℕ). x.0) both in
    let rest : behind ≡ options_bytes p.number ps ++ payload_bytes payload = ap (λ (x : CoapOption × List ℕ). x.1) both in
    none ps payload (
      subst (λ (x : CoapOption). AreOptions x.number ps) (sym same) parts.0.3,
      subst (λ (x : CoapOption). behind ≡ options_bytes x.number ps ++ payload_bytes payload) (sym same) rest,
    )

one_more : (previous : ℕ) (bytes : List ℕ) (o : CoapOption) (behind : List ℕ) → IsBytes bytes → option_at previous bytes ≡ Some (o, behind)
    → IsSplit o.number behind ⊎ IsUnsplit o.number behind → IsSplit previous bytes ⊎ IsUnsplit previous bytes
one_more previous bytes o behind fits e decided =
    let read = option_takes previous bytes o behind fits e in
    elim decided [
      | inl found ↦
          let (os, payload, parts) = found in
          inl (
            o ∷ os,
            payload,
            (
              (read.rises, read.number, read.size, parts.0),
              read.parts ∙ ap (λ (rest : List ℕ). option_bytes previous o ++ rest) parts.1
                  ∙ sym (append_assoc (option_bytes previous o) (options_bytes o.number os) (payload_bytes payload)),
            ),
          )
      | inr none ↦ inr (still_unsplit previous bytes o behind e none)
    ]

split_or_not : (n previous : ℕ) (bytes : List ℕ) → length bytes ≤ n → IsBytes bytes → IsSplit previous bytes ⊎ IsUnsplit previous bytes
split_or_not n previous [] few fits = at_end previous [] (none_at previous)
split_or_not zero previous (b ∷ bs) few fits = absurd (omega arith)
split_or_not (suc n) previous (b ∷ bs) few fits =
    elim (cases_option (option_at previous (b ∷ bs))) [
      | inl none ↦ at_end previous (b ∷ bs) none
      | inr some ↦
          let read = option_takes previous (b ∷ bs) some.0.0 some.0.1 fits some.1 in
          let shorter = option_shorter previous (b ∷ bs) some.0 some.1 in
          one_more previous (b ∷ bs) some.0.0 some.0.1 fits some.1 (split_or_not n some.0.0.number some.0.1 (omega (arith, shorter, few)) read.rest_fits)
    ]

message_or_not : (bytes : List ℕ) → IsBytes bytes → ((m : CoapMessage) × IsMessage m × (bytes ≡ spelling m)) ⊎ IsNoMessage bytes
message_or_not bytes fits =
    elim (cases_option (head_at bytes)) [
      | inl none ↦ inr (λ m is spelled. whole_missing bytes m none is spelled)
      | inr some ↦
          let head : Head = some.0.0 in
          let rest : List ℕ = some.0.1 in
          let read = head_takes bytes head rest fits some.1 in
          elim (split_or_not (length rest) 0 rest (omega arith) read.rest_fits) [
            | inl found ↦
                let (os, payload, parts) = found in
                let whole = whole_found bytes head rest os payload fits some.1 (record { are = parts.0; parts = parts.1 }) in
                inl (with_rest head os payload, whole.0, whole.1)
            | inr none ↦ inr (λ m is spelled. let split = whole_splits bytes head rest m some.1 is spelled in none m.options m.payload (split.1.are, split.1.parts))
          ]
    ]

-- What is no GET is seen as it is, and no reply to it is awaited.
pub sees_other : (peer : ℕ) (bytes : List ℕ) → IsBytes bytes → slice_index bytes 1 ≢ 1 → Sees peer bytes bytes None
sees_other peer bytes fits other =
    elim (message_or_not bytes fits) [
      | inl found ↦
          let (m, is, spells) = found in
          let code : slice_index bytes 1 ≡ m.code = ap (λ (text : List ℕ). slice_index text 1) spells in
          let get : is_get m ≡ false = ne_eqb m.code 1 (λ e. other (code ∙ e)) in
          inl (record { message = m; is = is; spells = spells; seen_as = rw get spells; awaits = rw get refl })
      | inr none ↦ inr (none, refl, refl)
    ]
