-- Options are read one after the other, up to where they end.
use Rattle.std.proofs.Common.{eqb, false, ◌≡◌, ℕ, ◌-◌, ◌^◌, ◌<◌, ◌≤◌, List, [], ◌∷◌, ◌++◌, length, take, drop, Some, ◌≢◌, refl, sym, ap, subst, ◌∙◌, append_assoc, arith}
use Rattle.std.proofs.lemmas.List.{take_at, drop_at, length-append, append-nil, nil_from_length}
use Rattle.std.proofs.Math.Seq.{take-length}
use Rattle.coap_message.specs.Message.{last_number, CoapOption, AreOptions, option_bytes, options_bytes, payload_bytes}
use Rattle.std.proofs.lemmas.Bool.{ne_eqb}
use Rattle.coap_message.specs.declared.fault.CoapFault.{CoapFault}
use Rattle.coap_message.specs.declared.fault.CoapFault.TheVariants.{EmptyPayload}
use Rattle.coap_message.specs.Breaks.{OptionsBreak, rest_break, option_break}
use Rattle.coap_message.specs.MessageReading.{option_at, options_in, Splits}
use Rattle.coap_message.proofs.Steps.{IsBytes, IsBytes-drop}
use Rattle.coap_message.proofs.OneOption.{option_takes}
use Rattle.coap_message.proofs.OptionList.{options_again}

-- Some options were read, and the rest is still to be read.
pub record SoFar (bytes : List ℕ) (previous : ℕ) (rest : List ℕ) : Type 0 where
  pub options : List CoapOption
  pub are : AreOptions 0 options
  pub last : last_number 0 options ≡ previous
  pub parts : bytes ≡ options_bytes 0 options ++ rest

pub so_far_none : (bytes : List ℕ) → SoFar bytes 0 bytes
so_far_none bytes = record { options = []; are = tt; last = refl; parts = refl }

are_more : (previous : ℕ) (os : List CoapOption) (o : CoapOption) → AreOptions previous os → last_number previous os ≤ o.number → o.number < 2 ^ 16 → length o.value ≤ 65804 → AreOptions previous (os ++ o ∷ [])
are_more previous [] o are rises number size = (rises, number, size, tt)
are_more previous (p ∷ os) o are rises number size = (are.0, are.1, are.2, are_more p.number os o are.3 rises number size)

last_more : (previous : ℕ) (os : List CoapOption) (o : CoapOption) → last_number previous (os ++ o ∷ []) ≡ o.number
last_more previous [] o = refl
last_more previous (p ∷ os) o = last_more p.number os o

bytes_more : (previous : ℕ) (os : List CoapOption) (o : CoapOption) (rest : List ℕ) → options_bytes previous (os ++ o ∷ []) ++ rest ≡ options_bytes previous os ++ (option_bytes (last_number previous os) o ++ rest)
bytes_more previous [] o rest = ap (λ (y : List ℕ). y ++ rest) (append-nil (option_bytes previous o))
bytes_more previous (p ∷ os) o rest =
    append_assoc (option_bytes previous p) (options_bytes p.number (os ++ o ∷ [])) rest
    ∙ ap (λ (y : List ℕ). option_bytes previous p ++ y) (bytes_more p.number os o rest)
    ∙ sym (append_assoc (option_bytes previous p) (options_bytes p.number os) (option_bytes (last_number p.number os) o ++ rest))

so_far_fits : (bytes : List ℕ) (previous : ℕ) (rest : List ℕ) → SoFar bytes previous rest → IsBytes bytes → IsBytes rest
so_far_fits bytes previous rest so fits =
    let n = length (options_bytes 0 so.options) in
    let behind : drop n bytes ≡ rest = ap (drop n) so.parts ∙ drop_at (options_bytes 0 so.options) rest n refl in
    subst (λ (y : List ℕ). IsBytes y) behind (IsBytes-drop n bytes fits)

pub so_far_more : (bytes : List ℕ) (previous : ℕ) (rest : List ℕ) (o : CoapOption) (behind : List ℕ) → SoFar bytes previous rest → IsBytes bytes → option_at previous rest ≡ Some (o, behind) → SoFar bytes o.number behind
so_far_more bytes previous rest o behind so fits e =
    let r = option_takes previous rest o behind (so_far_fits bytes previous rest so fits) e in
    let last = so.last in
    let split : rest ≡ option_bytes (last_number 0 so.options) o ++ behind = r.parts ∙ ap (λ (k : ℕ). option_bytes k o ++ behind) (sym last) in
    record {
      options = so.options ++ o ∷ [];
      are = are_more 0 so.options o so.are (omega (arith, last, r.rises)) r.number r.size;
      last = last_more 0 so.options o;
      parts = so.parts ∙ ap (λ (y : List ℕ). options_bytes 0 so.options ++ y) split ∙ sym (bytes_more 0 so.options o behind);
    }

pub so_far_shorter : (bytes : List ℕ) (previous : ℕ) (rest : List ℕ) → SoFar bytes previous rest → length rest ≤ length bytes
so_far_shorter bytes previous rest so = omega (arith, ap (λ (y : List ℕ). length y) so.parts, length-append (options_bytes 0 so.options) rest)

pub so_far_split : (bytes : List ℕ) (previous : ℕ) (rest payload : List ℕ) → SoFar bytes previous rest → rest ≡ payload_bytes payload → Splits bytes (options_in 0 (take (length bytes - length rest) bytes)) payload
so_far_split bytes previous rest payload so e =
    let size : length (options_bytes 0 so.options) ≡ length bytes - length rest = omega (arith, ap (λ (y : List ℕ). length y) so.parts, length-append (options_bytes 0 so.options) rest) in
    let front : take (length bytes - length rest) bytes ≡ options_bytes 0 so.options = ap (take (length bytes - length rest)) so.parts ∙ take_at (options_bytes 0 so.options) rest (length bytes - length rest) size in
    let same : options_in 0 (take (length bytes - length rest) bytes) ≡ so.options = ap (options_in 0) front ∙ options_again 0 so.options so.are in
    subst (λ (os : List CoapOption). Splits bytes os payload) (sym same) (record { are = so.are; parts = so.parts ∙ ap (λ (y : List ℕ). options_bytes 0 so.options ++ y) e })

pub so_far_end : (bytes : List ℕ) (previous : ℕ) (rest : List ℕ) → SoFar bytes previous rest → length rest ≡ 0 → Splits bytes (options_in 0 bytes) rest
so_far_end bytes previous rest so none =
    let empty : rest ≡ [] = nil_from_length rest none in
    let all : length bytes - length rest ≡ length bytes = omega arith in
    let split = so_far_split bytes previous rest rest so (empty ∙ sym (ap payload_bytes empty)) in
    subst (λ (y : List ℕ). Splits bytes (options_in 0 y) rest) (ap (λ (k : ℕ). take k bytes) all ∙ take-length bytes) split

-- the marker and a payload behind it
pub marker_before : (b : ℕ) (behind : List ℕ) → b ≡ 255 → length behind ≢ 0 → b ∷ behind ≡ payload_bytes behind
marker_before b [] marker more = absurd (more refl)
marker_before b (c ∷ cs) marker more = ap (λ (k : ℕ). k ∷ c ∷ cs) marker

pub so_far_breaks : (end : ℕ) (bytes : List ℕ) (previous : ℕ) (rest : List ℕ) (fault : CoapFault) → SoFar bytes previous rest → rest_break end previous rest ≡ Some fault → OptionsBreak end bytes fault
so_far_breaks end bytes previous rest fault so e =
    record { options = so.options; rest = rest; are = so.are; parts = so.parts; breaks = ap (λ (k : ℕ). rest_break end k rest) so.last ∙ e }

-- the marker and nothing behind it
pub marker_alone : (end previous : ℕ) (rest : List ℕ) (b : ℕ) (behind : List ℕ) → rest ≡ b ∷ behind → b ≡ 255 → length behind ≡ 0 → rest_break end previous rest ≡ Some (EmptyPayload (end - 1))
marker_alone end previous rest b behind is marker none =
    ap (rest_break end previous) (is ∙ ap (λ (k : ℕ). k ∷ behind) marker ∙ ap (λ (y : List ℕ). 255 ∷ y) (nil_from_length behind none)) ∙ refl

-- not the marker
pub no_marker : (end previous : ℕ) (rest : List ℕ) (b : ℕ) (behind : List ℕ) (fault : CoapFault) → rest ≡ b ∷ behind → b ≢ 255 → option_break end previous rest ≡ Some fault → rest_break end previous rest ≡ Some fault
no_marker end previous rest b behind fault is differs e =
    let t : eqb b 255 ≡ false = ne_eqb b 255 differs in
    ap (rest_break end previous) is ∙ rw t (ap (option_break end previous) (sym is) ∙ e)
