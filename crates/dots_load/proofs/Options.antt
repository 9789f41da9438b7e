-- The parts that a request is written from.
use Rattle.std.proofs.Common.{◌≡◌, ◌≢◌, ℕ, suc, ◌+◌, ◌-◌, ◌*◌, ◌<◌, ◌≤◌, List, [], ◌∷◌, ◌++◌, length, map, take, get_or, sum_by, ◌^◌, refl, ap, sym, subst, ◌∙◌, arith, length-append, append_assoc, add-one}
use Rattle.std.specs.Prelude.{codes, decimal, Result, IfOk}
use Rattle.std.proofs.lemmas.Result.{IfOk-weaker}
use Rattle.std.proofs.Math.Seq.{take-suc}
use Rattle.std.proofs.lemmas.List.{map-append, append-nil}
use Rattle.std.proofs.lemmas.Fmt.{length-decimal-le}
use Rattle.coap_message.specs.declared.kind.Kind.TheVariants.{Non}
use Rattle.coap_message.specs.declared.option.OptionRow.{OptionRow}
use Rattle.coap_message.specs.declared.parts.OptionPart.{OptionPart}
use Rattle.coap_message.specs.declared.parts.Parts.{Parts}
use Rattle.coap_message.specs.Message.{CoapOption, CoapMessage, extension, spelling, payload_bytes}
use Rattle.coap_message.specs.Parts.{IsValid, message_of, options_of, parts_of, values_of}
use Rattle.coap_message.specs.Writing.{options_size}
use Rattle.coap_message.specs.CodeValues.{option_value}
use Rattle.coap_message.proofs.PartsOf.{parts_same, parts_are, parts_sum}
use Rattle.coap_message.proofs.Put.{spelling_size}
use Rattle.dots_load.specs.Requests.{AreShort, request, segment, all_path, mid_path, dots_format}

abbrev part : CoapOption → OptionPart
part o = record { number = o.number; length = length o.value }

parts_more : (os ps : List CoapOption) → parts_of (os ++ ps) ≡ parts_of os ++ parts_of ps
parts_more [] ps = refl
parts_more (o ∷ os) ps = ap (λ (rest : List OptionPart). part o ∷ rest) (parts_more os ps)

values_more : (os ps : List CoapOption) → values_of (os ++ ps) ≡ values_of os ++ values_of ps
values_more [] ps = refl
values_more (o ∷ os) ps = ap (λ (rest : List ℕ). o.value ++ rest) (values_more os ps) ∙ sym (append_assoc o.value (values_of os) (values_of ps))

one_more : (rows : List OptionRow) (i : ℕ) (row : OptionRow) → i < length rows → map option_value (take (suc i) rows) ≡ map option_value (take i rows) ++ option_value (get_or rows i row) ∷ []
one_more rows i row within = ap (map option_value) (take-suc rows i row within) ∙ map-append option_value (take i rows) (get_or rows i row ∷ [])

-- one row more
pub parts_step : (rows : List OptionRow) (i : ℕ) (row : OptionRow) (old new : List OptionPart) → old ≡ parts_of (map option_value (take i rows))
    → new ≡ old ++ part (option_value (get_or rows i row)) ∷ [] → i < length rows → new ≡ parts_of (map option_value (take (i + 1) rows))
parts_step rows i row old new is grown within =
    let next : parts_of (map option_value (take (suc i) rows)) ≡ parts_of (map option_value (take i rows)) ++ part (option_value (get_or rows i row)) ∷ []
    = ap parts_of (one_more rows i row within) ∙ parts_more (map option_value (take i rows)) (option_value (get_or rows i row) ∷ []) in
    rw (add-one, next, ← is) grown

pub values_step : (rows : List OptionRow) (i : ℕ) (row : OptionRow) (old new : List ℕ) → old ≡ values_of (map option_value (take i rows))
    → new ≡ old ++ (get_or rows i row).value.now → i < length rows → new ≡ values_of (map option_value (take (i + 1) rows))
values_step rows i row old new is grown within =
    let next : values_of (map option_value (take (suc i) rows)) ≡ values_of (map option_value (take i rows)) ++ ((get_or rows i row).value.now ++ [])
    = ap values_of (one_more rows i row within) ∙ values_more (map option_value (take i rows)) (option_value (get_or rows i row) ∷ []) in
    rw (add-one, next, append-nil (get_or rows i row).value.now, ← is) grown

extension_short : (n : ℕ) → length (extension n) ≤ 2
extension_short n = grind arith

options_short : (previous : ℕ) (os : List CoapOption) → options_size previous (parts_of os) ≤ 5 * length os + length (values_of os)
options_short previous [] = omega arith
options_short previous (o ∷ os) =
    omega (arith, extension_short (o.number - previous), extension_short (length o.value), options_short o.number os, length-append o.value (values_of os))

payload_short : (payload : List ℕ) → length (payload_bytes payload) ≤ 1 + length payload
payload_short [] = omega arith
payload_short (b ∷ bs) = omega arith

-- parts of such options, without a token
pub record AreFrom (parts : Parts) (os : List CoapOption) : Type 0 where
  pub kind : parts.kind ≡ Non
  pub token : parts.token.now ≡ []
  pub options : parts.options.now ≡ parts_of os
  pub values : parts.values.now ≡ values_of os

pub message_is : (parts : Parts) (os : List CoapOption) → AreFrom parts os → message_of parts ≡ request parts.code parts.id os parts.payload.now
message_is parts os from =
    let options : options_of parts.options.now parts.values.now ≡ os = rw (from.options, from.values) (parts_same os) in
    rw (from.kind, from.token, options) refl

pub spelling_short : (parts : Parts) (os : List CoapOption) → AreFrom parts os → AreShort os → length parts.payload.now ≤ 64 → length (spelling (message_of parts)) ≤ 4096
spelling_short parts os from short few =
    let sum : sum_by (λ part. part.length) parts.options.now ≡ length parts.values.now = rw (from.options, from.values) (parts_sum os) in
    let size : options_size 0 parts.options.now ≤ 5 * length os + length (values_of os) = rw from.options (options_short 0 os) in
    let token : length parts.token.now ≡ 0 = ap (λ (l : List ℕ). length l) from.token in
    omega (arith, spelling_size parts sum, size, token, payload_short parts.payload.now, short.size)

pub parts_valid : (parts : Parts) (os : List CoapOption) → AreFrom parts os → AreShort os → length parts.payload.now ≤ 64 → parts.code ≢ 0 → IsValid parts
parts_valid parts os from short few code = record {
  token = rw from.token (omega arith);
  options = rw from.options (parts_are 0 os short.are);
  values = rw (from.options, from.values) (parts_sum os);
  empty = λ none. absurd (code none);
  size = omega (arith, spelling_short parts os from short few);
}

-- what it spells
pub spelled_as : {E : Type 0} (result : Result (List ℕ) E) (parts : Parts) (os : List CoapOption) → AreFrom parts os → IfOk result (λ bytes. bytes ≡ spelling (message_of parts))
    → IfOk result (λ bytes. bytes ≡ spelling (request parts.code parts.id os parts.payload.now))
spelled_as result parts os from = IfOk-weaker result _ _ (λ bytes is. is ∙ ap (λ (m : CoapMessage). spelling m) (message_is parts os from))

pub spelled_short : {E : Type 0} (result : Result (List ℕ) E) (parts : Parts) (os : List CoapOption) → AreFrom parts os → AreShort os → length parts.payload.now ≤ 64
    → IfOk result (λ bytes. bytes ≡ spelling (message_of parts)) → IfOk result (λ bytes. length bytes ≤ 4096)
spelled_short result parts os from short few =
    IfOk-weaker result _ _ (λ bytes is. subst (λ (b : List ℕ). length b ≤ 4096) (sym is) (spelling_short parts os from short few))

pub same_options : {E : Type 0} (result : Result (List ℕ) E) (code id : ℕ) (os others : List CoapOption) (payload : List ℕ) → os ≡ others
    → IfOk result (λ bytes. bytes ≡ spelling (request code id os payload)) → IfOk result (λ bytes. bytes ≡ spelling (request code id others payload))
same_options result code id os others payload same = IfOk-weaker result _ _ (λ bytes is. is ∙ ap (λ (o : List CoapOption). spelling (request code id o payload)) same)

-- ---- paths

pub path_is : (a b c d : CoapOption) (cuid : List ℕ) (peer : ℕ) (rest others : List CoapOption) → a ≡ segment (codes ".well-known") → b ≡ segment (codes "dots")
    → c ≡ segment (codes "mitigate") → d ≡ segment cuid → cuid ≡ codes "cuid=c" ++ decimal peer → rest ≡ others → a ∷ b ∷ c ∷ d ∷ rest ≡ all_path peer ++ others
path_is a b c d cuid peer rest others well dots mitigate fourth is behind =
    let last : d ≡ segment (codes "cuid=c" ++ decimal peer) = fourth ∙ ap (λ (value : List ℕ). segment value) is in
    ap (λ (o : CoapOption). o ∷ b ∷ c ∷ d ∷ rest) well ∙ ap (λ (o : CoapOption). segment (codes ".well-known") ∷ o ∷ c ∷ d ∷ rest) dots
    ∙ ap (λ (o : CoapOption). segment (codes ".well-known") ∷ segment (codes "dots") ∷ o ∷ d ∷ rest) mitigate
    ∙ ap (λ (o : CoapOption). segment (codes ".well-known") ∷ segment (codes "dots") ∷ segment (codes "mitigate") ∷ o ∷ rest) last
    ∙ ap (λ (os : List CoapOption). all_path peer ++ os) behind

pub mid_is : (o : CoapOption) (text : List ℕ) (mid : ℕ) (rest : List CoapOption) → o ≡ segment text → text ≡ codes "mid=" ++ decimal mid → o ∷ rest ≡ segment (codes "mid=" ++ decimal mid) ∷ rest
mid_is o text mid rest fifth is = ap (λ (x : CoapOption). x ∷ rest) (fifth ∙ ap (λ (value : List ℕ). segment value) is)

-- the options of the three requests are short
digits : (n : ℕ) → n < 2 ^ 32 → length (decimal n) ≤ 10
digits n small = length-decimal-le 10 n (omega arith) (omega arith) (omega arith)

pub get_short : (peer : ℕ) → peer < 2 ^ 32 → AreShort (all_path peer)
get_short peer small =
    let p = digits peer small in
    record {
      are = (omega arith, omega arith, omega arith, (omega arith, omega arith, omega arith, (omega arith, omega arith, omega arith, (omega arith, omega arith, omega (arith, p), tt))));
      size = simp length-append (omega (arith, p));
    }

pub delete_short : (peer mid : ℕ) → peer < 2 ^ 32 → mid < 2 ^ 32 → AreShort (mid_path peer mid)
delete_short peer mid small few =
    let p = digits peer small in
    let m = digits mid few in
    record {
      are = (omega arith, omega arith, omega arith, (omega arith, omega arith, omega arith, (omega arith, omega arith, omega arith, (omega arith, omega arith, omega (arith, p), (omega arith, omega arith, omega (arith, m), tt)))));
      size = simp length-append (omega (arith, p, m));
    }

pub put_short : (peer mid : ℕ) → peer < 2 ^ 32 → mid < 2 ^ 32 → AreShort (mid_path peer mid ++ dots_format ∷ [])
put_short peer mid small few =
    let p = digits peer small in
    let m = digits mid few in
    record {
      are = (omega arith, omega arith, omega arith, (omega arith, omega arith, omega arith, (omega arith, omega arith, omega arith, (omega arith, omega arith, omega (arith, p), (omega arith, omega arith, omega (arith, m), (omega arith, omega arith, omega arith, tt))))));
      size = simp length-append (omega (arith, p, m));
    }
