-- Options that are written, one more behind the others.
use Rattle.std.proofs.Common.{◌≡◌, ℕ, suc, ◌*◌, ◌-◌, ◌<◌, ◌≤◌, List, [], ◌∷◌, ◌++◌, length, length-append, take, drop, length-drop, refl, ap, ◌∙◌, arith}
use Rattle.std.specs.Prelude.{sum_by, nat_lt}
use Rattle.std.specs.List.{AllByRecursion}
use Rattle.std.proofs.lemmas.Bool.{cond_both}
use Rattle.std.proofs.lemmas.List.{take-append-le, drop-append-le, take_all}
use Rattle.std.proofs.lemmas.List.Sums.{sum_by_push, sum_by-cons}
use Rattle.coap_message.specs.declared.parts.OptionPart.{OptionPart}
use Rattle.coap_message.specs.declared.parts.Parts.{Parts}
use Rattle.coap_message.specs.Message.{CoapOption, extension, last_number, payload_bytes}
use Rattle.coap_message.specs.Parts.{AreParts, IsValid, options_of}
use Rattle.coap_message.specs.Writing.{options_size}
use Rattle.coap_message.proofs.Put.{spelling_size}
use Rattle.dots_client.specs.Options.{AreWritten}

abbrev size_of : OptionPart → ℕ
size_of part = part.length

abbrev option_with : ℕ → List ℕ → CoapOption
option_with number value = record { number = number; value = value }

abbrev IsShort : OptionPart → Type 0
IsShort part = part.length ≤ 255

-- ---- one more

parts_then : (previous : ℕ) (parts : List OptionPart) (values : List ℕ) (part : OptionPart) → AreParts previous parts → last_number previous (options_of parts values) ≤ part.number
    → part.length ≤ 65804 → AreParts previous (parts ++ part ∷ [])
parts_then previous [] values part are order short = (order, short, tt)
parts_then previous (p ∷ parts) values part are order short = (are.0, are.1, parts_then p.number parts (drop p.length values) part are.2 order short)

short_then : (parts : List OptionPart) (part : OptionPart) → AllByRecursion IsShort parts → IsShort part → AllByRecursion IsShort (parts ++ part ∷ [])
short_then [] part all short = (short, tt)
short_then (p ∷ parts) part all short = (all.0, short_then parts part all.1 short)

count_is : (parts : List OptionPart) (values : List ℕ) → length (options_of parts values) ≡ length parts
count_is [] values = refl
count_is (p ∷ parts) values = ap suc (count_is parts (drop p.length values))

pub options_then : (parts : List OptionPart) (values value : List ℕ) (part : OptionPart) → sum_by size_of parts ≡ length values → part.length ≡ length value
    → options_of (parts ++ part ∷ []) (values ++ value) ≡ options_of parts values ++ record { number = part.number; value = value } ∷ []
options_then [] [] value part sum len =
    ap (λ (v : List ℕ). option_with (part.number) (v) ∷ []) (take_all part.length value (omega (arith, len)))
options_then [] (v ∷ values) value part sum len = absurd (omega (arith, sum))
options_then (p ∷ parts) values value part sum len =
    let split = sum_by-cons size_of p parts in
    let within : p.length ≤ length values = omega (arith, sum, split) in
    let left = length-drop p.length values in
    let rest : sum_by size_of parts ≡ length (drop p.length values) = omega (arith, sum, left, split) in
    ap (λ (v : List ℕ). option_with (p.number) (v) ∷ options_of (parts ++ part ∷ []) (drop p.length (values ++ value))) (take-append-le p.length values value within)
    ∙ ap (λ (vs : List ℕ). option_with (p.number) (take p.length values) ∷ options_of (parts ++ part ∷ []) vs) (drop-append-le p.length values value within)
    ∙ ap (λ (os : List CoapOption). option_with (p.number) (take p.length values) ∷ os) (options_then parts (drop p.length values) value part rest len)

pub written_then : (parts : List OptionPart) (values value : List ℕ) (part : OptionPart) → AreWritten parts values → last_number 0 (options_of parts values) ≤ part.number
    → part.length ≤ 255 → part.length ≡ length value → length (options_of parts values) < 16 → AreWritten (parts ++ part ∷ []) (values ++ value)
written_then parts values value part are order short len few =
    let count = count_is parts values in
    let sum = sum_by_push size_of parts part in
    let both = length-append values value in
    let all = length-append parts (part ∷ []) in
    record {
      options = parts_then 0 parts values part are.options order (omega (arith, short));
      sizes = omega (arith, sum, both, len, are.sizes);
      short = short_then parts part are.short short;
      few = omega (arith, count, few, all);
    }

-- ---- their size

extension_length : (n : ℕ) → length (extension n) ≤ 2
extension_length n =
    cond_both (nat_lt n 13) [] _ (λ (xs : List ℕ). length xs ≤ 2) (λ is. omega arith)
    (λ not. cond_both (nat_lt n 269) _ _ (λ (xs : List ℕ). length xs ≤ 2) (λ is. omega arith) (λ not. omega arith))

size_bound : (previous : ℕ) (parts : List OptionPart) → AllByRecursion IsShort parts → options_size previous parts ≤ 260 * length parts
size_bound previous [] all = omega arith
size_bound previous (p ∷ parts) all =
    let rest = size_bound p.number parts all.1 in
    let first = extension_length (p.number - previous) in
    let second = extension_length p.length in
    omega (arith, rest, first, second, all.0)

pub is_valid : (parts : Parts) → AreWritten parts.options.now parts.values.now → length parts.token.now ≤ 8 → ¬ (parts.code ≡ 0) → parts.payload.now ≡ [] → IsValid parts
is_valid parts are token code none =
    let size = spelling_size parts are.sizes in
    let bound = size_bound 0 parts.options.now are.short in
    let empty = ap (λ (p : List ℕ). length (payload_bytes p)) none in
    record {
      token = token;
      options = are.options;
      values = are.sizes;
      empty = λ zero. absurd (code zero);
      size = omega (arith, size, bound, empty, token, are.few);
    }
