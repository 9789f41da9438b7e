-- Parts and the options that they stand for.
use Rattle.std.proofs.Common.{◌≡◌, ℕ, ◌<◌, ◌^◌, List, [], ◌∷◌, ◌++◌, length, drop, refl, ap, ◌∙◌, arith}
use Rattle.std.specs.Prelude.{sum_by}
use Rattle.std.specs.List.{AllByRecursion}
use Rattle.std.proofs.lemmas.List.{length-append, length-take, take_at, drop_at}
use Rattle.std.proofs.lemmas.List.Sums.{sum_by-cons}
use Rattle.coap_message.specs.declared.parts.OptionPart.{OptionPart}
use Rattle.coap_message.specs.declared.parts.Parts.{Parts}
use Rattle.coap_message.specs.Message.{CoapOption, AreOptions, IsMessage}
use Rattle.coap_message.specs.Parts.{AreParts, IsValid, InRange, message_of, options_of, parts_of, values_of}

parts_options : (previous : ℕ) (parts : List OptionPart) (values : List ℕ) → AreParts previous parts → AllByRecursion (λ part. part.number < 2 ^ 16) parts → AreOptions previous (options_of parts values)
parts_options previous [] values are numbers = tt
parts_options previous (part ∷ parts) values are numbers =
    (are.0, numbers.0, omega (arith, are.1, length-take part.length values), parts_options part.number parts (drop part.length values) are.2 numbers.1)

no_options : (parts : List OptionPart) (values : List ℕ) → parts ≡ [] → options_of parts values ≡ []
no_options [] values e = refl
no_options (part ∷ parts) values e = absurd cc

pub parts_message : (parts : Parts) → IsValid parts → InRange parts → IsMessage (message_of parts)
parts_message parts valid ranges = record {
  code = ranges.code;
  identifier = ranges.id;
  token = valid.token;
  options = parts_options 0 parts.options.now parts.values.now valid.options ranges.numbers;
  empty = λ none. let nothing = valid.empty none in (nothing.0, no_options parts.options.now parts.values.now nothing.1, nothing.2);
}

abbrev part : CoapOption → OptionPart
part o = record { number = o.number; length = length o.value }

abbrev option : ℕ → List ℕ → CoapOption
option number value = record { number = number; value = value }

pub parts_same : (os : List CoapOption) → options_of (parts_of os) (values_of os) ≡ os
parts_same [] = refl
parts_same (o ∷ os) =
    ap (λ (y : List ℕ). option o.number y ∷ options_of (parts_of os) (drop (length o.value) (o.value ++ values_of os))) (take_at o.value (values_of os) (length o.value) refl)
    ∙ ap (λ (y : List ℕ). o ∷ options_of (parts_of os) y) (drop_at o.value (values_of os) (length o.value) refl)
    ∙ ap (λ (rest : List CoapOption). o ∷ rest) (parts_same os)

pub parts_are : (previous : ℕ) (os : List CoapOption) → AreOptions previous os → AreParts previous (parts_of os)
parts_are previous [] are = tt
parts_are previous (o ∷ os) are = (are.0, are.2, parts_are o.number os are.3)

pub parts_sum : (os : List CoapOption) → sum_by (λ part. part.length) (parts_of os) ≡ length (values_of os)
parts_sum [] = refl
parts_sum (o ∷ os) =
    sum_by-cons (λ part. part.length) (part o) (parts_of os) ∙ omega (arith, parts_sum os, length-append o.value (values_of os))
