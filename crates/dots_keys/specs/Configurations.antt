-- The body of a configuration (RFC 9132, section 4.5.2): {30: {32: values, 44: values}}.
use Rattle.std.specs.Prelude.{ℕ, ◌*◌, ◌^◌, Bool, ◌&&◌, ◌==◌, nat_lt, if◌then◌else◌, is_none, Option, Some, None, ok_or, Result, Ok, Err}
use Rattle.cbor_profile.specs.Tree.{Tree, unsigned, negative, tag, Trees, no_items, item}
use Rattle.cbor_profile.specs.Kind.{number_in, items_in}
use Rattle.dots_keys.specs.declared.reject.Reject.{Reject}
use Rattle.dots_keys.specs.declared.request.ConfigBody.{ConfigBody}
use Rattle.dots_keys.specs.declared.request.Offer.{Offer}
use Rattle.dots_keys.specs.declared.offer.OfferKey.{OfferKey}
use Rattle.dots_keys.specs.declared.offer.OfferKey.TheVariants as offer_key
use Rattle.dots_keys.specs.declared.configuration.ConfigKey.{ConfigKey}
use Rattle.dots_keys.specs.declared.configuration.ConfigKey.TheVariants as config_key
use Rattle.dots_keys.specs.Fields.{fields_of, each_field, sole_field}
use Rattle.dots_keys.specs.Results.{◌>>=◌, invalid, missing}

-- ---- values: {36: n}, or {43: a decimal}

abbrev pub current_value : Tree → Result ℕ Reject
current_value tree = ok_or (number_in tree) (invalid 36)

-- A decimal fraction is a tag 4 before an exponent and a mantissa (RFC 8949, section 3.4.4). The exponent is -2, -1 or 0, and the
-- mantissa unsigned. What it is worth in hundredths is below 2^64.
abbrev pub hundredths_of_one : Tree → Option ℕ
hundredths_of_one (negative n) = if n == 1 then Some 1 else if n == 0 then Some 10 else None
hundredths_of_one (unsigned n) = if n == 0 then Some 100 else None
hundredths_of_one _ = None

abbrev pub below_2_64 : ℕ → Option ℕ
below_2_64 n = if nat_lt n (2 ^ 64) then Some n else None

abbrev pub product_of : Option ℕ → Option ℕ → Option ℕ
product_of (Some unit) (Some mantissa) = below_2_64 (mantissa * unit)
product_of _ _ = None

abbrev pub fraction_in : Option Trees → Option ℕ
fraction_in (Some (item exponent (item mantissa no_items))) = product_of (hundredths_of_one exponent) (number_in mantissa)
fraction_in _ = None

abbrev pub decimal_in : Tree → Option ℕ
decimal_in (tag n inner) = if n == 4 then fraction_in (items_in inner) else None
decimal_in _ = None

abbrev pub current_decimal : Tree → Result ℕ Reject
current_decimal tree = ok_or (decimal_in tree) (invalid 43)

abbrev pub number_under : ℕ → Tree → Result ℕ Reject
number_under key tree = sole_field key 36 current_value tree

abbrev pub decimal_under : ℕ → Tree → Result ℕ Reject
decimal_under key tree = sole_field key 43 current_decimal tree

-- ---- the values for one state: heartbeat-interval 33, missing-hb-allowed 37, max-retransmit 38, ack-timeout 39,
-- ack-random-factor 40, probing-rate 50

abbrev pub offer_key_of : ℕ → Option OfferKey
offer_key_of n =
    if n == 33 then Some offer_key.Interval
    else if n == 37 then Some offer_key.Missing
    else if n == 38 then Some offer_key.Retransmit
    else if n == 39 then Some offer_key.Timeout
    else if n == 40 then Some offer_key.Factor
    else if n == 50 then Some offer_key.Rate
    else None

abbrev pub take_value : Option OfferKey → Offer → ℕ → Tree → Result Offer Reject
take_value (Some offer_key.Interval) said n tree = number_under 33 tree >>= λ value. Ok (record said { interval = Some value })
take_value (Some offer_key.Missing) said n tree = number_under 37 tree >>= λ value. Ok (record said { missing = Some value })
take_value (Some offer_key.Retransmit) said n tree = number_under 38 tree >>= λ value. Ok (record said { retransmit = Some value })
take_value (Some offer_key.Timeout) said n tree = decimal_under 39 tree >>= λ value. Ok (record said { timeout = Some value })
take_value (Some offer_key.Factor) said n tree = decimal_under 40 tree >>= λ value. Ok (record said { factor = Some value })
take_value (Some offer_key.Rate) said n tree = number_under 50 tree >>= λ value. Ok (record said { rate = Some value })
take_value None said n tree = Err (invalid n)

abbrev pub offer_field : Offer → ℕ → Tree → Result Offer Reject
offer_field said n tree = take_value (offer_key_of n) said n tree

abbrev pub no_offer : Offer
no_offer = record { interval = None; missing = None; retransmit = None; timeout = None; factor = None; rate = None }

abbrev pub offers_nothing : Offer → Bool
offers_nothing offer =
    is_none offer.interval && is_none offer.missing && is_none offer.retransmit && is_none offer.timeout && is_none offer.factor && is_none offer.rate

abbrev pub some_offer : Offer → Result Offer Reject
some_offer offer = if offers_nothing offer then Err (missing 33) else Ok offer

abbrev pub offer_under : ℕ → Tree → Result Offer Reject
offer_under key tree = do
  fields ← fields_of key tree
  said ← each_field offer_field no_offer fields
  some_offer said

-- ---- both states: mitigating-config 32 and idle-config 44

abbrev pub config_key_of : ℕ → Option ConfigKey
config_key_of n = if n == 32 then Some config_key.Mitigating else if n == 44 then Some config_key.Idle else None

abbrev pub take_offer : Option ConfigKey → ConfigBody → ℕ → Tree → Result ConfigBody Reject
take_offer (Some config_key.Mitigating) said n tree = offer_under 32 tree >>= λ offer. Ok (record said { mitigating = offer })
take_offer (Some config_key.Idle) said n tree = offer_under 44 tree >>= λ offer. Ok (record said { idle = offer })
take_offer None said n tree = Err (invalid n)

abbrev pub config_field : ConfigBody → ℕ → Tree → Result ConfigBody Reject
config_field said n tree = take_offer (config_key_of n) said n tree

abbrev pub no_config : ConfigBody
no_config = record { mitigating = no_offer; idle = no_offer }

-- a map that is there offers something, so where nothing is offered both are missing
abbrev pub some_config : ConfigBody → Result ConfigBody Reject
some_config body = if offers_nothing body.mitigating && offers_nothing body.idle then Err (missing 32) else Ok body

abbrev pub signal_config : Tree → Result ConfigBody Reject
signal_config tree = do
  fields ← fields_of 30 tree
  said ← each_field config_field no_config fields
  some_config said

abbrev pub configuration_of : Tree → Result ConfigBody Reject
configuration_of tree = sole_field 0 30 signal_config tree
