use Rattle.std.proofs.Common.{◌-◌, List, ◌∷◌, [], ◌++◌, map, ap, ◌∙◌, append_assoc}
use Rattle.std.proofs.lemmas.Result.{IfOk-weaker}
use Rattle.coap_message.specs.Message.{CoapOption}
use Rattle.dots_keys.specs.Options.{values_of, value_of}
use Rattle.dots_gateway.specs.Forwarding.{option_with, option_for, path_for}
use Rattle.dots_gateway.specs.WantedValues.{passage_value}
use Rattle.dots_gateway.proofs.forwarding.passed_options.Goals as goal

pub returns : goal.returns
returns c =
    let options = c.args.message.now.options in
    let hop = option_with 16 ((c.args.passage.now.hop - 1) ∷ []) in
    let accept = option_for 17 (value_of 17 options) in
    let front = path_for c.args.domain.now (passage_value c.args.passage.now) ++ option_for 12 (value_of 12 options) ++ map (option_with 15) (values_of 15 options) in
    let format = c.in_ok-format.ensures.list ∙ ap (λ (os : List CoapOption). os ++ option_for 12 (value_of 12 options)) c.in_ok-path.ensures.path in
    let queries = c.in_ok-queries.ensures.list ∙ ap (λ (os : List CoapOption). os ++ map (option_with 15) (values_of 15 options)) format in
    let limit = c.in_ok-hop.ensures.list ∙ ap (λ (os : List CoapOption). os ++ hop ∷ []) queries in
    IfOk-weaker c.with_value_of-2.result _ _
    (λ list is. is ∙ ap (λ (os : List CoapOption). os ++ accept) limit ∙ append_assoc front (hop ∷ []) accept)
    c.with_value_of-2.ensures.list
