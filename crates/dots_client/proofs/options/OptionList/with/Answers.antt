use Rattle.std.proofs.Common.{◌+◌, ◌≤◌, ◌<◌, List, ◌∷◌, [], ◌++◌, length, length-append, append_assoc, sym, ap, subst, ◌∙◌, arith}
use Rattle.coap_message.specs.declared.parts.OptionPart.{OptionPart}
use Rattle.coap_message.specs.Message.{last_number, CoapOption}
use Rattle.coap_message.specs.Parts.{options_of}
use Rattle.dots_client.specs.Options.{AreWritten}
use Rattle.dots_client.proofs.Behind.{written_then, options_then}
use Rattle.dots_client.proofs.options.OptionList.with.Goals as goal

pub invariant_of-result : goal.invariant_of-result
invariant_of-result c =
    let name = c.args.name.now in
    let value = c.args.value.now in
    let part : OptionPart = record { number = c.args.number; length = length name + length value } in
    let parts = c.in_ok-push.ensures.items in
    let bytes = c.in_ok-extend_from_slice-2.ensures.items ∙ ap (λ vs. vs ++ value) c.in_ok-extend_from_slice.ensures.items ∙ append_assoc c.self.inside.values.items name value in
    let sum = length-append name value in
    let order = subst (λ (os : List CoapOption). last_number 0 os ≤ c.args.number) (sym c.self.view_is) c.requires.order in
    let few = subst (λ (os : List CoapOption). length os < 16) (sym c.self.view_is) c.requires.few in
    let all = written_then c.self.inside.parts.items c.self.inside.values.items (name ++ value) part c.self.invariant order (omega (arith, c.requires.short)) (omega (arith, sum)) few in
    subst (λ ps. AreWritten ps c.extend_from_slice-2.new.self.items) (sym parts) (subst (λ vs. AreWritten (c.self.inside.parts.items ++ part ∷ []) vs) (sym bytes) all)

pub returns : goal.returns
returns c =
    let name = c.args.name.now in
    let value = c.args.value.now in
    let part : OptionPart = record { number = c.args.number; length = length name + length value } in
    let parts = c.in_ok-push.ensures.items in
    let bytes = c.in_ok-extend_from_slice-2.ensures.items ∙ ap (λ vs. vs ++ value) c.in_ok-extend_from_slice.ensures.items ∙ append_assoc c.self.inside.values.items name value in
    let sum = length-append name value in
    ap (λ ps. options_of ps c.extend_from_slice-2.new.self.items) parts
    ∙ ap (options_of (c.self.inside.parts.items ++ part ∷ [])) bytes
    ∙ options_then c.self.inside.parts.items c.self.inside.values.items (name ++ value) part c.self.invariant.sizes (omega (arith, sum))
    ∙ ap (λ (os : List CoapOption). os ++ record { number = c.args.number; value = name ++ value } ∷ []) c.self.view_is
