use Rattle.std.proofs.Common.{◌++◌, List, sym, ap, subst, map}
use Rattle.std.specs.List.{AllByRecursion}
use Rattle.coap_message.specs.Message.{CoapOption}
use Rattle.dots_keys.specs.Options.{values_of}
use Rattle.dots_gateway.specs.Forwarding.{option_with}
use Rattle.dots_gateway.proofs.Texts.{IsShortValue, values_short}
use Rattle.dots_gateway.proofs.forwarding.with_each_of.Goals as goal

pub loop-value-init : goal.loop-value-init
loop-value-init c = record {
  whole = ap (λ (os : List CoapOption). c.args.options ++ map (option_with c.args.number) (values_of c.args.number os)) c.options-rest.ensures.value;
  last = c.requires;
  short = subst (λ (os : List CoapOption). AllByRecursion IsShortValue (values_of c.args.number os)) (sym c.options-rest.ensures.value)
      (values_short c.args.number 0 c.args.message.now.options c.options-rest.ensures.are);
}
