use Rattle.std.proofs.Common.{◌++◌, List, sym, ap, subst, ◌∙◌}
use Rattle.coap_message.specs.Message.{CoapOption, AreOptions, last_number}
use Rattle.dots_gateway.specs.Forwarding.{without_observe}
use Rattle.dots_gateway.proofs.Texts.{observe_gone, options_behind}
use Rattle.dots_gateway.proofs.forwarding.without_observe.Goals as goal

pub loop-row-preserved : goal.loop-row-preserved
loop-row-preserved c =
    let steps = c.in-Some.ensures.steps in
    let are = subst (λ (os : List CoapOption). AreOptions (last_number 0 c.loop-row.list) os) steps c.loop-row.invariant.are in
    record {
      whole =
          ap (λ (os : List CoapOption). c.loop-row.list ++ os)
          (sym (ap without_observe steps ∙ observe_gone (record { number = c.in-Some.row.number; value = c.in-Some.row.value.now }) c.next.new.self c.if-row-ne-OBSERVE.false))
          ∙ c.loop-row.invariant.whole;
      are = options_behind (last_number 0 c.loop-row.list) (record { number = c.in-Some.row.number; value = c.in-Some.row.value.now }) c.next.new.self are;
    }
