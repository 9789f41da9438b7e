use Rattle.std.proofs.Common.{◌≡◌, ◌+◌, map, ap, ◌∙◌, rules}
use Rattle.coap_observe.specs.Rings.{ring_of}
use Rattle.coap_observe.proofs.Beginning.{numbers_begin, values_begin}
use Rattle.coap_observe.proofs.rings.Rings.new.Goals as goal

pub invariant_of-result : goal.invariant_of-result
invariant_of-result c =
    let sum : c.in-Some.size ≡ c.args.room + c.args.count = search rules in
    numbers_begin c.in-Some.size c.args.room c.args.count c.in_ok-behind.behind.items c.in_ok-before.before.items c.in_ok-rings.rings.items sum
    c.in_ok-behind.ensures c.in_ok-before.ensures c.in_ok-rings.ensures

pub returns : goal.returns
returns c =
    ap (λ rs. record { room = c.args.room; rings = rs })
    (ap (map (ring_of c.in_ok-behind.behind.items)) c.in_ok-rings.ensures ∙ values_begin c.in_ok-behind.behind.items c.args.room c.args.count)
