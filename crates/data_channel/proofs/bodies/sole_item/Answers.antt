use Rattle.std.proofs.Common.{◌≤◌, length, sym, ap, ◌∙◌, arith}
use Rattle.data_channel.specs.Bodies.{sole_of}
use Rattle.data_channel.proofs.Items.{many_items}
use Rattle.data_channel.proofs.bodies.sole_item.Goals as goal

pub returns-in_default-as_slice : goal.returns-in_default-as_slice
returns-in_default-as_slice c =
    let xs = c.in-Some.items.now.items in
    let many : 2 ≤ length xs = omega (arith, c.in_default-as_slice.len_at_least, ap length c.as_slice.ensures.value) in
    ap (λ o. sole_of c.args.member o) (sym c.in-Some.ensures) ∙ many_items c.args.member xs many
