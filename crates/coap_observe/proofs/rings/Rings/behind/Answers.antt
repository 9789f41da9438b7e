use Rattle.std.proofs.Common.{ap, ◌∙◌, arith}
use Rattle.std.proofs.lemmas.Grind.{get_or_default_zero}
use Rattle.coap_observe.specs.Rings.{RingsValue}
use Rattle.coap_observe.proofs.Circling.{reached}
use Rattle.coap_observe.proofs.rings.Rings.behind.Goals as goal

pub index-requires : goal.index-requires
index-requires c =
    let there = reached c.self.inside.behind.items c.self.inside.before.items c.self.inside.rings.items c.self.inside.room c.args.at c.args.slot c.args.place c.args.self.now.rings
    c.self.invariant (ap (λ (v : RingsValue). v.rings) c.self.view_is) c.requires.at c.requires.there c.requires.before in
    omega (arith, there.within, c.self.inside.behind.ok)

pub returns : goal.returns
returns c =
    let there = reached c.self.inside.behind.items c.self.inside.before.items c.self.inside.rings.items c.self.inside.room c.args.at c.args.slot c.args.place c.args.self.now.rings
    c.self.invariant (ap (λ (v : RingsValue). v.rings) c.self.view_is) c.requires.at c.requires.there c.requires.before in
    c.index.ensures
    ∙ get_or_default_zero c.self.inside.behind.items c.args.slot c.index.result.now there.within
    ∙ there.leads
