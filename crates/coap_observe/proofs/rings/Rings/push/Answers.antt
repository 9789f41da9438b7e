use Rattle.std.proofs.Common.{◌<◌, length, set, ap, sym, subst, ◌∙◌, arith}
use Rattle.std.proofs.lemmas.Grind.{get_or_default_zero}
use Rattle.std.proofs.lemmas.List.{length-set}
use Rattle.coap_observe.specs.Rings.{RingsValue, with_ring, one_more}
use Rattle.coap_observe.proofs.Circling.{placed, after_push}
use Rattle.coap_observe.proofs.rings.Rings.push.Goals as goal

pub index-last-requires : goal.index-last-requires
index-last-requires c =
    let at = placed c.self.inside.behind.items c.self.inside.before.items c.self.inside.rings.items c.self.inside.room c.args.at c.index.result.now c.args.self.now.rings c.self.invariant (ap (λ (v : RingsValue). v.rings) c.self.view_is) c.requires.at c.index.ensures in
    omega (arith, at.start_low, c.self.invariant.size, c.self.inside.before.ok)

pub link-requires-clause-first : goal.link-requires-clause-first
link-requires-clause-first c =
    let at = placed c.self.inside.behind.items c.self.inside.before.items c.self.inside.rings.items c.self.inside.room c.args.at c.index.result.now c.args.self.now.rings c.self.invariant (ap (λ (v : RingsValue). v.rings) c.self.view_is) c.requires.at c.index.ensures in
    let last = c.index-last.ensures ∙ get_or_default_zero c.self.inside.before.items c.index.result.now.start c.index-last.result.now (omega (arith, at.start_low, c.self.invariant.size)) in
    omega (arith, at.last_low, last)

pub link-requires-2-clause-second : goal.link-requires-2-clause-second
link-requires-2-clause-second c =
    let at = placed c.self.inside.behind.items c.self.inside.before.items c.self.inside.rings.items c.self.inside.room c.args.at c.index.result.now c.args.self.now.rings c.self.invariant (ap (λ (v : RingsValue). v.rings) c.self.view_is) c.requires.at c.index.ensures in
    let long = ap length c.link.ensures.before ∙ length-set c.self.inside.before.items c.args.slot c.index-last.result.now in
    omega (arith, at.start_low, long, c.self.invariant.size)

pub count_more-requires-clause-few : goal.count_more-requires-clause-few
count_more-requires-clause-few c = λ ring.
    let at = placed c.self.inside.behind.items c.self.inside.before.items c.self.inside.rings.items c.self.inside.room c.args.at c.index.result.now c.args.self.now.rings c.self.invariant (ap (λ (v : RingsValue). v.rings) c.self.view_is) c.requires.at c.index.ensures in
    omega (arith, at.count_is ring, c.requires.few)

pub invariant_of-self : goal.invariant_of-self
invariant_of-self c =
    let at = placed c.self.inside.behind.items c.self.inside.before.items c.self.inside.rings.items c.self.inside.room c.args.at c.index.result.now c.args.self.now.rings c.self.invariant (ap (λ (v : RingsValue). v.rings) c.self.view_is) c.requires.at c.index.ensures in
    (after_push c.self.inside.behind.items c.self.inside.before.items c.self.inside.rings.items c.self.inside.room c.args.slot c.index-last.result.now c.args.at c.index.result.now c.args.self.now.rings c.link-2.new.behind.items c.link-2.new.before.items c.count_more.new.rings.items
    c.self.invariant (ap (λ (v : RingsValue). v.rings) c.self.view_is) c.requires.at c.index.ensures (subst (λ (v : RingsValue). c.args.slot < v.room) (sym c.self.view_is) c.requires.below) c.requires.outside
    (c.index-last.ensures ∙ get_or_default_zero c.self.inside.before.items c.index.result.now.start c.index-last.result.now (omega (arith, at.start_low, c.self.invariant.size)))
    (c.link-2.ensures.behind ∙ ap (λ links. set links c.args.slot c.index.result.now.start) c.link.ensures.behind)
    (c.link-2.ensures.before ∙ ap (λ links. set links c.index.result.now.start c.args.slot) c.link.ensures.before)
    c.count_more.ensures).are

pub returns : goal.returns
returns c =
    let at = placed c.self.inside.behind.items c.self.inside.before.items c.self.inside.rings.items c.self.inside.room c.args.at c.index.result.now c.args.self.now.rings c.self.invariant (ap (λ (v : RingsValue). v.rings) c.self.view_is) c.requires.at c.index.ensures in
    ap (λ rs. record { room = c.self.inside.room; rings = rs })
    (after_push c.self.inside.behind.items c.self.inside.before.items c.self.inside.rings.items c.self.inside.room c.args.slot c.index-last.result.now c.args.at c.index.result.now c.args.self.now.rings c.link-2.new.behind.items c.link-2.new.before.items c.count_more.new.rings.items
    c.self.invariant (ap (λ (v : RingsValue). v.rings) c.self.view_is) c.requires.at c.index.ensures (subst (λ (v : RingsValue). c.args.slot < v.room) (sym c.self.view_is) c.requires.below) c.requires.outside
    (c.index-last.ensures ∙ get_or_default_zero c.self.inside.before.items c.index.result.now.start c.index-last.result.now (omega (arith, at.start_low, c.self.invariant.size)))
    (c.link-2.ensures.behind ∙ ap (λ links. set links c.args.slot c.index.result.now.start) c.link.ensures.behind)
    (c.link-2.ensures.before ∙ ap (λ links. set links c.index.result.now.start c.args.slot) c.link.ensures.before)
    c.count_more.ensures).values_are
    ∙ ap (λ (v : RingsValue). record { room = v.room; rings = with_ring c.args.at (one_more c.args.slot) c.args.self.now.rings }) c.self.view_is
