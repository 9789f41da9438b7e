use Rattle.std.proofs.Common.{ap, sym, subst, ◌∙◌, arith}
use Rattle.std.proofs.lemmas.Grind.{get_or_default_zero}
use Rattle.coap_observe.specs.Rings.{RingsValue, with_ring, one_less, IsOutside}
use Rattle.coap_observe.proofs.Circling.{is_there, after_depart}
use Rattle.coap_observe.proofs.rings.Rings.depart.Goals as goal

pub index-before-requires : goal.index-before-requires
index-before-requires c =
    let at = is_there c.self.inside.behind.items c.self.inside.before.items c.self.inside.rings.items c.self.inside.room c.args.at c.args.slot c.args.self.now.rings c.self.invariant (ap (λ (v : RingsValue). v.rings) c.self.view_is) c.requires.at c.requires.there in
    omega (arith, at.lows.own, c.self.invariant.size, c.self.inside.before.ok)

pub index-behind-requires : goal.index-behind-requires
index-behind-requires c =
    let at = is_there c.self.inside.behind.items c.self.inside.before.items c.self.inside.rings.items c.self.inside.room c.args.at c.args.slot c.args.self.now.rings c.self.invariant (ap (λ (v : RingsValue). v.rings) c.self.view_is) c.requires.at c.requires.there in
    omega (arith, at.lows.own, c.self.inside.behind.ok)

pub link-requires-clause-first : goal.link-requires-clause-first
link-requires-clause-first c =
    let at = is_there c.self.inside.behind.items c.self.inside.before.items c.self.inside.rings.items c.self.inside.room c.args.at c.args.slot c.args.self.now.rings c.self.invariant (ap (λ (v : RingsValue). v.rings) c.self.view_is) c.requires.at c.requires.there in
    let before = c.index-before.ensures ∙ get_or_default_zero c.self.inside.before.items c.args.slot c.index-before.result.now (omega (arith, at.lows.own, c.self.invariant.size)) in
    omega (arith, at.lows.front, before)

pub link-requires-clause-second : goal.link-requires-clause-second
link-requires-clause-second c =
    let at = is_there c.self.inside.behind.items c.self.inside.before.items c.self.inside.rings.items c.self.inside.room c.args.at c.args.slot c.args.self.now.rings c.self.invariant (ap (λ (v : RingsValue). v.rings) c.self.view_is) c.requires.at c.requires.there in
    let behind = c.index-behind.ensures ∙ get_or_default_zero c.self.inside.behind.items c.args.slot c.index-behind.result.now at.lows.own in
    omega (arith, at.lows.back, behind, c.self.invariant.size)

pub count_less-requires-clause-some : goal.count_less-requires-clause-some
count_less-requires-clause-some c = (is_there c.self.inside.behind.items c.self.inside.before.items c.self.inside.rings.items c.self.inside.room c.args.at c.args.slot c.args.self.now.rings c.self.invariant (ap (λ (v : RingsValue). v.rings) c.self.view_is) c.requires.at c.requires.there).some

pub invariant_of-self : goal.invariant_of-self
invariant_of-self c =
    let at = is_there c.self.inside.behind.items c.self.inside.before.items c.self.inside.rings.items c.self.inside.room c.args.at c.args.slot c.args.self.now.rings c.self.invariant (ap (λ (v : RingsValue). v.rings) c.self.view_is) c.requires.at c.requires.there in
    (after_depart c.self.inside.behind.items c.self.inside.before.items c.self.inside.rings.items c.self.inside.room c.args.slot c.index-before.result.now c.index-behind.result.now c.args.at c.args.self.now.rings c.link.new.behind.items c.link.new.before.items c.count_less.new.rings.items
    c.self.invariant (ap (λ (v : RingsValue). v.rings) c.self.view_is) c.requires.at c.requires.there
    (c.index-before.ensures ∙ get_or_default_zero c.self.inside.before.items c.args.slot c.index-before.result.now (omega (arith, at.lows.own, c.self.invariant.size)))
    (c.index-behind.ensures ∙ get_or_default_zero c.self.inside.behind.items c.args.slot c.index-behind.result.now at.lows.own)
    c.link.ensures.behind c.link.ensures.before c.count_less.ensures).of.are

pub returns-clause-others : goal.returns-clause-others
returns-clause-others c =
    let at = is_there c.self.inside.behind.items c.self.inside.before.items c.self.inside.rings.items c.self.inside.room c.args.at c.args.slot c.args.self.now.rings c.self.invariant (ap (λ (v : RingsValue). v.rings) c.self.view_is) c.requires.at c.requires.there in
    ap (λ rs. record { room = c.self.inside.room; rings = rs })
    (after_depart c.self.inside.behind.items c.self.inside.before.items c.self.inside.rings.items c.self.inside.room c.args.slot c.index-before.result.now c.index-behind.result.now c.args.at c.args.self.now.rings c.link.new.behind.items c.link.new.before.items c.count_less.new.rings.items
    c.self.invariant (ap (λ (v : RingsValue). v.rings) c.self.view_is) c.requires.at c.requires.there
    (c.index-before.ensures ∙ get_or_default_zero c.self.inside.before.items c.args.slot c.index-before.result.now (omega (arith, at.lows.own, c.self.invariant.size)))
    (c.index-behind.ensures ∙ get_or_default_zero c.self.inside.behind.items c.args.slot c.index-behind.result.now at.lows.own)
    c.link.ensures.behind c.link.ensures.before c.count_less.ensures).of.values_are
    ∙ ap (λ (v : RingsValue). record { room = v.room; rings = with_ring c.args.at (one_less c.args.slot) c.args.self.now.rings }) c.self.view_is

pub returns-clause-outside : goal.returns-clause-outside
returns-clause-outside c =
    let at = is_there c.self.inside.behind.items c.self.inside.before.items c.self.inside.rings.items c.self.inside.room c.args.at c.args.slot c.args.self.now.rings c.self.invariant (ap (λ (v : RingsValue). v.rings) c.self.view_is) c.requires.at c.requires.there in
    let after = (after_depart c.self.inside.behind.items c.self.inside.before.items c.self.inside.rings.items c.self.inside.room c.args.slot c.index-before.result.now c.index-behind.result.now c.args.at c.args.self.now.rings c.link.new.behind.items c.link.new.before.items c.count_less.new.rings.items
    c.self.invariant (ap (λ (v : RingsValue). v.rings) c.self.view_is) c.requires.at c.requires.there
    (c.index-before.ensures ∙ get_or_default_zero c.self.inside.before.items c.args.slot c.index-before.result.now (omega (arith, at.lows.own, c.self.invariant.size)))
    (c.index-behind.ensures ∙ get_or_default_zero c.self.inside.behind.items c.args.slot c.index-behind.result.now at.lows.own)
    c.link.ensures.behind c.link.ensures.before c.count_less.ensures) in
    subst (IsOutside c.args.slot) (sym after.of.values_are) after.outside
