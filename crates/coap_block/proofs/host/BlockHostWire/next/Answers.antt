use Rattle.std.proofs.Common.{refl, sym, subst}
use Rattle.dots_host.specs.declared.act.Act.TheVariants as act
use Rattle.dots_host.specs.Acts.{Adds, taken, event_of}
use Rattle.coap_block.specs.Around.{seen_above, GoesOnSeen}
use Rattle.coap_block.proofs.AroundLemmas.{seen_adds, seen_goes_on}
use Rattle.coap_block.proofs.host.BlockHostWire.next.Goals as goal

pub returns-clause-acts : goal.returns-clause-acts
returns-clause-acts g c =
    let inside = c.self.inside in
    let acts = g.H.Wire.acts in
    let moment = g.H.Wire.moment in
    let new = c.next-got.new.self in
    let room = c.see-what.new.room in
    let outer = act.Took (event_of c.see-what.result room) c.next-got.result.at in
    let seen = taken (record { what = c.see-what.result; at = c.next-got.result.at }) room in
    let step = seen_adds (acts inside.inner) (acts new) (moment inside.inner) (moment new) inside.log.acts (taken c.next-got.result c.next-got.new.into) outer c.next-got.ensures.acts in
    subst (λ host. Adds (seen_above (acts host.inner) host.log) (moment host.inner) (seen_above (acts new) c.after-self-inside.result.acts) (moment new) seen) c.self.view_is
    (subst (λ log. Adds (seen_above (acts inside.inner) inside.log.acts) (moment inside.inner) (seen_above (acts new) log) (moment new) seen) (sym c.after-self-inside.ensures) step)

pub returns-clause-leads : goal.returns-clause-leads
returns-clause-leads g c =
    let inside = c.self.inside in
    let acts = g.H.Wire.acts in
    let moment = g.H.Wire.moment in
    let new = c.next-got.new.self in
    let room = c.see-what.new.room in
    let outer = act.Took (event_of c.see-what.result room) c.next-got.result.at in
    let blocks = c.see-what.new.cutting.blocks in
    let step = seen_goes_on (acts inside.inner) (acts new) (moment inside.inner) (moment new) inside.log.acts (taken c.next-got.result c.next-got.new.into) outer inside.cutting.blocks blocks c.next-got.ensures.acts
    (c.see-what.ensures.sees, refl) in
    subst (λ host. g.H.Wire.leads host.inner new × GoesOnSeen (acts host.inner) host.log host.blocks (acts new) c.after-self-inside.result.acts blocks) c.self.view_is
    (c.next-got.ensures.leads, subst (λ log. GoesOnSeen (acts inside.inner) inside.log.acts inside.cutting.blocks (acts new) log blocks) (sym c.after-self-inside.ensures) step)
