use Rattle.std.proofs.Common.{refl, sym, subst}
use Rattle.dots_host.specs.declared.act.Act.TheVariants as act
use Rattle.dots_host.specs.Acts.{Adds, gave, given, owned_of, is_done}
use Rattle.coap_block.specs.Around.{seen_above, SendsOut, leaves_of, GoesOnSeen}
use Rattle.coap_block.proofs.AroundLemmas.{seen_adds, seen_goes_on}
use Rattle.coap_block.proofs.host.BlockHostWire.send.Goals as goal

pub returns-clause-acts : goal.returns-clause-acts
returns-clause-acts g c =
    let inside = c.self.inside in
    let acts = g.H.Wire.acts in
    let moment = g.H.Wire.moment in
    let new = c.send_written-sent.new.inner in
    let out = owned_of c.args.out.now in
    let text = c.written.result.now in
    let outer = act.Gave out (is_done c.send_written-sent.result) in
    let seen = given c.args.out.now c.send_written-sent.result in
    let step = seen_adds (acts inside.inner) (acts new) (moment inside.inner) (moment new) inside.log.acts (gave (leaves_of out c.reply-written.result text) (is_done c.send_written-sent.result)) outer c.send_written-sent.ensures.acts in
    subst (λ host. Adds (seen_above (acts host.inner) host.log) (moment host.inner) (seen_above (acts new) c.after-self-inside.result.acts) (moment new) seen) c.self.view_is
    (subst (λ log. Adds (seen_above (acts inside.inner) inside.log.acts) (moment inside.inner) (seen_above (acts new) log) (moment new) seen) (sym c.after-self-inside.ensures) step)

pub returns-clause-leads : goal.returns-clause-leads
returns-clause-leads g c =
    let inside = c.self.inside in
    let acts = g.H.Wire.acts in
    let moment = g.H.Wire.moment in
    let new = c.send_written-sent.new.inner in
    let out = owned_of c.args.out.now in
    let text = c.written.result.now in
    let outer = act.Gave out (is_done c.send_written-sent.result) in
    let blocks = c.reply-written.new.cutting.blocks in
    let leaves = subst (λ bytes. SendsOut out (leaves_of out c.reply-written.result bytes) inside.cutting.blocks blocks) (sym c.written.ensures) c.reply-written.ensures in
    let step = seen_goes_on (acts inside.inner) (acts new) (moment inside.inner) (moment new) inside.log.acts (gave (leaves_of out c.reply-written.result text) (is_done c.send_written-sent.result)) outer inside.cutting.blocks blocks c.send_written-sent.ensures.acts
    (leaves, refl) in
    subst (λ host. g.H.Wire.leads host.inner new × GoesOnSeen (acts host.inner) host.log host.blocks (acts new) c.after-self-inside.result.acts blocks) c.self.view_is
    (c.send_written-sent.ensures.leads, subst (λ log. GoesOnSeen (acts inside.inner) inside.log.acts inside.cutting.blocks (acts new) log blocks) (sym c.after-self-inside.ensures) step)
