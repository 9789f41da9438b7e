use Rattle.std.proofs.Common.{◌∙◌, ap, refl, drop}
use Rattle.dots_host.specs.declared.event.Event.TheVariants as event
use Rattle.dots_host.specs.declared.act.Act.TheVariants as act
use Rattle.dots_host.specs.Memory.{first_coming}
use Rattle.dots_host.proofs.HandingLemmas.{hands_event}
use Rattle.dots_host.proofs.DiskLemmas.{records_in_room, wire_beside, handed, carried, adds_by}
use Rattle.dots_host.proofs.memory_host.MemoryHostWire.next.Goals as goal

pub returns-then-fails-clause-acts : goal.returns-then-fails-clause-acts
returns-then-fails-clause-acts c =
    let call = act.Took event.Failed 0 in
    let failed = c.fail-then-fails.ensures.kept in
    let made = carried c.args.self.now.disk c.self.inside.disk c.log.new.self c.fail-then-fails.new.self.disk call (ap (λ host. host.disk) c.self.view_is) (ap (λ host. host.disk) failed)
    (records_in_room c.self.inside.disk c.make_room.new.self c.log.new.self call c.if-not-make_room.ensures.room c.log.ensures.call) in
    rw (c.fail-then-fails.ensures.what) (adds_by c.args.self.now.disk c.fail-then-fails.new.self.disk event.Failed 0 made)

pub returns-then-fails-clause-beside : goal.returns-then-fails-clause-beside
returns-then-fails-clause-beside c =
    let call = act.Took event.Failed 0 in
    let failed = c.fail-then-fails.ensures.kept in
    let made = carried c.args.self.now.disk c.self.inside.disk c.log.new.self c.fail-then-fails.new.self.disk call (ap (λ host. host.disk) c.self.view_is) (ap (λ host. host.disk) failed)
    (records_in_room c.self.inside.disk c.make_room.new.self c.log.new.self call c.if-not-make_room.ensures.room c.log.ensures.call) in
    wire_beside _ _ call made tt (ap (λ host. host.disk.faults) failed ∙ c.log.ensures.faults ∙ c.if-not-make_room.ensures.faults ∙ ap (λ host. host.disk.faults) c.self.view_is)

pub returns-then-fails-clause-leads : goal.returns-then-fails-clause-leads
returns-then-fails-clause-leads c =
    let call = act.Took event.Failed 0 in
    let failed = c.fail-then-fails.ensures.kept in
    let made = carried c.args.self.now.disk c.self.inside.disk c.log.new.self c.fail-then-fails.new.self.disk call (ap (λ host. host.disk) c.self.view_is) (ap (λ host. host.disk) failed)
    (records_in_room c.self.inside.disk c.make_room.new.self c.log.new.self call c.if-not-make_room.ensures.room c.log.ensures.call) in
    handed c.args.self.now c.fail-then-fails.new.self.disk c.fail-then-fails.new.self.coming call made (ap (λ host. host.coming) failed ∙ ap (λ host. host.coming) c.self.view_is)

pub returns-clause-acts : goal.returns-clause-acts
returns-clause-acts c =
    let first = c.first-event in
    let call = act.Took first.result.0 first.result.1 in
    let made = carried c.args.self.now.disk c.self.inside.disk c.log-2.new.self c.log-2.new.self call (ap (λ host. host.disk) c.self.view_is) refl
    (records_in_room c.self.inside.disk c.make_room.new.self c.log-2.new.self call c.if-not-make_room.ensures.room c.log-2.ensures.call) in
    rw (c.hand_in-what.ensures.event) (adds_by c.args.self.now.disk c.log-2.new.self first.result.0 first.result.1 made)

pub returns-clause-beside : goal.returns-clause-beside
returns-clause-beside c =
    let first = c.first-event in
    let call = act.Took first.result.0 first.result.1 in
    let made = carried c.args.self.now.disk c.self.inside.disk c.log-2.new.self c.log-2.new.self call (ap (λ host. host.disk) c.self.view_is) refl
    (records_in_room c.self.inside.disk c.make_room.new.self c.log-2.new.self call c.if-not-make_room.ensures.room c.log-2.ensures.call) in
    wire_beside _ _ call made tt (c.log-2.ensures.faults ∙ c.if-not-make_room.ensures.faults ∙ ap (λ host. host.disk.faults) c.self.view_is)

pub returns-clause-leads : goal.returns-clause-leads
returns-clause-leads c =
    let first = c.first-event in
    let call = act.Took first.result.0 first.result.1 in
    let made = carried c.args.self.now.disk c.self.inside.disk c.log-2.new.self c.log-2.new.self call (ap (λ host. host.disk) c.self.view_is) refl
    (records_in_room c.self.inside.disk c.make_room.new.self c.log-2.new.self call c.if-not-make_room.ensures.room c.log-2.ensures.call) in
    let coming = ap (λ host. host.coming) c.self.view_is in
    handed c.args.self.now c.log-2.new.self _ call made
    (hands_event c.args.self.now.coming _ first.result.0 first.result.1 first.ensures.given (first.ensures.event ∙ ap (λ xs. (first_coming xs).event) coming)
    (first.ensures.at ∙ ap (λ xs. (first_coming xs).at) coming) (first.ensures.rest ∙ ap (drop 1) coming))
