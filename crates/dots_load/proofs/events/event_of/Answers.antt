use Rattle.std.proofs.Common.{◌≡◌, ◌+◌, ◌%◌, sym, ◌∙◌, arith}
use Rattle.dots_load.proofs.Coming.{put_event, delete_event, get_event, tick_event}
use Rattle.dots_load.proofs.events.event_of.Goals as goal

pub returns-then-kind-lt5-clause-event : goal.returns-then-kind-lt5-clause-event
returns-then-kind-lt5-clause-event c =
    put_event c.args.k c.args.a c.args.b c.args.c c.args.d (c.from-mids.result + 1) c.items.result.now _ c.if-kind-lt5.true (omega (arith, c.from-mids.ensures))
    (c.items.ensures ∙ c.in_ok-body.ensures.body) c.in_ok-bytes.ensures.spells

pub returns-then-kind-eq5-clause-event : goal.returns-then-kind-eq5-clause-event
returns-then-kind-eq5-clause-event c =
    delete_event c.args.k c.args.a c.args.b c.args.c c.args.d (c.from-mids.result + 1) _ c.if-kind-eq5.true (omega (arith, c.from-mids.ensures)) c.in_ok-bytes-2.ensures.spells

pub returns-then-kind-eq6-clause-event : goal.returns-then-kind-eq6-clause-event
returns-then-kind-eq6-clause-event c =
    let bytes = c.in_ok-bytes-3.ensures.spells in
    rw bytes (sym (get_event c.args.k c.args.a c.args.b c.args.c c.args.d c.if-kind-eq6.true))

pub returns-clause-event : goal.returns-clause-event
returns-clause-event c =
    let seven : c.args.b % 8 ≡ 7 = omega (arith, c.if-kind-lt5.false, c.if-kind-eq5.false, c.if-kind-eq6.false) in
    sym (tick_event c.args.k c.args.a c.args.b c.args.c c.args.d seven)
