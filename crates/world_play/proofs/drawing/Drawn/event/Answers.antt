use Rattle.std.proofs.Common.{◌≡◌, ◌≤◌, ◌%◌, ℕ, sym, ap, ◌∙◌}
use Rattle.dots_world.specs.declared.event.WorldEvent.TheVariants as event
use Rattle.world_play.proofs.Events.{ask_event, restart_event, tick_event, deliver_event}
use Rattle.world_play.proofs.drawing.Drawn.event.Goals.{else-kind-eq2-via-then-kind-eq2+else-self-lt2, else-kind-eq2-via-else-kind-eq2}
use Rattle.world_play.proofs.drawing.Drawn.event.Goals as goal

pub returns-then-kind-eq0-clause-event : goal.returns-then-kind-eq0-clause-event
returns-then-kind-eq0-clause-event c = ask_event c.args.self c.args.time c.args.packets c.in_ok-ask.ask c.if-kind-eq0.true c.in_ok-ask.ensures

pub returns-then-self-lt2-clause-event : goal.returns-then-self-lt2-clause-event
returns-then-self-lt2-clause-event c = c.restart.ensures ∙ sym (restart_event c.args.self c.args.time c.args.packets c.if-kind-eq2.true c.if-self-lt2.true)

pub returns-then-kind-lt3-clause-event : goal.returns-then-kind-lt3-clause-event
returns-then-kind-lt3-clause-event c =
    let d = c.args.self in
    let not_restart : d.first % 8 ≡ 2 → 2 ≤ d.third % 16 = elim c.else-kind-eq2.branch [
      | else-kind-eq2-via-then-kind-eq2+else-self-lt2 w ↦ λ is. w.if-self-lt2.false
      | else-kind-eq2-via-else-kind-eq2 w ↦ λ is. absurd (w.if-kind-eq2.false is)
    ] in
    sym (tick_event d c.args.time c.args.packets c.if-kind-eq0.false not_restart c.if-kind-lt3.true)

pub returns-clause-event : goal.returns-clause-event
returns-clause-event c = ap (λ (number : ℕ). event.Deliver number) c.number_among-packet.ensures ∙ sym (deliver_event c.args.self c.args.time c.args.packets c.if-kind-lt3.false)
