use Rattle.std.proofs.Common.{sym, ap, ◌∙◌}
use Rattle.session_core.specs.Beats.{beat_bytes}
use Rattle.session_core.proofs.NoticeTicking.{heard_bytes, unheard_bytes}
use Rattle.session_core.proofs.beating.beat_bytes.Goals as goal

pub returns-then-beat : goal.returns-then-beat
returns-then-beat c = c.with_body.ensures ∙ heard_bytes c.args.beat.id ∙ ap (beat_bytes c.args.beat.id) (sym c.if-beat.true)

pub returns : goal.returns
returns c = c.with_body-2.ensures ∙ unheard_bytes c.args.beat.id ∙ ap (beat_bytes c.args.beat.id) (sym c.if-beat.false)
