use Rattle.std.proofs.Common.{◌<◌, ◌≤◌, sym, ◌∙◌, arith}
use Rattle.held_resources.specs.Tables.{lost_in}
use Rattle.live_mitigations.specs.LiveRows.{mitigations_in}
use Rattle.dots_registry.specs.ObserverViews.{seen_among}
use Rattle.dots_registry.proofs.Seeing.{get_taken, get_untaken}
use Rattle.dots_registry.proofs.viewing.view_of.Goals as goal

pub returns-then-place-lt-MAX_SEEN : goal.returns-then-place-lt-MAX_SEEN
returns-then-place-lt-MAX_SEEN c =
    let below : c.args.place < 64 = omega arith in
    λ t. c.seen_at.ensures t ∙ sym (get_taken 64 (seen_among (lost_in c.args.among.now.held.now) c.args.among.now.domain t c.args.cuid.now c.args.mid (mitigations_in c.args.among.now.rows.now)) c.args.place below)

pub returns : goal.returns
returns c =
    let past : 64 ≤ c.args.place = omega arith in
    λ t. sym (get_untaken 64 (seen_among (lost_in c.args.among.now.held.now) c.args.among.now.domain t c.args.cuid.now c.args.mid (mitigations_in c.args.among.now.rows.now)) c.args.place past)
