use Rattle.std.proofs.Common.{◌∙◌, map}
use Rattle.reply_bodies.specs.Mitigations.{scope_of}
use Rattle.live_mitigations.specs.LiveViews.{row_view}
use Rattle.dots_server.proofs.MitigationReplies.{trees_more}
use Rattle.dots_server.proofs.mitigations.views_of.Goals as goal

pub loop-row-preserved : goal.loop-row-preserved
loop-row-preserved c = λ entries represents.
    c.loop-row.invariant entries represents
    ∙ trees_more c.args.content c.args.mid (map scope_of c.loop-row.views) (map scope_of c.push_wanted.new.views) (row_view c.in-Some.row) c.loop-row.row-iterator c.next.new.self c.in-Some.ensures.steps c.in_ok-push_wanted.ensures.told
