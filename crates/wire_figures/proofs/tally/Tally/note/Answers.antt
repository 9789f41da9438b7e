use Rattle.std.proofs.Common.{◌<◌, sym, subst, ◌∙◌}
use Rattle.dots_host.specs.LoggedCalls.{act_of}
use Rattle.wire_figures.specs.Counting.{is_event, is_datagram, is_stranger, is_opening, is_loss, code_of, status_of}
use Rattle.wire_figures.proofs.Steps.{counted_next, last_next, table_next}
use Rattle.wire_figures.proofs.tally.Tally.note.Goals as goal

pub invariant_of-self : goal.invariant_of-self
invariant_of-self c =
    let inv = c.self.invariant in
    let old = c.self.inside.log.acts in
    let new = c.after-self-inside.result.acts in
    let call = act_of c.args.call.now in
    let grown = c.after-self-inside.ensures in (
      counted_next is_event old new call _ _ _ grown c.is_event.ensures inv.0 c.more_if-self-inside.ensures,
      counted_next is_datagram old new call _ _ _ grown c.is_datagram.ensures inv.1 c.more_if-self-inside-2.ensures,
      counted_next is_stranger old new call _ _ _ grown c.is_stranger.ensures inv.2 c.more_if-self-inside-3.ensures,
      counted_next is_opening old new call _ _ _ grown c.is_opening.ensures inv.3 c.more_if-self-inside-4.ensures,
      counted_next is_loss old new call _ _ _ grown c.is_loss.ensures inv.4 c.more_if-self-inside-5.ensures,
      last_next old new call _ _ grown inv.5 c.time_after-self-inside.ensures,
      (
        c.add.ensures.length ∙ inv.6.0,
        table_next code_of 256 c.self.inside.codes c.add.new.self old new call c.code_of.result grown c.code_of.ensures inv.6.1
            (λ number low. c.add.ensures.counts number (subst (λ size. number < size) (sym inv.6.0) low)),
      ),
      (
        c.add-2.ensures.length ∙ inv.7.0,
        table_next status_of 600 c.self.inside.statuses c.add-2.new.self old new call c.status_of.result grown c.status_of.ensures inv.7.1
            (λ number low. c.add-2.ensures.counts number (subst (λ size. number < size) (sym inv.7.0) low)),
      ),
    )
