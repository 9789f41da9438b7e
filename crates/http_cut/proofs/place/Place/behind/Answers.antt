use Rattle.std.proofs.Common.{drop, sym, ◌∙◌}
use Rattle.http_cut.proofs.Places.{end_stays}
use Rattle.http_cut.proofs.place.Place.behind.Goals as goal

pub returns-then-is_end : goal.returns-then-is_end
returns-then-is_end c =
    end_stays c.loop-byte.place (drop c.loop-byte.byte-index c.args.bytes.now) (sym c.if-is_end.ensures) ∙ sym c.loop-byte.invariant
