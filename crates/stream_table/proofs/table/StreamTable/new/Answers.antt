use Rattle.std.proofs.Common.{sym, subst}
use Rattle.stream_table.specs.Places.{AreApart}
use Rattle.stream_table.proofs.Apart.{apart_begun}
use Rattle.stream_table.proofs.table.StreamTable.new.Goals as goal

pub invariant_of-result : goal.invariant_of-result
invariant_of-result g c = subst AreApart (sym c.in_ok-rows.ensures) (apart_begun c.args.settings.now.peers)
