-- what is kept comes to the same histories; there is less of it after each turn
use Rattle.std.proofs.Common.{◌≡◌, ℕ, false, List}
use Rattle.dots_history.specs.declared.entry.Entry.{Entry}
use Rattle.dots_history.specs.Filed.{Filed}
use Rattle.live_mitigations.specs.LiveValues.{ComesTo, SameButRows, SlotsCome, count_live, has_due, rows_for}
use Rattle.live_mitigations.proofs.live.LiveMitigations.expire_all.Given as goal

abbrev pub invariant-loop-domain : goal.invariant-loop-domain
invariant-loop-domain l = record {
  comes : (entries : List Entry) → ComesTo l.now l.fn.self entries → ComesTo l.now l.self entries;
  slots : (filed : List Filed) → SlotsCome l.now l.fn.self.tables filed → SlotsCome l.now l.self.tables filed;
  same : SameButRows l.fn.self l.self;
  still : (domain : ℕ) → has_due l.now l.fn.self domain ≡ false → rows_for l.self domain ≡ rows_for l.fn.self domain;
}

abbrev pub decreases-loop-domain : goal.decreases-loop-domain
decreases-loop-domain l = count_live l.self
