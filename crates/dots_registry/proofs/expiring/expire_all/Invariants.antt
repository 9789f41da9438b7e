-- what is left comes to the same histories, and the slots with it; there is less of it after each turn
use Rattle.std.proofs.Common.{◌≡◌, ◌≤◌, ℕ, false, List}
use Rattle.dots_history.specs.declared.entry.Entry.{Entry}
use Rattle.live_mitigations.specs.LiveValues.{ComesTo, SameButRows, count_live, SlotsCome, rows_for}
use Rattle.live_mitigations.specs.LiveValues as lives
use Rattle.held_resources.specs.Tables as things
use Rattle.installed_filters.specs.Filters.{SameRoom}
use Rattle.installed_filters.specs.HistoryRows.{Represents}
use Rattle.installed_filters.proofs.HistoryRows.{Between}
use Rattle.dots_history.specs.Filed.{Filed}
use Rattle.coap_observe.specs.DueAmong.{includes}
use Rattle.dots_registry.proofs.expiring.expire_all.Given as goal

abbrev pub invariant-loop-domain : goal.invariant-loop-domain
invariant-loop-domain l = record {
  comes : (entries : List Entry) → ComesTo l.now l.fn.live entries → ComesTo l.now l.live entries;
  same : SameButRows l.fn.live l.live;
  others : (domain : ℕ) → includes l.ended domain ≡ false → rows_for l.live domain ≡ rows_for l.fn.live domain;
  between : (entries : List Entry) → l.fn.live.time ≤ l.now → lives.Represents l.fn.live entries → things.Represents l.held entries
      → Represents l.fn.filters l.fn.live.time entries
      → Between l.now l.live l.filters entries;
  room : SameRoom l.fn.filters l.filters;
  slots : (filed : List Filed) → SlotsCome l.now l.fn.live.tables filed → SlotsCome l.now l.live.tables filed;
}

abbrev pub decreases-loop-domain : goal.decreases-loop-domain
decreases-loop-domain l = count_live l.live
