use Rattle.std.proofs.Common.{◌≡◌, ◌≤◌, length}
use Rattle.std.specs.Prelude.{Some}
use Rattle.dots_host.specs.Stored.{media_of}
use Rattle.slot_store.specs.Layout.{needed_of}
use Rattle.host_checks.specs.Making.{HasTakenSome}
use Rattle.host_checks.proofs.TakenInTurn.{GoesOn}
use Rattle.host_checks.proofs.migrating.take_all.Given as goal

abbrev pub invariant-loop-kept : goal.invariant-loop-kept
invariant-loop-kept l = record {
  place : l.place ≡ length l.yielded;
  size : needed_of l.ledger.journal.slots ≤ l.disk.extent;
  some : HasTakenSome l.new l.ledger (Some (media_of l.disk));
  goes : GoesOn l.old l.new l.yielded l.over l.fn.ledger (Some (media_of l.fn.disk)) l.fn.text.items l.ledger (Some (media_of l.disk)) l.text.items;
}
