use Rattle.std.proofs.Common.{◌≡◌, length, take}
use Rattle.std.specs.Prelude.{vec_capacity}
use Rattle.gateway_agent.specs.Forms.{entries_of}
use Rattle.gateway_agent.specs.Exchanges.{IsStore, most_young}
use Rattle.gateway_agent.proofs.taking.take_all.Given as goal

-- the exchanges of the entries so far were taken, one from each slot
abbrev pub invariant-loop-slot : goal.invariant-loop-slot
invariant-loop-slot l = record {
  store : IsStore (most_young l.journal.slots) l.exchanges.items;
  taken : entries_of l.exchanges.items ≡ take l.slot l.entries;
  place : l.slot ≡ length l.exchanges.items;
  capacity : vec_capacity l.exchanges ≡ vec_capacity l.fn.exchanges;
}
