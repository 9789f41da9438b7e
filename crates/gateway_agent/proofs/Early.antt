-- The times of entries that have records are below 2^48.
use Rattle.std.proofs.Common.{◌≡◌, ℕ, ◌<◌, ◌^◌, Bool, true, false, ◌&&◌, List, [], ◌∷◌, refl, arith}
use Rattle.std.specs.Prelude.{IsTrue}
use Rattle.std.specs.List.{AllByRecursion}
use Rattle.std.proofs.lemmas.Bool.{ltb-true}
use Rattle.dots_gateway.specs.declared.exchange.Exchange.{Exchange}
use Rattle.dots_gateway.specs.Exchanges.{time_of}
use Rattle.slot_journal.specs.DiskEntries.{HasRecord}
use Rattle.gateway_agent.specs.Exchanges.{last_time}
use Rattle.gateway_agent.specs.Forms.{entries_of}

first_of : (a b c d : Bool) → IsTrue (a && b && c && d) → a ≡ true
first_of true b c d is = refl
first_of false b c d is = is

each_time : (t : ℕ) (xs : List Exchange) → t < 2 ^ 48 → AllByRecursion HasRecord (entries_of xs) → time_of t xs < 2 ^ 48
each_time t [] early all = early
each_time t (x ∷ xs) early all = each_time x.time xs (ltb-true x.time (2 ^ 48) (first_of _ _ _ _ all.0.within)) all.1

pub all_early : (xs : List Exchange) → AllByRecursion HasRecord (entries_of xs) → last_time xs < 2 ^ 48
all_early xs all = each_time 0 xs (omega arith) all
