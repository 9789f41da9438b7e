use Rattle.std.proofs.Common.{◌≡◌, drop}
use Rattle.http_cut.specs.Places.{place_from}
use Rattle.http_cut.proofs.place.Place.behind.Given as goal

abbrev pub invariant-loop-byte : goal.invariant-loop-byte
invariant-loop-byte l = place_from l.fn.self l.bytes ≡ place_from l.place (drop l.byte-index l.bytes)
