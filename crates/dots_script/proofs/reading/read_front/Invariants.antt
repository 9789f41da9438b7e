use Rattle.std.proofs.Common.{◌≡◌, ◌-◌, vec_len}
use Rattle.std.specs.Io.KnownBytes.{Consumes}
use Rattle.dots_script.proofs.reading.read_front.Given as goal

abbrev pub invariant-loop-block : goal.invariant-loop-block
invariant-loop-block g l = record {
  same : g.S.Source.faults l.source ≡ g.S.Source.faults l.fn.source;
  read : Consumes (g.S.Source.left l.fn.source) (g.S.Source.left l.source) l.bytes.items;
}

abbrev pub decreases-loop-block : goal.decreases-loop-block
decreases-loop-block g l = l.most - vec_len l.bytes
