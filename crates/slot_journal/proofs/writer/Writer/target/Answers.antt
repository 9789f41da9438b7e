use Rattle.std.proofs.Common.{refl, arith, subst}
use Rattle.std.specs.List.{AllByRecursion}
use Rattle.ip_scope.specs.Prefix.{IsPrefix}
use Rattle.slot_journal.specs.Values.{IsByte, IsRange}
use Rattle.slot_journal.specs.Layout.{target_bytes}
use Rattle.slot_journal.proofs.Writings.{both, same, looser, target_sizes}
use Rattle.slot_journal.proofs.writer.Writer.target.Goals as goal

pub returns-clause-written : goal.returns-clause-written
unfolding target_bytes
returns-clause-written c =
    looser (same (both c.prefixes.ensures.written (both c.ranges-2.ensures.written c.counted.ensures.written)) (rw (c.items.ensures, c.items-2.ensures, c.items-3.ensures) refl))
    (rw (c.items.ensures, c.items-3.ensures) (omega (arith, (target_sizes c.args.target.now c.requires.within).1)))

pub returns-clause-typed : goal.returns-clause-typed
returns-clause-typed c = record {
  prefixes = subst (AllByRecursion IsPrefix) c.items.ensures c.prefixes.ensures.typed;
  ports = subst (AllByRecursion IsRange) c.items-2.ensures c.ranges-2.ensures.typed;
  protocols = subst (AllByRecursion IsByte) c.items-3.ensures c.counted.ensures.typed;
}
