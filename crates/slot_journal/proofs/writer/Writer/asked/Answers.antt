use Rattle.std.proofs.Common.{refl, arith, subst}
use Rattle.std.specs.List.{AllByRecursion}
use Rattle.ip_scope.specs.Prefix.{IsPrefix}
use Rattle.slot_journal.specs.Values.{IsByte, IsName, IsRange}
use Rattle.slot_journal.specs.Layout.{asked_bytes}
use Rattle.slot_journal.proofs.Writings.{both, same, looser, asked_sizes}
use Rattle.slot_journal.proofs.writer.Writer.asked.Goals as goal

pub returns-clause-written : goal.returns-clause-written
unfolding asked_bytes
returns-clause-written c =
    let sizes = asked_sizes c.args.asked.now c.requires in
    looser
    (same (both c.prefixes.ensures.written (both c.ranges-2.ensures.written (both c.counted.ensures.written (both c.names.ensures.written c.names-2.ensures.written))))
    (rw (c.items.ensures, c.items-2.ensures, c.items-3.ensures, c.items-4.ensures, c.items-5.ensures) refl))
    (rw (c.items.ensures, c.items-3.ensures) (omega (arith, sizes.0, sizes.1.1.0)))

pub prefixes-requires : goal.prefixes-requires
prefixes-requires c = rw (c.items.ensures) (omega (arith, (asked_sizes c.args.asked.now c.requires).0))

pub ranges-requires : goal.ranges-requires
ranges-requires c = rw (c.items-2.ensures) ((asked_sizes c.args.asked.now c.requires).1.0)

pub counted-requires : goal.counted-requires
counted-requires c = rw (c.items-3.ensures) (omega (arith, (asked_sizes c.args.asked.now c.requires).1.1.0))

pub names-requires : goal.names-requires
names-requires c = rw (c.items-4.ensures) ((asked_sizes c.args.asked.now c.requires).1.1.1.0)

pub names-requires-2 : goal.names-requires-2
names-requires-2 c = rw (c.items-5.ensures) ((asked_sizes c.args.asked.now c.requires).1.1.1.1)

pub returns-clause-typed : goal.returns-clause-typed
returns-clause-typed c = record {
  prefixes = subst (AllByRecursion IsPrefix) c.items.ensures c.prefixes.ensures.typed;
  ports = subst (AllByRecursion IsRange) c.items-2.ensures c.ranges-2.ensures.typed;
  protocols = subst (AllByRecursion IsByte) c.items-3.ensures c.counted.ensures.typed;
  names = subst (AllByRecursion IsName) c.items-4.ensures c.names.ensures.typed;
  aliases = subst (AllByRecursion IsName) c.items-5.ensures c.names-2.ensures.typed;
}
