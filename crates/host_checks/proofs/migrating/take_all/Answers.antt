use Rattle.std.proofs.Common.{refl, sym, subst, ◌∙◌, arith, rules}
use Rattle.std.specs.Prelude.{List, Some}
use Rattle.std.proofs.lemmas.List.{length_push}
use Rattle.std.proofs.lemmas.Iterator.Adapters.{YieldsList-from_vec}
use Rattle.std.proofs.lemmas.Iterator.Consumers.{YieldsList-end}
use Rattle.dots_host.specs.Stored.{media_of}
use Rattle.host_checks.specs.declared.kept_entry.KeptEntry.{KeptEntry}
use Rattle.dots_registry.proofs.Recovering.{same_items}
use Rattle.host_checks.proofs.TakenInTurn.{GoesOn, goes_none, goes_next, goes_all}
use Rattle.host_checks.proofs.migrating.take_all.Goals as goal

pub loop-kept-init : goal.loop-kept-init
loop-kept-init c = record {
  place = refl;
  size = c.requires.size;
  some = c.requires.some;
  goes = goes_none c.args.old.now c.args.new.now c.args.over.now c.args.ledger.now (Some (media_of c.args.disk.now)) c.args.text.now.items;
}

pub loop-kept-preserved : goal.loop-kept-preserved
loop-kept-preserved c =
    let place = c.loop-kept.invariant.place in
    let more = length_push c.loop-kept.yielded c.in-Some.kept in
    record {
      place = omega (arith, place, more);
      size = c.take_one.ensures.size;
      some = c.in_ok-take_one.ensures.some;
      goes = goes_next
          c.args.old.now
          c.args.new.now
          c.loop-kept.yielded
          c.in-Some.kept
          c.args.over.now
          c.args.ledger.now
          c.loop-kept.ledger
          c.take_one.new.ledger
          (Some (media_of c.args.disk.now))
          (Some (media_of c.loop-kept.disk))
          (Some (media_of c.take_one.new.disk))
          c.args.text.now.items
          c.loop-kept.text.items
          c.take_one.new.text.items
          c.loop-kept.place
          place
          c.in_ok-take_one.ensures.next
          c.loop-kept.invariant.goes;
    }

pub returns-clause-all : goal.returns-clause-all
returns-clause-all c =
    let gives = YieldsList-from_vec {s = c.into_iter-kept-iterator.result} c.args.list.items (search rules) (search rules) in
    let all = YieldsList-end gives c.loop-kept.yielded c.loop-kept.kept-iterator c.loop-kept.yielded_by c.next.result c.next.new.self c.in-None.is c.next.ensures.steps in
    goes_all
    c.args.old.now
    c.args.new.now
    c.args.list.items
    c.args.over.now
    c.args.ledger.now
    c.loop-kept.ledger
    (Some (media_of c.args.disk.now))
    (Some (media_of c.loop-kept.disk))
    c.args.text.now.items
    c.loop-kept.text.items
    c.requires.over
    (subst
    (λ (xs : List KeptEntry).
    GoesOn
    c.args.old.now
    c.args.new.now
    xs
    c.args.over.now
    c.args.ledger.now
    (Some (media_of c.args.disk.now))
    c.args.text.now.items
    c.loop-kept.ledger
    (Some (media_of c.loop-kept.disk))
    c.loop-kept.text.items)
    (sym (same_items c.loop-kept.yielded) ∙ all.0)
    c.loop-kept.invariant.goes)
