use Rattle.std.proofs.Common.{zero, suc, ◌≡◌, ℕ, ◌<◌, List, [], ◌∷◌, length, get_or, refl, ◌∙◌, sym, ap, subst, arith, rules}
use Rattle.std.proofs.lemmas.List.{length_push}
use Rattle.std.proofs.lemmas.Result.{err_from_is_err_and}
use Rattle.std.proofs.lemmas.Iterator.Adapters.{YieldsList-from_vec}
use Rattle.std.proofs.lemmas.Iterator.Consumers.{YieldsList-so_far, YieldsList-turn, YieldsList-end}
use Rattle.std.specs.List.{AllByRecursion}
use Rattle.dots_history.specs.declared.entry.Entry.{Entry}
use Rattle.slot_journal.specs.DiskEntries.{HasRecord}
use Rattle.dots_registry.specs.Gathering.{HasGathered}
use Rattle.slot_journal.specs.Untaken.{IsApart}
use Rattle.dots_registry.proofs.Recovering.{same_items, is_apart}
use Rattle.dots_registry.proofs.taking.take_all.Goals as goal

record_at : (entries : List Entry) (place : ℕ) (e : Entry) → AllByRecursion HasRecord entries → place < length entries → e ≡ get_or entries place e → HasRecord e
record_at [] place e each inside is = absurd (omega arith)
record_at (first ∷ entries) zero e each inside is = subst HasRecord (sym is) each.0
record_at (first ∷ entries) (suc place) e each inside is = record_at entries place e each.1 (omega arith) is

pub take-requires-clause-within : goal.take-requires-clause-within
take-requires-clause-within c =
    let gives = YieldsList-from_vec {s = c.into_iter-entry-iterator.result} c.into_vec-entry-items.result.items (search rules) (search rules) in
    let here = YieldsList-turn gives c.loop-entry.yielded c.loop-entry.entry-iterator c.loop-entry.yielded_by c.next.result c.next.new.self c.in-Some.entry c.in-Some.is c.next.ensures.steps in
    (record_at c.into_vec-entry-items.result.items _ _ (subst (AllByRecursion HasRecord) (sym c.into_vec-entry-items.ensures) c.requires.each) here.0 here.1).within

pub take-requires-clause-taken : goal.take-requires-clause-taken
take-requires-clause-taken c = record { entries = c.loop-entry.yielded; gathered = c.loop-entry.invariant.taken }

pub loop-entry-preserved : goal.loop-entry-preserved
loop-entry-preserved c = record {
  taken = c.in_ok-take.ensures.yes c.if-not-branch.false c.loop-entry.yielded c.loop-entry.invariant.place c.loop-entry.invariant.taken;
  place = let more = length_push c.loop-entry.yielded c.in-Some.entry in let place = c.loop-entry.invariant.place in omega (arith, more, place);
}

pub returns-then-not-branch-clause-refused : goal.returns-then-not-branch-clause-refused
returns-then-not-branch-clause-refused c =
    let gives = YieldsList-from_vec {s = c.into_iter-entry-iterator.result} c.into_vec-entry-items.result.items (search rules) (search rules) in
    let front = YieldsList-so_far gives c.loop-entry.yielded c.loop-entry.entry-iterator c.loop-entry.yielded_by in
    let here = YieldsList-turn gives c.loop-entry.yielded c.loop-entry.entry-iterator c.loop-entry.yielded_by c.next.result c.next.new.self c.in-Some.entry c.in-Some.is c.next.ensures.steps in (
      c.loop-entry.slot,
      subst (λ (es : List Entry). IsApart c.args.settings.now es c.loop-entry.slot) c.into_vec-entry-items.ensures
          (is_apart c.args.settings.now c.into_vec-entry-items.result.items c.loop-entry.yielded c.in-Some.entry c.loop-entry.slot c.loop-entry.gathering c.loop-entry.invariant.taken front here.0 here.1
          c.loop-entry.invariant.place (c.in_ok-take.ensures.no c.if-not-branch.true c.loop-entry.yielded c.loop-entry.invariant.taken)),
      c.place.ensures,
    )

pub returns-clause-taken : goal.returns-clause-taken
returns-clause-taken c =
    let gives = YieldsList-from_vec {s = c.into_iter-entry-iterator.result} c.into_vec-entry-items.result.items (search rules) (search rules) in
    let all = YieldsList-end gives c.loop-entry.yielded c.loop-entry.entry-iterator c.loop-entry.yielded_by c.next.result c.next.new.self c.in-None.is c.next.ensures.steps in
    subst (λ (es : List Entry). HasGathered c.args.settings.now es c.loop-entry.gathering) (sym (same_items c.loop-entry.yielded) ∙ all.0 ∙ c.into_vec-entry-items.ensures) c.loop-entry.invariant.taken

pub place-requires : goal.place-requires
place-requires c =
    let gives = YieldsList-from_vec {s = c.into_iter-entry-iterator.result} c.into_vec-entry-items.result.items (search rules) (search rules) in
    let below = (YieldsList-turn gives c.loop-entry.yielded c.loop-entry.entry-iterator c.loop-entry.yielded_by c.next.result c.next.new.self c.in-Some.entry c.in-Some.is c.next.ensures.steps).0 in
    let place = c.loop-entry.invariant.place in
    let all = ap length c.into_vec-entry-items.ensures in
    let many = c.requires.used in
    let used = c.used-used.ensures.used in
    let fits = c.used-used.ensures.fits in
    omega (arith, below, place, all, many, used, fits)

pub overflow_add-slot : goal.overflow_add-slot
overflow_add-slot c =
    let gives = YieldsList-from_vec {s = c.into_iter-entry-iterator.result} c.into_vec-entry-items.result.items (search rules) (search rules) in
    let below = (YieldsList-turn gives c.loop-entry.yielded c.loop-entry.entry-iterator c.loop-entry.yielded_by c.next.result c.next.new.self c.in-Some.entry c.in-Some.is c.next.ensures.steps).0 in
    let place = c.loop-entry.invariant.place in
    let all = ap length c.into_vec-entry-items.ensures in
    let many = c.requires.used in
    let used = c.used-used.ensures.used in
    let small = c.used-used.type_inv in
    omega (arith, below, place, all, many, used, small)

pub returns-in_err-take : goal.returns-in_err-take
returns-in_err-take c =
    let p = err_from_is_err_and c.from_residual.result c.from_residual.ensures.1 in
    record { taken = rw p.1 tt; refused = rw (p.1, p.2) tt }

pub loop-entry-init : goal.loop-entry-init
loop-entry-init c = record { taken = c.requires.first; place = refl }
