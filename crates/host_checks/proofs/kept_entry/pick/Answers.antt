use Rattle.std.proofs.Common.{◌++◌, ◌∷◌, [], ap, ◌∙◌, arith}
use Rattle.std.proofs.lemmas.List.{length_push}
use Rattle.host_checks.proofs.Picking.{listed, picked_push}
use Rattle.host_checks.proofs.kept_entry.pick.Goals as goal

pub loop-entry-preserved : goal.loop-entry-preserved
loop-entry-preserved c =
    let place = c.loop-entry.invariant.slot in
    let more = length_push c.loop-entry.yielded c.in-Some.entry in
    record {
      slot = omega (arith, place, more);
      picked = c.in_ok-put.ensures
          ∙ ap (λ front. front ++ listed c.args.old.now c.args.new.now c.args.keep.now c.loop-entry.slot (c.in-Some.entry ∷ [])) c.loop-entry.invariant.picked
          ∙ picked_push c.args.old.now c.args.new.now c.args.keep.now 0 c.loop-entry.slot c.loop-entry.yielded c.in-Some.entry (omega (arith, place));
    }
