use Rattle.std.proofs.Common.{◌∙◌, ap, subst}
use Rattle.std.specs.List.{AllByRecursion}
use Rattle.std.specs.Int.{w32, to_be_bytes, cast_unsigned}
use Rattle.std.specs.Prelude.{FitsSigned}
use Rattle.std.proofs.lemmas.Int.{to_z-of_z}
use Rattle.slot_journal.specs.Values.{IsTarget}
use Rattle.slot_journal.specs.Layout.{put_bytes, target_bytes, listed}
use Rattle.slot_journal.proofs.Writings.{both, same}
use Rattle.slot_journal.proofs.writer.Writer.put.Goals as goal

pub returns-clause-written : goal.returns-clause-written
unfolding put_bytes
returns-clause-written c =
    let granted = c.cast_unsigned.ensures ∙ ap (cast_unsigned w32) (to_z-of_z w32 c.granted_of.result (record { sfits = c.granted_of.type_inv }) ∙ c.granted_of.ensures) in
    both c.u32.ensures.written (both c.asked.ensures.written (both (same c.targets.ensures.written (ap (listed target_bytes) c.items.ensures)) (both (same c.u32-2.ensures.written (ap (to_be_bytes w32) granted)) (both c.u64.ensures.written c.trigger.ensures))))

pub returns-clause-typed : goal.returns-clause-typed
returns-clause-typed c = record {
  mid = c.u32.ensures.typed;
  asked = c.asked.ensures.typed;
  targets = subst (AllByRecursion IsTarget) c.items.ensures c.targets.ensures.typed;
  granted = subst (FitsSigned w32) c.granted_of.ensures (record { sfits = c.granted_of.type_inv });
  start = c.u64.ensures.typed;
}
