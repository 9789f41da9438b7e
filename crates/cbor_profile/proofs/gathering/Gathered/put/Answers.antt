use Rattle.std.proofs.Common.{Result, Ok, Err}
use Rattle.std.specs.Prelude.{OnOk}
use Rattle.cbor_profile.specs.ItemTrees.{tree_of}
use Rattle.cbor_profile.proofs.AtEncodings.{behind_pushed}
use Rattle.cbor_profile.proofs.gathering.Gathered.put.Goals as goal

on_ok : {X E P Q : Type 0} (r : Result X E) → (P → Q) → OnOk r P → OnOk r Q
on_ok (Ok x) f h = f h
on_ok (Err e) f h = tt

pub returns-in-Last-clause-pairs : goal.returns-in-Last-clause-pairs
returns-in-Last-clause-pairs c = on_ok c.push.result (behind_pushed c.args.self.now c.in-Rising.list c.args.place (tree_of c.args.key) (tree_of c.args.value) _ c.in-Rising.is c.in-Last.is c.requires.open) c.push.ensures.ok
