use Rattle.std.proofs.Common.{refl, arith}
use Rattle.slot_journal.specs.Layout.{change_fields}
use Rattle.slot_journal.proofs.Writings.{same, looser, nothing}
use Rattle.slot_journal.proofs.writer.Writer.fields.Goals as goal

pub returns-in-Put-clause-written : goal.returns-in-Put-clause-written
unfolding change_fields
returns-in-Put-clause-written c = looser (same c.put.ensures.written (rw (c.in-Put.is) refl)) (omega arith)

pub returns-in-Withdraw-clause-written : goal.returns-in-Withdraw-clause-written
unfolding change_fields
returns-in-Withdraw-clause-written c = looser (same c.u32.ensures.written (rw (c.in-Withdraw.is) refl)) (omega arith)

pub returns-in-SetAlias-clause-written : goal.returns-in-SetAlias-clause-written
unfolding change_fields
returns-in-SetAlias-clause-written c = looser (same c.alias.ensures.written (rw (c.in-SetAlias.is) refl)) (omega arith)

pub returns-in-DropAlias-clause-written : goal.returns-in-DropAlias-clause-written
unfolding change_fields
returns-in-DropAlias-clause-written c = looser (same c.name.ensures.written (rw (c.in-DropAlias.is) refl)) (omega arith)

pub returns-in-SetAcl-clause-written : goal.returns-in-SetAcl-clause-written
unfolding change_fields
returns-in-SetAcl-clause-written c = looser (same c.acl.ensures.written (rw (c.in-SetAcl.is) refl)) (omega arith)

pub returns-in-DropAcl-clause-written : goal.returns-in-DropAcl-clause-written
unfolding change_fields
returns-in-DropAcl-clause-written c = looser (same c.name-in-DropAcl.ensures.written (rw (c.in-DropAcl.is) refl)) (omega arith)

pub returns-in-SetConfig-clause-written : goal.returns-in-SetConfig-clause-written
unfolding change_fields
returns-in-SetConfig-clause-written c = looser (same c.set_config.ensures.written (rw (c.in-SetConfig.is) refl)) (omega arith)

pub returns-in-Register-clause-written : goal.returns-in-Register-clause-written
unfolding change_fields
returns-in-Register-clause-written c = looser (same nothing (rw (c.in-Register.is) refl)) (omega arith)

pub returns-in-Deregister-clause-written : goal.returns-in-Deregister-clause-written
unfolding change_fields
returns-in-Deregister-clause-written c = looser (same nothing (rw (c.in-Deregister.is) refl)) (omega arith)

pub returns-in-ClearConfig-clause-written : goal.returns-in-ClearConfig-clause-written
unfolding change_fields
returns-in-ClearConfig-clause-written c = looser (same nothing (rw (c.in-ClearConfig.is) refl)) (omega arith)

pub returns-in-Lost-clause-written : goal.returns-in-Lost-clause-written
unfolding change_fields
returns-in-Lost-clause-written c = looser (same nothing (rw (c.in-Lost.is) refl)) (omega arith)

pub returns-in-Back-clause-written : goal.returns-in-Back-clause-written
unfolding change_fields
returns-in-Back-clause-written c = looser (same nothing (rw (c.in-Back.is) refl)) (omega arith)

pub returns-in-Put-clause-typed : goal.returns-in-Put-clause-typed
returns-in-Put-clause-typed c = rw (c.in-Put.is) c.put.ensures.typed

pub returns-in-Withdraw-clause-typed : goal.returns-in-Withdraw-clause-typed
returns-in-Withdraw-clause-typed c = rw (c.in-Withdraw.is) c.u32.ensures.typed

pub returns-in-SetAlias-clause-typed : goal.returns-in-SetAlias-clause-typed
returns-in-SetAlias-clause-typed c = rw (c.in-SetAlias.is) c.alias.ensures.typed

pub returns-in-DropAlias-clause-typed : goal.returns-in-DropAlias-clause-typed
returns-in-DropAlias-clause-typed c = rw (c.in-DropAlias.is) c.name.ensures.typed

pub returns-in-SetAcl-clause-typed : goal.returns-in-SetAcl-clause-typed
returns-in-SetAcl-clause-typed c = rw (c.in-SetAcl.is) c.acl.ensures.typed

pub returns-in-DropAcl-clause-typed : goal.returns-in-DropAcl-clause-typed
returns-in-DropAcl-clause-typed c = rw (c.in-DropAcl.is) c.name-in-DropAcl.ensures.typed

pub returns-in-SetConfig-clause-typed : goal.returns-in-SetConfig-clause-typed
returns-in-SetConfig-clause-typed c = rw (c.in-SetConfig.is) c.set_config.ensures.typed
