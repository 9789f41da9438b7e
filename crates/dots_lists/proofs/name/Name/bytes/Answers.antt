use Rattle.std.proofs.Common.{List, ℕ, IsTrue, subst}
use Rattle.dots_lists.specs.Name.{is_name}
use Rattle.dots_lists.proofs.Names.{name_is_utf8}
use Rattle.dots_lists.proofs.name.Name.bytes.Goals as goal

pub returns-clause-utf8 : goal.returns-clause-utf8
returns-clause-utf8 c = name_is_utf8 c.args.self.now (subst (λ (bytes : List ℕ). IsTrue (is_name bytes)) c.self.view_is c.self.invariant)
