use Rattle.std.proofs.Common.{arith, length, ap, ◌∙◌}
use Rattle.std.proofs.lemmas.List.Edits.{length-remove}
use Rattle.filter_table.specs.TableRows.{ScrubsValue, without_mitigation}
use Rattle.filter_table.proofs.scrubs.Scrubs.remove_one.Goals as goal

pub take_out-requires : goal.take_out-requires
take_out-requires c = c.in-Some.ensures.some.0

pub returns-in-Some-clause-others : goal.returns-in-Some-clause-others
returns-in-Some-clause-others c =
    ap (λ (s : ScrubsValue). without_mitigation c.args.domain c.args.cuid.now c.args.mid s.placed) c.take_out.ensures ∙ c.in-Some.ensures.some.1

pub returns-in-Some-clause-fewer : goal.returns-in-Some-clause-fewer
returns-in-Some-clause-fewer c = λ _.
    omega (arith, ap (λ (s : ScrubsValue). length s.placed) c.take_out.ensures, length-remove c.args.self.now.placed c.in-Some.at c.in-Some.ensures.some.0)

pub returns-in-None-clause-done : goal.returns-in-None-clause-done
returns-in-None-clause-done c = λ _. c.in-None.ensures.none
