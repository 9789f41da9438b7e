use Rattle.std.proofs.Common.{arith, sym, ap, ◌∙◌, ◌++◌, take, length-take}
use Rattle.std.proofs.lemmas.List.{take-append-drop}
use Rattle.dots_host.proofs.WriteLemmas.{rest_of}
use Rattle.dots_script.proofs.send_line.split.Goals as goal

pub slice_bounds-result-end : goal.slice_bounds-result-end
slice_bounds-result-end c = omega (arith, length-take 4096 c.args.bytes.now)

pub returns-clause-whole : goal.returns-clause-whole
returns-clause-whole c = sym (take-append-drop 4096 c.args.bytes.now) ∙ ap (λ rest. take 4096 c.args.bytes.now ++ rest) (sym (rest_of c.args.bytes.now 4096))

pub returns-clause-first : goal.returns-clause-first
returns-clause-first c = omega (arith, length-take 4096 c.args.bytes.now)
